-- What stands in a file, by its parts, and what is read there: a number that was laid out is read back.
use Prim.Native.Nat.{ℕ, zero, suc, ◌+◌, ◌/◌, ◌^◌, ◌≤◌, ◌<◌}
use mathlib.Core.Path.{◌≡◌, refl, sym, ap, ◌∙◌}
use mathlib.Core.List.{List, [], ◌∷◌, ◌++◌, append_assoc}
use native.Mathlib.Nat.{pow-suc, add-zero, le_of_suc-le-suc, not-suc-le-zero}
use native.Mathlib.Omega.{arith}
use lib.ListN.{length, take, drop, length-append}
use lib.Seq.{take-take, take-append_seam, drop-append_seam, take-add, drop-drop, take-length}
use Rattle.le.specs.Number.{value, number}
use Rattle.layout.specs.Bytes.{bytes, Field, fields, offset, field_at, size_of, join, before, part_at}
use Rattle.layout.specs.Stands.{Stands}

pub length_bytes : (w x : ℕ) → length (bytes w x) ≡ w
unfolding bytes
length_bytes zero x = refl
length_bytes (suc w) x = ap suc (length_bytes w (x / 256))

pub value-bytes : (w x : ℕ) → x < 256 ^ w → value (bytes w x) ≡ x
unfolding bytes
value-bytes zero x h = omega arith
value-bytes (suc w) x h =
    let r : value (bytes w (x / 256)) ≡ x / 256 = value-bytes w (x / 256) (omega (arith, pow-suc 256 w)) in
    rw r (omega arith)

pub length_fields : (fs : List Field) → length (fields fs) ≡ size_of fs
unfolding fields
length_fields [] = refl
length_fields (f ∷ fs) = rw (length-append, length_bytes, length_fields fs)

pub fields_append : (fs gs : List Field) → fields (fs ++ gs) ≡ fields fs ++ fields gs
unfolding fields
fields_append [] gs = refl
fields_append (f ∷ fs) gs = rw (fields_append fs gs, append_assoc)

-- ---- by parts

module _ (file : List ℕ) (at : ℕ) (x y : List ℕ) (h : Stands file at (x ++ y)) where
  pub left : Stands file at x
  left = record {
    same =
        let e = ap (take (length x)) h.same in
        let l : length x ≤ length (x ++ y) = rw length-append (omega arith) in
        sym (take-take (length x) (length (x ++ y)) (drop at file) l) ∙ e ∙ take-append_seam x y;
  }

  pub right : Stands file (at + length x) y
  right = record {
    same =
        let d = drop at file in
        let s : take (length x) d ++ take (length y) (drop (length x) d) ≡ x ++ y =
        sym (take-add (length x) (length y) d) ∙ rw (← length-append) h.same in
        let t : x ++ take (length y) (drop (length x) d) ≡ x ++ y = rw left.same at s in
        rw (← drop-drop (length x) at file)
        (sym (drop-append_seam x (take (length y) (drop (length x) d))) ∙ ap (drop (length x)) t ∙ drop-append_seam x y);
  }

pub start : (file : List ℕ) → Stands file 0 file
start file = record { same = take-length file }

pub moved : {file : List ℕ} {at : ℕ} {x : List ℕ} → (to : ℕ) → at ≡ to → Stands file at x → Stands file to x
moved {file} {at} {x} to e h = rw (← e) h

-- ---- what is read

pub read : {file : List ℕ} {at : ℕ} → (w x : ℕ) → Stands file at (bytes w x) → x < 256 ^ w → number w file at ≡ x
unfolding number
read {file} {at} w x h l =
    let e : take w (drop at file) ≡ bytes w x = rw length_bytes at h.same in
    rw e (value-bytes w x l)

pub field-at : {file : List ℕ} {at : ℕ} → (fs : List Field) (i : ℕ) → Stands file at (fields fs) → i < length fs
    → (field_at fs i).holds < 256 ^ (field_at fs i).width → number (field_at fs i).width file (at + offset fs i) ≡ (field_at fs i).holds
unfolding fields
field-at [] i h l m = absurd (not-suc-le-zero l)
field-at {file} {at} (f ∷ fs) zero h l m = rw add-zero (read f.width f.holds (left file at (bytes f.width f.holds) (fields fs) h) m)
field-at {file} {at} (f ∷ fs) (suc i) h l m =
    let g : Stands file (at + f.width) (fields fs) = moved (at + f.width) (ap (λ (k : ℕ). at + k) (length_bytes f.width f.holds))
    (right file at (bytes f.width f.holds) (fields fs) h) in
    let r = field-at {at = at + f.width} fs i g (le_of_suc-le-suc l) m in
    let e : at + (f.width + offset fs i) ≡ at + f.width + offset fs i = omega arith in
    rw e r

pub part-at : {file : List ℕ} {at : ℕ} → (ps : List (List ℕ)) (i : ℕ) → Stands file at (join ps) → i < length ps
    → Stands file (at + before ps i) (part_at ps i)
unfolding join
part-at [] i h l = absurd (not-suc-le-zero l)
part-at {file} {at} (p ∷ ps) zero h l = rw add-zero (left file at p (join ps) h)
part-at {file} {at} (p ∷ ps) (suc i) h l =
    let e : at + (length p + before ps i) ≡ at + length p + before ps i = omega arith in
    rw e (part-at {at = at + length p} ps i (right file at p (join ps) h) (le_of_suc-le-suc l))

pub length_join : (ps : List (List ℕ)) → length (join ps) ≡ before ps (length ps)
unfolding join
length_join [] = refl
length_join (p ∷ ps) = rw (length-append, length_join ps)
