-- Fixed bytes compared as numbers. The elements of a file are bytes, so that a number which is read there tells them all.
use Prim.Native.Nat.{ℕ, zero, suc, ◌+◌, ◌*◌, ◌/◌, ◌%◌, ◌^◌, ◌≤◌, ◌<◌}
use mathlib.Core.Bool.{Bool, true, false, ◌&&◌, and_assoc}
use mathlib.Core.List.{List, [], ◌∷◌, ◌++◌}
use mathlib.Core.Path.{◌≡◌, refl, sym, ap, ap₂, ◌∙◌}
use native.Mathlib.Numerals.{add-one}
use native.Mathlib.Omega.{arith}
use borrow.Author.Tests.{eqb-true, eqb-false}
use lib.Dec.{eqb}
use lib.ListN.{length, get_or, take, drop, length-take, length-drop}
use lib.Seq.{drop-drop, drop-cons, take-add, take_all}
use Rattle.le.specs.Number.{number}
use Rattle.le.proofs.Laws.{step, number_small}
use Rattle.layout.specs.Bytes.{bytes}
use Rattle.layout.specs.Stands.{starts, stands}
use Rattle.layout.specs.Octets.{Octets}
use Rattle.layout.proofs.Laws.{length_bytes, read}
use Rattle.layout.proofs.Prefix.{stands_iff}

-- the bytes of the number that stands at a place are those that stand there
pub bytes_number : (s : List ℕ) → Octets s → (w at : ℕ) → at + w ≤ length s → bytes w (number w s at) ≡ take w (drop at s)
unfolding bytes
bytes_number s octets zero at h = refl
bytes_number s octets (suc w) at h =
    let b = get_or s at 0 in
    let n = number w s (at + 1) in
    let low : (b + 256 * n) % 256 ≡ b = omega (arith, octets at) in
    let high : (b + 256 * n) / 256 ≡ n = omega (arith, octets at) in
    rw (step w s at, low, high, drop-cons s at 0 (omega arith), bytes_number s octets w (at + 1) (omega arith), add-one)

module _ (s : List ℕ) (octets : Octets s) (w at : ℕ) (h : at + w ≤ length s) where
  equal_stands : (n : ℕ) → n < 256 ^ w → eqb (number w s at) n ≡ stands s at (bytes w n)
  equal_stands n l = go (eqb (number w s at) n) (stands s at (bytes w n)) refl refl
    where
      there : number w s at ≡ n → stands s at (bytes w n) ≡ true
      there e = (stands_iff s at (bytes w n)).1 (record { same = rw (length_bytes w n, ← e) (sym (bytes_number s octets w at h)) })

      go : (a b : Bool) → eqb (number w s at) n ≡ a → stands s at (bytes w n) ≡ b → a ≡ b
      go true true e f = refl
      go true false e f = sym (there (eqb-true _ n e)) ∙ f
      go false true e f = absurd (eqb-false _ n e (read w n ((stands_iff s at (bytes w n)).0 f) l))
      go false false e f = refl

  -- two numbers are equal exactly if the bytes of one stand where the other does
  pub same_stands : (t : List ℕ) → Octets t → (i : ℕ) → i + w ≤ length t → eqb (number w s at) (number w t i) ≡ stands s at (take w (drop i t))
  same_stands t octets-t i l = rw (← bytes_number t octets-t w i l) (equal_stands (number w t i) (number_small t octets-t w i))

starts_append : (x y s : List ℕ) → starts (x ++ y) s ≡ starts x s && starts y (drop (length x) s)
unfolding starts
starts_append [] y s = refl
starts_append (b ∷ x) y [] = refl
starts_append (b ∷ x) y (c ∷ s) = rw (starts_append x y s, and_assoc)

-- bytes one after the other
stands_append : (s : List ℕ) (at : ℕ) (x y : List ℕ) → stands s at (x ++ y) ≡ stands s at x && stands s (at + length x) y
unfolding stands
stands_append s at x y = rw (← drop-drop (length x) at s) (starts_append x y (drop at s))

stands_halves : (s : List ℕ) (at : ℕ) (t : List ℕ) (i m n : ℕ) → i + m ≤ length t
    → stands s at (take m (drop i t)) && stands s (at + m) (take n (drop (i + m) t)) ≡ stands s at (take (m + n) (drop i t))
stands_halves s at t i m n h =
    let l : length (take m (drop i t)) ≡ m = rw (length-take, length-drop) (omega arith) in
    rw (take-add m n (drop i t), drop-drop m i t, stands_append s at (take m (drop i t)) (take n (drop (i + m) t)), l)

pub all_stand : (s : List ℕ) (at : ℕ) (t : List ℕ) (n : ℕ) → length t ≡ n → stands s at (take n (drop 0 t)) ≡ stands s at t
all_stand s at t n e = rw (take_all n t (omega arith))

-- bytes that overlap
absorbed : (a b c : Bool) → (a && b) && (b && c) ≡ a && (b && c)
absorbed true true c = refl
absorbed true false c = refl
absorbed false b c = refl

pub fourteen_stand : (s : List ℕ) (at : ℕ) (t : List ℕ) → length t ≡ 14
    → stands s at (take 8 (drop 0 t)) && stands s (at + 6) (take 8 (drop 6 t)) ≡ stands s at t
fourteen_stand s at t l =
    let a = stands s at (take 6 (drop 0 t)) in
    let b = stands s (at + 6) (take 2 (drop 6 t)) in
    let c = stands s (at + 6 + 2) (take 6 (drop 8 t)) in
    let first : a && b ≡ stands s at (take 8 (drop 0 t)) = stands_halves s at t 0 6 2 (omega arith) in
    let second : b && c ≡ stands s (at + 6) (take 8 (drop 6 t)) = stands_halves s (at + 6) t 6 2 6 (omega arith) in
    let whole : a && stands s (at + 6) (take 8 (drop 6 t)) ≡ stands s at t = stands_halves s at t 0 6 8 (omega arith) ∙ all_stand s at t 14 l in
    ap₂ ◌&&◌ (sym first) (sym second) ∙ (absorbed a b c ∙ (ap (λ y. a && y) second ∙ whole))
