-- Marks as bytes. Encoding and decoding undo one another: what is laid out field by field is read back at the same places, and bytes are
-- those of the numbers that are read there. What is malformed is exactly what is not well-formed.
use Prim.Native.Nat.{ℕ, zero, suc, ◌+◌, ◌*◌, ◌≤◌, ◌<◌}
use mathlib.Core.Bool.{Bool, true, false, ◌&&◌, true≢false}
use mathlib.Core.List.{List, [], ◌∷◌, ◌++◌}
use mathlib.Core.Logic.{◌↔◌}
use mathlib.Core.Path.{◌≡◌, refl, sym, ap, ap₂, ◌∙◌}
use native.Mathlib.Nat.{not-suc-le-zero, le_of_suc-le-suc}
use native.Mathlib.Omega.{arith}
use borrow.Author.Tests.{eqb-true, eq-eqb, leb-true, le-leb}
use lib.Dec.{eqb, leb}
use lib.ListN.{length, get_or, take, drop, take-append-drop, drop_of_length-le}
use lib.Seq.{drop-drop}
use Rattle.le.specs.Number.{number}
use Rattle.le.proofs.Laws.{number_small}
use Rattle.range.proofs.Tests.{both}
use Rattle.refusal.specs.Check.{either}
use Rattle.layout.specs.Bytes.{bytes, Field, ◌is◌, fields, size_of}
use Rattle.layout.specs.Stands.{Stands}
use Rattle.layout.proofs.Laws.{length_bytes, length_fields, left, right, moved, start, read, field-at}
use Rattle.layout.specs.Octets.{Octets}
use Rattle.layout.proofs.Words.{bytes_number}
use Rattle.seq.specs.Lists.{Below}
use Rattle.buffer.specs.Over.{over}
use Rattle.put.proofs.Stands.{stands_here}
use Rattle.mark.specs.Mark.{mark_kind, deepest, mark_size, mark_room, number_fields, head_fields, encode, Encodable}
use Rattle.mark.specs.Mark.{WellFormedMark, well_formed, Decoded, named, malformed, numbers_at, decode, is_named, path_in}

-- ---- what is well-formed

well_formed_tested : (m : List ℕ) → (well_formed m ≡ true) ↔ WellFormedMark m
unfolding well_formed
well_formed_tested m =
    let depth = number 1 m 4 in
    let known = eqb (number 2 m 2) mark_kind in
    let a = both (eqb (number 2 m 0) (length m)) (eqb (number 2 m 0) (mark_size depth) && (known && leb depth deepest)) in
    let b = both (eqb (number 2 m 0) (mark_size depth)) (known && leb depth deepest) in
    let c = both known (leb depth deepest) in (
      λ h. record {
        given = eqb-true _ _ (a.0 h).0;
        by_depth = eqb-true _ _ (b.0 (a.0 h).1).0;
        known = eqb-true _ _ (c.0 (b.0 (a.0 h).1).1).0;
        shallow = leb-true _ _ (c.0 (b.0 (a.0 h).1).1).1;
      },
      λ w. a.1 (eq-eqb _ _ w.given, b.1 (eq-eqb _ _ w.by_depth, c.1 (eq-eqb _ _ w.known, le-leb _ _ w.shallow))),
    )

-- ---- what bytes name

abbrev numbers_of : List ℕ → List ℕ
numbers_of m = numbers_at m 5 (number 1 m 4)

decode_none : (m : List ℕ) → length m ≡ 0 → decode m ≡ named []
unfolding decode
decode_none [] h = refl
decode_none (b ∷ bs) h = absurd (let z : suc (length bs) ≡ 0 = h in omega arith)

decode_some : (m : List ℕ) → 0 < length m → decode m ≡ either (well_formed m) (named (numbers_at m 5 (number 1 m 4))) malformed
unfolding decode
decode_some [] h = absurd (not-suc-le-zero h)
decode_some (b ∷ bs) h = refl

-- some bytes that name a path are well-formed, and the path is that of their numbers
named_well : (m path : List ℕ) → 0 < length m → decode m ≡ named path → WellFormedMark m × (path ≡ numbers_of m)
unfolding either
named_well m path h d = go (well_formed m) refl (sym (decode_some m h) ∙ d)
  where
    go : (b : Bool) → well_formed m ≡ b → either b (named (numbers_of m)) malformed ≡ named path → WellFormedMark m × (path ≡ numbers_of m)
    go true e k = ((well_formed_tested m).0 e, cc)
    go false e k = absurd (let z : ◌≡◌ {A = ℕ} 0 1 = cc in omega arith)

well_named : (m : List ℕ) → 0 < length m → WellFormedMark m → decode m ≡ named (numbers_of m)
unfolding either
well_named m h w = decode_some m h ∙ rw ((well_formed_tested m).1 w)

pub malformed_iff : (m : List ℕ) → (decode m ≡ malformed) ↔ ((0 < length m) × (WellFormedMark m → ⊥))
unfolding either
malformed_iff [] = (
  λ e. absurd (let z : named [] ≡ malformed = sym (decode_none [] refl) ∙ e in let y : ◌≡◌ {A = ℕ} 0 1 = cc in omega arith),
  λ h. absurd (not-suc-le-zero h.0),
)
malformed_iff (b ∷ bs) =
    let m = b ∷ bs in (
      λ e. (omega arith, λ w. let z : named (numbers_of m) ≡ malformed = sym (well_named m (omega arith) w) ∙ e in let y : ◌≡◌ {A = ℕ} 0 1 = cc in omega arith),
      λ h. decode_some m (omega arith) ∙ go (well_formed m) refl h.1,
    )
  where
    go : (t : Bool) → well_formed (b ∷ bs) ≡ t → (WellFormedMark (b ∷ bs) → ⊥) → either t (named (numbers_of (b ∷ bs))) malformed ≡ malformed
    go true e f = absurd (f ((well_formed_tested (b ∷ bs)).0 e))
    go false e f = refl

pub is-named : (d : Decoded) → is_named d ≡ true → d ≡ named (path_in d)
unfolding is_named path_in
is-named (named path) h = refl
is-named malformed h = absurd (true≢false (sym h))

-- what holds of no levels, and of a well-formed mark's, holds of any path that bytes give
path_all : (P : List ℕ → Type 0) (m : List ℕ) → P [] → (WellFormedMark m → P (numbers_of m)) → P (path_in (decode m))
unfolding decode either path_in
path_all P [] none some = none
path_all P (b ∷ bs) none some = go (well_formed (b ∷ bs)) refl
  where
    go : (t : Bool) → well_formed (b ∷ bs) ≡ t → P (path_in (either t (named (numbers_of (b ∷ bs))) malformed))
    go true e = some ((well_formed_tested (b ∷ bs)).0 e)
    go false e = none

-- as the code asks
pub none_named : (m : List ℕ) → length m ≡ 0 → is_named (decode m) ≡ true
unfolding is_named
none_named m h = rw (decode_none m h)

pub some_named : (m : List ℕ) → 0 < length m → is_named (decode m) ≡ well_formed m
unfolding either is_named
some_named m h = rw (decode_some m h) (go (well_formed m))
  where
    go : (b : Bool) → is_named (either b (named (numbers_of m)) malformed) ≡ b
    go true = refl
    go false = refl

pub no_path : (m : List ℕ) → length m ≡ 0 → length (path_in (decode m)) ≡ 0
unfolding path_in
no_path m h = rw (decode_none m h)

-- ---- the numbers of levels

length_numbers : (m : List ℕ) (at d : ℕ) → length (numbers_at m at d) ≡ d
unfolding numbers_at
length_numbers m at zero = refl
length_numbers m at (suc d) = ap suc (length_numbers m (at + 4) d)

-- each is read where it stands
level_at : (m : List ℕ) (at d k : ℕ) → k < d → get_or (numbers_at m at d) k 0 ≡ number 4 m (at + 4 * k)
unfolding numbers_at
level_at m at zero k h = absurd (not-suc-le-zero h)
level_at m at (suc d) zero h = ap (number 4 m) (let e : at ≡ at + 4 * 0 = omega arith in e)
level_at m at (suc d) (suc k) h =
    level_at m (at + 4) d k (le_of_suc-le-suc h) ∙ ap (number 4 m) (let e : at + 4 + 4 * k ≡ at + 4 * suc k = omega arith in e)

pub decoded_shallow : (m : List ℕ) → length (path_in (decode m)) ≤ 200
decoded_shallow m =
    path_all (λ path. length path ≤ 200) m (omega arith) (λ w. omega (arith, length_numbers m 5 (number 1 m 4), w.shallow))

-- what some bytes that are no malformed mark say of their path
pub record NamedPath (m : List ℕ) : Type 0 where
  pub long : length m ≡ 5 + 4 * length (path_in (decode m))
  pub shallow : length (path_in (decode m)) ≤ 200
  pub depth_there : length (path_in (decode m)) ≡ number 1 m 4
  pub number_there : (k : ℕ) → k < length (path_in (decode m)) → get_or (path_in (decode m)) k 0 ≡ number 4 m (5 + 4 * k)

pub path-of : (m : List ℕ) → 0 < length m → is_named (decode m) ≡ true → NamedPath m
path-of m h n =
    let w = named_well m (path_in (decode m)) h (is-named (decode m) n) in
    let there : length (path_in (decode m)) ≡ number 1 m 4 = ap length w.1 ∙ length_numbers m 5 (number 1 m 4) in
    record {
      long = omega (arith, w.0.given, w.0.by_depth, there);
      shallow = omega (arith, w.0.shallow, there);
      depth_there = there;
      number_there = λ k l. ap (λ (x : List ℕ). get_or x k 0) w.1 ∙ level_at m 5 (number 1 m 4) k (omega (arith, there));
    }

-- where it has a level there are bytes
pub named_path : (m : List ℕ) → is_named (decode m) ≡ true → {k : ℕ} → k < length (path_in (decode m)) → NamedPath m
named_path m n {k} l = path-of m (some m refl) n
  where
    some : (s : List ℕ) → s ≡ m → 0 < length m
    some [] e = absurd (omega (arith, no_path m (ap length (sym e)), l))
    some (b ∷ bs) e = omega (arith, ap length e)

-- ---- what is encoded is decoded

size_numbers : (path : List ℕ) → size_of (number_fields path) ≡ 4 * length path
unfolding number_fields
size_numbers [] = refl
size_numbers (x ∷ xs) = omega (arith, size_numbers xs)

pub encoded_length : (path : List ℕ) → length (encode path) ≡ mark_size (length path)
unfolding encode
encoded_length path = length_fields (head_fields (length path) ++ number_fields path) ∙ (omega (arith, size_numbers path))

read_numbers : {m : List ℕ} {at : ℕ} → (path : List ℕ) → Stands m at (fields (number_fields path)) → Below 4294967296 path
    → numbers_at m at (length path) ≡ path
unfolding numbers_at number_fields fields
read_numbers [] s h = refl
read_numbers {m} {at} (x ∷ xs) s h =
    let rest = fields (number_fields xs) in
    ap₂ ◌∷◌ (read 4 x (left m at (bytes 4 x) rest s) h.0)
    (read_numbers {at = at + 4} xs (moved (at + 4) (ap (λ (k : ℕ). at + k) (length_bytes 4 x)) (right m at (bytes 4 x) rest s)) h.1)

module _ (path : List ℕ) where
  abbrev fs : List Field
  fs = head_fields (length path) ++ number_fields path

  -- wherever it stands, its length is read
  size_there : {m : List ℕ} → Stands m 0 (encode path) → length path ≤ 200 → number 2 m 0 ≡ mark_size (length path)
  unfolding encode
  size_there s shallow = field-at fs 0 s (omega arith) (omega arith)

  encoded_depth : length path ≤ 200 → number 1 (encode path) 4 ≡ length path
  unfolding encode
  encoded_depth shallow = field-at fs 2 (start (fields fs)) (omega arith) (omega arith)

  encoded_well : length path ≤ 200 → WellFormedMark (encode path)
  unfolding encode
  encoded_well shallow =
      let size = size_there (start (encode path)) shallow in
      record {
        given = size ∙ sym (encoded_length path);
        by_depth = omega (arith, size, encoded_depth shallow);
        known = field-at fs 1 (start (fields fs)) (omega arith) (omega arith);
        shallow = omega (arith, encoded_depth shallow);
      }

  encoded_numbers : Below 4294967296 path → numbers_at (encode path) 5 (length path) ≡ path
  unfolding encode fields
  encoded_numbers small =
      let m = fields fs in
      let n = length path in
      let a = right m 0 (bytes 2 (mark_size n)) (fields (2 is mark_kind ∷ 1 is n ∷ number_fields path)) (start m) in
      let b = right m _ (bytes 2 mark_kind) (fields (1 is n ∷ number_fields path)) a in
      let c = right m _ (bytes 1 n) (fields (number_fields path)) b in
      read_numbers path (moved 5 (omega (arith, length_bytes 2 (mark_size n), length_bytes 2 mark_kind, length_bytes 1 n)) c) small

  pub decode_encode : Encodable path → decode (encode path) ≡ named path
  decode_encode can =
      well_named (encode path) (omega (arith, encoded_length path)) (encoded_well can.shallow)
      ∙ ap named (ap (numbers_at (encode path) 5) (encoded_depth can.shallow) ∙ encoded_numbers can.small)

  -- in a slice with room for every mark
  module _ (was : List ℕ) (shallow : length path ≤ 200) (room : mark_room ≤ length was) where
    encoded_there : Stands (over was 0 (encode path)) 0 (encode path)
    encoded_there = stands_here was 0 (encode path) (omega (arith, encoded_length path))

    pub mark_stands : take (length (encode path)) (over was 0 (encode path)) ≡ encode path
    mark_stands = encoded_there.same

    -- as many bytes as its length says
    pub mark_read : take (number 2 (over was 0 (encode path)) 0) (over was 0 (encode path)) ≡ encode path
    mark_read = ap (λ (k : ℕ). take k (over was 0 (encode path))) (size_there encoded_there shallow ∙ sym (encoded_length path)) ∙ mark_stands

-- ---- and what is decoded is encoded

bytes_then : (m : List ℕ) (at w : ℕ) → take w (drop at m) ++ drop (at + w) m ≡ drop at m
bytes_then m at w = rw (← drop-drop w at m) (take-append-drop w (drop at m))

module _ (m : List ℕ) (octets : Octets m) where
  fields_numbers : (at d : ℕ) → at + 4 * d ≡ length m → fields (number_fields (numbers_at m at d)) ≡ drop at m
  unfolding numbers_at number_fields fields
  fields_numbers at zero e = let l : length m ≤ at = omega arith in sym (drop_of_length-le m l)
  fields_numbers at (suc d) e =
      ap₂ ◌++◌ (bytes_number m octets 4 at (omega arith)) (fields_numbers (at + 4) d (omega arith)) ∙ bytes_then m at 4

  pub encode_decode : (path : List ℕ) → 0 < length m → decode m ≡ named path → encode path ≡ m
  unfolding encode fields
  encode_decode path l d =
      let w = (named_well m path l d).0 in
      let p = (named_well m path l d).1 in
      let depth : length path ≡ number 1 m 4 = ap length p ∙ length_numbers m 5 (number 1 m 4) in
      let n : 5 + 4 * number 1 m 4 ≡ length m = sym w.by_depth ∙ w.given in
      let rest : fields (number_fields path) ≡ drop 5 m = ap (λ (x : List ℕ). fields (number_fields x)) p ∙ fields_numbers 5 (number 1 m 4) n in
      let size : mark_size (length path) ≡ number 2 m 0 = omega (arith, w.by_depth) in
      let f0 : bytes 2 (mark_size (length path)) ≡ take 2 (drop 0 m) = ap (bytes 2) size ∙ bytes_number m octets 2 0 (omega arith) in
      let f1 : bytes 2 mark_kind ≡ take 2 (drop 2 m) = ap (bytes 2) (sym w.known) ∙ bytes_number m octets 2 2 (omega arith) in
      let f2 : bytes 1 (length path) ≡ take 1 (drop 4 m) = ap (bytes 1) depth ∙ bytes_number m octets 1 4 (omega arith) in
      ap₂ ◌++◌ f0 (ap₂ ◌++◌ f1 (ap₂ ◌++◌ f2 rest ∙ bytes_then m 4 1) ∙ bytes_then m 2 2) ∙ bytes_then m 0 2

  small_numbers : (at d : ℕ) → Below 4294967296 (numbers_at m at d)
  unfolding numbers_at
  small_numbers at zero = tt
  small_numbers at (suc d) = (number_small m octets 4 at, small_numbers (at + 4) d)

  pub decoded_encodable : Encodable (path_in (decode m))
  decoded_encodable = path_all Encodable m (record { shallow = omega arith; small = tt })
      (λ w. record { shallow = omega (arith, length_numbers m 5 (number 1 m 4), w.shallow); small = small_numbers 5 (number 1 m 4) })
