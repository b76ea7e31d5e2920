-- How many bytes a section has from a place on, and parts that reach past the end.
use Rattle.std.specs.Prelude.{Err}
use Prim.Native.Nat.{ℕ, ◌+◌, ◌-◌, ◌≤◌, ◌<◌, min}
use mathlib.Core.List.{List, []}
use mathlib.Core.Path.{◌≡◌, sym, ap, ◌∙◌}
use native.Mathlib.Decide.{dec_le}
use native.Mathlib.Omega.{arith}
use borrow.Author.Tests.{le-leb, lt-leb}
use lib.ListN.{length, get_or, take, drop, length-take, length-drop, drop_of_length-le}
use lib.Seq.{take_all, take-nil}
use Rattle.refusal.specs.declared.Refusal.TheVariants as No
use Rattle.refusal.specs.Check.{either}
use Rattle.utf8.proofs.Facts.{unterminated_iff}
use Rattle.text.specs.String.{bytes_from, text_of, string_at}

-- ---- parts

pub part_none : (s : List ℕ) (place n : ℕ) → length s ≤ place → [] ≡ take n (drop place s)
part_none s place n h = rw (drop_of_length-le s h, take-nil)

pub part_rest : (s : List ℕ) (place n : ℕ) → length s - place ≤ n → take (length s - place) (drop place s) ≡ take n (drop place s)
part_rest s place n h =
    let l : length (drop place s) ≤ length s - place = simp length-drop (omega arith) in
    let m : length (drop place s) ≤ n = simp length-drop (omega arith) in
    rw (take_all (length s - place) (drop place s) l, take_all n (drop place s) m)

pub part_some : (s : List ℕ) (place n : ℕ) → take (place + n - place) (drop place s) ≡ take n (drop place s)
part_some s place n = let e : place + n - place ≡ n = omega arith in ap (λ (k : ℕ). take k (drop place s)) e

-- ---- a section's bytes from a place on

-- as many as there are
take_count : (s : List ℕ) (m n : ℕ) → n ≡ min m (length s) → take n s ≡ take m s
take_count s m n e =
    elim (dec_le m (length s)) [
      | yes h ↦ let z : n ≡ m = omega arith in ap (λ (k : ℕ). take k s) z
      | no h ↦ take_all n s (omega arith) ∙ sym (take_all m s (omega arith))
    ]

module _ (file section : List ℕ) (place : ℕ) where
  pub outside : place < get_or section 0 0 → length (bytes_from file section place) ≡ 0
  unfolding bytes_from either
  outside h = rw (lt-leb (get_or section 0 0) place h)

  pub from_place : get_or section 0 0 ≤ place → bytes_from file section place ≡ take (get_or section 0 0 + get_or section 1 0 - place) (drop place file)
  unfolding bytes_from either
  from_place h = rw (le-leb (get_or section 0 0) place h)

  pub count : get_or section 0 0 ≤ place
      → length (bytes_from file section place) ≡ min (get_or section 0 0 + get_or section 1 0 - place) (length file - place)
  count h = rw (from_place h, length-take, length-drop)

  pub all_taken : (n : ℕ) → n ≡ length (bytes_from file section place) → 0 < n
      → take (place + n - place) (drop place file) ≡ bytes_from file section place
  all_taken n e h =
      part_some file place n ∙ elim (dec_le (get_or section 0 0) place) [
        | yes l ↦ take_count (drop place file) (get_or section 0 0 + get_or section 1 0 - place) n
            (e ∙ count l ∙ ap (min (get_or section 0 0 + get_or section 1 0 - place)) (sym (length-drop place file))) ∙ sym (from_place l)
        | no l ↦ absurd (omega (arith, outside (omega arith)))
      ]

  pub reaches : (n : ℕ) → n ≡ length (bytes_from file section place) → 0 < n → place + n ≤ length file
  reaches n e h =
      elim (dec_le (get_or section 0 0) place) [
        | yes l ↦ omega (arith, count l)
        | no l ↦ absurd (omega (arith, outside (omega arith)))
      ]

  pub none_left : length (bytes_from file section place) ≡ 0 → Err No.String ≡ string_at file section place
  unfolding string_at text_of
  none_left e = rw ((unterminated_iff (bytes_from file section place)).1 (λ n f. omega (arith, e, f.inside)))
