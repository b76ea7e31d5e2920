-- A part ends at the first stop byte of what is left of the text, or with it.
use Prim.Native.Nat.{ℕ, suc, ◌+◌, ◌<◌}
use mathlib.Core.List.{List, [], ◌∷◌}
use mathlib.Core.Path.{◌≡◌, refl, ap, ◌∙◌}
use native.Mathlib.Numerals.{add-one}
use native.Mathlib.Decide.{ℕ_discrete}
use native.Mathlib.Omega.{arith}
use borrow.Author.Tests.{eq-eqb, ne_eqb}
use lib.ListN.{length, take, drop}
use lib.Seq.{length-take-le, take-nil}
use Rattle.std.specs.List.{onto_first}
use Rattle.scan.specs.Until.{until}
use Rattle.scan.proofs.Laws.{until_most, found_here, found_later}
use Rattle.script.specs.Line.{part_at, parts}

-- how long a part is
pub length_part : (stop : ℕ) (rest : List ℕ) → length (take (until stop rest) rest) ≡ until stop rest
length_part stop rest = length-take-le (until stop rest) rest (until_most stop rest)

pub no_parts : (stop : ℕ) (text : List ℕ) → length text ≡ 0 → parts stop text ≡ []
unfolding parts
no_parts stop [] h = refl
no_parts stop (c ∷ text) h = absurd (omega arith)

-- the first part of a text, and the parts behind it
first_part : (stop : ℕ) (text : List ℕ) → 0 < length text
    → parts stop text ≡ take (until stop text) text ∷ parts stop (drop (suc (until stop text)) text)
unfolding parts
first_part stop [] h = absurd (omega arith)
first_part stop (c ∷ text) h =
    elim (ℕ_discrete c stop) [
      | yes e ↦
          let here : until stop (c ∷ text) ≡ 0 = found_here stop (c ∷ text) 0 (omega arith) e in
          rw (eq-eqb c stop e, here) refl
      | no n ↦
          let later : until stop (c ∷ text) ≡ suc (until stop text) = omega (arith, found_later stop (c ∷ text) 0 (omega arith) n) in
          rw (ne_eqb c stop n, later) (behind text (first_part stop text))
    ]
  where
    behind : (rest : List ℕ) → (0 < length rest → parts stop rest ≡ take (until stop rest) rest ∷ parts stop (drop (suc (until stop rest)) rest))
        → onto_first c (parts stop rest) ≡ (c ∷ take (until stop rest) rest) ∷ parts stop (drop (suc (until stop rest)) rest)
    behind [] next = rw take-nil refl
    behind (b ∷ rest) next = ap (onto_first c) (next (omega arith))

-- the same, as an iterator goes on
pub next_part : (stop : ℕ) (text : List ℕ) → 0 < length text → (part rest : List ℕ) → part ≡ part_at stop text 0
    → rest ≡ drop (length part + 1) text → parts stop text ≡ part ∷ parts stop rest
unfolding part_at
next_part stop text h part rest is_part is_rest =
    let n : length part ≡ until stop text = ap length is_part ∙ length_part stop text in
    rw (is_part, is_rest, n, add-one (until stop text)) (first_part stop text h)
