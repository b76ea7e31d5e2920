-- Totals over any sequence of entries: entry i has the identifier `ids i` and a value by its bits, `bits i`.
use Rattle.total.specs.declared.Totals.{Totals}
use Rattle.std.specs.Prelude.{ℕ, zero, suc, Bool, true, not, List, [], ◌∷◌, ◌≡◌, T, Err, Option, Ok, Some}
use Rattle.std.specs.Float.{binary64}
use Rattle.std.specs.Float.Ieee.{of_bits, to_bits, add, is_nan}
use Rattle.refusal.specs.declared.Refusal.TheVariants as No
use Rattle.refusal.specs.Check.{either, Answer, Absent}
use Rattle.refusal.specs.Words.{refused_words}
use Rattle.seq.specs.Sequence.{every}
use Rattle.float.specs.Float.{finite, less}
use Rattle.total.specs.declared.Tally.{Tally}

-- the first entry alone
unfoldable pub start_of : (id v : ℕ) → Tally
start_of id v = record { least_of = id; least = v; greatest_of = id; greatest = v; sum = of_bits binary64 v }

-- one entry more: the smallest stays unless the new one is less, the greatest unless it is less than the new one
unfoldable pub step_of : Tally → (id v : ℕ) → Tally
step_of t id v = record {
  least_of = either (less v t.least) id t.least_of;
  least = either (less v t.least) v t.least;
  greatest_of = either (less t.greatest v) id t.greatest_of;
  greatest = either (less t.greatest v) v t.greatest;
  sum = add binary64 t.sum (of_bits binary64 v);
}

-- the first entry and k more, in order
unfoldable pub tally_to : (ids bits : ℕ → ℕ) → (k : ℕ) → Tally
tally_to ids bits zero = start_of (ids 0) (bits 0)
tally_to ids bits (suc k) = step_of (tally_to ids bits k) (ids (suc k)) (bits (suc k))

-- each of the first n is finite
abbrev pub all_finite : (bits : ℕ → ℕ) → (n : ℕ) → Bool
all_finite bits n = every (λ k. finite (bits k)) n

-- an answer with these fields
abbrev pub given_totals : (count least_of least greatest_of greatest sum : ℕ) → Answer (Option Totals)
given_totals count least_of least greatest_of greatest sum =
    Ok (Some (record { count = count; least_of = least_of; least = least; greatest_of = greatest_of; greatest = greatest; sum = sum }))

-- the answer for n entries
unfoldable pub finish : (n : ℕ) → Tally → Answer (Option Totals)
finish n t = given_totals n t.least_of t.least t.greatest_of t.greatest (to_bits binary64 t.sum)

unfoldable pub totals_of : (ids bits : ℕ → ℕ) → (n : ℕ) → Answer (Option Totals)
totals_of ids bits zero = Absent
totals_of ids bits (suc k) = either (all_finite bits (suc k)) (finish (suc k) (tally_to ids bits k)) (Err No.NotFinite)

-- an answer in words: its number, then its values
abbrev pub totals_words : Answer (Option Totals) → List ℕ
totals_words (Ok (Some it)) = 0 ∷ it.count ∷ it.least_of ∷ it.least ∷ it.greatest_of ∷ it.greatest ∷ it.sum ∷ []
totals_words Absent = 100 ∷ []
totals_words (Err r) = refused_words r

-- what a step relies on
pub record Good (t : Tally) : Type 0 where
  pub low : finite t.least ≡ true
  pub high : finite t.greatest ≡ true
  pub some : T (not (is_nan t.sum))
