-- What is answered of a section that keeps the rules: the count for an offset, and the two totals.
use Rattle.dcpi.specs.declared.SampleTotals.{SampleTotals}
use Rattle.std.specs.Prelude.{ℕ, List, [], ◌∷◌, eqb, Err, Option, Ok, Some, None}
use Rattle.refusal.specs.Check.{either, if_passed, Answer, Absent, Found}
use Rattle.refusal.specs.Words.{refused_words}
use Rattle.dcpi.specs.Samples.{total_offsets, total_samples, OffsetCount, sample_counts}
use Rattle.dcpi.specs.Check.{samples_check}

-- "An offset that no count is for is absent."
unfoldable pub count_for : (offset : ℕ) → List OffsetCount → Option ℕ
count_for offset [] = None
count_for offset (x ∷ xs) = either (eqb x.offset offset) (Some x.count) (count_for offset xs)

unfoldable pub sample_lookup : List ℕ → (offset : ℕ) → Answer (Option ℕ)
sample_lookup s offset = if_passed Err (samples_check s) (Ok (count_for offset (sample_counts s)))

-- an answer that gives both totals
abbrev pub given_sample_totals : (offsets samples : ℕ) → Answer SampleTotals
given_sample_totals offsets samples = Ok (record { offsets = offsets; samples = samples })

unfoldable pub sample_totals : List ℕ → Answer SampleTotals
sample_totals s = if_passed Err (samples_check s) (given_sample_totals (total_offsets s) (total_samples s))

-- ---- answers in words: the number; then the count; the totals

abbrev pub sample_count_words : Answer (Option ℕ) → List ℕ
sample_count_words (Found count) = 0 ∷ count ∷ []
sample_count_words Absent = 100 ∷ []
sample_count_words (Err r) = refused_words r

abbrev pub sample_totals_words : Answer SampleTotals → List ℕ
sample_totals_words (Ok it) = 0 ∷ it.offsets ∷ it.samples ∷ []
sample_totals_words (Err r) = refused_words r
