-- Cases, computed: totals, counts and refusals of small sections, and the entries of one in enough room, in more and in less.
use Rattle.std.specs.Prelude.{Err, Ok}
use Prim.Native.Nat.{ℕ, ◌-◌, ◌^◌}
use mathlib.Core.List.{List, [], ◌∷◌, ◌++◌}
use mathlib.Core.Path.{◌≡◌, refl}
use lib.Ieee.{of_int, to_bits}
use lib.ListN.{replicate}
use Rattle.le.specs.Number.{number}
use Rattle.refusal.specs.declared.Refusal.TheVariants as No
use Rattle.refusal.specs.Check.{either, rule, on_answer, Passed, Absent, Found}
use Rattle.layout.specs.Bytes.{bytes, ◌is◌, fields}
use Rattle.buffer.specs.Over.{over}
use Rattle.float.specs.Float.{integer_bits}
use Rattle.dcpi.specs.Samples.{chunks_from, chunks, counts_from, counts_of_all, sample_counts, non_zero, sum_of}
use Rattle.dcpi.specs.Check.{chunk_rule, chunks_check, totals_rule, samples_check}
use Rattle.dcpi.specs.Answers.{count_for, sample_lookup, sample_totals, given_sample_totals}
use Rattle.dcpi_entries.specs.Entries.{entry_bytes, entries_of, list_check, list_answer, list_entries}

-- numbers of four bytes each
abbrev section : List ℕ → List ℕ
section [] = []
section (x ∷ xs) = bytes 4 x ++ section xs

-- at offset 100 three counts 5, 0 and 7; totals 2 and 12
abbrev one : List ℕ
one = section (100 ∷ 3 ∷ 5 ∷ 0 ∷ 7 ∷ 2 ∷ 12 ∷ [])

-- a count of 0 is found; around the chunk, and for numbers that no offset is, there is none
lookups : sample_lookup one 100
    ∷ sample_lookup one 101
    ∷ sample_lookup one 102
    ∷ sample_lookup one 103
    ∷ sample_lookup one 99
    ∷ sample_lookup one (2 ^ 32)
    ∷ sample_lookup one 0x1_0000_0064
    ∷ []
    ≡ Found 5
    ∷ Found 0
    ∷ Found 7
    ∷ Absent
    ∷ Absent
    ∷ Absent
    ∷ Absent
    ∷ []
unfolding bytes number chunks_from chunks counts_from counts_of_all sample_counts non_zero sum_of either rule on_answer chunk_rule chunks_check totals_rule samples_check count_for sample_lookup
lookups = refl

totals : sample_totals one ≡ given_sample_totals 2 12
unfolding bytes number chunks_from chunks counts_from counts_of_all sample_counts non_zero sum_of either rule on_answer chunk_rule chunks_check totals_rule samples_check sample_totals
totals = refl

-- no chunk; one that ends at offset 2^32 − 1; one that touches the one before it
passed : samples_check (section (0 ∷ 0 ∷ []))
    ∷ samples_check (section ((2 ^ 32 - 1) ∷ 1 ∷ 6 ∷ 1 ∷ 6 ∷ []))
    ∷ samples_check (section (100 ∷ 3 ∷ 5 ∷ 0 ∷ 7 ∷ 103 ∷ 1 ∷ 9 ∷ 3 ∷ 21 ∷ []))
    ∷ []
    ≡ Passed ∷ Passed ∷ Passed ∷ []
unfolding bytes number chunks_from chunks counts_from counts_of_all sample_counts non_zero sum_of either rule chunk_rule chunks_check totals_rule samples_check
passed = refl

-- seven bytes; a chunk that does not fit; no count; past offset 2^32 − 1; an overlap; an overlap before a chunk without a count, and behind
-- one; totals that differ, the second by 2^32 exactly
refusals : samples_check (0 ∷ 0 ∷ 0 ∷ 0 ∷ 0 ∷ 0 ∷ 0 ∷ [])
    ∷ samples_check (section (0 ∷ 0 ∷ 0 ∷ []))
    ∷ samples_check (section (100 ∷ 2 ∷ 5 ∷ 1 ∷ 5 ∷ []))
    ∷ samples_check (section (100 ∷ 0 ∷ 0 ∷ 0 ∷ []))
    ∷ samples_check (section ((2 ^ 32 - 1) ∷ 2 ∷ 6 ∷ 6 ∷ 2 ∷ 12 ∷ []))
    ∷ samples_check (section (100 ∷ 3 ∷ 5 ∷ 0 ∷ 7 ∷ 102 ∷ 1 ∷ 9 ∷ 3 ∷ 21 ∷ []))
    ∷ samples_check (section (100 ∷ 1 ∷ 5 ∷ 100 ∷ 1 ∷ 5 ∷ 200 ∷ 0 ∷ 2 ∷ 10 ∷ []))
    ∷ samples_check (section (100 ∷ 1 ∷ 5 ∷ 200 ∷ 0 ∷ 100 ∷ 1 ∷ 5 ∷ 2 ∷ 10 ∷ []))
    ∷ samples_check (section (1 ∷ 0 ∷ []))
    ∷ samples_check (section (0 ∷ 2 ∷ (2 ^ 31) ∷ (2 ^ 31) ∷ 2 ∷ 0 ∷ []))
    ∷ []
    ≡ Err No.Short
    ∷ Err No.Array
    ∷ Err No.Array
    ∷ Err No.Array
    ∷ Err No.Array
    ∷ Err No.Order
    ∷ Err No.Order
    ∷ Err No.Array
    ∷ Err No.Total
    ∷ Err No.Total
    ∷ []
unfolding bytes number chunks_from chunks counts_from counts_of_all sample_counts non_zero sum_of either rule chunk_rule chunks_check totals_rule samples_check
refusals = refl

-- room for two entries, for all but a byte of them, and a total that differs besides
listed : list_answer one 48 ∷ list_answer one 47 ∷ list_answer (section (0 ∷ 1 ∷ 5 ∷ 0 ∷ 5 ∷ [])) 0 ∷ [] ≡ Ok 2 ∷ Err No.Room ∷ Err No.Total ∷ []
unfolding bytes number chunks_from chunks counts_from counts_of_all sample_counts non_zero sum_of either rule on_answer chunk_rule chunks_check totals_rule samples_check list_check list_answer
listed = refl

-- 5.0 at offset 100 and 7.0 at 102, in profile 3 and metric 258, and two bytes behind them that stay
entries : list_entries one 3 258 (replicate 50 255)
    ≡ fields (4 is 3 ∷ 4 is 100 ∷ 2 is 258 ∷ 6 is 0 ∷ 8 is 0x4014000000000000 ∷ [])
    ++ (fields (4 is 3 ∷ 4 is 102 ∷ 2 is 258 ∷ 6 is 0 ∷ 8 is 0x401c000000000000 ∷ []) ++ (255 ∷ 255 ∷ []))
unfolding bytes fields number chunks_from chunks counts_from counts_of_all sample_counts non_zero sum_of either rule on_answer chunk_rule chunks_check totals_rule samples_check list_check list_entries entry_bytes entries_of over integer_bits to_bits of_int
entries = refl
