-- "Refusals, by chunk in order: 1 if fewer than 8 bytes; 7 if a chunk does not fit before the totals, has number 0 or reaches past offset
-- 2^32 − 1; 11 for offsets or overlap; then 20 Total if either total differs" (2026-06).
use Rattle.std.specs.Prelude.{ℕ, ◌+◌, ◌^◌, Bool, ◌&&◌, List, [], ◌∷◌, leb, ltb, eqb, length}
use Rattle.refusal.specs.declared.Refusal.TheVariants as No
use Rattle.refusal.specs.Check.{rule, first, Check, Passed}
use Rattle.dcpi.specs.Samples.{totals_at, total_offsets, total_samples, Chunk, chunk_end, last_offset, chunks, sample_counts, non_zero, sum_of}

-- 7
unfoldable pub chunk_rule : List ℕ → Chunk → Bool
chunk_rule s c = (leb (chunk_end c) (totals_at s) && leb 1 c.size) && ltb (last_offset c) (2 ^ 32)

-- 7 and then 11, chunk by chunk; `least` is the least offset that the first of them may have
unfoldable pub chunks_check : List ℕ → (least : ℕ) → List Chunk → Check
chunks_check s least [] = Passed
chunks_check s least (c ∷ cs) =
    first (rule (chunk_rule s c) No.Array) (first (rule (leb least c.offset) No.Order) (chunks_check s (last_offset c + 1) cs))

-- 20
unfoldable pub totals_rule : List ℕ → Bool
totals_rule s = eqb (total_offsets s) (length (non_zero (sample_counts s))) && eqb (total_samples s) (sum_of (sample_counts s))

unfoldable pub samples_check : List ℕ → Check
samples_check s = first (rule (leb 8 (length s)) No.Short) (first (chunks_check s 0 (chunks s)) (rule (totals_rule s) No.Total))
