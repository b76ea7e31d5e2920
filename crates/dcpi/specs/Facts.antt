-- Request 2026-06 in facts, about any bytes: the rules of a section, and what is said of it.
use Rattle.refusal.specs.Check.{Passed, Absent, Found}
use Rattle.std.specs.Prelude.{ℕ, ◌+◌, ◌*◌, ◌^◌, ◌≤◌, ◌<◌, List, [], ◌∷◌, ◌++◌, ◌↔◌, ◌⊎◌, ◌≡◌, length, Err}
use Rattle.le.specs.Number.{number}
use Rattle.refusal.specs.declared.Refusal.{Refusal}
use Rattle.refusal.specs.declared.Refusal.TheVariants as No
use Rattle.refusal.specs.Number.{number_of}
use Rattle.seq.specs.Lists.{All, In, Ordered}
use Rattle.dcpi.specs.Samples.{spacing, totals_at, total_offsets, total_samples, Chunk, chunk_at, chunk_end, last_offset, chunks, sample_counts, non_zero, sum_of}
use Rattle.dcpi.specs.Check.{samples_check}
use Rattle.dcpi.specs.Answers.{sample_lookup, sample_totals, given_sample_totals}

-- ---- the rules

-- 7: it fits before the totals, has a count, and reaches no further than offset 2^32 − 1
pub record ChunkKept (s : List ℕ) (c : Chunk) : Type 0 where
  pub fits : chunk_end c ≤ totals_at s
  pub has_one : 1 ≤ c.size
  pub reaches : last_offset c < 2 ^ 32

-- 11, of a chunk and a later one: "Offsets increase and ranges do not overlap"
abbrev pub RangeBefore : Chunk → Chunk → Type 0
RangeBefore c d = last_offset c < d.offset

-- 20: "The first total is the number of non-zero counts and the second their exact sum."
pub record TotalsKept (s : List ℕ) : Type 0 where
  pub first_total : total_offsets s ≡ length (non_zero (sample_counts s))
  pub second_total : total_samples s ≡ sum_of (sample_counts s)

abbrev pub ChunksKept : List ℕ → List Chunk → Type 0
ChunksKept s cs = All (ChunkKept s) cs × Ordered RangeBefore cs

-- "chunks .., then two totals": the first chunk stands at p, each next one where the one before it ends, and the totals where the last ends
abbrev pub FollowFrom : List ℕ → (p : ℕ) → List Chunk → Type 0
FollowFrom s p [] = p ≡ totals_at s
FollowFrom s p (c ∷ cs) = (c ≡ chunk_at s p) × FollowFrom s (chunk_end c) cs

-- all of them
pub record SamplesKept (s : List ℕ) : Type 0 where
  pub has_totals : 8 ≤ length s
  pub follow : FollowFrom s 0 (chunks s)
  pub chunks_kept : ChunksKept s (chunks s)
  pub totals_kept : TotalsKept s

-- c is a chunk, and all before it keep 7 and 11
pub record Reached (s : List ℕ) (before : List Chunk) (c : Chunk) : Type 0 where
  pub has_totals : 8 ≤ length s
  pub after : List Chunk
  pub stands : chunks s ≡ before ++ (c ∷ after)
  pub kept_before : ChunksKept s before

-- "7 if a chunk does not fit before the totals, has number 0 or reaches past offset 2^32 − 1"
pub record Breaks7 (s : List ℕ) : Type 0 where
  pub before : List Chunk
  pub chunk : Chunk
  pub reached : Reached s before chunk
  pub broken : ChunkKept s chunk → ⊥

-- "11 for offsets or overlap"
pub record Breaks11 (s : List ℕ) : Type 0 where
  pub before : List Chunk
  pub chunk : Chunk
  pub reached : Reached s before chunk
  pub kept : ChunkKept s chunk
  pub broken : All (λ b. RangeBefore b chunk) before → ⊥

-- ---- what is said

-- a chunk has n as the count for an offset
pub record HasCount (s : List ℕ) (offset n : ℕ) : Type 0 where
  pub chunk : Chunk
  pub is_chunk : In chunk (chunks s)
  pub i : ℕ
  pub within : i < chunk.size
  pub offset_is : offset ≡ chunk.offset + i * spacing
  pub count_is : n ≡ number 4 s (chunk.place + 8 + i * 4)

-- "Refusals, by chunk in order": the first chunk that breaks one of its rules gives it, 7 before 11
pub record CheckSays (s : List ℕ) : Type 0 where
  pub passes : (samples_check s ≡ Passed) ↔ SamplesKept s
  pub is_1 : (samples_check s ≡ Err No.Short) ↔ (length s < 8)
  pub is_7 : (samples_check s ≡ Err No.Array) ↔ Breaks7 s
  pub is_11 : (samples_check s ≡ Err No.Order) ↔ Breaks11 s
  pub is_20 : (samples_check s ≡ Err No.Total) ↔ ((8 ≤ length s) × (ChunksKept s (chunks s) × (TotalsKept s → ⊥)))
  pub no_other : (r : Refusal) → samples_check s ≡ Err r
      → (number_of r ≡ 1) ⊎ ((number_of r ≡ 7) ⊎ ((number_of r ≡ 11) ⊎ (number_of r ≡ 20)))

-- "Look up a sample count by offset .. An offset that no count is for is absent."
pub record SamplesSay (s : List ℕ) : Type 0 where
  pub check : CheckSays s
  pub found : (offset n : ℕ) → (sample_lookup s offset ≡ Found n) ↔ (SamplesKept s × HasCount s offset n)
  pub absent : (offset : ℕ) → (sample_lookup s offset ≡ Absent) ↔ (SamplesKept s × ((n : ℕ) → HasCount s offset n → ⊥))
  pub lookup_refused : (offset : ℕ) (r : Refusal) → (sample_lookup s offset ≡ Err r) ↔ (samples_check s ≡ Err r)
  pub totals : (offsets samples : ℕ) → (sample_totals s ≡ given_sample_totals offsets samples)
      ↔ (SamplesKept s × ((offsets ≡ length (non_zero (sample_counts s))) × (samples ≡ sum_of (sample_counts s))))
  pub totals_refused : (r : Refusal) → (sample_totals s ≡ Err r) ↔ (samples_check s ≡ Err r)
