-- The binary section of a DCPI sample file (document 000, versions 0.06 and 0.07): "chunks of offset, number and that many counts, then two
-- totals, all u32, read here as little-endian" (2026-06).
use Rattle.std.specs.Prelude.{ℕ, zero, suc, ◌+◌, ◌-◌, ◌*◌, List, [], ◌∷◌, ◌++◌, ltb, eqb, length}
use Rattle.le.specs.Number.{number}
use Rattle.refusal.specs.Check.{either}

-- "A chunk's counts are for its offset and on from there, one apart unless the source says otherwise": document 000's range has as many
-- addresses as the chunk has counts
abbrev pub spacing : ℕ
spacing = 1

-- the totals are the last eight bytes; document 000 calls them total_offsets and total_samples
abbrev pub totals_at : List ℕ → ℕ
totals_at s = length s - 8

abbrev pub total_offsets : List ℕ → ℕ
total_offsets s = number 4 s (totals_at s)

abbrev pub total_samples : List ℕ → ℕ
total_samples s = number 4 s (totals_at s + 4)

-- ---- chunks

-- a chunk: where it stands, its offset, and how many counts it has (document 000's number)
pub record Chunk : Type 0 where
  pub place : ℕ
  pub offset : ℕ
  pub size : ℕ

abbrev pub chunk_at : List ℕ → (p : ℕ) → Chunk
chunk_at s p = record { place = p; offset = number 4 s p; size = number 4 s (p + 4) }

-- where it ends, and the last offset that it has a count for: "its range is from the first to the last"
abbrev pub chunk_end : Chunk → ℕ
chunk_end c = c.place + 8 + c.size * 4

abbrev pub last_offset : Chunk → ℕ
last_offset c = c.offset + (c.size - 1) * spacing

-- one after the other from a place to the totals, `most` of them at most
unfoldable pub chunks_from : List ℕ → (most p : ℕ) → List Chunk
chunks_from s zero p = []
chunks_from s (suc most) p = either (ltb p (totals_at s)) (chunk_at s p ∷ chunks_from s most (chunk_end (chunk_at s p))) []

-- a section has no more chunks than bytes
unfoldable pub chunks : List ℕ → List Chunk
chunks s = chunks_from s (length s) 0

-- ---- counts

-- a count, and the offset that it is for
pub record OffsetCount : Type 0 where
  pub offset : ℕ
  pub count : ℕ

-- n counts from a place on, for an offset and on from there
unfoldable pub counts_from : List ℕ → (place offset n : ℕ) → List OffsetCount
counts_from s place offset zero = []
counts_from s place offset (suc n) = record { offset = offset; count = number 4 s place } ∷ counts_from s (place + 4) (offset + spacing) n

abbrev pub counts_of : List ℕ → Chunk → List OffsetCount
counts_of s c = counts_from s (c.place + 8) c.offset c.size

unfoldable pub counts_of_all : List ℕ → List Chunk → List OffsetCount
counts_of_all s [] = []
counts_of_all s (c ∷ cs) = counts_of s c ++ counts_of_all s cs

-- all counts of a section
unfoldable pub sample_counts : List ℕ → List OffsetCount
sample_counts s = counts_of_all s (chunks s)

-- those that are not zero; the sum
unfoldable pub non_zero : List OffsetCount → List OffsetCount
non_zero [] = []
non_zero (x ∷ xs) = either (eqb x.count 0) (non_zero xs) (x ∷ non_zero xs)

unfoldable pub sum_of : List OffsetCount → ℕ
sum_of [] = 0
sum_of (x ∷ xs) = x.count + sum_of xs
