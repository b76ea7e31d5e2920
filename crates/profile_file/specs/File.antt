-- A profile.db as bytes: header, profiles, identifier tuples, a block for each profile, and the footer, one directly after the other.
-- Every place is the length of what stands before it; gaps are 0, and so is a pointer that is ignored.
use Rattle.std.specs.Prelude.{ℕ, ◌+◌, ◌*◌, List, [], ◌∷◌, length}
use Rattle.layout.specs.Bytes.{◌is◌, fields, join}
use Rattle.layout.specs.Many.{many}
use Rattle.open.specs.Format as Format
use Rattle.open.specs.Opening.{place_for}
use Rattle.block.specs.Block.{profile_shape}
use Rattle.block.specs.declared.Block.{Block}
use Rattle.block_file.specs.Pairs.{written, block_of, header_bytes}
use Rattle.profile_file.specs.Survey.{Tuples, Entries, Survey, pairs_of}

-- ---- identifier tuples

module _ (ts : Tuples) where
  unfoldable pub identification_bytes : (t j : ℕ) → List ℕ
  identification_bytes t j = fields (1 is ts.kind t j ∷ 1 is 0 ∷ 2 is ts.flags t j ∷ 4 is ts.logical t j ∷ 8 is ts.physical t j ∷ [])

  unfoldable pub tuple_bytes : (t : ℕ) → List ℕ
  tuple_bytes t = join (fields (2 is ts.size t ∷ 6 is 0 ∷ []) ∷ many (identification_bytes t) (ts.size t) ∷ [])

-- ---- blocks

unfoldable pub block_bytes : Entries → (p : ℕ) → List ℕ
block_bytes e p = written profile_shape (pairs_of e p)

module _ (s : Survey) where
  -- ---- places

  unfoldable pub tuples_from : ℕ
  tuples_from = 64 + s.profiles * 40

  unfoldable pub tuples_size : ℕ
  tuples_size = length (many (tuple_bytes s.tuples) s.tuples.count)

  unfoldable pub tuple_from : (t : ℕ) → ℕ
  tuple_from t = tuples_from + length (many (tuple_bytes s.tuples) t)

  unfoldable pub block_from : (p : ℕ) → ℕ
  block_from p = tuples_from + tuples_size + length (many (block_bytes s.entries) p)

  -- ---- the file

  unfoldable pub block_header : (p : ℕ) → Block
  block_header p = block_of profile_shape (pairs_of s.entries p) (block_from p)

  -- a profile: its block's header, and the place of its tuple
  unfoldable pub info_bytes : (p : ℕ) → List ℕ
  info_bytes p = join (header_bytes profile_shape (block_header p) ∷ fields (8 is tuple_from (s.named p) ∷ []) ∷ [])

  -- version 4.0, and size and pointer of each section
  unfoldable pub file_header : List ℕ
  file_header =
      fields (1 is 4 ∷ 1 is 0 ∷ 8 is (16 + s.profiles * 40) ∷ 8 is 48 ∷ 8 is tuples_size ∷ 8 is place_for tuples_size tuples_from ∷ [])

  unfoldable pub infos_header : List ℕ
  infos_header = fields (8 is place_for s.profiles 64 ∷ 4 is s.profiles ∷ 1 is 40 ∷ 3 is 0 ∷ [])

  abbrev pub file_parts : List (List ℕ)
  file_parts =
      (Format.profile).magic
      ∷ file_header
      ∷ infos_header
      ∷ many info_bytes s.profiles
      ∷ many (tuple_bytes s.tuples) s.tuples.count
      ∷ many (block_bytes s.entries) s.profiles
      ∷ (Format.profile).footer
      ∷ []

  unfoldable pub profile_file : List ℕ
  profile_file = join file_parts

  -- place and size of each section
  unfoldable pub section_pairs : List (List ℕ)
  section_pairs = (48 ∷ (16 + s.profiles * 40) ∷ []) ∷ (place_for tuples_size tuples_from ∷ tuples_size ∷ []) ∷ []
