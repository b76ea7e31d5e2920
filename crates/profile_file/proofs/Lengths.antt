-- How long each part of the file is. Tuples are multiples of eight, blocks of four.
use Prim.Native.Nat.{ℕ, zero, suc, ◌+◌, ◌*◌, ◌%◌}
use mathlib.Core.List.{[], ◌∷◌}
use mathlib.Core.Path.{◌≡◌, refl, ◌∙◌}
use native.Mathlib.Omega.{arith}
use lib.ListN.{length}
use Rattle.layout.specs.Bytes.{◌is◌}
use Rattle.layout.specs.Many.{many, to_four}
use Rattle.layout.proofs.Laws.{length_fields, length_join}
use Rattle.layout.proofs.Many.{length_next, length_many, length_multiple}
use Rattle.seq.specs.Sequence.{sum}
use Rattle.block.specs.Block.{profile_shape}
use Rattle.block_file.specs.Pairs.{groups_of}
use Rattle.block_file.proofs.Readback.{length_profile, length_header}
use Rattle.profile_file.specs.Survey.{Tuples, Entries, Survey, run_length, pairs_of}
use Rattle.profile_file.specs.File.{identification_bytes, tuple_bytes, block_bytes, tuples_from, tuples_size, block_header, info_bytes, file_header, infos_header, file_parts, profile_file}

module _ (ts : Tuples) where
  length_identification : (t j : ℕ) → length (identification_bytes ts t j) ≡ 16
  unfolding identification_bytes
  length_identification t j = length_fields _

  pub length_identifications : (t n : ℕ) → length (many (identification_bytes ts t) n) ≡ n * 16
  length_identifications t n = length_many (identification_bytes ts t) 16 n (λ j l. length_identification t j)

  pub length_tuple : (t : ℕ) → length (tuple_bytes ts t) ≡ 8 + ts.size t * 16
  unfolding tuple_bytes
  length_tuple t = length_join _ ∙ omega (arith, length_fields (2 is ts.size t ∷ 6 is 0 ∷ []), length_identifications t (ts.size t))

  pub length_tuples : (n : ℕ) → length (many (tuple_bytes ts) n) ≡ n * 8 + sum ts.size n * 16
  unfolding many sum
  length_tuples zero = refl
  length_tuples (suc n) = omega (arith, length_next (tuple_bytes ts) n, length_tuples n, length_tuple n)

-- ten bytes for each value leave two to the next multiple of four exactly if the values are odd
pub padding_of : (n : ℕ) → to_four (n * 10) ≡ 2 * (n % 2)
unfolding to_four
padding_of n = omega arith

module _ (e : Entries) where
  pub length_block : (p : ℕ) → length (block_bytes e p) ≡ run_length e p * 10 + 2 * (run_length e p % 2) + groups_of (pairs_of e p) * 12
  unfolding block_bytes
  length_block p = length_profile (pairs_of e p)

  pub blocks_four : (n : ℕ) → length (many (block_bytes e) n) % 4 ≡ 0
  blocks_four n = length_multiple (block_bytes e) 4 (λ p. omega (arith, length_block p)) n

module _ (s : Survey) where
  pub length_front : length (file_header s) ≡ 34
  unfolding file_header
  length_front = length_fields _

  pub length_infos_header : length (infos_header s) ≡ 16
  unfolding infos_header
  length_infos_header = length_fields _

  pub length_info : (p : ℕ) → length (info_bytes s p) ≡ 40
  unfolding info_bytes
  length_info p = length_join _ ∙ rw (length_header profile_shape (block_header s p) (omega arith), length_fields)

  pub length_infos : (n : ℕ) → length (many (info_bytes s) n) ≡ n * 40
  length_infos n = length_many (info_bytes s) 40 n (λ p l. length_info p)

  pub length_file : length (profile_file s) ≡ tuples_from s + tuples_size s + length (many (block_bytes s.entries) s.profiles) + 8
  unfolding profile_file tuples_from tuples_size
  length_file = length_join (file_parts s) ∙ omega (arith, length_front, length_infos_header, length_infos s.profiles)
