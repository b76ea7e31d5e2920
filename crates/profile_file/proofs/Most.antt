-- How long a file can be, by the lengths of the lists alone: the block of a profile has no more bytes than its entries as they are lent.
use Prim.Native.Nat.{ℕ, zero, suc, ◌+◌, ◌*◌, ◌≤◌}
use native.Mathlib.Numerals.{add-one}
use native.Mathlib.Omega.{arith}
use mathlib.Core.Path.{◌≡◌}
use lib.ListN.{length}
use Rattle.layout.specs.Many.{many}
use Rattle.layout.proofs.Many.{many_none, length_next}
use Rattle.seq.specs.Sequence.{sum}
use Rattle.block_file.proofs.Groups.{groups_most}
use Rattle.profile_file.specs.Survey.{Entries, Survey, Ascending, run_start, run_length}
use Rattle.profile_file.specs.File.{block_bytes, tuples_from, tuples_size, profile_file}
use Rattle.profile_file.proofs.Runs.{run_le, run_next}
use Rattle.profile_file.proofs.Lengths.{length_tuples, length_block, length_file}

module _ (e : Entries) (sorted : Ascending e) where
  block_most : (p : ℕ) → length (block_bytes e p) ≤ run_length e p * 24
  block_most p = omega (arith, length_block e p, groups_most (λ k. e.context (run_start e p + k)) (run_length e p))

  pub blocks_most : (n : ℕ) → length (many (block_bytes e) n) ≤ run_start e n * 24
  blocks_most zero = rw many_none (omega arith)
  blocks_most (suc n) =
      let next : run_start e (suc n) ≡ run_start e n + run_length e n = rw (← add-one n) (run_next e sorted n) in
      omega (arith, next, length_next (block_bytes e) n, blocks_most n, block_most n)

pub file_most : (s : Survey) → Ascending s.entries
    → length (profile_file s)
    ≤ 72 + s.profiles * 40 + (s.tuples.count * 8 + sum s.tuples.size s.tuples.count * 16) + s.entries.count * 24
unfolding tuples_from tuples_size
file_most s sorted =
    omega (
      arith,
      length_file s,
      length_tuples s.tuples s.tuples.count,
      blocks_most s.entries sorted s.profiles,
      run_le s.entries sorted s.profiles,
    )
