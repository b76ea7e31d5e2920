-- Where each part of the file stands: every place of the header is the length of what stands before it.
use Prim.Native.Nat.{ℕ, ◌+◌, ◌-◌, ◌*◌, ◌%◌, ◌≤◌, ◌<◌}
use mathlib.Core.Path.{◌≡◌, ap}
use native.Mathlib.Omega.{arith}
use lib.ListN.{length}
use Rattle.layout.specs.Bytes.{join}
use Rattle.layout.specs.Many.{many}
use Rattle.layout.specs.Stands.{Stands}
use Rattle.layout.proofs.Laws.{part-at, start, moved}
use Rattle.layout.proofs.Many.{many_at, many_ends}
use Rattle.open.specs.Format as Format
use Rattle.profile_file.specs.Survey.{Survey}
use Rattle.profile_file.specs.File.{tuple_bytes, block_bytes, tuples_from, tuples_size, tuple_from, block_from, info_bytes, file_header, infos_header, file_parts, profile_file}
use Rattle.profile_file.proofs.Lengths.{length_tuple, length_tuples, blocks_four, length_front, length_infos_header, length_infos, length_file}

module _ (s : Survey) where
  -- ---- the parts

  whole : Stands (profile_file s) 0 (join (file_parts s))
  unfolding profile_file
  whole = start (profile_file s)

  pub magic_at : Stands (profile_file s) 0 (Format.profile).magic
  magic_at = part-at (file_parts s) 0 whole (omega arith)

  pub header_at : Stands (profile_file s) 14 (file_header s)
  header_at = part-at (file_parts s) 1 whole (omega arith)

  pub infos_header_at : Stands (profile_file s) 48 (infos_header s)
  infos_header_at = moved 48 (omega (arith, length_front s)) (part-at (file_parts s) 2 whole (omega arith))

  infos_at : Stands (profile_file s) 64 (many (info_bytes s) s.profiles)
  infos_at = moved 64 (omega (arith, length_front s, length_infos_header s)) (part-at (file_parts s) 3 whole (omega arith))

  tuples_at : Stands (profile_file s) (tuples_from s) (many (tuple_bytes s.tuples) s.tuples.count)
  unfolding tuples_from
  tuples_at =
      moved (tuples_from s) (omega (arith, length_front s, length_infos_header s, length_infos s s.profiles)) (part-at (file_parts s) 4 whole (omega arith))

  blocks_at : Stands (profile_file s) (tuples_from s + tuples_size s) (many (block_bytes s.entries) s.profiles)
  unfolding tuples_from tuples_size
  blocks_at =
      moved (tuples_from s + tuples_size s) (omega (arith, length_front s, length_infos_header s, length_infos s s.profiles))
      (part-at (file_parts s) 5 whole (omega arith))

  pub footer_at : Stands (profile_file s) (length (profile_file s) - 8) (Format.profile).footer
  unfolding tuples_from tuples_size
  footer_at =
      moved (length (profile_file s) - 8) (omega (arith, length_file s, length_front s, length_infos_header s, length_infos s s.profiles))
      (part-at (file_parts s) 6 whole (omega arith))

  pub info_at : (p : ℕ) → p < s.profiles → Stands (profile_file s) (64 + p * 40) (info_bytes s p)
  info_at p l = moved (64 + p * 40) (ap (λ (z : ℕ). 64 + z) (length_infos s p)) (many_at (info_bytes s) s.profiles infos_at p l)

  pub tuple_stands : (t : ℕ) → t < s.tuples.count → Stands (profile_file s) (tuple_from s t) (tuple_bytes s.tuples t)
  unfolding tuple_from
  tuple_stands t l = many_at (tuple_bytes s.tuples) s.tuples.count tuples_at t l

  pub block_stands : (p : ℕ) → p < s.profiles → Stands (profile_file s) (block_from s p) (block_bytes s.entries p)
  unfolding block_from
  block_stands p l = many_at (block_bytes s.entries) s.profiles blocks_at p l

  -- ---- places

  pub tuples_eight : tuples_from s % 8 ≡ 0
  unfolding tuples_from
  tuples_eight = omega arith

  pub tuple_eight : (t : ℕ) → tuple_from s t % 8 ≡ 0
  unfolding tuple_from
  tuple_eight t = omega (arith, tuples_eight, length_tuples s.tuples t)

  pub tuple_after : (t : ℕ) → tuples_from s ≤ tuple_from s t
  unfolding tuple_from
  tuple_after t = omega arith

  pub tuple_ends : (t : ℕ) → t < s.tuples.count → tuple_from s t + (8 + 16 * s.tuples.size t) ≤ tuples_from s + tuples_size s
  unfolding tuple_from tuples_size
  tuple_ends t l = omega (arith, many_ends (tuple_bytes s.tuples) t s.tuples.count l, length_tuple s.tuples t)

  pub block_aligned : (p : ℕ) → block_from s p % 4 ≡ 0
  unfolding block_from tuples_size
  block_aligned p = omega (arith, tuples_eight, length_tuples s.tuples s.tuples.count, blocks_four s.entries p)

  pub block_after : (p : ℕ) → tuples_from s + tuples_size s ≤ block_from s p
  unfolding block_from
  block_after p = omega arith

  pub block_ends : (p : ℕ) → p < s.profiles → block_from s p + length (block_bytes s.entries p) ≤ length (profile_file s) - 8
  unfolding block_from
  block_ends p l = omega (arith, many_ends (block_bytes s.entries) p s.profiles l, length_file s)
