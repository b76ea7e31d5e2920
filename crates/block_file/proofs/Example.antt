-- A written block in both files, by its length and computed: in profile.db odd numbers of values are padded, in cct.db odd numbers of indices.
use Rattle.std.specs.Prelude.{Some, None}
use Prim.Native.Nat.{◌+◌, ◌*◌, ◌%◌}
use mathlib.Core.List.{[], ◌∷◌}
use mathlib.Core.Path.{◌≡◌, refl}
use native.Mathlib.Omega.{arith}
use lib.ListN.{length, get_or}
use Rattle.le.specs.Number.{number}
use Rattle.layout.specs.Bytes.{bytes, fields, join}
use Rattle.refusal.specs.Check.{either}
use Rattle.open.specs.Opening.{place_for}
use Rattle.seq.specs.Sequence.{position}
use Rattle.block.specs.Block.{profile_shape, cct_shape, id_at, word_at, start_of, end_of, part_of, part_at, value_at, in_part, index_of, lookup_in}
use Rattle.layout.specs.Many.{many, to_four, zeros}
use Rattle.block_file.specs.Pairs.{Pairs, leads, groups, groups_of, value_element, index_element, written, indices_from, block_of}
use Rattle.block_file.proofs.Readback.{length_written}

pub length_cct : (e : Pairs) → length (written cct_shape e) ≡ e.count * 12 + groups_of e * 10 + 2 * (groups_of e % 2)
unfolding to_four
length_cct e = omega (arith, length_written cct_shape e)

-- block B of document 01
abbrev pub block_b : Pairs
block_b = record {
  count = 3;
  outer = λ k. get_or (5 ∷ 5 ∷ 9 ∷ []) k 0;
  inner = λ k. get_or (1 ∷ 4 ∷ 1 ∷ []) k 0;
  bits = λ k. get_or (0x4000000000000000 ∷ 0x4008000000000000 ∷ 0x4014000000000000 ∷ []) k 0;
}

pub bytes-of-B : written profile_shape block_b
    ≡ 1 ∷ 0 ∷ 0 ∷ 0 ∷ 0 ∷ 0 ∷ 0 ∷ 0 ∷ 0 ∷ 0x40
    ∷ 4 ∷ 0 ∷ 0 ∷ 0 ∷ 0 ∷ 0 ∷ 0 ∷ 0 ∷ 0x08 ∷ 0x40
    ∷ 1 ∷ 0 ∷ 0 ∷ 0 ∷ 0 ∷ 0 ∷ 0 ∷ 0 ∷ 0x14 ∷ 0x40
    ∷ 0 ∷ 0
    ∷ 5 ∷ 0 ∷ 0 ∷ 0 ∷ 0 ∷ 0 ∷ 0 ∷ 0 ∷ 0 ∷ 0 ∷ 0 ∷ 0
    ∷ 9 ∷ 0 ∷ 0 ∷ 0 ∷ 2 ∷ 0 ∷ 0 ∷ 0 ∷ 0 ∷ 0 ∷ 0 ∷ 0
    ∷ []
unfolding written many fields bytes join value_element index_element zeros to_four leads groups either
bytes-of-B = refl

-- in a file of its own, at place 0, as a block of cct.db
pub lookups_in_cct : (lookup_in (written cct_shape block_b) cct_shape (block_of cct_shape block_b 0) 5 4 ≡ Some 0x4008000000000000)
    × (lookup_in (written cct_shape block_b) cct_shape (block_of cct_shape block_b 0) 9 4 ≡ None)
unfolding written many fields bytes join value_element index_element zeros to_four leads groups either block_of indices_from place_for lookup_in index_of in_part value_at part_at part_of start_of end_of id_at word_at position number
lookups_in_cct = (refl, refl)
