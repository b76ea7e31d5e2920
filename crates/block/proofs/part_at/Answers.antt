-- Its start and its end are within the values.
use Rattle.block.proofs.Parts.{part-of, sound_part}
use Rattle.block.specs.Block.{part_of, part_at}
use mathlib.Core.Path.{refl}
use native.Mathlib.Omega.{arith}
use Rattle.block.proofs.part_at.Goals as goal

pub overflow_sub-length : goal.overflow_sub-length
overflow_sub-length c =
    let start = c.start_of-start.ensures c.args.h refl in
    let end = c.end_of.ensures c.args.h refl in
    omega (arith, (part-of c.requires.sound_block c.args.i _ _ c.requires.i_lt_count start end).some)

pub element-place-requires : goal.element-place-requires
element-place-requires c =
    let start = c.start_of-start.ensures c.args.h refl in
    let end = c.end_of.ensures c.args.h refl in
    let part = part-of c.requires.sound_block c.args.i _ _ c.requires.i_lt_count start end in
    record {
      elements_inside = (c.requires.sound_block.inside (omega (arith, c.requires.i_lt_count))).values;
      k_lt_n = omega (arith, part.some, part.ends);
    }

pub returns : goal.returns
unfolding part_at part_of
returns c =
    let start = c.start_of-start.ensures c.args.h refl in
    let end = c.end_of.ensures c.args.h refl in
    let part = part-of c.requires.sound_block c.args.i _ _ c.requires.i_lt_count start end in
    record {
      value = rw (c.element-place.ensures.value, end, start);
      sound_part =
          sound_part c.args.file.now c.args.h c.args.b _ _ _ c.element-place.ensures.value
          (c.requires.sound_block.inside (omega (arith, c.requires.i_lt_count))) part;
    }
