-- The magic, then field after field; the two bytes of the version are one number.
use native.Mathlib.Omega.{arith}
use Rattle.layout.specs.Bytes.{fields}
use Rattle.buffer.proofs.Laws.{over_append}
use Rattle.open.specs.Format as Format
use Rattle.put.proofs.Fields.{over_field, over_last, zeros_behind}
use Rattle.profile_writer.proofs.put_header.Goals as goal

pub returns : goal.returns
returns c =
    rw (
      c.store_u64-4.ensures,
      c.store_u64-3.ensures,
      c.store_u64-2.ensures,
      c.store_u64.ensures,
      c.store_u16.ensures,
      c.text.ensures,
      c.place_for.ensures,
      over_append (Format.profile).magic (fields _),
      zeros_behind 1 1 4 _ (omega arith),
      over_field,
      over_field,
      over_field,
      over_field,
      over_last,
    )
