-- Field after field; the stride and the zeros behind it are one number of four bytes.
use native.Mathlib.Omega.{arith}
use mathlib.Core.List.{[]}
use Rattle.put.proofs.Fields.{over_field, over_last, zeros_behind}
use Rattle.profile_writer.proofs.put_infos_header.Goals as goal

pub returns : goal.returns
returns c =
    rw (
      c.store_u32-2.ensures,
      c.store_u32.ensures,
      c.store_u64.ensures,
      c.place_for.ensures,
      over_field,
      over_field,
      zeros_behind 1 3 40 [] (omega arith),
      over_last,
    )
