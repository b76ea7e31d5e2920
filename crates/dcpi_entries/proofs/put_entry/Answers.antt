-- Four stores: the metric and the six bytes of 0 behind it are one number of eight bytes.
use Prim.Native.Nat.{◌^◌, ◌<◌}
use native.Mathlib.Omega.{arith}
use Rattle.dcpi_entries.proofs.Bytes.{over_entry}
use Rattle.dcpi_entries.proofs.put_entry.Goals as goal

pub returns : goal.returns
returns c =
    let small : c.args.series.metric < 2 ^ 16 = omega arith in
    rw (c.store_u64-2.ensures, c.of_u32.ensures, c.store_u64.ensures, c.store_u32-2.ensures, c.store_u32.ensures)
    (over_entry c.args.series.profile c.args.series.metric small _ c.args.at _)
