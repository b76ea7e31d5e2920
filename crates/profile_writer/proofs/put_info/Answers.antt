use Prim.Native.Nat.{◌+◌}
use mathlib.Core.Path.{◌≡◌}
use native.Mathlib.Omega.{arith}
use Rattle.put.proofs.Fields.{over_field, over_last}
use Rattle.profile_writer.proofs.put_info.Goals as goal

pub returns : goal.returns
returns c =
    let sixteen : c.args.at + 8 + 8 ≡ c.args.at + 16 = omega arith in
    let twenty : c.args.at + 16 + 4 ≡ c.args.at + 20 = omega arith in
    let twenty-four : c.args.at + 20 + 4 ≡ c.args.at + 24 = omega arith in
    let thirty_two : c.args.at + 24 + 8 ≡ c.args.at + 32 = omega arith in
    rw (
      c.store_u64-4.ensures,
      c.store_u64-3.ensures,
      c.store_u32-2.ensures,
      c.store_u32.ensures,
      c.store_u64-2.ensures,
      c.store_u64.ensures,
      over_field,
      over_field,
      over_field,
      over_field,
      over_field,
      over_last,
      sixteen,
      twenty,
      twenty-four,
      thirty_two,
    )
