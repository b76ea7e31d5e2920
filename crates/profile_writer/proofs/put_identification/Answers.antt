-- Field after field; the kind and the zero behind it are one number of two bytes.
use Prim.Native.Nat.{◌+◌, ◌^◌, ◌<◌}
use native.Mathlib.Omega.{arith}
use mathlib.Core.Path.{◌≡◌}
use Rattle.le.specs.Number.{number}
use Rattle.le.proofs.Laws.{number_small}
use Rattle.put.proofs.Fields.{over_field, over_last, zeros_behind}
use Rattle.profile_writer.proofs.put_identification.Goals as goal

pub returns : goal.returns
returns c =
    let kind : number 1 c.args.identifiers.now c.args.from < 256 ^ 1 =
    number_small c.args.identifiers.now (λ k. (c.type_inv.identifiers k).fits) 1 c.args.from in
    let four : c.args.at + 2 + 2 ≡ c.args.at + 4 = omega arith in
    let eight : c.args.at + 4 + 4 ≡ c.args.at + 8 = omega arith in
    rw (
      c.store_u64.ensures,
      c.load_u64.ensures,
      c.store_u32.ensures,
      c.load_u32.ensures,
      c.store_u16-2.ensures,
      c.load_u16.ensures,
      c.store_u16.ensures,
      c.load_u8.ensures,
      zeros_behind 1 1 (number 1 c.args.identifiers.now c.args.from) _ kind,
      over_field,
      over_field,
      over_field,
      over_last,
      four,
      eight,
    )
