-- By whether there is room for the value.
use Rattle.hpcdb.proofs.Laws.{no_room, room}
use native.Mathlib.Omega.{arith}
use Rattle.hpcdb.proofs.hpcdb_profile_lookup.Goals as goal

pub returns-then-out-lt8 : goal.returns-then-out-lt8
returns-then-out-lt8 c =
    let all = no_room c.args.out.now _ c.if-out-lt8.true in
    record { value = all.0; out_after = all.1 }

pub returns : goal.returns
returns c =
    record {
      value = rw (← c.profile_lookup.ensures) ((room c.args.out.now _ (omega (arith, c.if-out-lt8.false)) (c.put_value.ensures.value, c.put_value.ensures.out_after)).0);
      out_after = rw (← c.profile_lookup.ensures) ((room c.args.out.now _ (omega (arith, c.if-out-lt8.false)) (c.put_value.ensures.value, c.put_value.ensures.out_after)).1);
    }
