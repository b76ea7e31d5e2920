-- No bytes are a mark; else the four rules.
use mathlib.Core.Bool.{and_assoc}
use mathlib.Core.Path.{sym}
use native.Mathlib.Omega.{arith}
use Rattle.mark.specs.Mark.{well_formed}
use Rattle.mark.proofs.Bytes.{none_named, some_named}
use Rattle.mark.proofs.well_formed.Goals as goal

pub returns-then-mark-eq0 : goal.returns-then-mark-eq0
returns-then-mark-eq0 c =
    sym (none_named c.args.mark.now c.if-mark-eq0.true)

pub returns : goal.returns
unfolding well_formed
returns c =
    rw (
      some_named c.args.mark.now (omega (arith, c.if-mark-eq0.false)),
      c.u16_at-size.ensures,
      c.u16_at-kind.ensures,
      c.u8_at-depth.ensures,
      and_assoc,
      and_assoc,
    )
