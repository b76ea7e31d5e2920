-- Past the end nothing, up to the end what there is, else all.
use Rattle.text.proofs.Laws.{part_none, part_rest, part_some}
use Rattle.text.proofs.part.Goals as goal

pub returns-then-size-place : goal.returns-then-size-place
returns-then-size-place c =
    part_none c.args.file.now c.args.place c.args.n c.if-size-place.true

pub returns-then-size-place-2 : goal.returns-then-size-place-2
returns-then-size-place-2 c =
    part_rest c.args.file.now c.args.place c.args.n c.if-size-place-2.true

pub returns : goal.returns
returns c =
    part_some c.args.file.now c.args.place c.args.n
