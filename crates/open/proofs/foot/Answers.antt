-- The eight bytes at the end.
use Rattle.open.proofs.foot.Goals as goal

pub returns : goal.returns
returns c =
    rw (c.rule.ensures, c.has_eight-stands.ensures)
