-- By whether the size is 0.
use Rattle.open.proofs.Answer.{pair_none, pair_some}
use Rattle.open.proofs.pair_at.Goals as goal

pub returns-then-size-eq0 : goal.returns-then-size-eq0
returns-then-size-eq0 c =
    pair_none _ _ _ c.load_u64-size.ensures c.if-size-eq0.true

pub returns : goal.returns
returns c =
    pair_some _ _ _ c.load_u64-size.ensures _ c.if-size-eq0.false c.load_u64.ensures
