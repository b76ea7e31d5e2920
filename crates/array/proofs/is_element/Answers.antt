-- By the distance from the array's start: before it, without a stride, in strides.
use Rattle.array.proofs.Links.{before, no_stride, by_stride}
use native.Mathlib.Omega.{arith}
use Rattle.array.proofs.is_element.Goals as goal

pub returns-then-place-a : goal.returns-then-place-a
returns-then-place-a c =
    before _ _ c.if-place-a.true

pub returns-then-a-eq0 : goal.returns-then-a-eq0
returns-then-a-eq0 c =
    no_stride _ _ c.if-place-a.false c.if-a-eq0.true

pub returns : goal.returns
returns c =
    by_stride _ _ c.if-place-a.false (omega arith)
