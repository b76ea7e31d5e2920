-- The tests, put for their definitions.
use native.Mathlib.Nat.{mul-one}
use Rattle.outside.proofs.Apart.{none_product}
use Rattle.outside.specs.Outside.{apart}
use Rattle.outside.proofs.is_apart.Goals as goal

pub returns : goal.returns
unfolding apart
returns c =
    rw (c.ends_by-before.ensures, c.ends_by-after.ensures, mul-one, none_product c.args.n c.args.stride)
