-- By whether there is one, and by the test of two floats.
use Rattle.float.proofs.Sums.{finite_bits}
use Rattle.hot_path.specs.State.{lead_with}
use Rattle.hot_path.proofs.Leads.{lead_taken, lead_left}
use Rattle.hot_path.proofs.lead_with.Goals as goal

pub returns-in_default : goal.returns-in_default
unfolding lead_with
returns-in_default c = rw c.in_default.is

pub float_from_bits-greater : goal.float_from_bits-greater
float_from_bits-greater c = finite_bits _ (rw c.in-Some.is at c.requires.lead_value)

pub float_from_bits-greater-2 : goal.float_from_bits-greater-2
float_from_bits-greater-2 c = finite_bits _ c.requires.bits_value

pub returns-then-greater : goal.returns-then-greater
returns-then-greater c = rw c.in-Some.is (lead_taken c.in-Some.t c.args.place c.args.bits c.if-greater.true)

pub returns : goal.returns
returns c = rw c.in-Some.is (lead_left c.in-Some.t c.args.place c.args.bits c.if-greater.false)
