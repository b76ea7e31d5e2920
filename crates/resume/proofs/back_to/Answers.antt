-- Behind the bytes that the context takes, in the array below `up` others.
use Prim.Native.Nat.{◌+◌}
use native.Mathlib.Numerals.{add-one}
use native.Mathlib.Omega.{arith}
use lib.ListN.{get_or}
use Rattle.resume.specs.Way.{Lies, back_to}
use Rattle.resume.proofs.Counting.{lies_fields}
use Rattle.resume.proofs.back_to.Goals as goal

pub extent-requires : goal.extent-requires
extent-requires c =
    rw (add-one c.args.up) (lies_fields c.requires.lies_below_2)

pub overflow_add-result : goal.overflow_add-result
overflow_add-result c =
    let lies : Lies c.args.file.now (get_or c.args.way.now (c.args.up + 1) 0) = rw (add-one c.args.up) c.requires.lies_below_2 in
    omega (arith, lies.itself, c.extent.ensures)

pub end_of-requires : goal.end_of-requires
end_of-requires c =
    record {
      up_bound = omega (arith, c.requires.up_bound);
      lies_below = c.requires.lies_below;
    }

pub returns : goal.returns
unfolding back_to
returns c =
    rw (c.end_of.ensures, c.extent.ensures, add-one c.args.up)
