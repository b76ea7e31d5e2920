-- Behind the head a turn writes the number of one level, and then reads where the array on the next starts.
use Prim.Native.Nat.{◌+◌}
use native.Mathlib.Omega.{arith}
use lib.ListN.{get_or}
use Rattle.visit.proofs.Checks.{place_read}
use Rattle.resume.proofs.Writing.{marked_start, marked_more, marked_end}
use Rattle.resume.proofs.put_mark.Goals as goal

pub loop-d-init : goal.loop-d-init
loop-d-init c = marked_start c.args.file.now c.args.start c.args.way.now c.put_head.new.out

pub loop-d-preserved : goal.loop-d-preserved
loop-d-preserved c =
    let next = place_read c.args.file.now (get_or c.args.way.now (c.loop-d.d + 1) 0) c.load_u64-from.result c.load_u64-from.ensures in
    marked_more c.args.file.now c.args.start c.args.way.now c.loop-d.invariant c.number_of-n.result c.put_number.new.out
    c.load_u64-from.result c.loop-d-test.true c.number_of-n.ensures c.put_number.ensures next

pub returns : goal.returns
returns c =
    marked_end c.args.file.now c.args.start c.args.way.now c.loop-d.invariant c.args.out.now c.put_head.ensures
    (omega (arith, c.loop-d-test.false))
