-- A turn passes one context of the array, until the place is reached.
use native.Mathlib.Omega.{arith}
use Rattle.context.proofs.Siblings.{takes_some}
use Rattle.resume.proofs.Counting.{extent_most, numbered_start, numbered_small, numbered_more, numbered_end}
use Rattle.resume.proofs.number_of.Goals as goal

pub loop-q-init : goal.loop-q-init
loop-q-init c =
    numbered_start c.args.file.now c.args.start c.args.p

pub extent-q-requires : goal.extent-q-requires
extent-q-requires c =
    omega (arith, c.loop-q-test.true, c.requires)

pub overflow_add-q : goal.overflow_add-q
overflow_add-q c =
    let most = extent_most c.args.file.now (λ k. (c.shared_slice_known-1.given k).fits) c.loop-q.q in
    omega (arith, most, c.extent-q.ensures, c.loop-q-test.true, c.requires)

pub overflow_add-n : goal.overflow_add-n
overflow_add-n c =
    omega (arith, numbered_small c.loop-q.invariant, c.loop-q-test.true, c.ranges.p.fits)

pub loop-q-smaller : goal.loop-q-smaller
loop-q-smaller c =
    let some = takes_some c.args.file.now c.loop-q.q in
    omega (arith, some, c.extent-q.ensures, c.loop-q-test.true)

pub loop-q-preserved : goal.loop-q-preserved
loop-q-preserved c =
    numbered_more c.loop-q.invariant c.extent-q.result c.extent-q.ensures c.loop-q-test.true

pub returns : goal.returns
returns c =
    numbered_end c.loop-q.invariant (omega (arith, c.loop-q-test.false))
