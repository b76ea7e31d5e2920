-- What is before `low` is not later than the time, what is from `high` on is.
use Rattle.trace.specs.Trace.{time_at}
use Prim.Native.Nat.{◌+◌, ◌-◌, ◌/◌}
use native.Mathlib.Omega.{arith}
use mathlib.Core.Path.{sym}
use Rattle.seq.proofs.Search.{bracket_start, bracket_up, bracket_down, bracket_before, bracket_last}
use Rattle.trace.proofs.last_until.Goals as goal

pub loop-low-init : goal.loop-low-init
loop-low-init c =
    bracket_start (time_at c.args.file.now c.args.place) c.args.n (c.args.time + 1)

pub overflow_add-middle : goal.overflow_add-middle
overflow_add-middle c =
    omega (arith, c.loop-low.invariant.hi_le)

pub time_at-requires : goal.time_at-requires
time_at-requires c =
    record {
      samples_inside = c.requires.samples;
      k_lt_n = omega (arith, c.loop-low.invariant.hi_le);
    }

pub overflow_add-low : goal.overflow_add-low
overflow_add-low c =
    omega (arith, c.loop-low.invariant.hi_le)

pub loop-low-smaller-then-time_at-time : goal.loop-low-smaller-then-time_at-time
loop-low-smaller-then-time_at-time c =
    omega arith

pub loop-low-preserved-then-time_at-time : goal.loop-low-preserved-then-time_at-time
loop-low-preserved-then-time_at-time c =
    bracket_up c.requires.times c.loop-low.invariant (c.loop-low.low + (c.loop-low.high - c.loop-low.low) / 2) (omega arith) (omega arith)
    (omega (arith, rw c.time_at.ensures at c.if-time_at-time.true))

pub loop-low-smaller : goal.loop-low-smaller
loop-low-smaller c =
    omega arith

pub loop-low-preserved : goal.loop-low-preserved
loop-low-preserved c =
    bracket_down c.requires.times c.loop-low.invariant (c.loop-low.low + (c.loop-low.high - c.loop-low.low) / 2) (omega arith) (omega arith)
    (omega (arith, rw c.time_at.ensures at c.if-time_at-time.false))

pub returns-then-low-eq0 : goal.returns-then-low-eq0
returns-then-low-eq0 c =
    sym (bracket_before c.args.time c.loop-low.invariant c.loop-low-test.false c.if-low-eq0.true)

pub returns-else-low-eq0 : goal.returns-else-low-eq0
returns-else-low-eq0 c =
    sym (bracket_last c.args.time c.loop-low.invariant c.loop-low-test.false (omega (arith, c.if-low-eq0.false)))
