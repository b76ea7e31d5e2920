-- What is before `low` is not later than the time, what is from `high` on is.
use Rattle.trace.specs.Trace.{time_at}
use Prim.Native.Nat.{◌+◌, ◌-◌}
use Rattle.seq.proofs.Search.{Bracket}
use Rattle.trace.proofs.last_until.Given as goal

abbrev pub invariant-loop-low : goal.invariant-loop-low
invariant-loop-low l = Bracket (time_at l.file l.place) l.n (l.time + 1) l.low l.high

abbrev pub decreases-loop-low : goal.decreases-loop-low
decreases-loop-low l = l.high - l.low
