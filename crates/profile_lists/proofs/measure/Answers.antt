-- The blocks of the profiles passed are measured, and the next run starts at `start`.
-- No sum wraps, as a block has no more bytes than its entries.
use Prim.Native.Nat.{◌+◌, ◌*◌, ◌-◌, ◌%◌, ◌≤◌}
use native.Mathlib.Omega.{arith}
use Rattle.profile_lists.specs.Lists.{entries_in}
use Rattle.profile_lists.proofs.Loops.{measured_none, measured_more, measured_refused, measured_all, turn_most}
use Rattle.refusal.proofs.Checks.{handed_on}
use mathlib.Core.Path.{◌∙◌}
use Rattle.profile_lists.proofs.measure.Goals as goal
use Rattle.profile_lists.proofs.measure.Goals.{After-run_at-run}

pub loop-p-init : goal.loop-p-init
loop-p-init c =
    measured_none (entries_in c.args.entries.now) c.requires.ascending c.args.profiles

most : (c : After-run_at-run) → (c.loop-p.start ≤ c.run_at-run.result.end)
    × (c.loop-p.bytes + (c.run_at-run.result.end - c.loop-p.start) * 10 + 2 * ((c.run_at-run.result.end - c.loop-p.start) % 2)
    + c.run_at-run.result.contexts * 12 ≤ (entries_in c.args.entries.now).count * 24)
most c = turn_most c.loop-p.invariant c.requires.ascending c.loop-p-test.true c.run_at-run.ensures.end c.run_at-run.ensures.contexts

pub overflow_sub-held : goal.overflow_sub-held
overflow_sub-held c = (most (goal.at.overflow_sub-held c).After-run_at-run).0

pub overflow_mul-bytes : goal.overflow_mul-bytes
overflow_mul-bytes c = omega (arith, most (goal.at.overflow_mul-bytes c).After-run_at-run)

pub overflow_add-bytes : goal.overflow_add-bytes
overflow_add-bytes c = omega (arith, most (goal.at.overflow_add-bytes c).After-run_at-run)

pub overflow_add-bytes-in-loop-p : goal.overflow_add-bytes-in-loop-p
overflow_add-bytes-in-loop-p c = omega (arith, most (goal.at.overflow_add-bytes-in-loop-p c).After-run_at-run)

pub overflow_mul-bytes-in-loop-p-2 : goal.overflow_mul-bytes-in-loop-p-2
overflow_mul-bytes-in-loop-p-2 c = omega (arith, most (goal.at.overflow_mul-bytes-in-loop-p-2 c).After-run_at-run)

pub overflow_add-bytes-in-loop-p-2 : goal.overflow_add-bytes-in-loop-p-2
overflow_add-bytes-in-loop-p-2 c = omega (arith, most (goal.at.overflow_add-bytes-in-loop-p-2 c).After-run_at-run)

pub loop-p-preserved : goal.loop-p-preserved
loop-p-preserved c =
    measured_more c.loop-p.invariant c.requires.ascending c.loop-p-test.true c.run_at-run.ensures.end c.run_at-run.ensures.contexts c.in_ok-rule.ensures

pub returns : goal.returns
returns c = measured_all c.loop-p.invariant c.loop-p-test.false

pub returns-in_err-rule : goal.returns-in_err-rule
returns-in_err-rule c =
    handed_on c.from_residual.ensures.1
    ∙ measured_refused c.loop-p.invariant c.requires.ascending c.loop-p-test.true c.run_at-run.ensures.end c.run_at-run.ensures.contexts
    c.in_err-rule.ensures
