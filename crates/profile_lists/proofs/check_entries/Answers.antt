-- The entries up to the one at k are listed, and each of them comes before the next.
use mathlib.Core.Path.{sym, ◌∙◌}
use native.Mathlib.Omega.{arith}
use Rattle.refusal.proofs.Checks.{after_passed, after_refused, handed_on}
use Rattle.refusal.specs.Check.{rule}
use Rattle.profile_lists.specs.Lists.{entries_in}
use Rattle.profile_lists.proofs.Loops.{none_listed, none_sorted, checking_first, checking_more, checking_all}
use Rattle.profile_lists.proofs.check_entries.Goals as goal

pub returns-then-n-eq0 : goal.returns-then-n-eq0
unfolding rule
returns-then-n-eq0 c =
    let e = entries_in c.args.entries.now in
    rw (none_listed e c.args.profiles c.if-n-eq0.true, none_sorted e c.if-n-eq0.true)

pub loop-k-init : goal.loop-k-init
loop-k-init c =
    rw c.profile_of.ensures (checking_first (entries_in c.args.entries.now) c.args.profiles (omega arith))

pub loop-k-preserved : goal.loop-k-preserved
loop-k-preserved c =
    rw (c.profile_of-in-loop-k.ensures, c.in_order-sorted.ensures) (checking_more c.loop-k.invariant (omega arith))

pub returns : goal.returns
returns c =
    let all = checking_all c.loop-k.invariant (omega arith) in
    rw (← all.0, ← all.1) (after_passed (sym c.in_ok-rule.ensures) c.rule-2.ensures)

pub returns-in_err-rule : goal.returns-in_err-rule
returns-in_err-rule c =
    let all = checking_all c.loop-k.invariant (omega arith) in
    rw (← all.0, ← all.1) (handed_on c.from_residual.ensures.1 ∙ after_refused _ (sym c.in_err-rule.ensures))
