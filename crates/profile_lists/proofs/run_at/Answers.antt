-- The k entries from `start` on are of profile p's run, and their contexts are counted; the first that is of another profile ends it.
use Prim.Native.Nat.{◌+◌}
use mathlib.Core.Path.{◌≡◌, sym, ◌∙◌}
use native.Mathlib.Omega.{arith}
use Rattle.profile_file.proofs.Runs.{run_le}
use Rattle.profile_lists.specs.Lists.{entries_in}
use Rattle.profile_lists.proofs.Loops.{counting_none, counting_most, counting_leader, counting_other, counting_all}
use Rattle.profile_lists.proofs.run_at.Goals as goal
use Rattle.profile_lists.proofs.run_at.Goals.{then-leads_at, else-leads_at}

pub overflow_sub-k-end : goal.overflow_sub-k-end
overflow_sub-k-end c =
    omega (arith, c.requires.start_value, run_le (entries_in c.args.entries.now) c.requires.ascending c.args.p)

pub loop-k-init : goal.loop-k-init
loop-k-init c =
    counting_none (entries_in c.args.entries.now) c.requires.ascending c.args.p c.args.start c.requires.start_value

pub overflow_add-contexts : goal.overflow_add-contexts
overflow_add-contexts c =
    let most = counting_most c.loop-k.invariant c.requires.ascending in
    omega (arith, most.0, most.1)

pub returns-then-profile_of-p : goal.returns-then-profile_of-p
returns-then-profile_of-p c =
    let all = counting_all c.loop-k.invariant c.requires.ascending c.requires.start_value (λ l q. c.if-profile_of-p.true (c.profile_of.ensures ∙ q)) in
    record { end = all.0; contexts = all.1 }

pub loop-k-preserved : goal.loop-k-preserved
loop-k-preserved c =
    let of-run = sym c.profile_of.ensures ∙ c.if-profile_of-p.false in
    let leads = sym c.leads_at.ensures in
    elim c.if-leads_at.branch [
      | then-leads_at w ↦
          rw w.contexts-is (counting_leader c.loop-k.invariant c.requires.ascending (omega arith) of-run (leads ∙ w.if-leads_at.true))
      | else-leads_at w ↦
          rw w.contexts-is (counting_other c.loop-k.invariant c.requires.ascending (omega arith) of-run (leads ∙ w.if-leads_at.false))
    ]

pub returns : goal.returns
returns c =
    let last : c.args.start + c.loop-k.k ≡ (entries_in c.args.entries.now).count =
    omega (arith, c.requires.start_value, run_le (entries_in c.args.entries.now) c.requires.ascending c.args.p) in
    let all = counting_all c.loop-k.invariant c.requires.ascending c.requires.start_value (λ l q. omega arith) in
    record { end = sym last ∙ all.0; contexts = all.1 }
