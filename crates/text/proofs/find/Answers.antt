-- The check goes over just the section's bytes from the place on, and its answer decides.
use Rattle.std.specs.Prelude.{Err, Result, ℕ}
use Rattle.utf8.specs.declared.Fault.{Fault}
use Rattle.std.proofs.Common.{◌+◌, ◌≤◌, ◌≡◌, length, sym, ap, ◌∙◌, arith}
use Rattle.utf8.specs.Terminated.{terminated}
use Rattle.text.specs.String.{text_of, string_at}
use Rattle.text.proofs.Laws.{none_left, all_taken, reaches}
use Rattle.text.proofs.find.Goals as goal
use Rattle.text.proofs.find.Goals.{Else-n-eq0, After-check}

-- the bytes to check lie in the file
there : (c : Else-n-eq0) → c.args.place + c.count_from-n.result ≤ length c.args.file.now
there c = reaches _ _ _ _ c.count_from-n.ensures (omega arith)

-- what is found of them decides
decides : (c : After-check) {u : Result ℕ Fault} → c.check.result ≡ u → text_of c.args.place u ≡ string_at c.args.file.now c.args.section c.args.place
unfolding string_at
decides c e =
    let a = c.args in
    let taken = all_taken a.file.now a.section a.place c.count_from-n.result c.count_from-n.ensures (omega arith) in
    ap (text_of a.place) (sym e ∙ c.check.ensures ∙ ap terminated taken)

pub returns-then-n-eq0 : goal.returns-then-n-eq0
returns-then-n-eq0 c = none_left _ _ _ (sym c.count_from-n.ensures ∙ c.if-n-eq0.true)

pub overflow_add-to : goal.overflow_add-to
overflow_add-to c = omega (arith, there (goal.at.overflow_add-to c).Else-n-eq0)

pub slice_bounds-check-end : goal.slice_bounds-check-end
slice_bounds-check-end c = omega (arith, there (goal.at.slice_bounds-check-end c).Else-n-eq0)

pub returns-in-Ok : goal.returns-in-Ok
unfolding text_of
returns-in-Ok c = decides (goal.at.returns-in-Ok c).After-check c.in-Ok.is

pub returns-in-Err-Invalid : goal.returns-in-Err-Invalid
unfolding text_of
returns-in-Err-Invalid c = decides (goal.at.returns-in-Err-Invalid c).After-check (c.in-Err-Invalid.is ∙ ap Err c.in-Err-Invalid.field-0-is)

pub returns-in-Err-Unterminated : goal.returns-in-Err-Unterminated
unfolding text_of
returns-in-Err-Unterminated c = decides (goal.at.returns-in-Err-Unterminated c).After-check (c.in-Err-Unterminated.is ∙ ap Err c.in-Err-Unterminated.field-0-is)
