-- The checks in their order, and then whether there is room.
use mathlib.Core.Path.{sym, ◌∙◌}
use native.Mathlib.Omega.{arith}
use borrow.Author.Tests.{le-leb, lt-leb}
use Rattle.refusal.specs.Check.{either, rule, on_answer}
use Rattle.context.proofs.Laws.{readable}
use Rattle.resume.specs.State.{visit_answer}
use Rattle.resume.proofs.visit_answer.Goals as goal

pub returns-then-not-context_rule : goal.returns-then-not-context_rule
unfolding visit_answer rule on_answer
returns-then-not-context_rule c =
    rw (sym c.context_rule.ensures ∙ c.if-not-context_rule.true)

pub visit_check-check-requires : goal.visit_check-check-requires
visit_check-check-requires c =
    readable c.args.file.now c.args.here.p c.args.here.end (sym c.context_rule.ensures ∙ c.if-not-context_rule.false) c.requires.2

pub returns-in-Err : goal.returns-in-Err
unfolding visit_answer rule on_answer
returns-in-Err c =
    rw (sym c.context_rule.ensures ∙ c.if-not-context_rule.false, sym c.visit_check-check.ensures ∙ c.in-Err.is)

pub returns-then-words-k : goal.returns-then-words-k
unfolding visit_answer rule on_answer either
returns-then-words-k c =
    rw (
      sym c.context_rule.ensures ∙ c.if-not-context_rule.false,
      sym c.visit_check-check.ensures ∙ c.in_default.is,
      lt-leb c.args.k c.args.words c.if-words-k.true,
    )

pub returns : goal.returns
unfolding visit_answer rule on_answer either
returns c =
    rw (
      sym c.context_rule.ensures ∙ c.if-not-context_rule.false,
      sym c.visit_check-check.ensures ∙ c.in_default.is,
      le-leb c.args.k c.args.words (omega (arith, c.if-words-k.false)),
    )
