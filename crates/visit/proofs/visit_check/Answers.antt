-- The checks, put for their definitions, in their order.
use mathlib.Core.Path.{sym, ◌∙◌}
use Rattle.refusal.specs.Check.{rule}
use Rattle.open.specs.Opening.{field}
use Rattle.visit.specs.Visit.{checks_after10}
use Rattle.visit.proofs.visit_check.Goals as goal

pub returns-then-not-links_rule : goal.returns-then-not-links_rule
unfolding checks_after10 rule
returns-then-not-links_rule c =
    rw (sym c.links_rule.ensures ∙ c.if-not-links_rule.true)

pub returns-then-not-children_rule : goal.returns-then-not-children_rule
unfolding checks_after10 rule
returns-then-not-children_rule c =
    rw (sym c.links_rule.ensures ∙ c.if-not-links_rule.false, sym c.children_rule.ensures ∙ c.if-not-children_rule.true)

pub returns : goal.returns
unfolding checks_after10 rule field
returns c =
    rw (
      sym c.links_rule.ensures ∙ c.if-not-links_rule.false,
      sym c.children_rule.ensures ∙ c.if-not-children_rule.false,
      c.slot_check.ensures,
      c.load_u32-id.ensures,
    )
