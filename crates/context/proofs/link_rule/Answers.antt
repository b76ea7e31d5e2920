-- By whether the link is present.
use mathlib.Core.Path.{sym, ◌∙◌}
use Rattle.refusal.specs.Check.{either}
use Rattle.context.specs.Context.{link_rule}
use Rattle.context.proofs.link_rule.Goals as goal

pub present_word-link-requires : goal.present_word-link-requires
present_word-link-requires c =
    record {
      flags_in_bounds = c.requires.flags_in_bounds;
      j_value = sym c.requires.present_value ∙ c.if-present.true;
    }

pub returns-then-present : goal.returns-then-present
unfolding link_rule either
returns-then-present c =
    rw (
      ← c.requires.present_value,
      c.if-present.true,
      c.is_element.ensures,
      c.present_word-link.ensures,
    )

pub returns : goal.returns
unfolding link_rule either
returns c =
    rw (← c.requires.present_value, c.if-present.false)
