-- By whether it is present.
use mathlib.Core.Path.{sym, ◌∙◌}
use Rattle.refusal.specs.Check.{either}
use Rattle.context.proofs.flex_word.Goals as goal

pub present_word-requires : goal.present_word-requires
present_word-requires c =
    record {
      flags_in_bounds = c.requires.flags_in_bounds;
      j_value = sym c.requires.present_value ∙ c.if-present.true;
    }

pub returns-then-present : goal.returns-then-present
unfolding either
returns-then-present c =
    rw (← c.requires.present_value, c.if-present.true, c.present_word.ensures)

pub returns : goal.returns
unfolding either
returns c =
    rw (← c.requires.present_value, c.if-present.false)
