-- By the block.
use Rattle.refusal.proofs.Checks.{handed_on}
use Rattle.refusal.specs.Check.{on_answer}
use Rattle.lookup.proofs.Laws.{cct_sound}
use Rattle.cct.specs.Totals.{cct_totals}
use mathlib.Core.Path.{sym, ◌∙◌}
use Rattle.cct.proofs.totals.Goals as goal

pub totals_in-requires : goal.totals_in-requires
totals_in-requires c =
    rw c.cct_shape-h.ensures (cct_sound c.args.file.now c.args.context _ (sym c.cct_block.ensures ∙ c.in_ok-b.was))

pub returns : goal.returns
unfolding cct_totals on_answer
returns c =
    rw (c.totals_in.ensures, c.cct_shape-h.ensures, ← c.cct_block.ensures, c.in_ok-b.was)

pub returns-in_err-b : goal.returns-in_err-b
unfolding cct_totals on_answer
returns-in_err-b c =
    handed_on c.from_residual.ensures.1 ∙ (rw (← c.cct_block.ensures, c.in_err-b.was))
