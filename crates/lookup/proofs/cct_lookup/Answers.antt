-- By the block.
use mathlib.Core.Path.{sym, ◌∙◌}
use Rattle.refusal.specs.Check.{on_answer}
use Rattle.refusal.proofs.Checks.{handed_on}
use Rattle.lookup.specs.Lookup.{cct_lookup}
use Rattle.lookup.proofs.Laws.{cct_sound}
use Rattle.lookup.proofs.cct_lookup.Goals as goal

pub find-requires : goal.find-requires
find-requires c = rw c.cct_shape-h.ensures (cct_sound c.args.file.now c.args.context _ (sym c.in_ok-b.ensures))

pub returns : goal.returns
unfolding cct_lookup on_answer
returns c = rw (c.find.ensures, c.cct_shape-h.ensures, ← c.in_ok-b.ensures)

pub returns-in_err-b : goal.returns-in_err-b
unfolding cct_lookup on_answer
returns-in_err-b c = handed_on c.from_residual.ensures.1 ∙ (rw (← c.in_err-b.ensures))
