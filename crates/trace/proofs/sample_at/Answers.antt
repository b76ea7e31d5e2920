-- By the line.
use mathlib.Core.Path.{sym, ◌∙◌}
use Rattle.refusal.specs.Check.{on_answer}
use Rattle.refusal.proofs.Checks.{handed_on}
use Rattle.trace.proofs.Lines.{line_sound}
use Rattle.trace.specs.Trace.{sample_at}
use Rattle.trace.proofs.sample_at.Goals as goal

pub sample_in-requires : goal.sample_in-requires
sample_in-requires c = (line_sound c.args.file.now c.args.i _ _ _ (sym c.in_ok-line.ensures)).samples

pub returns : goal.returns
unfolding sample_at on_answer
returns c = rw (c.sample_in.ensures, ← c.in_ok-line.ensures)

pub returns-in_err-line : goal.returns-in_err-line
unfolding sample_at on_answer
returns-in_err-line c = handed_on c.from_residual.ensures.1 ∙ (rw (← c.in_err-line.ensures))
