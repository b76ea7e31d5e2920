-- By the tuple.
use Rattle.refusal.specs.Check.{on_answer}
use Rattle.refusal.proofs.Checks.{handed_on}
use Rattle.tuple.proofs.Fits.{tuple_bounded}
use Rattle.tuple.specs.Tuple.{identifier_at}
use mathlib.Core.Path.{sym, ◌∙◌}
use native.Mathlib.Omega.{arith}
use Rattle.tuple.proofs.identifier_at.Goals as goal

pub identifier_in-requires : goal.identifier_in-requires
identifier_in-requires c =
    tuple_bounded c.args.file.now (omega arith) c.args.profile _ (sym c.tuple_at.ensures ∙ c.in_ok-a.was)

pub returns : goal.returns
unfolding identifier_at on_answer
returns c =
    rw (c.identifier_in.ensures, ← c.tuple_at.ensures, c.in_ok-a.was)

pub returns-in_err-a : goal.returns-in_err-a
unfolding identifier_at on_answer
returns-in_err-a c =
    handed_on c.from_residual.ensures.1 ∙ (rw (← c.tuple_at.ensures, c.in_err-a.was))
