-- All fields stand before the one after the last.
use Rattle.flex.proofs.Count.{before_all}
use mathlib.Core.Path.{◌∙◌}
use native.Mathlib.Omega.{arith}
use Rattle.flex.proofs.words.Goals as goal

pub returns : goal.returns
returns c =
    c.before-2.ensures ∙ before_all _ 5 (omega arith)
