-- By the case.
use mathlib.Core.Path.{sym, ap, ◌∙◌}
use Rattle.words.proofs.Laws.{answered, refused}
use Rattle.words.proofs.put.Goals as goal

pub returns-in-Ok : goal.returns-in-Ok
returns-in-Ok g c =
    let told = answered c.args.out.now (ap g.T.Words.in_words c.in-Ok.is ∙ sym c.words.ensures) in
    record { value = told.0; out_after = told.1 }

pub returns-in-Err : goal.returns-in-Err
returns-in-Err g c =
    let told = refused c.args.out.now c.in-Err.r _ (ap g.T.Words.in_words c.in-Err.is ∙ g.met.T.Words.refuses c.in-Err.r) c.from.ensures in
    record { value = told.0; out_after = told.1 }
