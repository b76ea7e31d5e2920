-- By the case.
use mathlib.Core.Path.{sym, ap, ◌∙◌}
use Rattle.std.specs.Prelude.{Ok}
use Rattle.words.proofs.Laws.{answered, absent, refused}
use Rattle.words.proofs.put_found.Goals as goal

pub returns-in-Ok-Some : goal.returns-in-Ok-Some
returns-in-Ok-Some g c =
    let told = answered c.args.out.now (ap g.T.FoundWords.in_words (c.in-Ok-Some.is ∙ ap Ok c.in-Ok-Some.field-0-is) ∙ sym c.words.ensures) in
    record { value = told.0; out_after = told.1 }

pub returns-in-Ok-None : goal.returns-in-Ok-None
returns-in-Ok-None g c =
    let told = absent c.args.out.now (ap g.T.FoundWords.in_words (c.in-Ok-None.is ∙ ap Ok c.in-Ok-None.field-0-is) ∙ g.met.T.FoundWords.misses) in
    record { value = told.0; out_after = told.1 }

pub returns-in-Err : goal.returns-in-Err
returns-in-Err g c =
    let told = refused c.args.out.now c.in-Err.r _ (ap g.T.FoundWords.in_words c.in-Err.is ∙ g.met.T.FoundWords.refuses c.in-Err.r) c.from.ensures in
    record { value = told.0; out_after = told.1 }
