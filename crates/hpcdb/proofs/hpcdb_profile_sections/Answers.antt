-- By whether the file opens.
use mathlib.Core.Path.{sym, ◌∙◌}
use Rattle.open.specs.Format as Format
use Rattle.hpcdb.proofs.Laws.{two_flat, sections_answered, sections_refused}
use Rattle.hpcdb.proofs.hpcdb_profile_sections.Goals as goal

pub returns-in-Ok : goal.returns-in-Ok
returns-in-Ok c =
    let all = sections_answered _ Format.profile c.args.out.now (sym c.in-Ok.is ∙ c.open_profile.ensures) (two_flat _ _) in
    record { value = all.0; out_after = all.1 }

pub returns-in-Err : goal.returns-in-Err
returns-in-Err c =
    let all = sections_refused _ Format.profile c.args.out.now (sym c.in-Err.is ∙ c.open_profile.ensures) c.from.ensures in
    record { value = all.0; out_after = all.1 }
