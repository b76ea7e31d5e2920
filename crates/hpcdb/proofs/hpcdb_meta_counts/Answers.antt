-- By whether the file opens.
use mathlib.Core.Path.{sym, ◌∙◌}
use Rattle.words.proofs.Laws.{answered}
use Rattle.hpcdb.proofs.Laws.{counts_told, counts_refused}
use Rattle.hpcdb.proofs.hpcdb_meta_counts.Goals as goal

pub returns-in-Ok : goal.returns-in-Ok
returns-in-Ok c =
    let all = answered c.args.out.now (counts_told c.args.file.now (sym c.in-Ok.is ∙ c.counts.ensures)) in
    record { value = all.0; out_after = all.1 }

pub returns-in-Err : goal.returns-in-Err
returns-in-Err c =
    let all = counts_refused c.args.file.now (sym c.in-Err.is ∙ c.counts.ensures) c.from.ensures c.args.out.now in
    record { value = all.0; out_after = all.1 }
