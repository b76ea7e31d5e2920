-- By whether the file opens.
use Rattle.traversal.specs.Walk.{slices, unmarked}
use Rattle.traversal.proofs.Unmarked.{unmarked_check}
use Rattle.traversal.proofs.Untouched.{refused_untouched}
use Rattle.open.proofs.Answer.{told, sections}
use Rattle.open.specs.Format.{meta}
use mathlib.Core.Path.{◌∙◌}
use Rattle.walk.proofs.records.Goals as goal

pub walk_in-requires : goal.walk_in-requires
walk_in-requires c =
    sections (rw c.in-Ok.is at c.open_meta.ensures)

pub returns-in-Err : goal.returns-in-Err
returns-in-Err c =
    refused_untouched c.args.file.now unmarked (slices c.args.listing.now c.args.table.now c.args.records.now) c.in-Err.r
    (unmarked_check c.args.file.now _ ∙ told meta _ (rw c.in-Err.is at c.open_meta.ensures))
