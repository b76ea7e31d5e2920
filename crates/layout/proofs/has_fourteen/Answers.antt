-- Twice eight bytes, two of them in both.
use Rattle.layout.proofs.Words.{fourteen_stand}
use mathlib.Core.Path.{◌≡◌}
use lib.ListN.{length}
use borrow.Author.Rules.{rules}
use Rattle.layout.proofs.has_fourteen.Goals as goal

pub returns : goal.returns
returns c =
    let l : length c.args.text.now ≡ 14 = search rules in
    rw (c.same_eight.ensures, c.same_eight-2.ensures)
    (fourteen_stand c.args.file.now c.args.at c.args.text.now l)
