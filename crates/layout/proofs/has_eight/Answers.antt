-- All eight are one number's.
use Rattle.layout.proofs.Words.{all_stand}
use mathlib.Core.Path.{◌≡◌, ◌∙◌}
use lib.ListN.{length}
use borrow.Author.Rules.{rules}
use Rattle.layout.proofs.has_eight.Goals as goal

pub returns : goal.returns
returns c =
    let l : length c.args.text.now ≡ 8 = search rules in
    c.same_eight.ensures ∙ all_stand c.args.file.now c.args.at c.args.text.now 8 l
