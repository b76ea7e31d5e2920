-- Its two tests.
use Rattle.utf8.specs.Progress.{is_plain}
use borrow.Author.Rules.{rules}
use Rattle.utf8.proofs.is_plain.Goals as goal

pub returns : goal.returns
unfolding is_plain
returns c =
    search rules
