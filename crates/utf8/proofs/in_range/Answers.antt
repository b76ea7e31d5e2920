-- The range's two tests.
use Rattle.utf8.specs.Grammar.{in_range}
use borrow.Author.Rules.{rules}
use Rattle.utf8.proofs.in_range.Goals as goal

pub returns : goal.returns
unfolding in_range
returns c =
    search rules
