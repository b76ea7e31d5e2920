-- By the case.
use Rattle.traversal.specs.Walk.{walked_words}
use Rattle.words.proofs.put_walked.Goals as goal

pub returns-in-Complete : goal.returns-in-Complete
unfolding walked_words
returns-in-Complete c =
    rw c.in-Complete.is

pub returns-in-Truncated : goal.returns-in-Truncated
unfolding walked_words
returns-in-Truncated c =
    rw c.in-Truncated.is

pub returns-in-Refused : goal.returns-in-Refused
unfolding walked_words
returns-in-Refused c =
    rw (c.from.ensures, c.in-Refused.is)
