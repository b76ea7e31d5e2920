-- Entry by entry, or none of them.
use Rattle.open.specs.Format.{profile}
use Rattle.open.specs.Opening.{pairs, pairs_from, blank}
use Rattle.open.proofs.Answer.{read_all, read_none}
use Rattle.open.proofs.profile_sections.Goals as goal

pub returns-then-file-lt48 : goal.returns-then-file-lt48
unfolding pairs pairs_from blank
returns-then-file-lt48 c =
    read_none profile _ c.if-file-lt48.true

pub returns : goal.returns
unfolding pairs pairs_from
returns c =
    rw (c.pair_at.ensures, c.pair_at-2.ensures) (read_all profile _ c.if-file-lt48.false)
