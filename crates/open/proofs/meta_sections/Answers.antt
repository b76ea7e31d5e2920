-- Entry by entry, or none of them.
use Rattle.open.specs.Format.{meta}
use Rattle.open.specs.Opening.{pairs, pairs_from, blank}
use Rattle.open.proofs.Answer.{read_all, read_none}
use Rattle.open.proofs.meta_sections.Goals as goal

pub returns-then-file-lt144 : goal.returns-then-file-lt144
unfolding pairs pairs_from blank
returns-then-file-lt144 c =
    read_none meta _ c.if-file-lt144.true

pub returns : goal.returns
unfolding pairs pairs_from
returns c =
    rw (
      c.pair_at.ensures,
      c.pair_at-2.ensures,
      c.pair_at-3.ensures,
      c.pair_at-4.ensures,
      c.pair_at-5.ensures,
      c.pair_at-6.ensures,
      c.pair_at-7.ensures,
      c.pair_at-8.ensures,
    ) (read_all meta _ c.if-file-lt144.false)
