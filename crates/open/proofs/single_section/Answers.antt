-- Entry by entry, or none of them.
use Rattle.open.specs.Format.{cct, trace}
use Rattle.open.specs.Opening.{pairs, pairs_from, blank}
use Rattle.open.proofs.Answer.{read_all, read_none}
use Rattle.open.proofs.single_section.Goals as goal

pub returns-then-file-lt32 : goal.returns-then-file-lt32
unfolding pairs pairs_from blank
returns-then-file-lt32 c =
    record {
      value = read_none cct _ c.if-file-lt32.true;
      value_2 = read_none trace _ c.if-file-lt32.true;
    }

pub returns : goal.returns
unfolding pairs pairs_from
returns c =
    record {
      value = rw c.pair_at.ensures (read_all cct _ c.if-file-lt32.false);
      value_2 = rw c.pair_at.ensures (read_all trace _ c.if-file-lt32.false);
    }
