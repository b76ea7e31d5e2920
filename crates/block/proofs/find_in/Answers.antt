-- By where the id is in the sub-array.
use Rattle.std.specs.Prelude.{Some}
use Rattle.block.specs.Block.{in_part, value_at}
use Rattle.seq.proofs.Search.{position_below}
use mathlib.Core.Path.{sym, ap, ◌∙◌}
use Rattle.block.proofs.find_in.Goals as goal

pub returns-in_err-k : goal.returns-in_err-k
unfolding in_part value_at
returns-in_err-k c =
    rw (c.from_residual.ensures, ← c.part_at-part.ensures.value, ← c.search.ensures, c.in_err-k.was)

pub word_at-requires : goal.word_at-requires
word_at-requires c =
    record {
      elements_inside = c.part_at-part.ensures.sound_part.elements;
      k_lt_n = position_below _ c.args.inner c.part_at-part.result.length c.in_ok-k.k (sym c.search.ensures ∙ c.in_ok-k.was);
    }

pub returns : goal.returns
unfolding in_part value_at
returns c =
    ap Some c.word_at.ensures ∙ rw (← c.part_at-part.ensures.value, ← c.search.ensures, c.in_ok-k.was)
