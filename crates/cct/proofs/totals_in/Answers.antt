-- By where the outer id is.
use Rattle.block.proofs.Parts.{index_below}
use Rattle.cct.specs.Totals.{at_index, totals_in}
use mathlib.Core.Path.{◌∙◌}
use Rattle.cct.proofs.totals_in.Goals as goal

pub returns-in_default : goal.returns-in_default
unfolding totals_in at_index
returns-in_default c =
    rw (← c.index_of.ensures, c.in_default.is)

pub part_at-requires : goal.part_at-requires
part_at-requires c =
    record {
      sound_block = c.requires;
      i_lt_count = index_below c.requires c.args.outer _ c.index_of.ensures c.in-Some.is;
    }

pub part_totals-requires : goal.part_totals-requires
part_totals-requires c =
    c.part_at.ensures.sound_part

pub returns : goal.returns
unfolding totals_in at_index
returns c =
    c.part_totals.ensures ∙ rw (← c.index_of.ensures, c.in-Some.is, ← c.part_at.ensures.value)
