-- By where the outer id is.
use Rattle.block.proofs.Parts.{index_below}
use Rattle.block.specs.Block.{lookup_in, in_part}
use mathlib.Core.Path.{◌∙◌}
use Rattle.block.proofs.find_near.Goals as goal

pub returns-in_err-i : goal.returns-in_err-i
unfolding lookup_in in_part
returns-in_err-i c =
    rw (c.from_residual.ensures, ← c.index_near.ensures, c.in_err-i.was)

pub find_in-requires : goal.find_in-requires
find_in-requires c =
    record {
      sound_block = c.requires;
      i_lt_count = index_below c.requires c.args.outer _ c.index_near.ensures c.in_ok-i.was;
    }

pub returns : goal.returns
unfolding lookup_in
returns c =
    c.find_in.ensures ∙ rw (← c.index_near.ensures, c.in_ok-i.was)
