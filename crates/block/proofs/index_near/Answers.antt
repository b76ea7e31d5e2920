-- By whether there are indices.
use Rattle.seq.specs.Sequence.{position}
use Rattle.block.proofs.Parts.{outer_sorted}
use Rattle.block.specs.Block.{index_of}
use native.Mathlib.Omega.{arith}
use Rattle.block.proofs.index_near.Goals as goal

pub returns-then-b-eq0 : goal.returns-then-b-eq0
unfolding index_of position
returns-then-b-eq0 c =
    rw c.if-b-eq0.true

pub search-requires : goal.search-requires
search-requires c =
    record {
      elements_inside = (c.requires.inside (omega (arith, c.if-b-eq0.false))).indices;
      sorted = outer_sorted c.requires (omega (arith, c.if-b-eq0.false));
    }

pub returns : goal.returns
unfolding index_of
returns c =
    c.search.ensures
