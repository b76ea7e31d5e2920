-- What one pass over the indices tests, for the contracts of the functions that make it. It is the order rule (proofs/Order.antt).
use Rattle.std.specs.Prelude.{ℕ, ◌-◌, Bool, ◌&&◌, List, ltb, leb, eqb}
use Rattle.seq.specs.Sequence.{every, rises}
use Rattle.block.specs.declared.Shape.{Shape}
use Rattle.block.specs.declared.Block.{Block}
use Rattle.block.specs.Block.{start_of, end_of, outer_ids, inner_ids}

module _ (file : List ℕ) (h : Shape) (b : Block) where
  -- sub-array i has values, ends within them all, and its ids increase
  unfoldable pub part_rule : (i : ℕ) → Bool
  part_rule i =
      ltb (start_of file h b i) (end_of file h b i)
      && (leb (end_of file h b i) b.total && rises h.least 1 (inner_ids file h b i) (end_of file h b i - start_of file h b i))

  unfoldable pub one_pass : Bool
  one_pass =
      eqb (start_of file h b 0) 0 && (rises 0 1 (outer_ids file h b) b.count && every part_rule b.count)
