-- The order rule as facts. A block keeps it exactly if they hold (proofs/Order.antt).
use Rattle.std.specs.Prelude.{ℕ, ◌-◌, ◌≤◌, ◌<◌, List, ◌≡◌}
use Rattle.seq.specs.Sequence.{Sorted}
use Rattle.block.specs.declared.Shape.{Shape}
use Rattle.block.specs.declared.Block.{Block}
use Rattle.block.specs.Block.{start_of, end_of, outer_ids, inner_ids}

pub record OrderKept (file : List ℕ) (h : Shape) (b : Block) : Type 0 where
  pub first_start : start_of file h b 0 ≡ 0
  pub starts_increase : Sorted (start_of file h b) b.count
  pub starts_below : (i : ℕ) → i < b.count → start_of file h b i < b.total
  pub outer_increase : Sorted (outer_ids file h b) b.count
  pub inner_increase : (i : ℕ) → i < b.count → Sorted (inner_ids file h b i) (end_of file h b i - start_of file h b i)
  pub inner_least : (i : ℕ) → i < b.count → (k : ℕ) → k < end_of file h b i - start_of file h b i → h.least ≤ inner_ids file h b i k
