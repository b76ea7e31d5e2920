-- A block as facts: rule 7 clause by clause, the whole block, and what it holds.
use Rattle.std.specs.Prelude.{ℕ, ◌+◌, ◌-◌, ◌*◌, ◌%◌, ◌≤◌, ◌<◌, List, ◌⊎◌, ◌≡◌}
use Rattle.outside.specs.Facts.{LiesOutside}
use Rattle.block.specs.declared.Shape.{Shape}
use Rattle.block.specs.declared.Block.{Block}
use Rattle.block.specs.Block.{start_of, end_of, part_of, outer_ids, inner_ids, word_at}
use Rattle.block.specs.OrderKept.{OrderKept}

-- 7
pub record RangesKept (file : List ℕ) (h : Shape) (sections : List (List ℕ)) (b : Block) : Type 0 where
  pub values_aligned : b.values % 2 ≡ 0
  pub indices_aligned : b.indices % 4 ≡ 0
  pub values_lie : LiesOutside file h.header sections b.values (b.total * (h.inner + 8))
  pub indices_lie : LiesOutside file h.header sections b.indices (b.count * (h.outer + 8))
  pub values_first : b.values + b.total * (h.inner + 8) ≤ b.indices
  pub some_value : 1 ≤ b.total

-- without indices there is no value; with some, 7 and then 11 hold
abbrev pub Empty : Block → Type 0
Empty b = (b.count ≡ 0) × (b.total ≡ 0)

pub record Filled (file : List ℕ) (h : Shape) (sections : List (List ℕ)) (b : Block) : Type 0 where
  pub some_index : 0 < b.count
  pub ranges : RangesKept file h sections b
  pub order : OrderKept file h b

abbrev pub WellFormed : List ℕ → Shape → (sections : List (List ℕ)) → Block → Type 0
WellFormed file h sections b = Empty b ⊎ Filled file h sections b

-- a block holds a pair of ids with these bits: an index has the outer id, and a value of its sub-array the inner id and the bits
pub record Holds (file : List ℕ) (h : Shape) (b : Block) (outer inner bits : ℕ) : Type 0 where
  pub i : ℕ
  pub index : i < b.count
  pub outer_id : outer_ids file h b i ≡ outer
  pub k : ℕ
  pub value : k < end_of file h b i - start_of file h b i
  pub inner_id : inner_ids file h b i k ≡ inner
  pub stored : word_at h.inner file (part_of file h b i) k ≡ bits
