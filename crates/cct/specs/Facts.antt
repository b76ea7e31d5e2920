-- Totals over one context and metric of cct.db, as facts.
use Rattle.std.specs.Prelude.{ℕ, ◌-◌, ◌<◌, List, ◌≡◌}
use Rattle.open.specs.Format as Format
use Rattle.total.specs.Facts.{Totalled}
use Rattle.block.specs.declared.Block.{Block}
use Rattle.block.specs.Block.{cct_shape, start_of, end_of, part_of, outer_ids, inner_ids, word_at}
use Rattle.lookup.specs.Demand2.{There}

-- the file opens, the context's block is there and well formed, an index has the metric, and these are the totals of its sub-array
pub record MetricTotalled (file : List ℕ) (context metric count least_of least greatest_of greatest sum : ℕ) : Type 0 where
  pub b : Block
  pub there : There Format.cct cct_shape file context b
  pub i : ℕ
  pub index : i < b.count
  pub its_metric : outer_ids file cct_shape b i ≡ metric
  pub counted : count ≡ end_of file cct_shape b i - start_of file cct_shape b i
  pub totalled : Totalled (inner_ids file cct_shape b i) (word_at 4 file (part_of file cct_shape b i)) count least_of least greatest_of greatest sum
