-- Totals over one context and metric of cct.db: of the sub-array of the metric in the context's block.
use Rattle.refusal.specs.Check.{Answer, Absent, on_answer}
use Rattle.total.specs.declared.Totals.{Totals}
use Rattle.std.specs.Prelude.{ℕ, List, Err, None, Option, Some}
use Rattle.total.specs.Totals.{totals_of}
use Rattle.block.specs.declared.Shape.{Shape}
use Rattle.block.specs.declared.Block.{Block}
use Rattle.block.specs.declared.Part.{Part}
use Rattle.block.specs.Block.{cct_shape, id_at, word_at, part_at, index_of}
use Rattle.lookup.specs.Lookup.{cct_block}

-- of a sub-array: its ids, and the bits beside them
unfoldable pub part_totals : List ℕ → Shape → Part → Answer (Option Totals)
part_totals file h p = totals_of (id_at h.inner file p.place) (word_at h.inner file p.place) p.length

-- of an outer id of a block; absent where it has no index
unfoldable pub at_index : List ℕ → Shape → Block → Option ℕ → Answer (Option Totals)
at_index file h b (Some i) = part_totals file h (part_at file h b i)
at_index file h b None = Absent

unfoldable pub totals_in : List ℕ → Shape → Block → (outer : ℕ) → Answer (Option Totals)
totals_in file h b outer = at_index file h b (index_of file h b outer)

unfoldable pub cct_totals : List ℕ → (context metric : ℕ) → Answer (Option Totals)
cct_totals file context metric = on_answer Err (cct_block file context) (λ b. totals_in file cct_shape b metric)
