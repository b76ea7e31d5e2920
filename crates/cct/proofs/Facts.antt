-- Totals that are answered are those of the metric's sub-array in the context's block, which is there and well formed.
use Rattle.std.specs.Prelude.{Err, None, Ok, Option, Some}
use Rattle.refusal.specs.Check.{Answer, on_answer}
use Rattle.total.specs.declared.Totals.{Totals}
use Rattle.total.specs.Totals.{given_totals}
use Prim.Native.Nat.{ℕ, ◌-◌}
use mathlib.Core.List.{List}
use mathlib.Core.Path.{◌≡◌, refl}
use native.Mathlib.Omega.{arith}
use Rattle.total.proofs.Facts.{totalled}
use Rattle.block.specs.declared.Block.{Block}
use Rattle.block.specs.Block.{cct_shape, start_of, end_of, part_of, part_at, inner_ids, word_at, index_of}
use Rattle.block.proofs.Facts.{index_is}
use Rattle.lookup.specs.Lookup.{cct_block}
use Rattle.lookup.proofs.Demand2.{cct_there_iff}
use Rattle.cct.specs.Totals.{part_totals, at_index, totals_in, cct_totals}
use Rattle.cct.specs.Facts.{MetricTotalled}

module _ (file : List ℕ) (context metric count least_of least greatest_of greatest sum : ℕ) where
  abbrev answer : Answer (Option Totals)
  answer = given_totals count least_of least greatest_of greatest sum

  in_block : (b : Block) → cct_block file context ≡ Ok b → (p : Option ℕ) → index_of file cct_shape b metric ≡ p
      → at_index file cct_shape b p ≡ answer → MetricTotalled file context metric count least_of least greatest_of greatest sum
  unfolding at_index part_totals part_at
  in_block b v (Some i) p e =
      let t = totalled (inner_ids file cct_shape b i) (word_at 4 file (part_of file cct_shape b i)) (end_of file cct_shape b i - start_of file cct_shape b i)
      count least_of least greatest_of greatest sum e in
      record {
        b = b;
        there = (cct_there_iff file context b).0 v;
        i = i;
        index = (index_is file cct_shape b metric i p).0;
        its_metric = (index_is file cct_shape b metric i p).1;
        counted = t.0;
        totalled = rw t.0 t.1;
      }
  in_block b v None p e = absurd (let z : ◌≡◌ {A = ℕ} 0 1 = cc in omega arith)

  -- totals are answered only of a file that opens, with a well-formed block of the context that has the metric, and are those of its values
  pub metric_totalled : cct_totals file context metric ≡ given_totals count least_of least greatest_of greatest sum
      → MetricTotalled file context metric count least_of least greatest_of greatest sum
  unfolding cct_totals on_answer totals_in
  metric_totalled = go (cct_block file context) refl
    where
      go : (c : Answer Block) → cct_block file context ≡ c → on_answer Err c (λ b. totals_in file cct_shape b metric) ≡ answer
          → MetricTotalled file context metric count least_of least greatest_of greatest sum
      go (Ok b) v e = in_block b v (index_of file cct_shape b metric) refl e
      go (Err r) v e = absurd (let z : ◌≡◌ {A = ℕ} 0 1 = cc in omega arith)
