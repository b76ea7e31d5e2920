-- What the range rule gives: both arrays inside the file; a well-formed block is sound; and what its check answers, step by step.
use Rattle.std.specs.Prelude.{Err}
use Prim.Native.Nat.{ℕ, ◌<◌}
use mathlib.Core.Bool.{true, false}
use mathlib.Core.List.{List}
use mathlib.Core.Logic.{inl, inr}
use mathlib.Core.Path.{◌≡◌, sym, ◌∙◌}
use native.Mathlib.Omega.{arith}
use borrow.Author.Tests.{eq-eqb, ne_eqb}
use lib.Dec.{eqb}
use Rattle.refusal.specs.declared.Refusal.TheVariants as No
use Rattle.refusal.specs.Check.{either, rule, first}
use Rattle.block.specs.declared.Shape.{Shape}
use Rattle.block.specs.declared.Block.{Block}
use Rattle.block.specs.Block.{range_rule, order_rule, block_check}
use Rattle.block.specs.Sound.{Widths, ArraysInside, SoundBlock}
use Rattle.block.specs.Facts.{RangesKept, WellFormed}
use Rattle.block.proofs.Order.{facts_order}
use Rattle.block.proofs.Facts.{ranges_iff}

module _ (file : List ℕ) (h : Shape) (sections : List (List ℕ)) (b : Block) where
  inside : RangesKept file h sections b → Widths h → 0 < b.count → ArraysInside file h b
  inside k w z = record {
    indices = record { width = w.0; ends = omega (arith, k.indices_lie.before) };
    values = record { width = w.1; ends = omega (arith, k.values_lie.before) };
    some_index = z;
  }

  pub arrays_inside : range_rule file h sections b ≡ true → Widths h → 0 < b.count → ArraysInside file h b
  arrays_inside e = inside ((ranges_iff file h sections b).0 e)

  pub sound : Widths h → WellFormed file h sections b → SoundBlock file h b
  sound w (inl z) = record { inside = λ l. absurd (omega (arith, z.0)); order = λ l. absurd (omega (arith, z.0)) }
  sound w (inr f) = record { inside = inside f.ranges w; order = λ l. facts_order file h b f.order }

  -- by the number of indices
  pub none_check : b.count ≡ 0 → rule (eqb b.total 0) No.Array ≡ block_check file h sections b
  unfolding block_check either
  none_check z = rw (eq-eqb b.count 0 z)

  some_check : (b.count ≡ 0 → ⊥)
      → block_check file h sections b ≡ first (rule (range_rule file h sections b) No.Array) (rule (order_rule file h b) No.Order)
  unfolding block_check either
  some_check z = rw (ne_eqb b.count 0 z)

  pub range_check : (b.count ≡ 0 → ⊥) → range_rule file h sections b ≡ false → Err No.Array ≡ block_check file h sections b
  unfolding rule
  range_check z e = sym (some_check z ∙ rw e)

  pub order_check : (b.count ≡ 0 → ⊥) → range_rule file h sections b ≡ true → rule (order_rule file h b) No.Order ≡ block_check file h sections b
  unfolding rule
  order_check z e = sym (some_check z ∙ rw e)
