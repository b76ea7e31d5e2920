-- Sub-arrays of a block: what one pass tests of them, and what a checked block tells of them.
use Rattle.std.specs.Prelude.{Option, Some}
use Prim.Native.Nat.{ℕ, ◌+◌, ◌-◌, ◌*◌, ◌≤◌, ◌<◌}
use mathlib.Core.Bool.{true, false, and-false}
use mathlib.Core.List.{List}
use mathlib.Core.Logic.{inl, inr}
use mathlib.Core.Path.{◌≡◌, sym, ◌∙◌}
use native.Mathlib.Nat.{suc-mul, add-mul, mul-le-mul_right}
use native.Mathlib.Omega.{arith}
use borrow.Author.Tests.{le-leb, lt-leb, le-ltb, lt-ltb, eq-eqb, ne_eqb}
use Rattle.seq.specs.Sequence.{every, rises, Sorted}
use Rattle.seq.proofs.Search.{position_below}
use Rattle.seq.proofs.Every.{every_not}
use Rattle.seq.proofs.Rising.{rises_sorted}
use Rattle.block.specs.declared.Shape.{Shape}
use Rattle.block.specs.declared.Block.{Block}
use Rattle.block.specs.Block.{id_at, start_of, end_of, part_of, outer_ids, order_rule, index_of}
use Rattle.block.specs.Sound.{IdWidth, ElementsInside, ArraysInside, SoundBlock, SoundPart}
use Rattle.block.specs.OnePass.{part_rule, one_pass}
use Rattle.block.proofs.Order.{pass_parts, pass_is_order, order_facts}

pub small : {w : ℕ} → IdWidth w → w ≤ 4
small (inl e) = omega arith
small (inr e) = omega arith

pub not_two : {w : ℕ} → IdWidth w → (w ≡ 2 → ⊥) → w ≡ 4
not_two (inl e) n = absurd (n e)
not_two (inr e) n = e

-- element k of n of z bytes ends where they end at the latest
pub element_ends : (k n z : ℕ) → k < n → k * z + z ≤ n * z
element_ends k n z h = rw (← suc-mul k z) (mul-le-mul_right z h)

span : (a e n z : ℕ) → a ≤ e → e ≤ n → a * z + (e - a) * z ≤ n * z
span a e n z h l =
    let q : a + (e - a) ≤ n = omega arith in
    rw (← add-mul a (e - a) z) (mul-le-mul_right z q)

-- a part of what is inside is inside
pub part_inside : (file : List ℕ) (at w n start end : ℕ) → ElementsInside file at w n → start ≤ end → end ≤ n
    → ElementsInside file (at + start * (w + 8)) w (end - start)
part_inside file at w n start end a l m = record { width = a.width; ends = omega (arith, span start end n (w + 8) l m, a.ends) }

-- sub-array i, by its start and its end as they were read
module _ (file : List ℕ) (h : Shape) (b : Block) (i start end : ℕ) (es : start ≡ start_of file h b i) (ee : end ≡ end_of file h b i) where
  pub part_empty : end ≤ start → false ≡ part_rule file h b i
  unfolding part_rule
  part_empty l = rw (← es, ← ee, le-ltb _ _ l)

  pub part_long : start < end → b.total < end → false ≡ part_rule file h b i
  unfolding part_rule
  part_long l m = rw (← es, ← ee, lt-ltb _ _ l, lt-leb _ _ m)

  pub part_is : (at : ℕ) → at ≡ b.values + start * (h.inner + 8) → start < end → end ≤ b.total
      → rises h.least 1 (id_at h.inner file at) (end - start) ≡ part_rule file h b i
  unfolding part_rule part_of
  part_is at ea l m = rw (ea, ← es, ← ee, lt-ltb _ _ l, le-leb _ _ m)

-- the pass fails, or all of it passes
module _ (file : List ℕ) (h : Shape) (b : Block) where
  pub start_fails : (start_of file h b 0 ≡ 0 → ⊥) → false ≡ order_rule file h b
  unfolding one_pass
  start_fails n = sym (simp (ne_eqb _ _ n)) ∙ pass_is_order file h b

  pub ids_fail : rises 0 1 (outer_ids file h b) b.count ≡ false → false ≡ order_rule file h b
  unfolding one_pass
  ids_fail e = sym (simp (e, and-false)) ∙ pass_is_order file h b

  pub part_fails : (i : ℕ) → i < b.count → part_rule file h b i ≡ false → false ≡ order_rule file h b
  unfolding one_pass
  part_fails i l e = sym (simp (every_not (part_rule file h b) b.count i l e, and-false)) ∙ pass_is_order file h b

  pub all_pass : start_of file h b 0 ≡ 0 → rises 0 1 (outer_ids file h b) b.count ≡ true → every (part_rule file h b) b.count ≡ true
      → true ≡ order_rule file h b
  unfolding one_pass
  all_pass z e f = sym (simp (eq-eqb _ _ z, e, f)) ∙ pass_is_order file h b

-- ---- in a checked block

pub record Within (file : List ℕ) (h : Shape) (b : Block) (start end : ℕ) : Type 0 where
  pub some : start < end
  pub ends : end ≤ b.total
  pub sorted : Sorted (id_at h.inner file (b.values + start * (h.inner + 8))) (end - start)

module _ {file : List ℕ} {h : Shape} {b : Block} (v : SoundBlock file h b) where
  pub outer_sorted : 0 < b.count → Sorted (outer_ids file h b) b.count
  outer_sorted l = (order_facts file h b (v.order l)).outer_increase

  -- an index that is found is there
  pub index_below : (outer i : ℕ) {p : Option ℕ} → p ≡ index_of file h b outer → p ≡ Some i → i < b.count
  unfolding index_of
  index_below outer i e f = position_below (outer_ids file h b) outer b.count i (sym e ∙ f)

  pub part-of : (i start end : ℕ) → i < b.count → start ≡ start_of file h b i → end ≡ end_of file h b i → Within file h b start end
  unfolding part_of
  part-of i start end l es ee =
      let p = pass_parts file h b (pass_is_order file h b ∙ v.order (omega arith)) i l in
      record { some = rw (es, ee) p.0; ends = rw ee p.1; sorted = rw (es, ee) (rises_sorted h.least _ _ p.2) }

-- by the place and the length that were computed
pub sound_part : (file : List ℕ) (h : Shape) (b : Block) (place start end : ℕ) → place ≡ b.values + start * (h.inner + 8) → ArraysInside file h b
    → Within file h b start end → SoundPart file h (record { place = place; length = end - start })
sound_part file h b place start end ea m p = record {
  elements = rw ea (part_inside file b.values h.inner b.total start end m.values (omega (arith, p.some)) p.ends);
  sorted = rw ea p.sorted;
  some = omega (arith, p.some);
}
