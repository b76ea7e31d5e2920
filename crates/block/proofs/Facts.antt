-- A block by its tests and by facts: what each answer of its check says, and what a lookup in a well-formed block says.
use Rattle.std.specs.Prelude.{Err, None, Option, Some}
use Prim.Native.Nat.{ℕ, zero, suc, ◌+◌, ◌-◌, ◌*◌, ◌<◌}
use mathlib.Core.Bool.{Bool, true, false, ◌&&◌}
use mathlib.Core.List.{List}
use mathlib.Core.Logic.{◌↔◌, ◌⊎◌, inl, inr, ⊎_elim, ⊎_map}
use mathlib.Core.Path.{◌≡◌, refl, sym, ap, ◌∙◌}
use native.Mathlib.Omega.{arith}
use borrow.Author.Tests.{leb-true, le-leb, eqb-true, eq-eqb, ne_eqb}
use lib.Dec.{leb, eqb}
use Rattle.range.specs.Range.{multiple}
use Rattle.range.proofs.Tests.{both, multiple_iff}
use Rattle.outside.specs.Outside.{lies}
use Rattle.outside.proofs.Apart.{lies_iff}
use Rattle.refusal.specs.declared.Refusal.{Refusal}
use Rattle.refusal.specs.declared.Refusal.TheVariants as No
use Rattle.refusal.specs.Check.{either, rule, first, Check, Passed}
use Rattle.refusal.proofs.Numbers.{7-is-not-11}
use Rattle.refusal.proofs.Checks.{Decides, rule_decides, first_decides, both_hold, first_broken, second_broken}
use Rattle.seq.specs.Sequence.{position}
use Rattle.seq.proofs.Search.{position_at, position_below, position_key}
use Rattle.block.specs.declared.Shape.{Shape}
use Rattle.block.specs.declared.Block.{Block}
use Rattle.block.specs.Block.{range_rule, start_of, end_of, part_of, part_at, outer_ids, inner_ids, word_at, order_rule, block_check, value_at, in_part, index_of, lookup_in}
use Rattle.block.specs.OrderKept.{OrderKept}
use Rattle.block.specs.Facts.{RangesKept, WellFormed, Holds}
use Rattle.block.proofs.Order.{order_iff}

-- ---- the check of a block

pub none_or_some : (n : ℕ) → (n ≡ 0) ⊎ (0 < n)
none_or_some zero = inl refl
none_or_some (suc n) = inr (omega arith)

zero_iff : (n : ℕ) → (eqb n 0 ≡ true) ↔ (n ≡ 0)
zero_iff n = (eqb-true n 0, eq-eqb n 0)

module _ (file : List ℕ) (h : Shape) (sections : List (List ℕ)) (b : Block) where
  -- rule 7 holds exactly if its clauses do
  pub ranges_iff : (range_rule file h sections b ≡ true) ↔ RangesKept file h sections b
  unfolding range_rule
  ranges_iff =
      let size = b.total * (h.inner + 8) in
      let even = multiple b.values 2 in
      let fours = multiple b.indices 4 in
      let values = lies file h.header sections b.values size in
      let indices = lies file h.header sections b.indices (b.count * (h.outer + 8)) in
      let before = leb (b.values + size) b.indices in
      let some = leb 1 b.total in
      let all = both (even && fours) ((values && indices) && (before && some)) in
      let rest = both (values && indices) (before && some) in
      let v = lies_iff file h.header sections b.values size in
      let i = lies_iff file h.header sections b.indices (b.count * (h.outer + 8)) in (
        λ e.
            let a = (both even fours).0 (all.0 e).0 in
            let l = (both values indices).0 (rest.0 (all.0 e).1).0 in
            let o = (both before some).0 (rest.0 (all.0 e).1).1 in
            record {
              values_aligned = (multiple_iff b.values 2).0 a.0;
              indices_aligned = (multiple_iff b.indices 4).0 a.1;
              values_lie = v.0 l.0;
              indices_lie = i.0 l.1;
              values_first = leb-true (b.values + size) b.indices o.0;
              some_value = leb-true 1 b.total o.1;
            },
        λ k. all.1 (
          (both even fours).1 ((multiple_iff b.values 2).1 k.values_aligned, (multiple_iff b.indices 4).1 k.indices_aligned),
          rest.1 (
            (both values indices).1 (v.1 k.values_lie, i.1 k.indices_lie),
            (both before some).1 (le-leb (b.values + size) b.indices k.values_first, le-leb 1 b.total k.some_value),
          ),
        ),
      )

  abbrev empty : Check
  empty = rule (eqb b.total 0) No.Array

  abbrev filled : Check
  filled = first (rule (range_rule file h sections b) No.Array) (rule (order_rule file h b) No.Order)

  none_decides : Decides empty (b.total ≡ 0) (λ r. (No.Array ≡ r) × (b.total ≡ 0 → ⊥))
  none_decides = rule_decides (eqb b.total 0) (zero_iff b.total)

  -- what is answered, by whether there are indices
  by_count : (c : Check) {P Q : Type 0} → (empty ≡ c) ↔ P → (filled ≡ c) ↔ Q
      → (block_check file h sections b ≡ c) ↔ (((b.count ≡ 0) × P) ⊎ ((0 < b.count) × Q))
  unfolding block_check either
  by_count c {P} {Q} p q = (λ e. to e (none_or_some b.count), from)
    where
      to : block_check file h sections b ≡ c → (b.count ≡ 0) ⊎ (0 < b.count) → ((b.count ≡ 0) × P) ⊎ ((0 < b.count) × Q)
      to e (inl z) = inl (z, p.0 (rw (eq-eqb b.count 0 z) at e))
      to e (inr l) = inr (l, q.0 (rw (ne_eqb b.count 0 (λ z. omega arith)) at e))

      from : ((b.count ≡ 0) × P) ⊎ ((0 < b.count) × Q) → block_check file h sections b ≡ c
      from (inl k) = rw (eq-eqb b.count 0 k.0) (p.1 k.1)
      from (inr k) = rw (ne_eqb b.count 0 (λ z. omega (arith, k.0))) (q.1 k.1)

  -- a block passes exactly if it is well formed
  pub well_formed_iff : (block_check file h sections b ≡ Passed) ↔ WellFormed file h sections b
  well_formed_iff =
      let two = both_hold (range_rule file h sections b) (order_rule file h b) ranges_iff (order_iff file h b) 7-is-not-11 in
      let i = by_count Passed none_decides.passes two in (
        λ e. ⊎_map (λ k. k) (λ k. record { some_index = k.0; ranges = k.1.0; order = k.1.1 }) (i.0 e),
        λ w. i.1 (⊎_map (λ k. k) (λ k. (k.some_index, (k.ranges, k.order))) w),
      )

  -- 7 exactly if it has values without indices, or indices and a clause of rule 7 fails
  pub refused_7 : (block_check file h sections b ≡ Err No.Array)
      ↔ (((b.count ≡ 0) × (b.total ≡ 0 → ⊥)) ⊎ ((0 < b.count) × (RangesKept file h sections b → ⊥)))
  refused_7 =
      let none = none_decides.refuses No.Array in
      by_count (Err No.Array) (λ e. (none.0 e).1, λ n. none.1 (refl, n))
      (first_broken (range_rule file h sections b) (order_rule file h b) ranges_iff (order_iff file h b) 7-is-not-11)

  -- 11 exactly if it has indices, rule 7 holds and the order does not
  pub refused_11 : (block_check file h sections b ≡ Err No.Order)
      ↔ ((0 < b.count) × (RangesKept file h sections b × (OrderKept file h b → ⊥)))
  refused_11 =
      let i = by_count (Err No.Order) (none_decides.refuses No.Order)
      (second_broken (range_rule file h sections b) (order_rule file h b) ranges_iff (order_iff file h b) 7-is-not-11) in
      (λ e. ⊎_elim (λ k. absurd (7-is-not-11 k.1.0)) (λ k. k) (i.0 e), λ k. i.1 (inr k))

  -- it has no refusals but these
  pub 7-or-11 : (r : Refusal) → block_check file h sections b ≡ Err r → (r ≡ No.Array) ⊎ (r ≡ No.Order)
  unfolding block_check either
  7-or-11 r e = go (eqb b.count 0) e
    where
      go : (t : Bool) → either t empty filled ≡ Err r → (r ≡ No.Array) ⊎ (r ≡ No.Order)
      go true x = inl (sym ((none_decides.refuses r).0 x).0)
      go false x =
          ⊎_map (λ k. sym k.0) (λ k. sym k.1.0)
          (((first_decides (rule (range_rule file h sections b) No.Array) (rule_decides (range_rule file h sections b) ranges_iff)
          (rule_decides (order_rule file h b) (order_iff file h b))).refuses r).0 x)

-- ---- a lookup

-- where the index of an outer id is, there is one, with that id
pub index_is : (file : List ℕ) (h : Shape) (b : Block) (outer i : ℕ) → index_of file h b outer ≡ Some i
    → (i < b.count) × (outer_ids file h b i ≡ outer)
unfolding index_of
index_is file h b outer i e =
    (position_below (outer_ids file h b) outer b.count i e, position_key (outer_ids file h b) outer b.count i e)

module _ (file : List ℕ) (h : Shape) (b : Block) (outer inner : ℕ) where
  abbrev answer : Option ℕ
  answer = lookup_in file h b outer inner

  -- how many values sub-array i has
  abbrev long : (i : ℕ) → ℕ
  long i = end_of file h b i - start_of file h b i

  -- a value that the block holds is found, or nothing is
  found_or_absent : ((bits : ℕ) × ((answer ≡ Some bits) × Holds file h b outer inner bits)) ⊎ (answer ≡ None)
  unfolding lookup_in in_part part_at value_at
  found_or_absent = go (index_of file h b outer) refl
    where
      in-part : (i : ℕ) → index_of file h b outer ≡ Some i → (p : Option ℕ)
          → position (inner_ids file h b i) inner (long i) ≡ p
          → ((bits : ℕ) × ((value_at file h b (part_of file h b i) p ≡ Some bits) × Holds file h b outer inner bits))
          ⊎ (value_at file h b (part_of file h b i) p ≡ None)
      in-part i e (Some k) f = inl (
        word_at h.inner file (part_of file h b i) k,
        (
          refl,
          record {
            i = i;
            index = (index_is file h b outer i e).0;
            outer_id = (index_is file h b outer i e).1;
            k = k;
            value = position_below (inner_ids file h b i) inner (long i) k f;
            inner_id = position_key (inner_ids file h b i) inner (long i) k f;
            stored = refl;
          },
        ),
      )
      in-part i e None f = inr refl

      go : (p : Option ℕ) → index_of file h b outer ≡ p
          → ((bits : ℕ) × ((in_part file h b inner p ≡ Some bits) × Holds file h b outer inner bits)) ⊎ (in_part file h b inner p ≡ None)
      go (Some i) e = in-part i e (position (inner_ids file h b i) inner (long i)) refl
      go None e = inr refl

  module _ (sections : List (List ℕ)) (w : WellFormed file h sections b) where
    held_found : (bits : ℕ) → Holds file h b outer inner bits → answer ≡ Some bits
    unfolding lookup_in in_part index_of part_at value_at
    held_found bits k = go w
      where
        go : WellFormed file h sections b → answer ≡ Some bits
        go (inl z) = absurd (omega (arith, z.0, k.index))
        go (inr f) =
            let i = k.i in
            rw (
              position_at (outer_ids file h b) outer b.count f.order.outer_increase i k.index k.outer_id,
              position_at (inner_ids file h b i) inner (long i) (f.order.inner_increase i k.index)
                  k.k k.value k.inner_id,
            )
            (ap Some k.stored)

    -- in a well-formed block a lookup finds exactly what the block holds
    pub found_iff : (bits : ℕ) → (lookup_in file h b outer inner ≡ Some bits) ↔ Holds file h b outer inner bits
    found_iff bits = (λ e. go e found_or_absent, held_found bits)
      where
        go : answer ≡ Some bits → ((x : ℕ) × ((answer ≡ Some x) × Holds file h b outer inner x)) ⊎ (answer ≡ None)
            → Holds file h b outer inner bits
        go e (inl (x, (f, k))) =
            let q : Some x ≡ Some bits = sym f ∙ e in
            let z : x ≡ bits = cc in
            rw (← z) k
        go e (inr f) = let q : None ≡ Some bits = sym f ∙ e in absurd (let z : ◌≡◌ {A = ℕ} 0 1 = cc in omega arith)

    -- and says absent exactly if the block does not hold the pair, with any bits
    pub absent_iff : (lookup_in file h b outer inner ≡ None) ↔ ((bits : ℕ) → Holds file h b outer inner bits → ⊥)
    absent_iff = (
      λ e bits k. let q : None ≡ Some bits = sym e ∙ held_found bits k in let z : ◌≡◌ {A = ℕ} 0 1 = cc in omega arith,
      λ none. ⊎_elim (λ k. absurd (none k.0 k.1.1)) (λ e. e) found_or_absent,
    )
