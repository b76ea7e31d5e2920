-- The order rule, what one pass tests, and the rules as facts: all three say the same.
use Prim.Native.Nat.{ℕ, ◌+◌, ◌-◌, ◌≤◌, ◌<◌}
use mathlib.Core.Bool.{Bool, true, false}
use mathlib.Core.List.{List}
use mathlib.Core.Logic.{◌↔◌}
use mathlib.Core.Path.{◌≡◌, refl}
use native.Mathlib.Numerals.{add-one}
use native.Mathlib.Omega.{arith}
use borrow.Author.Tests.{le-leb, lt-ltb, le-ltb, leb-true, ltb-true, ltb-false, eq-eqb, eqb-true}
use lib.Dec.{leb, ltb, eqb}
use Rattle.range.proofs.Tests.{same_truth, both}
use Rattle.refusal.specs.Check.{either}
use Rattle.seq.specs.Sequence.{every, rises}
use Rattle.seq.proofs.Every.{every_at, every_of}
use Rattle.seq.proofs.Rising.{next_sorted, rises_sorted, sorted_rises, all_least}
use Rattle.block.specs.declared.Shape.{Shape}
use Rattle.block.specs.declared.Block.{Block}
use Rattle.block.specs.Block.{start_of, end_of, outer_ids, inner_ids, order_rule}
use Rattle.block.specs.OnePass.{part_rule, one_pass}
use Rattle.block.specs.OrderKept.{OrderKept}

module _ (file : List ℕ) (h : Shape) (b : Block) where
  abbrev start : ℕ → ℕ
  start = start_of file h b

  abbrev end : ℕ → ℕ
  end = end_of file h b

  abbrev inner : ℕ → Bool
  inner i = rises h.least 1 (inner_ids file h b i) (end i - start i)

  pub inner_end : (i : ℕ) → i + 1 < b.count → end i ≡ start (i + 1)
  unfolding end_of either
  inner_end i l = rw (lt-ltb _ _ l)

  pub last_end : (i : ℕ) → b.count ≤ i + 1 → end i ≡ b.total
  unfolding end_of either
  last_end i l = rw (le-ltb _ _ l)

  -- ---- the rule

  pub order_facts : order_rule file h b ≡ true → OrderKept file h b
  unfolding order_rule
  order_facts e =
      let p = (both (eqb (start 0) 0) _).0 e in
      let q = (both (rises 0 1 start b.count) _).0 p.1 in
      let r = (both (every (λ i. ltb (start i) b.total) b.count) _).0 q.1 in
      let s = (both (rises 0 1 (outer_ids file h b) b.count) (every inner b.count)).0 r.1 in
      record {
        first_start = eqb-true _ _ p.0;
        starts_increase = rises_sorted 0 start b.count q.0;
        starts_below = λ i l. ltb-true _ _ (every_at (λ i. ltb (start i) b.total) b.count r.0 i l);
        outer_increase = rises_sorted 0 (outer_ids file h b) b.count s.0;
        inner_increase = λ i l. rises_sorted h.least (inner_ids file h b i) (end i - start i) (every_at inner b.count s.1 i l);
        inner_least = λ i l. all_least h.least (inner_ids file h b i) (end i - start i) (every_at inner b.count s.1 i l);
      }

  inner_rises : OrderKept file h b → (i : ℕ) → i < b.count → inner i ≡ true
  inner_rises w i l = sorted_rises h.least (inner_ids file h b i) (end i - start i) (w.inner_increase i l) (w.inner_least i l 0)

  pub facts_order : OrderKept file h b → order_rule file h b ≡ true
  unfolding order_rule
  facts_order w =
      rw (
        eq-eqb _ _ w.first_start,
        sorted_rises 0 start b.count w.starts_increase (λ l. omega arith),
        every_of (λ i. ltb (start i) b.total) b.count (λ i l. lt-ltb _ _ (w.starts_below i l)),
        sorted_rises 0 (outer_ids file h b) b.count w.outer_increase (λ l. omega arith),
      )
      (every_of inner b.count (inner_rises w))

  -- ---- one pass

  module _ (e : one_pass file h b ≡ true) where
    pub pass_parts : (i : ℕ) → i < b.count → (start i < end i) × (end i ≤ b.total) × (inner i ≡ true)
    unfolding one_pass part_rule
    pass_parts i l =
        let p = (both (eqb (start 0) 0) _).0 e in
        let q = (both (rises 0 1 (outer_ids file h b) b.count) (every (part_rule file h b) b.count)).0 p.1 in
        let r = (both (ltb (start i) (end i)) _).0 (every_at (part_rule file h b) b.count q.1 i l) in
        let s = (both (leb (end i) b.total) (inner i)).0 r.1 in
        (ltb-true _ _ r.0, leb-true _ _ s.0, s.1)

    pass_facts : OrderKept file h b
    unfolding one_pass
    pass_facts =
        let p = (both (eqb (start 0) 0) _).0 e in
        let q = (both (rises 0 1 (outer_ids file h b) b.count) (every (part_rule file h b) b.count)).0 p.1 in
        record {
          first_start = eqb-true _ _ p.0;
          starts_increase = next_sorted start b.count
              (λ k l. let m : k + 1 < b.count = rw (add-one k) l in rw (add-one k) at (rw (inner_end k m) at (pass_parts k (omega arith)).0));
          starts_below = λ i l. omega (arith, (pass_parts i l).0, (pass_parts i l).1);
          outer_increase = rises_sorted 0 (outer_ids file h b) b.count q.0;
          inner_increase = λ i l. rises_sorted h.least (inner_ids file h b i) (end i - start i) (pass_parts i l).2;
          inner_least = λ i l. all_least h.least (inner_ids file h b i) (end i - start i) (pass_parts i l).2;
        }

  facts_pass : OrderKept file h b → one_pass file h b ≡ true
  unfolding one_pass part_rule
  facts_pass w =
      rw (eq-eqb _ _ w.first_start, sorted_rises 0 (outer_ids file h b) b.count w.outer_increase (λ l. omega arith))
      (every_of (part_rule file h b) b.count part)
    where
      ends : (i : ℕ) → i < b.count → (t : Bool) → ltb (i + 1) b.count ≡ t → (start i < end i) × (end i ≤ b.total)
      ends i l true e =
          let m : i + 1 < b.count = ltb-true _ _ e in
          rw (inner_end i m) (w.starts_increase i (i + 1) (omega arith) m, omega (arith, w.starts_below (i + 1) m))
      ends i l false e = rw (last_end i (ltb-false _ _ e)) (w.starts_below i l, omega arith)

      part : (i : ℕ) → i < b.count → part_rule file h b i ≡ true
      part i l =
          let q = ends i l (ltb (i + 1) b.count) refl in
          rw (lt-ltb (start i) (end i) q.0, le-leb (end i) b.total q.1) (inner_rises w i l)

  pub order_iff : (order_rule file h b ≡ true) ↔ OrderKept file h b
  order_iff = (order_facts, facts_order)

  pub pass_is_order : one_pass file h b ≡ order_rule file h b
  pass_is_order = same_truth (one_pass file h b) (order_rule file h b) (λ e. facts_order (pass_facts e)) (λ e. facts_pass (order_facts e))
