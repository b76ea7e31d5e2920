-- A loop over the entries, one at a time: what holds after k of them, from the first one to the answer.
use Rattle.std.specs.Prelude.{Err}
use Prim.Native.Nat.{ℕ, zero, suc, ◌+◌, ◌-◌, ◌≤◌, ◌<◌}
use mathlib.Core.Bool.{Bool, true, false, not}
use mathlib.Core.Path.{◌≡◌, refl, sym, ap, ◌∙◌}
use native.Mathlib.Numerals.{sub-one}
use native.Mathlib.Omega.{arith}
use borrow.Author.Tests.{not-true, not-false}
use lib.Ieee.{Float, binary64, of_bits, lt}
use Rattle.refusal.specs.declared.Refusal.TheVariants as No
use Rattle.refusal.specs.Check.{either}
use Rattle.seq.specs.Sequence.{every}
use Rattle.seq.proofs.Every.{every_more, every_not}
use Rattle.float.specs.Float.{finite, less}
use Rattle.float.proofs.Order.{less_not, not_less_trans}
use Rattle.total.specs.declared.Tally.{Tally}
use Rattle.total.specs.Totals.{start_of, step_of, tally_to, all_finite, finish, totals_of, Good}
use Rattle.total.proofs.Tallies.{good_start, good_step, ordered_start, ordered_step}

-- t has the first k of n entries; low and high are its smallest and greatest as floats
pub record Summing (ids bits : ℕ → ℕ) (n : ℕ) (t : Tally) (low high : Float) (k : ℕ) : Type 0 where
  pub some : 0 < k
  pub within : k ≤ n
  pub same : t ≡ tally_to ids bits (k - 1)
  pub finites : all_finite bits k ≡ true
  pub good : Good t
  pub ordered : less t.greatest t.least ≡ false
  pub smallest : low ≡ of_bits binary64 t.least
  pub greatest : high ≡ of_bits binary64 t.greatest

module _ (ids bits : ℕ → ℕ) where
  tally_more : (k : ℕ) → 0 < k → tally_to ids bits k ≡ step_of (tally_to ids bits (k - 1)) (ids k) (bits k)
  unfolding tally_to
  tally_more zero h = absurd (omega arith)
  tally_more (suc k) h = rw sub-one

  totals-of : (n : ℕ) → 0 < n → totals_of ids bits n ≡ either (all_finite bits n) (finish n (tally_to ids bits (n - 1))) (Err No.NotFinite)
  unfolding totals_of
  totals-of zero h = absurd (omega arith)
  totals-of (suc n) h = rw sub-one

pub finite_told : (v : ℕ) {t : Bool} → t ≡ finite v → not t ≡ false → finite v ≡ true
finite_told v {t} f h = sym f ∙ not-false t h

module _ (ids bits : ℕ → ℕ) (n : ℕ) where
  pub summing_start : {id v : ℕ} → 0 < n → id ≡ ids 0 → v ≡ bits 0 → finite v ≡ true
      → Summing ids bits n (start_of id v) (of_bits binary64 v) (of_bits binary64 v) 1
  unfolding tally_to every start_of
  summing_start {id} {v} l i e h = record {
    some = omega arith;
    within = l;
    same = rw (i, e);
    finites = rw (← e) h;
    good = good_start id v h;
    ordered = ordered_start id v;
    smallest = refl;
    greatest = refl;
  }

  -- by a test of what was read there
  pub summing_not : {t : Bool} {v k : ℕ} → k < n → v ≡ bits k → t ≡ finite v → not t ≡ true → Err No.NotFinite ≡ totals_of ids bits n
  unfolding either
  summing_not {t} {v} {k} l e f h =
      let no : finite (bits k) ≡ false = sym (f ∙ ap finite e) ∙ not-true t h in
      sym (totals-of ids bits n (omega arith) ∙ rw (every_not (λ i. finite (bits i)) n k l no))

  pub summing_all : {t : Tally} {low high : Float} {k : ℕ} → Summing ids bits n t low high k → n ≤ k → totals_of ids bits n ≡ finish n t
  unfolding either
  summing_all {k = k} s l =
      let e : k ≡ n = omega (arith, s.within) in
      let f : all_finite bits n ≡ true = rw e at s.finites in
      totals-of ids bits n (omega (arith, s.some)) ∙ rw (f, s.same, e)

-- ---- one entry more, by two tests of floats

module _ {ids bits : ℕ → ℕ} {n : ℕ} {t : Tally} {low high : Float} {k : ℕ} (s : Summing ids bits n t low high k) (v : ℕ) (h : finite v ≡ true) where
  -- a new greatest is no new smallest
  pub above : lt high (of_bits binary64 v) ≡ true → (less t.greatest v ≡ true) × (less v t.least ≡ false)
  unfolding less
  above a =
      let g : less t.greatest v ≡ true = rw s.greatest at a in
      (g, not_less_trans t.least t.greatest v s.good.low s.good.high h s.ordered (less_not t.greatest v g))

  pub not_above : {below : Bool} → lt high (of_bits binary64 v) ≡ false → lt (of_bits binary64 v) low ≡ below
      → (less t.greatest v ≡ false) × (less v t.least ≡ below)
  unfolding less
  not_above a b = (rw s.greatest at a, rw s.smallest at b)

  module _ (l : k < n) (e : v ≡ bits k) where
    more : {id : ℕ} → id ≡ ids k → {low₁ high₁ : Float} → low₁ ≡ of_bits binary64 (step_of t id v).least → high₁ ≡ of_bits binary64 (step_of t id v).greatest
        → Summing ids bits n (step_of t id v) low₁ high₁ (k + 1)
    more {id} i p q =
        let m : k ≡ k + 1 - 1 = omega arith in
        record {
          some = omega arith;
          within = omega arith;
          same = rw (i, e, s.same, ← tally_more ids bits k s.some) (ap (tally_to ids bits) m);
          finites = every_more (λ i. finite (bits i)) k s.finites (rw (← e) h);
          good = good_step t id v s.good h;
          ordered = ordered_step t id v s.ordered;
          smallest = p;
          greatest = q;
        }

    pub summing_raise : {id : ℕ} → id ≡ ids k → lt high (of_bits binary64 v) ≡ true → Summing ids bits n (step_of t id v) low (of_bits binary64 v) (k + 1)
    unfolding step_of either
    summing_raise i a = let c = above a in more i (rw c.1 s.smallest) (rw c.0 refl)

    pub summing_lower : {id : ℕ} → id ≡ ids k → lt high (of_bits binary64 v) ≡ false → lt (of_bits binary64 v) low ≡ true
        → Summing ids bits n (step_of t id v) (of_bits binary64 v) high (k + 1)
    unfolding step_of either
    summing_lower i a b = let c = not_above a b in more i (rw c.1 refl) (rw c.0 s.greatest)

    pub summing_add : {r : Tally} → ((id : ℕ) → r ≡ step_of t id v) → lt high (of_bits binary64 v) ≡ false → lt (of_bits binary64 v) low ≡ false
        → Summing ids bits n r low high (k + 1)
    unfolding step_of either
    summing_add r a b = let c = not_above a b in rw (r (ids k)) (more refl (rw c.1 s.smallest) (rw c.0 s.greatest))
