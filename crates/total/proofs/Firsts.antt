-- The smallest and the greatest of a tally are the first: no entry is less, or greater, and each one before is greater, or less.
use Prim.Native.Nat.{ℕ, zero, suc, ◌<◌}
use mathlib.Core.Bool.{Bool, true, false, true≢false}
use mathlib.Core.Path.{◌≡◌, refl, sym, ◌∙◌}
use native.Mathlib.Omega.{arith}
use borrow.Author.Count.{below_more, below_none}
use Rattle.refusal.specs.Check.{either}
use Rattle.seq.proofs.Every.{every_at, every_of}
use Rattle.float.specs.Float.{finite, less}
use Rattle.float.proofs.Order.{less_not, less_same, not_less_trans}
use Rattle.total.specs.Totals.{start_of, step_of, tally_to, all_finite}
use Rattle.total.specs.Facts.{First, more}

-- what an order of finite values has
record Ordered (better : ℕ → ℕ → Bool) : Type 0 where
  same : (x : ℕ) → better x x ≡ false
  other : (x y : ℕ) → better x y ≡ true → better y x ≡ false
  through : (x y z : ℕ) → finite x ≡ true → finite y ≡ true → finite z ≡ true
      → better y x ≡ false → better z y ≡ false → better z x ≡ false

must : (b : Bool) {t : Bool} → (b ≡ false → t ≡ false) → t ≡ true → b ≡ true
must true f h = refl
must false f h = absurd (true≢false (sym h ∙ f refl))

module _ (better : ℕ → ℕ → Bool) (o : Ordered better) (ids bits : ℕ → ℕ) where
  up_to : (n v : ℕ) → ((i : ℕ) → i < n → better (bits i) v ≡ false) → better (bits n) v ≡ false
      → (i : ℕ) → i < suc n → better (bits i) v ≡ false
  up_to n v all here i l = below_more (λ (i : ℕ). better (bits i) v ≡ false) n all here i (omega arith)

  alone : First better ids bits 1 (ids 0) (bits 0) 0
  alone = record {
    within = omega arith;
    its_id = refl;
    its_bits = refl;
    none_better = up_to 0 (bits 0) (below_none (λ (i : ℕ). better (bits i) (bits 0) ≡ false)) (o.same (bits 0));
    all_worse = below_none (λ (i : ℕ). better (bits 0) (bits i) ≡ true);
  }

  module _ (n : ℕ) (fins : (i : ℕ) → i < suc n → finite (bits i) ≡ true) {id v j : ℕ} (f : First better ids bits n id v j) where
    stays : better (bits n) v ≡ false → First better ids bits (suc n) id v j
    stays e = record {
      within = omega (arith, f.within);
      its_id = f.its_id;
      its_bits = f.its_bits;
      none_better = up_to n v f.none_better e;
      all_worse = f.all_worse;
    }

    moves : better (bits n) v ≡ true → First better ids bits (suc n) (ids n) (bits n) n
    moves e =
        let x = bits n in
        let p = fins n (omega arith) in
        let q : finite v ≡ true = rw f.its_bits (fins j (omega (arith, f.within))) in
        record {
          within = omega arith;
          its_id = refl;
          its_bits = refl;
          none_better = up_to n x (λ i l. o.through x v (bits i) p q (fins i (omega arith)) (o.other x v e) (f.none_better i l)) (o.same x);
          all_worse = λ i l. must (better x (bits i))
              (λ no. o.through v (bits i) x q (fins i (omega arith)) p (f.none_better i l) no) e;
        }

    chosen : (b : Bool) → better (bits n) v ≡ b → (k : ℕ) × First better ids bits (suc n) (either b (ids n) id) (either b (bits n) v) k
    unfolding either
    chosen true e = (n, moves e)
    chosen false e = (j, stays e)

-- ---- the smallest and the greatest

by_less : Ordered less
by_less = record { same = less_same; other = less_not; through = not_less_trans }

by_more : Ordered more
by_more = record { same = less_same; other = λ x y. less_not y x; through = λ x y z p q r h k. not_less_trans z y x r q p k h }

module _ (ids bits : ℕ → ℕ) where
  pub finite_at : (n : ℕ) → all_finite bits n ≡ true → (i : ℕ) → i < n → finite (bits i) ≡ true
  finite_at = every_at (λ i. finite (bits i))

  fewer : (n : ℕ) → all_finite bits (suc n) ≡ true → all_finite bits n ≡ true
  fewer n a = every_of (λ i. finite (bits i)) n (λ i l. finite_at (suc n) a i (omega arith))

  pub first_least : (k : ℕ) → all_finite bits (suc k) ≡ true
      → (j : ℕ) × First less ids bits (suc k) (tally_to ids bits k).least_of (tally_to ids bits k).least j
  unfolding tally_to start_of step_of
  first_least zero a = (0, alone less by_less ids bits)
  first_least (suc k) a =
      let f = first_least k (fewer (suc k) a) in
      chosen less by_less ids bits (suc k) (finite_at (suc (suc k)) a) f.1 (less (bits (suc k)) (tally_to ids bits k).least) refl

  pub first_greatest : (k : ℕ) → all_finite bits (suc k) ≡ true
      → (j : ℕ) × First more ids bits (suc k) (tally_to ids bits k).greatest_of (tally_to ids bits k).greatest j
  unfolding tally_to start_of step_of
  first_greatest zero a = (0, alone more by_more ids bits)
  first_greatest (suc k) a =
      let f = first_greatest k (fewer (suc k) a) in
      chosen more by_more ids bits (suc k) (finite_at (suc (suc k)) a) f.1 (less (tally_to ids bits k).greatest (bits (suc k))) refl
