-- A test of every number, from and to the test of each.
use Prim.Native.Nat.{ℕ, zero, suc, ◌+◌, ◌<◌}
use mathlib.Core.Bool.{Bool, true, false, ◌&&◌, true≢false, and-false}
use mathlib.Core.Logic.{◌⊎◌, inl, inr}
use mathlib.Core.Path.{◌≡◌, refl, sym, ap, ◌∙◌}
use native.Mathlib.Nat.{eq-or-lt_of_le, le_of_suc-le-suc, not-suc-le-zero}
use native.Mathlib.Numerals.{add-one}
use native.Mathlib.Omega.{arith}
use Rattle.seq.specs.Sequence.{every}

both_left : (a b : Bool) → (a && b) ≡ true → a ≡ true
both_left true b h = refl
both_left false b h = h

both_right : (a b : Bool) → (a && b) ≡ true → b ≡ true
both_right true b h = h
both_right false b h = absurd (true≢false (sym h))

module _ (p : ℕ → Bool) where
  pub every_none : every p 0 ≡ true
  unfolding every
  every_none = refl

  pub every_more : (n : ℕ) → every p n ≡ true → p n ≡ true → every p (n + 1) ≡ true
  unfolding every
  every_more n h e = rw (add-one, h, e)

  pub every_next : (n : ℕ) → every p (n + 1) ≡ (every p n && p n)
  unfolding every
  every_next n = rw (add-one n)

  pub every_at : (n : ℕ) → every p n ≡ true → (k : ℕ) → k < n → p k ≡ true
  unfolding every
  every_at zero h k l = absurd (not-suc-le-zero l)
  every_at (suc n) h k l = last (eq-or-lt_of_le (le_of_suc-le-suc l)) (every_at n (both_left (every p n) (p n) h))
    where
      last : (k ≡ n) ⊎ (k < n) → ((k : ℕ) → k < n → p k ≡ true) → p k ≡ true
      last (inl e) r = rw e (both_right (every p n) (p n) h)
      last (inr l) r = r k l

  pub every_of : (n : ℕ) → ((k : ℕ) → k < n → p k ≡ true) → every p n ≡ true
  unfolding every
  every_of zero h = refl
  every_of (suc n) h = rw (every_of n (λ k l. h k (omega arith))) (h n (omega arith))

  pub every_not : (n k : ℕ) → k < n → p k ≡ false → every p n ≡ false
  unfolding every
  every_not zero k l h = absurd (not-suc-le-zero l)
  every_not (suc n) k l h = last (eq-or-lt_of_le (le_of_suc-le-suc l)) (every_not n k)
    where
      last : (k ≡ n) ⊎ (k < n) → (k < n → p k ≡ false → every p n ≡ false) → (every p n && p n) ≡ false
      last (inl e) r = rw (sym (ap p e) ∙ h) (and-false (every p n))
      last (inr l) r = rw (r l h)

  -- where it does not hold of all, there is one that it does not hold of
  pub every_broken : (n : ℕ) → every p n ≡ false → (k : ℕ) × ((k < n) × (p k ≡ false))
  unfolding every
  every_broken zero h = absurd (true≢false h)
  every_broken (suc n) h = last (every p n) refl h (every_broken n)
    where
      last : (all : Bool) → every p n ≡ all → (all && p n) ≡ false → (every p n ≡ false → (k : ℕ) × ((k < n) × (p k ≡ false)))
          → (k : ℕ) × ((k < suc n) × (p k ≡ false))
      last true e q r = (n, (omega arith, q))
      last false e q r = let k = r e in (k.0, (omega (arith, k.1.0), k.1.1))
