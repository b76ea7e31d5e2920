-- The sum of a sequence, one number at a time: a part of it is no more than the whole.
use Prim.Native.Nat.{ℕ, zero, suc, ◌+◌, ◌≤◌, ◌<◌}
use mathlib.Core.Logic.{◌⊎◌, inl, inr}
use mathlib.Core.Path.{◌≡◌, refl}
use native.Mathlib.Nat.{eq-or-lt_of_le, le_of_suc-le-suc, not-suc-le-zero}
use native.Mathlib.Numerals.{add-one}
use native.Mathlib.Omega.{arith}
use Rattle.seq.specs.Sequence.{sum}

module _ (f : ℕ → ℕ) where
  pub sum_none : sum f 0 ≡ 0
  unfolding sum
  sum_none = refl

  pub sum_more : (n : ℕ) → sum f (n + 1) ≡ sum f n + f n
  unfolding sum
  sum_more n = rw (add-one n)

  -- with number k it is at most what it is with all
  pub sum_ends : (k n : ℕ) → k < n → sum f k + f k ≤ sum f n
  unfolding sum
  sum_ends k zero l = absurd (not-suc-le-zero l)
  sum_ends k (suc n) l = last (eq-or-lt_of_le (le_of_suc-le-suc l)) (sum_ends k n)
    where
      last : (k ≡ n) ⊎ (k < n) → (k < n → sum f k + f k ≤ sum f n) → sum f k + f k ≤ sum f n + f n
      last (inl e) r = rw e (omega arith)
      last (inr m) r = omega (arith, r m)
