-- The contexts of an array by number: each takes some bytes, so their places rise, and a place has one number.
use Prim.Native.Nat.{ℕ, zero, suc, ◌+◌, ◌-◌, ◌≤◌, ◌<◌}
use mathlib.Core.List.{List}
use mathlib.Core.Path.{◌≡◌, refl, ap}
use native.Mathlib.Decide.{dec_le}
use native.Mathlib.Omega.{arith}
use Rattle.context.specs.Context.{extent, sibling_place}

pub takes_some : (file : List ℕ) (p : ℕ) → 0 < extent file p
unfolding extent
takes_some file p = omega arith

module _ (file : List ℕ) (start : ℕ) where
  pub sibling_first : sibling_place file start 0 ≡ start
  unfolding sibling_place
  sibling_first = refl

  pub sibling_next : (i : ℕ) → sibling_place file start (suc i) ≡ sibling_place file start i + extent file (sibling_place file start i)
  unfolding sibling_place
  sibling_next i = refl

  rises : (i k : ℕ) → sibling_place file start i + k ≤ sibling_place file start (i + k)
  rises i zero = let e : i + 0 ≡ i = omega arith in rw e (omega arith)
  rises i (suc k) =
      let e : i + suc k ≡ suc (i + k) = omega arith in
      rw e (omega (arith, rises i k, sibling_next (i + k), takes_some file (sibling_place file start (i + k))))

  -- no number is greater than its place
  pub sibling_small : (i : ℕ) → i ≤ sibling_place file start i
  sibling_small i = let e : 0 + i ≡ i = omega arith in omega (arith, rises 0 i, ap (sibling_place file start) e)

  -- a place has one number
  pub sibling_number : (i j : ℕ) → sibling_place file start i ≤ sibling_place file start j → i ≤ j
  sibling_number i j h = elim (dec_le i j) [
    | yes e ↦ e
    | no e ↦ absurd (let s : j + (i - j) ≡ i = omega arith in omega (arith, rises j (i - j), ap (sibling_place file start) s))
  ]

  pub sibling_order : (i j : ℕ) → i ≤ j → sibling_place file start i ≤ sibling_place file start j
  sibling_order i j h = let s : i + (j - i) ≡ j = omega arith in omega (arith, rises i (j - i), ap (sibling_place file start) s)

  -- none stands before the first
  pub sibling_after : (i : ℕ) → start ≤ sibling_place file start i
  sibling_after i = omega (arith, sibling_order 0 i (omega arith), sibling_first)
