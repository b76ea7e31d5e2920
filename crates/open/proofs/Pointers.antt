-- The place of a section by its size: its pointer where there is a size, and 0 where the pointer is ignored.
use Prim.Native.Nat.{ℕ, zero, suc, ◌≤◌, ◌<◌}
use mathlib.Core.Path.{◌≡◌, refl}
use native.Mathlib.Omega.{arith}
use Rattle.open.specs.Opening.{place_for}

pub place_none : (size pointer : ℕ) → size ≡ 0 → place_for size pointer ≡ 0
unfolding place_for
place_none size pointer e = rw e

pub place_some : (size pointer : ℕ) → 0 < size → place_for size pointer ≡ pointer
unfolding place_for
place_some zero pointer l = absurd (omega arith)
place_some (suc n) pointer l = refl

pub place_below : (size pointer : ℕ) → place_for size pointer ≤ pointer
unfolding place_for
place_below zero pointer = omega arith
place_below (suc n) pointer = omega arith

-- a place that is written as a pointer is read as it is
pub place_again : (size pointer : ℕ) → place_for size (place_for size pointer) ≡ place_for size pointer
unfolding place_for
place_again zero pointer = refl
place_again (suc n) pointer = refl
