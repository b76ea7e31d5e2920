-- What the tests say of numbers, in both directions.
use Prim.Native.Nat.{ℕ, ◌+◌, ◌%◌, ◌≤◌}
use mathlib.Core.Bool.{Bool, true, false, ◌&&◌, ◌||◌}
use mathlib.Core.Logic.{◌↔◌}
use mathlib.Core.Path.{◌≡◌, refl, sym}
use native.Mathlib.Omega.{arith}
use borrow.Author.Tests.{leb-true, le-leb, eqb-true, eq-eqb}
use lib.Dec.{leb}
use Rattle.range.specs.Range.{within, multiple}

-- two tests that hold in the same cases are the same
pub same_truth : (a b : Bool) → (a ≡ true → b ≡ true) → (b ≡ true → a ≡ true) → a ≡ b
same_truth true b f g = sym (f refl)
same_truth false true f g = g refl
same_truth false false f g = refl

pub both : (a b : Bool) → ((a && b) ≡ true) ↔ ((a ≡ true) × (b ≡ true))
both true b = (λ e. (refl, e), λ e. e.1)
both false b = (λ e. (e, absurd (let z : ◌≡◌ {A = ℕ} 0 1 = cc in omega arith)), λ e. e.0)

-- one of two tests, where the first need not be asked if it is known to fail
pub unless : (a b : Bool) → ((a || b) ≡ true) ↔ (a ≡ false → b ≡ true)
unless true b = (λ e f. absurd (let z : ◌≡◌ {A = ℕ} 0 1 = cc in omega arith), λ f. refl)
unless false b = (λ e f. e, λ f. f refl)

pub within_iff : (from to place size : ℕ) → (within from to place size ≡ true) ↔ ((from ≤ place) × (place + size ≤ to))
within_iff from to place size =
    let t = both (leb from place) (leb (place + size) to) in (
      λ e. (leb-true from place (t.0 e).0, leb-true (place + size) to (t.0 e).1),
      λ e. t.1 (le-leb from place e.0, le-leb (place + size) to e.1),
    )

pub multiple_iff : (n step : ℕ) → (multiple n step ≡ true) ↔ (n % step ≡ 0)
multiple_iff n step = (eqb-true (n % step) 0, eq-eqb (n % step) 0)
