-- A step keeps what the next one relies on: the smallest and the greatest are finite and in order, and the sum is no NaN.
use Prim.Native.Nat.{ℕ, zero, suc, ◌≤◌}
use mathlib.Core.Bool.{Bool, true, false}
use mathlib.Core.Path.{◌≡◌, refl}
use native.Mathlib.Omega.{arith}
use Rattle.refusal.specs.Check.{either}
use Rattle.float.specs.Float.{finite, less}
use Rattle.float.proofs.Order.{less_same}
use Rattle.float.proofs.Sums.{finite_some, more_some}
use Rattle.total.specs.declared.Tally.{Tally}
use Rattle.total.specs.Totals.{start_of, step_of, tally_to, Good}

pub good_start : (id v : ℕ) → finite v ≡ true → Good (start_of id v)
unfolding start_of
good_start id v h = record { low = h; high = h; some = finite_some v h }

either_finite : (b : Bool) (x y : ℕ) → finite x ≡ true → finite y ≡ true → finite (either b x y) ≡ true
unfolding either
either_finite true x y p q = p
either_finite false x y p q = q

pub good_step : (t : Tally) (id v : ℕ) → Good t → finite v ≡ true → Good (step_of t id v)
unfolding step_of
good_step t id v g h = record {
  low = either_finite (less v t.least) v t.least h g.low;
  high = either_finite (less t.greatest v) v t.greatest h g.high;
  some = more_some v t.sum g.some h;
}

pub good_next : (t : Tally) (id v : ℕ) → Good t → finite v ≡ true → {r : Tally} → r ≡ step_of t id v → Good r
good_next t id v g h e = rw e (good_step t id v g h)

-- ---- the smallest is not greater than the greatest

pub ordered_start : (id v : ℕ) → less (start_of id v).greatest (start_of id v).least ≡ false
unfolding start_of
ordered_start id v = less_same v

either_ordered : (below above : Bool) (v low high : ℕ) → less v low ≡ below → less high v ≡ above → less high low ≡ false
    → less (either above v high) (either below v low) ≡ false
unfolding either
either_ordered false false v low high p q h = h
either_ordered false true v low high p q h = p
either_ordered true false v low high p q h = q
either_ordered true true v low high p q h = less_same v

pub ordered_step : (t : Tally) (id v : ℕ) → less t.greatest t.least ≡ false
    → less (step_of t id v).greatest (step_of t id v).least ≡ false
unfolding step_of
ordered_step t id v h = either_ordered (less v t.least) (less t.greatest v) v t.least t.greatest refl refl h

-- ---- a tally is that of its entries

pub tally_same : {ids bits ids' bits' : ℕ → ℕ} (k : ℕ) → ((i : ℕ) → i ≤ k → (ids i ≡ ids' i) × (bits i ≡ bits' i))
    → tally_to ids bits k ≡ tally_to ids' bits' k
unfolding tally_to
tally_same zero h = let e = h 0 (omega arith) in rw (e.0, e.1)
tally_same (suc k) h =
    let e = h (suc k) (omega arith) in
    rw (e.0, e.1, tally_same k (λ i l. h i (omega arith)))
