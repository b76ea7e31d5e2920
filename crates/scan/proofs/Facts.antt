-- The search finds a byte exactly if it is the first that is `stop`.
use Prim.Native.Nat.{ℕ, zero, suc, ◌<◌}
use mathlib.Core.Bool.{Bool, true, false}
use mathlib.Core.List.{List, [], ◌∷◌}
use mathlib.Core.Logic.{◌↔◌}
use mathlib.Core.Path.{◌≡◌, refl, ap}
use native.Mathlib.Omega.{arith}
use borrow.Author.Tests.{eqb-true, eqb-false, eq-eqb, ne_eqb}
use lib.Dec.{eqb}
use lib.ListN.{length, get_or}
use Rattle.refusal.specs.Check.{either}
use Rattle.scan.specs.Until.{until}
use Rattle.scan.specs.Facts.{FirstIs}

until_first : (stop : ℕ) (bytes : List ℕ) → until stop bytes < length bytes → FirstIs stop bytes (until stop bytes)
unfolding until either
until_first stop [] h = absurd (omega arith)
until_first stop (b ∷ bytes) h = go (eqb b stop) refl h (until_first stop bytes)
  where
    go : (t : Bool) → eqb b stop ≡ t → either t 0 (suc (until stop bytes)) < suc (length bytes)
        → (until stop bytes < length bytes → FirstIs stop bytes (until stop bytes)) → FirstIs stop (b ∷ bytes) (either t 0 (suc (until stop bytes)))
    go true e h r = record { inside = h; here = eqb-true b stop e; none_before = λ j l. absurd (omega arith) }
    go false e h r = let first = r (omega arith) in record { inside = h; here = first.here; none_before = each first }
      where
        each : FirstIs stop bytes (until stop bytes) → (j : ℕ) → j < suc (until stop bytes) → get_or (b ∷ bytes) j 0 ≡ stop → ⊥
        each first zero l = eqb-false b stop e
        each first (suc j) l = first.none_before j (omega arith)

first_until : (stop : ℕ) (bytes : List ℕ) (n : ℕ) → FirstIs stop bytes n → until stop bytes ≡ n
unfolding until either
first_until stop [] n f = absurd (omega (arith, f.inside))
first_until stop (b ∷ bytes) zero f = rw (eq-eqb b stop f.here)
first_until stop (b ∷ bytes) (suc n) f =
    let later : FirstIs stop bytes n =
    record { inside = omega (arith, f.inside); here = f.here; none_before = λ j l. f.none_before (suc j) (omega arith) } in
    rw (ne_eqb b stop (f.none_before 0 (omega arith))) (ap suc (first_until stop bytes n later))

-- n bytes stand before the first that is `stop`, and not all, exactly if byte n is it
pub until_iff : (stop : ℕ) (bytes : List ℕ) (n : ℕ) → ((until stop bytes ≡ n) × (n < length bytes)) ↔ FirstIs stop bytes n
until_iff stop bytes n = (
  λ h. rw h.0 at (until_first stop bytes (omega (arith, h.0, h.1))),
  λ f. (first_until stop bytes n f, f.inside),
)
