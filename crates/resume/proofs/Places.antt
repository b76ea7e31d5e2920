-- The places on a path, one level after the other.
use Prim.Native.Nat.{ℕ, zero, suc, ◌<◌}
use mathlib.Core.List.{List, [], ◌∷◌}
use mathlib.Core.Path.{◌≡◌, refl, ap}
use native.Mathlib.Omega.{arith}
use native.Mathlib.Nat.{not-suc-le-zero}
use lib.ListN.{length, get_or, take}
use Rattle.open.specs.Opening.{field}
use Rattle.context.specs.Context.{children_place, sibling_place}
use Rattle.traversal.proofs.Keeps.{snoc}
use Rattle.resume.specs.Way.{places_on}

-- where the array starts that lies below a path
abbrev pub start_below : List ℕ → (start : ℕ) (path : List ℕ) → ℕ
start_below file start [] = start
start_below file start (i ∷ path) = start_below file (field file (sibling_place file start i) children_place) path

module _ (file : List ℕ) where
  pub place_at : (start : ℕ) (path : List ℕ) (k : ℕ) → k < length path
      → get_or (places_on file start path) k 0 ≡ sibling_place file (start_below file start (take k path)) (get_or path k 0)
  unfolding places_on
  place_at start [] k h = absurd (not-suc-le-zero h)
  place_at start (i ∷ path) zero h = refl
  place_at start (i ∷ path) (suc k) h = place_at (field file (sibling_place file start i) children_place) path k (omega arith)

  -- the array below the place on level k
  pub start_next : (start : ℕ) (path : List ℕ) (k : ℕ) → k < length path
      → start_below file start (take (suc k) path) ≡ field file (get_or (places_on file start path) k 0) children_place
  unfolding places_on
  start_next start [] k h = absurd (not-suc-le-zero h)
  start_next start (i ∷ path) zero h = refl
  start_next start (i ∷ path) (suc k) h = start_next (field file (sibling_place file start i) children_place) path k (omega arith)

  pub start_snoc : (start : ℕ) (path : List ℕ) (i : ℕ)
      → start_below file start (snoc path i) ≡ field file (sibling_place file (start_below file start path) i) children_place
  start_snoc start [] i = refl
  start_snoc start (j ∷ path) i = start_snoc (field file (sibling_place file start j) children_place) path i

  pub places_snoc : (start : ℕ) (path : List ℕ) (i : ℕ)
      → places_on file start (snoc path i) ≡ snoc (places_on file start path) (sibling_place file (start_below file start path) i)
  unfolding places_on
  places_snoc start [] i = refl
  places_snoc start (j ∷ path) i =
      ap (◌∷◌ (sibling_place file start j)) (places_snoc (field file (sibling_place file start j) children_place) path i)
