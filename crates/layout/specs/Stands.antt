-- Some bytes stand in a file at a place: as a test, and as a fact.
use Rattle.std.specs.Prelude.{ℕ, Bool, true, false, ◌&&◌, List, [], ◌∷◌, ◌≡◌, eqb, length, take, drop}

-- whether a file starts with some bytes
unfoldable pub starts : (bytes file : List ℕ) → Bool
starts [] file = true
starts (b ∷ bytes) [] = false
starts (b ∷ bytes) (x ∷ file) = eqb b x && starts bytes file

-- whether it has them at a place
unfoldable pub stands : (file : List ℕ) (at : ℕ) (bytes : List ℕ) → Bool
stands file at bytes = starts bytes (drop at file)

pub record Stands (file : List ℕ) (at : ℕ) (bytes : List ℕ) : Type 0 where
  pub same : take (length bytes) (drop at file) ≡ bytes
