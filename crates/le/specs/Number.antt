-- Numbers in a file, little-endian.
use Rattle.std.specs.Prelude.{ℕ, ◌+◌, ◌*◌, List, [], ◌∷◌, take, drop}

-- the number that some bytes hold, the lowest byte first
abbrev pub value : List ℕ → ℕ
value [] = 0
value (b ∷ bytes) = b + 256 * value bytes

-- the number that w bytes from a place on hold; past the end of the file there are no bytes, and what is missing counts as 0
unfoldable pub number : (w : ℕ) → List ℕ → (at : ℕ) → ℕ
number w file at = value (take w (drop at file))
