-- Where values, indices and trace lines may lie: document 01's "between header and last eight bytes", sharing no byte with a section.
use Rattle.std.specs.Prelude.{ℕ, ◌+◌, ◌-◌, Bool, true, ◌&&◌, ◌||◌, List, [], ◌∷◌, leb, eqb, length, get_or}
use Rattle.range.specs.Range.{within}

-- n bytes from a place share none with `size` bytes from another
unfoldable pub apart : (at n place size : ℕ) → Bool
apart at n place size = (eqb size 0 || eqb n 0) || (leb (at + n) place || leb (place + size) at)

unfoldable pub apart_all : (at n : ℕ) → (sections : List (List ℕ)) → Bool
apart_all at n [] = true
apart_all at n (p ∷ ps) = apart at n (get_or p 0 0) (get_or p 1 0) && apart_all at n ps

unfoldable pub lies : List ℕ → (header : ℕ) → (sections : List (List ℕ)) → (at n : ℕ) → Bool
lies file header sections at n = within header (length file - 8) at n && apart_all at n sections
