-- Things laid out one after the other, and zeros up to a multiple of four.
use Rattle.std.specs.Prelude.{ℕ, zero, suc, ◌-◌, ◌%◌, List, [], ◌++◌, replicate}

-- e 0, .., e (n - 1), one after the other
unfoldable pub many : (e : ℕ → List ℕ) (n : ℕ) → List ℕ
many e zero = []
many e (suc n) = many e n ++ e n

-- how many bytes lead from a place to the next multiple of four, and so many zeros
unfoldable pub to_four : ℕ → ℕ
to_four n = (4 - n % 4) % 4

unfoldable pub zeros : ℕ → List ℕ
zeros n = replicate n 0
