-- What a read gives.
use Rattle.std.specs.Prelude.{ℕ, ◌≡◌, List, Option, take, IfSome}

-- bytes are the first that are known to be left, as many as there is room for
abbrev pub Fills : (room : ℕ) → Option (List ℕ) → List ℕ → Type 0
Fills room known bytes = IfSome known (λ xs. bytes ≡ take room xs)
