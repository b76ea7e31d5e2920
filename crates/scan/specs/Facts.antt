-- The first of some bytes that is `stop`, as a fact.
use Rattle.std.specs.Prelude.{ℕ, ◌<◌, List, ◌≡◌, length, get_or}

-- it is byte n
pub record FirstIs (stop : ℕ) (bytes : List ℕ) (n : ℕ) : Type 0 where
  pub inside : n < length bytes
  pub here : get_or bytes n 0 ≡ stop
  pub none_before : (j : ℕ) → j < n → get_or bytes j 0 ≡ stop → ⊥
