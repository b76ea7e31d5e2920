-- Where values, indices and trace lines may lie, as facts.
use Rattle.std.specs.Prelude.{ℕ, ◌+◌, ◌-◌, ◌≤◌, ◌<◌, List, [], length, get_or}

-- no byte is in both of two ranges
abbrev pub Disjoint : (at n place size : ℕ) → Type 0
Disjoint at n place size = (p : ℕ) → at ≤ p → p < at + n → place ≤ p → p < place + size → ⊥

-- n bytes from a place on lie between header and last eight bytes, and share none with a section
pub record LiesOutside (file : List ℕ) (header : ℕ) (sections : List (List ℕ)) (at n : ℕ) : Type 0 where
  pub after : header ≤ at
  pub before : at + n ≤ length file - 8
  pub shares_none : (k : ℕ) → k < length sections → Disjoint at n (get_or (get_or sections k []) 0 0) (get_or (get_or sections k []) 1 0)
