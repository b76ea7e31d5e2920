-- Totals as facts: of n entries, entry i with the identifier `ids i` and a value by its bits, `bits i`.
use Rattle.std.specs.Prelude.{ℕ, zero, suc, ◌<◌, Bool, true, false, ◌≡◌}
use Rattle.std.specs.Float.{binary64}
use Rattle.std.specs.Float.Ieee.{of_bits, to_bits, add}
use Rattle.float.specs.Float.{finite, less}

-- entry j has this identifier and this value; no value is better, and each before it is worse
pub record First (better : ℕ → ℕ → Bool) (ids bits : ℕ → ℕ) (n id v j : ℕ) : Type 0 where
  pub within : j < n
  pub its_id : id ≡ ids j
  pub its_bits : v ≡ bits j
  pub none_better : (i : ℕ) → i < n → better (bits i) v ≡ false
  pub all_worse : (i : ℕ) → i < j → better v (bits i) ≡ true

abbrev pub more : (x y : ℕ) → Bool
more x y = less y x

-- the sum of the first value and k more, from left to right, rounded once at each addition, by its bits
abbrev pub sum_to : (bits : ℕ → ℕ) → (k : ℕ) → ℕ
sum_to bits zero = to_bits binary64 (of_bits binary64 (bits 0))
sum_to bits (suc k) = to_bits binary64 (add binary64 (of_bits binary64 (sum_to bits k)) (of_bits binary64 (bits (suc k))))

pub record Totalled (ids bits : ℕ → ℕ) (n least_of least greatest_of greatest sum : ℕ) : Type 0 where
  pub some : 0 < n
  pub all-finite : (i : ℕ) → i < n → finite (bits i) ≡ true
  pub first_least : (j : ℕ) × First less ids bits n least_of least j
  pub first_greatest : (j : ℕ) × First more ids bits n greatest_of greatest j
  pub summed : (k : ℕ) × ((n ≡ suc k) × (sum ≡ sum_to bits k))
