-- Parts of a text.
use Rattle.std.specs.Prelude.{ℕ, ◌+◌, ◌-◌, ◌*◌, ◌^◌, ◌%◌, ◌==◌, min, List, [], ◌∷◌, take, drop, if◌then◌else◌}
use Rattle.std.specs.List.{onto_first}
use Rattle.scan.specs.Until.{until}

-- the bytes from a place to just before the first that is `stop`, or to the end
unfoldable pub part_at : (stop : ℕ) → List ℕ → (at : ℕ) → List ℕ
part_at stop list at = take (until stop (drop at list)) (drop at list)

-- the parts that `stop` ends, each without it; the last may have none
unfoldable pub parts : (stop : ℕ) → List ℕ → List (List ℕ)
parts stop [] = []
parts stop (c ∷ cs) = if c == stop then [] ∷ parts stop cs else onto_first c (parts stop cs)

-- the number that decimal digits write, or the greatest u64 if that is less; of each byte the low four bits count
unfoldable pub decimal_from : (n : ℕ) → List ℕ → ℕ
decimal_from n [] = n
decimal_from n (c ∷ cs) = decimal_from (min (n * 10 + c % 16) (2 ^ 64 - 1)) cs

abbrev pub decimal : List ℕ → ℕ
decimal = decimal_from 0
