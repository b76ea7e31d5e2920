-- What a slice of bytes holds.
use Rattle.std.specs.Prelude.{ℕ, ◌<◌, List, get_or}

-- numbers below 256
abbrev pub Octets : List ℕ → Type 0
Octets s = (i : ℕ) → get_or s i 0 < 256
