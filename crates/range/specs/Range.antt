-- Ranges of bytes and multiples, on exact numbers.
use Rattle.std.specs.Prelude.{ℕ, ◌+◌, ◌%◌, Bool, ◌&&◌, leb, eqb}

-- some bytes from a place on lie between two places
abbrev pub within : (from to place size : ℕ) → Bool
within from to place size = leb from place && leb (place + size) to

-- a number is a multiple of another
abbrev pub multiple : (n step : ℕ) → Bool
multiple n step = eqb (n % step) 0
