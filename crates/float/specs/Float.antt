-- Floats of 64 bits (IEEE 754 binary64), each by its bits.
use Rattle.std.specs.Prelude.{ℕ, Bool, false, pos}
use Rattle.std.specs.Float.{binary64}
use Rattle.std.specs.Float.Ieee.{of_bits, to_bits, of_int, lt}
use Rattle.std.specs.Float.Ieee.Exact.{HasValue}
use Rattle.std.specs.Float.Ieee.Scale as ieee

-- neither infinite nor NaN
unfoldable pub finite : (bits : ℕ) → Bool
finite bits = ieee.finite (of_bits binary64 bits)

-- as floats: zeros of either sign are equal
unfoldable pub less : (x y : ℕ) → Bool
less x y = lt (of_bits binary64 x) (of_bits binary64 y)

-- the bits of a number that is made a float
unfoldable pub integer_bits : (n : ℕ) → ℕ
integer_bits n = to_bits binary64 (of_int binary64 (pos n))

-- bits are those of a float whose value is the number n, exactly: its sign is plus, and its size n / 1
abbrev pub HasIntegerValue : (bits n : ℕ) → Type 0
HasIntegerValue bits n = HasValue (of_bits binary64 bits) false n 1
