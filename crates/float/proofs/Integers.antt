-- A whole number up to 2^53 becomes a float without loss: the float's value is the number, and the number comes back.
use Prim.Native.Nat.{ℕ, ◌^◌, ◌≤◌, ◌<◌}
use mathlib.Core.Bool.{false, not}
use mathlib.Core.Path.{◌≡◌}
use borrow.Author.Tests.{le-leb}
use lib.Dec.{T}
use lib.IntN.{pos}
use lib.Ieee.{Float, nan, inf, fin, binary64, of_int, in_float, to_unsigned, is_nan, of_bits}
use lib.Ieee.Back.{round_whole, unsigned_back}
use lib.Ieee.Bits.{of_bits-to_bits, to_bits-lt}
use lib.Ieee.Exact.{HasValue}
use lib.Ieee.Fits.{of_int-fits}
use Rattle.float.specs.Float.{integer_bits, HasIntegerValue}

value_some : (x : Float) (n : ℕ) → HasValue x false n 1 → T (not (is_nan x))
unfolding is_nan
value_some nan n h = absurd h
value_some (inf s) n h = absurd h
value_some (fin s m e) n h = tt

module _ (n : ℕ) (h : n ≤ 2 ^ 53) where
  -- the float, and the bits of the float
  of_integer : HasValue (of_int binary64 (pos n)) false n 1
  unfolding of_int
  of_integer = round_whole binary64 false n h

  pub integer_some : T (not (is_nan (of_int binary64 (pos n))))
  integer_some = value_some (of_int binary64 (pos n)) n of_integer

  float_of_bits : of_bits binary64 (integer_bits n) ≡ of_int binary64 (pos n)
  unfolding integer_bits
  float_of_bits = of_bits-to_bits binary64 (of_int binary64 (pos n)) (of_int-fits binary64 (pos n))

  pub integer_value : HasIntegerValue (integer_bits n) n
  integer_value = rw float_of_bits of_integer

  -- as a number of w bits again
  pub integer_back : (w : ℕ) → n < 2 ^ w → to_unsigned w (of_bits binary64 (integer_bits n)) ≡ n
  unfolding in_float
  integer_back w l = rw float_of_bits (unsigned_back binary64 w n (rw (le-leb n (2 ^ 53) h) tt) l).1

pub integer_small : (n : ℕ) → integer_bits n < 2 ^ 64
unfolding integer_bits
integer_small n = to_bits-lt binary64 (of_int binary64 (pos n)) (of_int-fits binary64 (pos n))
