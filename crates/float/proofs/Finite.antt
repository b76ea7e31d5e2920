-- Bits are a finite value's exactly if the exponent's field is not all ones: if they are below an infinity's, the sign put aside.
use Prim.Native.Nat.{ℕ, zero, suc, ◌+◌, ◌*◌, ◌/◌, ◌%◌, ◌≤◌, ◌<◌}
use mathlib.Core.Bool.{Bool, true, false, cond}
use mathlib.Core.Path.{◌≡◌, refl, sym}
use native.Mathlib.Omega.{arith}
use borrow.Author.Tests.{ltb-true, ltb-false, eqb-true, ne_eqb, eq-eqb}
use lib.Dec.{leb, ltb, eqb}
use lib.Ieee.{nan, inf, Format, binary64, prec, emax, low, odd, of_fields, of_bits, hid, ones, top}
use lib.Ieee.Scale as ieee
use Rattle.float.specs.Float.{finite}

odd_finite : (d : ℕ) (s : Bool) (q k l : ℕ) → ieee.finite (odd d s q k l) ≡ true
unfolding odd
odd_finite d s zero k l = refl
odd_finite d s (suc q) k l = refl

infinite : (t s : Bool) → ieee.finite (cond t (inf s) nan) ≡ false
infinite true s = refl
infinite false s = refl

module _ (f : Format) (s : Bool) where
  fields_finite : (x t : ℕ) → eqb x (ones f) ≡ false → ieee.finite (of_fields f s x t) ≡ true
  unfolding of_fields
  fields_finite zero t h = odd_finite (prec f) s t 0 (low f)
  fields_finite (suc x) t h = rw h (odd_finite (prec f) s (hid f + t) x (low f))

  fields_infinite : (x t : ℕ) → eqb x (ones f) ≡ true → ieee.finite (of_fields f s x t) ≡ false
  unfolding of_fields
  fields_infinite zero t h = let e : 0 ≡ 2 * emax f + 1 = eqb-true 0 (ones f) h in absurd (omega arith)
  fields_infinite (suc x) t h = rw h (infinite (eqb t 0) s)

module _ (x : ℕ) where
  pub finite_below : x % 0x8000_0000_0000_0000 < 0x7ff0_0000_0000_0000 → finite x ≡ true
  unfolding finite of_bits
  finite_below h =
      let e = x % top binary64 / hid binary64 in
      fields_finite binary64 (leb (top binary64) x) e (x % hid binary64) (ne_eqb e (ones binary64) (omega arith))

  pub finite_from : 0x7ff0_0000_0000_0000 ≤ x % 0x8000_0000_0000_0000 → finite x ≡ false
  unfolding finite of_bits
  finite_from h =
      let e = x % top binary64 / hid binary64 in
      fields_infinite binary64 (leb (top binary64) x) e (x % hid binary64) (eq-eqb e (ones binary64) (omega arith))

  pub finite_is : ltb (x % 0x8000_0000_0000_0000) 0x7ff0_0000_0000_0000 ≡ finite x
  finite_is = go (ltb (x % 0x8000_0000_0000_0000) 0x7ff0_0000_0000_0000) refl
    where
      go : (t : Bool) → ltb (x % 0x8000_0000_0000_0000) 0x7ff0_0000_0000_0000 ≡ t → t ≡ finite x
      go true e = sym (finite_below (ltb-true (x % 0x8000_0000_0000_0000) 0x7ff0_0000_0000_0000 e))
      go false e = sym (finite_from (ltb-false (x % 0x8000_0000_0000_0000) 0x7ff0_0000_0000_0000 e))
