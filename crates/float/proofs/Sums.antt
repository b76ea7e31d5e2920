-- Rounding never makes a NaN, so that a sum is a NaN only where an infinity or a NaN is added to one.
use Prim.Native.Nat.{ℕ, zero, suc, ◌+◌, ◌-◌, ◌*◌, ◌^◌}
use mathlib.Core.Bool.{Bool, true, false, not, ◌&&◌, beq, cond}
use mathlib.Core.Path.{◌≡◌, sym, subst}
use lib.Dec.{T, ltb}
use lib.Ieee.{Float, nan, inf, fin, Format, binary64, prec, emax, low, up, down, odd, units, round, sum, add, is_nan, nan_bits, of_bits}
use lib.Ieee.Bits.{nan_bits_is}
use lib.Ieee.Scale as ieee
use Rattle.float.specs.Float.{finite}

-- x is no NaN
abbrev pub Some : Float → Type 0
Some x = T (not (is_nan x))

cond_some : (b : Bool) (x y : Float) → Some x → Some y → Some (cond b x y)
cond_some true x y p q = p
cond_some false x y p q = q

odd_some : (d : ℕ) (s : Bool) (q k l : ℕ) → Some (odd d s q k l)
unfolding odd is_nan
odd_some d s zero k l = tt
odd_some d s (suc q) k l = tt

inf_some : (s : Bool) → Some (inf s)
unfolding is_nan
inf_some s = tt

module _ (f : Format) where
  units_some : (s : Bool) (q k : ℕ) → Some (units f s q k)
  unfolding units
  units_some s q k =
      cond_some (ltb (q * 2 ^ k) (2 ^ (low f + suc (emax f)))) (odd (suc (prec f)) s q k (low f)) (inf s) (odd_some (suc (prec f)) s q k (low f)) (inf_some s)

  round_some : (s : Bool) (n d : ℕ) → Some (round f s n d)
  unfolding round
  round_some s n d = units_some s _ _

  sum_some : (s : Bool) (a : ℕ) (t : Bool) (b c : ℕ) → Some (sum f s a t b c)
  unfolding sum
  sum_some s a t b c =
      let v = round f t (b - a) c in
      let w = round f (s && ltb b a) (a - b) c in
      cond_some (beq s t) (round f s (a + b) c) (cond (ltb a b) v w) (round_some s (a + b) c)
      (cond_some (ltb a b) v w (round_some t (b - a) c) (round_some (s && ltb b a) (a - b) c))

  pub add_some : (x y : Float) → Some x → ieee.finite y ≡ true → Some (add f x y)
  unfolding add is_nan
  add_some nan y p q = absurd p
  add_some (inf s) nan p q = absurd (subst T (sym q) tt)
  add_some (inf s) (inf t) p q = absurd (subst T (sym q) tt)
  add_some (inf s) (fin t n d) p q = tt
  add_some (fin s m e) nan p q = absurd (subst T (sym q) tt)
  add_some (fin s m e) (inf t) p q = absurd (subst T (sym q) tt)
  add_some (fin s m e) (fin t n d) p q = sum_some s (m * up e * down d) t (n * up d * down e) (down e * down d)

-- ---- by bits

value_some : (x : Float) → ieee.finite x ≡ true → Some x
unfolding is_nan
value_some nan h = absurd (subst T (sym h) tt)
value_some (inf s) h = tt
value_some (fin s m e) h = tt

module _ (bits : ℕ) where
  pub finite_some : finite bits ≡ true → Some (of_bits binary64 bits)
  unfolding finite
  finite_some h = value_some (of_bits binary64 bits) h

  pub finite_bits : finite bits ≡ true → T (not (nan_bits binary64 bits))
  finite_bits h = subst (λ (b : Bool). T (not b)) (sym (nan_bits_is binary64 bits)) (finite_some h)

  -- what is no NaN, and a finite value: the sum is no NaN
  pub more_some : (x : Float) → Some x → finite bits ≡ true → Some (add binary64 x (of_bits binary64 bits))
  unfolding finite
  more_some x p h = add_some binary64 x (of_bits binary64 bits) p h
