-- Finite values are ordered as the fractions that they are: what is not less is transitive, and nothing is less than itself.
use Prim.Native.Nat.{ℕ, ◌+◌, ◌*◌, ◌<◌}
use mathlib.Core.Bool.{Bool, true, false, not, ◌&&◌}
use mathlib.Core.Path.{◌≡◌, refl, sym, ◌∙◌, subst}
use native.Mathlib.Omega.{arith}
use borrow.Author.Tests.{ltb-true, ltb-false, le-ltb, not-true}
use lib.Dec.{T}
use lib.Ieee.{Float, nan, inf, fin, binary64, up, down, below, lt, of_bits}
use lib.Ieee.Fits.{down_pos}
use lib.Ieee.Positive.{through}
use lib.Ieee.Scale as ieee
use Rattle.float.specs.Float.{finite, less}

-- ±B/b is not below ±A/a, and ±C/c not below ±B/b
not_below_trans : (s t r : Bool) (A a B b C c : ℕ) → 0 < a → 0 < b → 0 < c
    → below t (B * a) s (A * b) ≡ false → below r (C * b) t (B * c) ≡ false → below r (C * a) s (A * c) ≡ false
not_below_trans false false false A a B b C c x y z h k =
    le-ltb (C * a) (A * c) (through A B C a b c y (ltb-false (B * a) (A * b) h) (ltb-false (C * b) (B * c) k))
not_below_trans false false true A a B b C c x y z h k =
    let e = ltb-false 0 (C * b + B * c) k in
    let p = through A B 0 a b c y (ltb-false (B * a) (A * b) h) (omega arith) in
    let q = through C 0 0 c b a y (omega arith) (omega arith) in
    le-ltb 0 (C * a + A * c) (omega arith)
not_below_trans false true false A a B b C c x y z h k =
    let e = ltb-false 0 (B * a + A * b) h in
    let p = through A 0 0 a b c y (omega arith) (omega arith) in
    le-ltb (C * a) (A * c) (omega arith)
not_below_trans false true true A a B b C c x y z h k =
    let e = ltb-false 0 (B * a + A * b) h in
    let p = through A 0 0 a b c y (omega arith) (omega arith) in
    let q = through C B 0 c b a y (ltb-false (B * c) (C * b) k) (omega arith) in
    le-ltb 0 (C * a + A * c) (omega arith)
not_below_trans true t false A a B b C c x y z h k = refl
not_below_trans true false true A a B b C c x y z h k =
    let e = ltb-false 0 (C * b + B * c) k in
    let q = through C 0 0 c b a y (omega arith) (omega arith) in
    le-ltb (A * c) (C * a) (omega arith)
not_below_trans true true true A a B b C c x y z h k =
    le-ltb (A * c) (C * a) (through C B A c b a y (ltb-false (B * c) (C * b) k) (ltb-false (A * b) (B * a) h))

not_above : (s t : Bool) (X Y : ℕ) → below s X t Y ≡ true → below t Y s X ≡ false
not_above false false X Y h = let l = ltb-true X Y h in le-ltb Y X (omega arith)
not_above false true X Y h = absurd (subst T (sym h) tt)
not_above true false X Y h = refl
not_above true true X Y h = let l = ltb-true Y X h in le-ltb X Y (omega arith)

not_lt_trans : (x y z : Float) → T (ieee.finite x) → T (ieee.finite y) → T (ieee.finite z)
    → lt y x ≡ false → lt z y ≡ false → lt z x ≡ false
unfolding lt
not_lt_trans nan y z p q r h k = absurd p
not_lt_trans (inf s) y z p q r h k = absurd p
not_lt_trans (fin s m e) nan z p q r h k = absurd q
not_lt_trans (fin s m e) (inf t) z p q r h k = absurd q
not_lt_trans (fin s m e) (fin t n d) nan p q r h k = absurd r
not_lt_trans (fin s m e) (fin t n d) (inf u) p q r h k = absurd r
not_lt_trans (fin s m e) (fin t n d) (fin u o g) p q r h k =
    not_below_trans s t u (m * up e) (down e) (n * up d) (down d) (o * up g) (down g) (down_pos e) (down_pos d) (down_pos g) h k

only_one : (s t : Bool) → (s && not t) ≡ true → (t && not s) ≡ false
only_one false t h = absurd (subst T (sym h) tt)
only_one true false h = refl
only_one true true h = refl

lt_not : (x y : Float) → lt x y ≡ true → lt y x ≡ false
unfolding lt
lt_not nan y h = absurd (subst T (sym h) tt)
lt_not (inf s) nan h = refl
lt_not (inf s) (inf t) h = only_one s t h
lt_not (inf s) (fin t n d) h = rw h
lt_not (fin s m e) nan h = refl
lt_not (fin s m e) (inf t) h = not-true t h
lt_not (fin s m e) (fin t n d) h = not_above s t (m * up e * down d) (n * up d * down e) h

-- ---- by bits

pub less_not : (x y : ℕ) → less x y ≡ true → less y x ≡ false
unfolding less
less_not x y h = lt_not (of_bits binary64 x) (of_bits binary64 y) h

pub less_same : (x : ℕ) → less x x ≡ false
less_same x = go (less x x) refl
  where
    go : (b : Bool) → less x x ≡ b → b ≡ false
    go false e = refl
    go true e = sym e ∙ less_not x x e

-- y is not less than x, nor z than y: z is not less than x
pub not_less_trans : (x y z : ℕ) → finite x ≡ true → finite y ≡ true → finite z ≡ true
    → less y x ≡ false → less z y ≡ false → less z x ≡ false
unfolding finite less
not_less_trans x y z p q r h k =
    not_lt_trans (of_bits binary64 x) (of_bits binary64 y) (of_bits binary64 z)
    (subst T (sym p) tt) (subst T (sym q) tt) (subst T (sym r) tt) h k
