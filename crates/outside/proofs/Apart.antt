-- Two ranges are apart exactly if no byte is in both; bytes lie outside the sections exactly if they are apart from each.
use Prim.Native.Nat.{ℕ, zero, suc, ◌+◌, ◌-◌, ◌*◌, ◌<◌}
use mathlib.Core.Bool.{Bool, true, false, ◌||◌}
use mathlib.Core.List.{List, [], ◌∷◌}
use mathlib.Core.Logic.{◌↔◌}
use mathlib.Core.Path.{◌≡◌, refl}
use native.Mathlib.Nat.{zero-mul, mul-zero, mul-pos, not-suc-le-zero, le_of_suc-le-suc}
use native.Mathlib.Omega.{arith}
use borrow.Author.Tests.{leb-true, leb-false, eqb-true, eq-eqb, ne_eqb}
use lib.Dec.{leb, eqb}
use lib.ListN.{length, get_or}
use Rattle.range.specs.Range.{within}
use Rattle.range.proofs.Tests.{both, within_iff}
use Rattle.outside.specs.Outside.{apart, apart_all, lies}
use Rattle.outside.specs.Facts.{Disjoint, LiesOutside}

ne_zero : (n : ℕ) → eqb n 0 ≡ false → 0 < n
ne_zero zero e = absurd (let o : ◌≡◌ {A = ℕ} 0 1 = cc in omega arith)
ne_zero (suc n) e = omega arith

module _ (at n place size : ℕ) where
  pub apart_disjoint : apart at n place size ≡ true → Disjoint at n place size
  unfolding apart
  apart_disjoint = go (eqb size 0) refl (eqb n 0) refl (leb (at + n) place) refl (leb (place + size) at) refl
    where
      go : (a : Bool) → eqb size 0 ≡ a → (b : Bool) → eqb n 0 ≡ b → (c : Bool) → leb (at + n) place ≡ c → (d : Bool) → leb (place + size) at ≡ d
          → ((a || b) || (c || d)) ≡ true → Disjoint at n place size
      go true e b f c g d h t p w x y z = omega (arith, eqb-true size 0 e)
      go false e true f c g d h t p w x y z = omega (arith, eqb-true n 0 f)
      go false e false f true g d h t p w x y z = omega (arith, leb-true (at + n) place g)
      go false e false f false g true h t p w x y z = omega (arith, leb-true (place + size) at h)
      go false e false f false g false h t p w x y z = let o : ◌≡◌ {A = ℕ} 0 1 = cc in omega arith

  -- a byte that is in both, where neither test holds: the later of the two starts
  pub disjoint_apart : Disjoint at n place size → apart at n place size ≡ true
  unfolding apart
  disjoint_apart d = go (eqb size 0) refl (eqb n 0) refl (leb (at + n) place) refl (leb (place + size) at) refl
    where
      shared : (eqb size 0 ≡ false) → (eqb n 0 ≡ false) → (leb (at + n) place ≡ false) → (leb (place + size) at ≡ false) → (later : Bool)
          → leb at place ≡ later → ⊥
      shared e f g h true l =
          d place (leb-true at place l) (leb-false (at + n) place g) (omega arith) (omega (arith, ne_zero size e))
      shared e f g h false l = d at (omega arith) (omega (arith, ne_zero n f)) (omega (arith, leb-false at place l)) (leb-false (place + size) at h)

      go : (a : Bool) → eqb size 0 ≡ a → (b : Bool) → eqb n 0 ≡ b → (c : Bool) → leb (at + n) place ≡ c → (d : Bool) → leb (place + size) at ≡ d
          → ((a || b) || (c || d)) ≡ true
      go true e b f c g d h = refl
      go false e true f c g d h = refl
      go false e false f true g d h = refl
      go false e false f false g true h = refl
      go false e false f false g false h = absurd (shared e f g h (leb at place) refl)

pub apart_iff : (at n place size : ℕ) → (apart at n place size ≡ true) ↔ Disjoint at n place size
apart_iff at n place size = (apart_disjoint at n place size, disjoint_apart at n place size)

-- apart from all sections exactly if from each
all_iff : (at n : ℕ) (ps : List (List ℕ))
    → (apart_all at n ps ≡ true) ↔ ((k : ℕ) → k < length ps → Disjoint at n (get_or (get_or ps k []) 0 0) (get_or (get_or ps k []) 1 0))
unfolding apart_all
all_iff at n [] = (λ e k l. absurd (not-suc-le-zero l), λ f. refl)
all_iff at n (p ∷ ps) =
    let b = both (apart at n (get_or p 0 0) (get_or p 1 0)) (apart_all at n ps) in
    let a = apart_iff at n (get_or p 0 0) (get_or p 1 0) in
    let r = all_iff at n ps in
    (λ e. each (a.0 (b.0 e).0) (r.0 (b.0 e).1), λ f. b.1 (a.1 (f 0 (omega arith)), r.1 (λ k l. f (suc k) (omega arith))))
  where
    each : Disjoint at n (get_or p 0 0) (get_or p 1 0)
        → ((k : ℕ) → k < length ps → Disjoint at n (get_or (get_or ps k []) 0 0) (get_or (get_or ps k []) 1 0))
        → (k : ℕ) → k < length (p ∷ ps) → Disjoint at n (get_or (get_or (p ∷ ps) k []) 0 0) (get_or (get_or (p ∷ ps) k []) 1 0)
    each here later zero l = here
    each here later (suc k) l = later k (le_of_suc-le-suc l)

-- the test of where n bytes lie says what it is named for: behind the header, before the last eight bytes, in no section
pub lies_iff : (file : List ℕ) (header : ℕ) (sections : List (List ℕ)) (at n : ℕ)
    → (lies file header sections at n ≡ true) ↔ LiesOutside file header sections at n
unfolding lies
lies_iff file header sections at n =
    let b = both (within header (length file - 8) at n) (apart_all at n sections) in
    let w = within_iff header (length file - 8) at n in
    let a = all_iff at n sections in (
      λ e. record { after = (w.0 (b.0 e).0).0; before = (w.0 (b.0 e).0).1; shares_none = a.0 (b.0 e).1 },
      λ k. b.1 (w.1 (k.after, k.before), a.1 k.shares_none),
    )

-- n elements of a stride have no byte exactly if there are none, or the stride is 0
pub none_product : (n stride : ℕ) → eqb (n * stride) 0 ≡ (eqb n 0 || eqb stride 0)
none_product n stride = go (eqb n 0) refl (eqb stride 0) refl
  where
    go : (a : Bool) → eqb n 0 ≡ a → (b : Bool) → eqb stride 0 ≡ b → eqb (n * stride) 0 ≡ (a || b)
    go true e b f = eq-eqb (n * stride) 0 (rw (eqb-true n 0 e) (zero-mul stride))
    go false e true f = eq-eqb (n * stride) 0 (rw (eqb-true stride 0 f) (mul-zero n))
    go false e false f = ne_eqb (n * stride) 0 (λ z. omega (arith, mul-pos (ne_zero n e) (ne_zero stride f)))

-- a section of size 0 counts for nothing
pub lies_one : (file : List ℕ) (header : ℕ) (p : List ℕ) (at n : ℕ) → lies file header (p ∷ (0 ∷ 0 ∷ []) ∷ []) at n ≡ lies file header (p ∷ []) at n
unfolding lies apart_all apart
lies_one file header p at n = refl
