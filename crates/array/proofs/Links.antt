-- A link is a multiple of the stride away from the array's start, by fewer strides than there are elements.
use Prim.Native.Nat.{ℕ, zero, suc, ◌+◌, ◌-◌, ◌*◌, ◌/◌, ◌%◌, ◌≤◌, ◌<◌}
use mathlib.Core.Bool.{Bool, true, false, ◌&&◌, ◌||◌}
use mathlib.Core.Logic.{◌↔◌, ◌⊎◌, inl, inr}
use mathlib.Core.Path.{◌≡◌, refl}
use native.Mathlib.Nat.{not-suc-le-zero, eq-or-lt_of_le, le_of_suc-le-suc, mul-zero, div-add-mod'}
use native.Mathlib.Omega.{arith}
use borrow.Author.Tests.{eqb-true, eq-eqb, ltb-true, lt-ltb}
use lib.Arith.{digits_div, digits_mod}
use lib.Dec.{eqb, ltb}
use Rattle.range.proofs.Tests.{same_truth, both}
use Rattle.array.specs.declared.Array.{Array}
use Rattle.array.specs.Element.{linked_below, linked}

either : (a b : Bool) → (a || b) ≡ true → (a ≡ true) ⊎ (b ≡ true)
either true b e = inl refl
either false b e = inr e

or_left : (a b : Bool) → a ≡ true → (a || b) ≡ true
or_left a b e = rw e

or_right : (a b : Bool) → b ≡ true → (a || b) ≡ true
or_right true b e = refl
or_right false b e = e

times_none : (n s : ℕ) → s ≡ 0 → n * s ≡ 0
times_none n s e = rw (e, mul-zero)

module _ (from stride place : ℕ) where
  -- the definition says what document 01 says
  pub below→ : (n : ℕ) → linked_below from stride n place ≡ true → (i : ℕ) × (i < n) × (place ≡ from + i * stride)
  unfolding linked_below
  below→ zero e = absurd (let z : ◌≡◌ {A = ℕ} 0 1 = cc in omega arith)
  below→ (suc n) e = go (either (eqb place (from + n * stride)) (linked_below from stride n place) e) (below→ n)
    where
      go : (eqb place (from + n * stride) ≡ true) ⊎ (linked_below from stride n place ≡ true)
          → (linked_below from stride n place ≡ true → (i : ℕ) × (i < n) × (place ≡ from + i * stride))
          → (i : ℕ) × (i < suc n) × (place ≡ from + i * stride)
      go (inl q) r = (n, omega arith, eqb-true place (from + n * stride) q)
      go (inr q) r = ((r q).0, (let h : (r q).0 < n = (r q).1 in omega arith), (r q).2)

  pub →below : (n i : ℕ) → i < n → place ≡ from + i * stride → linked_below from stride n place ≡ true
  unfolding linked_below
  →below zero i h e = absurd (not-suc-le-zero h)
  →below (suc n) i h e = go (eq-or-lt_of_le (le_of_suc-le-suc h)) (→below n i)
    where
      go : (i ≡ n) ⊎ (i < n) → (i < n → place ≡ from + i * stride → linked_below from stride n place ≡ true)
          → (eqb place (from + n * stride) || linked_below from stride n place) ≡ true
      go (inl q) r = or_left (eqb place (from + n * stride)) (linked_below from stride n place) (eq-eqb place (from + n * stride) (rw q at e))
      go (inr q) r = or_right (eqb place (from + n * stride)) (linked_below from stride n place) (r q e)

module _ (a : Array) (place : ℕ) where
  pub linked_iff : (linked a place ≡ true) ↔ ((i : ℕ) × (i < a.count) × (place ≡ a.place + i * a.stride))
  unfolding linked
  linked_iff = (below→ a.place a.stride place a.count, λ w. →below a.place a.stride place a.count w.0 w.1 w.2)

  pub before : place < a.place → false ≡ linked a place
  before h =
      same_truth false (linked a place) (λ e. absurd (let z : ◌≡◌ {A = ℕ} 0 1 = cc in omega arith))
      (λ e. let w = linked_iff.0 e in let q : place ≡ a.place + w.0 * a.stride = w.2 in absurd (omega arith))

  -- no stride: every element stands at the start
  pub no_stride : a.place ≤ place → a.stride ≡ 0 → (eqb (place - a.place) 0 && ltb 0 a.count) ≡ linked a place
  no_stride h z =
      let t = both (eqb (place - a.place) 0) (ltb 0 a.count) in
      same_truth (eqb (place - a.place) 0 && ltb 0 a.count) (linked a place)
      (λ e.
      let d : place - a.place ≡ 0 = eqb-true (place - a.place) 0 (t.0 e).0 in
      let m : 0 * a.stride ≡ 0 = times_none 0 a.stride z in
      linked_iff.1 (0, ltb-true 0 a.count (t.0 e).1, omega arith))
      (λ e.
      let w = linked_iff.0 e in
      let m : w.0 * a.stride ≡ 0 = times_none w.0 a.stride z in
      let q : place ≡ a.place + w.0 * a.stride = w.2 in
      let l : w.0 < a.count = w.1 in
      t.1 (eq-eqb (place - a.place) 0 (omega arith), lt-ltb 0 a.count (omega arith)))

  pub by_stride : a.place ≤ place → 0 < a.stride
      → (eqb ((place - a.place) % a.stride) 0 && ltb ((place - a.place) / a.stride) a.count) ≡ linked a place
  by_stride h p =
      let d = place - a.place in
      let t = both (eqb (d % a.stride) 0) (ltb (d / a.stride) a.count) in
      same_truth (eqb (d % a.stride) 0 && ltb (d / a.stride) a.count) (linked a place)
      (λ e.
      let r : d % a.stride ≡ 0 = eqb-true (d % a.stride) 0 (t.0 e).0 in
      let s : d / a.stride * a.stride + d % a.stride ≡ d = div-add-mod' d a.stride in
      linked_iff.1 (d / a.stride, ltb-true (d / a.stride) a.count (t.0 e).1, omega arith))
      (λ e.
      let w = linked_iff.0 e in
      let q : place ≡ a.place + w.0 * a.stride = w.2 in
      let s : d ≡ w.0 * a.stride + 0 = omega arith in
      let m : d % a.stride ≡ 0 = rw s (digits_mod w.0 p) in
      let v : d / a.stride ≡ w.0 = rw s (digits_div w.0 p) in
      t.1 (eq-eqb (d % a.stride) 0 m, rw v (lt-ltb w.0 a.count w.1)))
