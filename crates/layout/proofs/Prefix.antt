-- `stands` as a fact about the bytes at a place.
use Prim.Native.Nat.{ℕ}
use mathlib.Core.Bool.{true}
use mathlib.Core.List.{List, [], ◌∷◌}
use mathlib.Core.Logic.{◌↔◌}
use mathlib.Core.Path.{◌≡◌, refl, ap₂, sym}
use native.Mathlib.Omega.{arith}
use borrow.Author.Tests.{eqb-true, eq-eqb}
use lib.Dec.{eqb}
use lib.ListN.{length, take, drop}
use Rattle.range.proofs.Tests.{both}
use Rattle.layout.specs.Stands.{starts, stands, Stands}

starts_iff : (xs ys : List ℕ) → (starts xs ys ≡ true) ↔ (take (length xs) ys ≡ xs)
unfolding starts
starts_iff [] ys = (λ e. refl, λ e. refl)
starts_iff (x ∷ xs) [] = (λ e. absurd (let z : ◌≡◌ {A = ℕ} 0 1 = cc in omega arith), λ e. absurd (let z : ◌≡◌ {A = ℕ} 0 1 = cc in omega arith))
starts_iff (x ∷ xs) (y ∷ ys) =
    let t = both (eqb x y) (starts xs ys) in
    let r = starts_iff xs ys in (
      λ e. ap₂ ◌∷◌ (sym (eqb-true x y (t.0 e).0)) (r.0 (t.0 e).1),
      λ e. t.1 (eq-eqb x y (cc), r.1 (cc)),
    )

pub stands_iff : (file : List ℕ) (at : ℕ) (bytes : List ℕ) → (stands file at bytes ≡ true) ↔ Stands file at bytes
unfolding stands
stands_iff file at bytes =
    let t = starts_iff bytes (drop at file) in
    (λ e. record { same = t.0 e }, λ s. t.1 s.same)
