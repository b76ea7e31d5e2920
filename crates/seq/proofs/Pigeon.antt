-- Pigeonhole: distinct numbers below n are at most n. By induction on n: taking n - 1 out of the list shortens it by one at most.
use Prim.Native.Nat.{ℕ, zero, suc, ◌≤◌}
use mathlib.Core.Bool.{Bool, true, false}
use mathlib.Core.List.{List, [], ◌∷◌}
use mathlib.Core.Path.{◌≡◌, refl, sym, ap, subst}
use native.Mathlib.Omega.{arith}
use native.Mathlib.Nat.{not-suc-le-zero}
use borrow.Author.Tests.{eqb-true, eqb-false}
use lib.Dec.{eqb}
use lib.ListN.{length}
use Rattle.refusal.specs.Check.{either}
use Rattle.seq.specs.Lists.{All, Differs, Distinct, Below}

-- ---- a list without a number

unfoldable without : ℕ → List ℕ → List ℕ
without n [] = []
without n (x ∷ xs) = either (eqb x n) (without n xs) (x ∷ without n xs)

all_either : (P : ℕ → Type 0) (n : ℕ) (b : Bool) (x : ℕ) (xs : List ℕ) → eqb x n ≡ b → ((x ≡ n → ⊥) → P x) → All P xs → All P (either b xs (x ∷ xs))
unfolding either
all_either P n true x xs e f h = h
all_either P n false x xs e f h = (f (eqb-false x n e), h)

all_without : {P Q : ℕ → Type 0} (n : ℕ) → ((x : ℕ) → (x ≡ n → ⊥) → P x → Q x) → (l : List ℕ) → All P l → All Q (without n l)
unfolding without
all_without n f [] h = tt
all_without {P} {Q} n f (x ∷ xs) h =
    all_either Q n (eqb x n) x (without n xs) refl (λ d. f x d h.0) (all_without n f xs h.1)

distinct_either : (b : Bool) (x : ℕ) (xs : List ℕ) → All (Differs x) xs → Distinct xs → Distinct (either b xs (x ∷ xs))
unfolding either
distinct_either true x xs h k = k
distinct_either false x xs h k = (h, k)

distinct_without : (n : ℕ) (l : List ℕ) → Distinct l → Distinct (without n l)
unfolding without
distinct_without n [] h = tt
distinct_without n (x ∷ xs) h =
    distinct_either (eqb x n) x (without n xs) (all_without n (λ y d r. r) xs h.0) (distinct_without n xs h.1)

-- what is not there is not taken out
without_none : (n : ℕ) (l : List ℕ) → All (Differs n) l → without n l ≡ l
unfolding without either
without_none n [] h = refl
without_none n (x ∷ xs) h = go (eqb x n) refl (without_none n xs h.1)
  where
    go : (b : Bool) → eqb x n ≡ b → without n xs ≡ xs → either b (without n xs) (x ∷ without n xs) ≡ x ∷ xs
    go true e r = absurd (h.0 (sym (eqb-true x n e)))
    go false e r = ap (◌∷◌ x) r

-- what is distinct loses one at most
length_without : (n : ℕ) (l : List ℕ) → Distinct l → length l ≤ suc (length (without n l))
unfolding without either
length_without n [] h = omega arith
length_without n (x ∷ xs) h = go (eqb x n) refl (length_without n xs h.1)
  where
    go : (b : Bool) → eqb x n ≡ b → length xs ≤ suc (length (without n xs)) → suc (length xs) ≤ suc (length (either b (without n xs) (x ∷ without n xs)))
    go true e r =
        let same : without n xs ≡ xs = without_none n xs (subst (λ (k : ℕ). All (Differs k) xs) (eqb-true x n e) h.0) in
        rw same (omega arith)
    go false e r = omega arith

pub pigeonhole : (n : ℕ) (l : List ℕ) → Distinct l → Below n l → length l ≤ n
pigeonhole zero [] d h = omega arith
pigeonhole zero (x ∷ xs) d h = absurd (not-suc-le-zero h.0)
pigeonhole (suc n) l d h =
    let below : Below n (without n l) = all_without n (λ x ne lt. omega arith) l h in
    omega (arith, pigeonhole n (without n l) (distinct_without n l d) below, length_without n l d)
