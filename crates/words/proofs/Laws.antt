-- An answer is written exactly if its number is 0, which no refusal has.
use Prim.Native.Nat.{ℕ, zero, suc, ◌≤◌}
use mir.Val.{bool_byte}
use mathlib.Core.Bool.{Bool, true, false}
use mathlib.Core.List.{List, ◌∷◌}
use mathlib.Core.Path.{◌≡◌, refl, sym, ap, ◌∙◌}
use native.Mathlib.Omega.{arith}
use Rattle.refusal.specs.declared.Refusal.{Refusal}
use Rattle.refusal.specs.Number.{number_of}
use Rattle.refusal.specs.Check.{either}
use Rattle.refusal.specs.Words.{code_in}
use Rattle.refusal.proofs.Numbers.{positive}
use Rattle.words.specs.Convention.{words_in}

-- a bit as a number
pub as_bit : (b : Bool) → bool_byte b ≡ either b 1 0
unfolding either
as_bit true = refl
as_bit false = refl

leaves : (n : ℕ) → 1 ≤ n → (was values : List ℕ) → was ≡ words_in was (n ∷ values)
unfolding words_in
leaves zero h was values = absurd (omega (arith, h))
leaves (suc n) h was values = refl

-- what is returned and written, by the answer in words
module _ (was : List ℕ) {answer values : List ℕ} where
  pub answered : answer ≡ 0 ∷ values → (0 ≡ code_in answer) × (values ≡ words_in was answer)
  unfolding code_in words_in
  answered e = (rw e, rw e)

  pub absent : answer ≡ 100 ∷ values → (100 ≡ code_in answer) × (was ≡ words_in was answer)
  unfolding code_in words_in
  absent e = (rw e, rw e)

pub refused : (was : List ℕ) {answer : List ℕ} {n : ℕ} (r : Refusal) (values : List ℕ) → answer ≡ number_of r ∷ values → n ≡ number_of r
    → (n ≡ code_in answer) × (was ≡ words_in was answer)
unfolding code_in
refused was r values e f = (rw (e, f), leaves (number_of r) (positive r) was values ∙ ap (words_in was) (sym e))
