-- Checks pass exactly if each rule holds, and else refuse by the first that does not; a check that passed adds nothing to another.
use Prim.Native.Nat.{ℕ}
use mathlib.Core.Bool.{Bool, true, false, ◌&&◌, true≢false}
use mathlib.Core.Logic.{◌↔◌, ◌⊎◌, inl, inr}
use mathlib.Core.Path.{◌≡◌, refl, sym, ap, ◌∙◌}
use native.Mathlib.Omega.{arith}
use Rattle.refusal.specs.declared.Refusal.{Refusal}
use Rattle.std.specs.Prelude.{Ok, Err, IsErrAnd}
use Rattle.std.proofs.lemmas.Result.{err_from_is_err_and}
use Rattle.refusal.specs.Check.{Answer, Check, Passed, Found}
use Rattle.refusal.specs.Check.{rule, first, on_answer, if_passed}

pub rule_passes : (t : Bool) (r : Refusal) → (rule t r ≡ Passed) ↔ (t ≡ true)
unfolding rule
rule_passes true r = (λ e. refl, λ e. refl)
rule_passes false r = (λ e. let z : ◌≡◌ {A = ℕ} 0 1 = cc in absurd (omega arith), λ e. let z : ◌≡◌ {A = ℕ} 0 1 = cc in absurd (omega arith))

pub first_passes : (a b : Check) → (first a b ≡ Passed) ↔ ((a ≡ Passed) × (b ≡ Passed))
first_passes Passed b = (λ e. (refl, e), λ e. e.1)
first_passes (Err r) b = (λ e. let z : ◌≡◌ {A = ℕ} 0 1 = cc in absurd (omega arith), λ e. e.0)

pub passed_first : (a : Check) → first Passed a ≡ a
passed_first a = refl

pub first_passed : (a : Check) → first a Passed ≡ a
first_passed Passed = refl
first_passed (Err r) = refl

pub rule_holds : (r : Refusal) → rule true r ≡ Passed
unfolding rule
rule_holds r = refl

pub rule_broken : {t : Bool} (r : Refusal) → t ≡ false → rule t r ≡ Err r
unfolding rule
rule_broken r e = rw e

-- two rules with one refusal are one rule
pub rule_and : (a b : Bool) (r : Refusal) → first (rule a r) (rule b r) ≡ rule (a && b) r
unfolding rule
rule_and true b r = refl
rule_and false b r = refl

-- a check that is looked at once another has passed
pub after_passed : {a b x : Check} → a ≡ Passed → x ≡ b → x ≡ first a b
after_passed e h = rw e h

pub after_refused : {a : Check} (b : Check) {r : Refusal} → a ≡ Err r → Err r ≡ first a b
after_refused b e = rw e

-- what a `?` hands on is the refusal that it met
pub handed_on : {B : Type 0} {x : Answer B} {r : Refusal} → IsErrAnd x (λ e. e ≡ r) → x ≡ Err r
handed_on {x = x} h = let p = err_from_is_err_and x h in p.1 ∙ ap Err p.2

-- what two answers give is the same where they are
pub ok_same : {A : Type 0} {x y : A} → ◌≡◌ {A = Answer A} (Ok x) (Ok y) → x ≡ y
ok_same e = cc

pub err_same : {A : Type 0} {r s : Refusal} → ◌≡◌ {A = Answer A} (Err r) (Err s) → r ≡ s
err_same e = cc

pub found_same : {A : Type 0} {x y : A} → Found x ≡ Found y → x ≡ y
found_same e = cc

pub not_both : {r : Refusal} → Passed ≡ Err r → ⊥
not_both e = let z : ◌≡◌ {A = ℕ} 0 1 = cc in omega arith

-- ---- an answer after a check, told from the check's refusals

module _ {A : Type 0} (refused : Refusal → A) where
  -- one that the check does not give was given because it passed
  pub if_passed_answers : (c : Check) (x y : A) → ((r : Refusal) → c ≡ Err r → refused r ≡ y → ⊥)
      → (if_passed refused c x ≡ y) ↔ ((c ≡ Passed) × (x ≡ y))
  unfolding on_answer
  if_passed_answers Passed x y other = (λ e. (refl, e), λ h. h.1)
  if_passed_answers (Err r) x y other = (λ e. absurd (other r refl e), λ h. absurd (not_both (sym h.0)))

  -- a refusal that is no answer was given by the check
  pub if_passed_refuses : (c : Check) (x : A) (r : Refusal) → (x ≡ refused r → ⊥) → ((s : Refusal) → refused s ≡ refused r → s ≡ r)
      → (if_passed refused c x ≡ refused r) ↔ (c ≡ Err r)
  unfolding on_answer
  if_passed_refuses Passed x r other same = (λ e. absurd (other e), λ h. absurd (not_both h))
  if_passed_refuses (Err s) x r other same = (λ e. ap Err (same s e), λ h. let q : s ≡ r = cc in ap refused q)

-- ---- all that a check says: it passes exactly if P, and it refuses by r exactly if G r

pub record Decides (c : Check) (P : Type 0) (G : Refusal → Type 0) : Type 0 where
  pub passes : (c ≡ Passed) ↔ P
  pub refuses : (r : Refusal) → (c ≡ Err r) ↔ G r

-- in other words
pub restated : {c : Check} {P Q : Type 0} {G H : Refusal → Type 0} → Decides c P G → P ↔ Q → ((r : Refusal) → G r ↔ H r) → Decides c Q H
restated s i j = record {
  passes = (λ e. i.0 (s.passes.0 e), λ q. s.passes.1 (i.1 q));
  refuses = λ r. (λ e. (j r).0 ((s.refuses r).0 e), λ h. (s.refuses r).1 ((j r).1 h));
}

-- a rule refuses by its own refusal, exactly if what it tests does not hold
pub rule_decides : (t : Bool) {own : Refusal} {P : Type 0} → (t ≡ true) ↔ P → Decides (rule t own) P (λ r. (own ≡ r) × (P → ⊥))
unfolding rule
rule_decides true i = record {
  passes = (λ e. i.0 refl, λ p. refl);
  refuses = λ r. (λ e. absurd (not_both e), λ g. absurd (g.1 (i.0 refl)));
}
rule_decides false i = record {
  passes = (λ e. absurd (not_both (sym e)), λ p. absurd (true≢false (sym (i.1 p))));
  refuses = λ r. (λ e. (cc, λ p. true≢false (sym (i.1 p))), λ g. ap Err g.0);
}

-- of two the second refuses only where the first passed
pub first_decides : (a : Check) {b : Check} {P Q : Type 0} {G H : Refusal → Type 0} → Decides a P G → Decides b Q H
    → Decides (first a b) (P × Q) (λ r. G r ⊎ (P × H r))
first_decides Passed x y = record {
  passes = (λ e. (x.passes.0 refl, y.passes.0 e), λ h. y.passes.1 h.1);
  refuses = λ r. (
    λ e. inr (x.passes.0 refl, (y.refuses r).0 e),
    λ g. elim g [ inl n ↦ absurd (not_both ((x.refuses r).1 n)) | inr h ↦ (y.refuses r).1 h.1 ],
  );
}
first_decides (Err own) x y = record {
  passes = (λ e. absurd (not_both (sym e)), λ h. x.passes.1 h.0);
  refuses = λ r. (
    λ e. inl ((x.refuses r).0 e),
    λ g. elim g [ inl n ↦ (x.refuses r).1 n | inr h ↦ absurd (not_both (sym (x.passes.1 h.0))) ],
  );
}

-- two rules in their order: both hold; the first does not; the first does and the second not
module _ (s t : Bool) {own other : Refusal} {P Q : Type 0} (i : (s ≡ true) ↔ P) (j : (t ≡ true) ↔ Q) (d : own ≡ other → ⊥) where
  decides : Decides (first (rule s own) (rule t other)) (P × Q) (λ r. ((own ≡ r) × (P → ⊥)) ⊎ (P × ((other ≡ r) × (Q → ⊥))))
  decides = first_decides (rule s own) (rule_decides s i) (rule_decides t j)

  pub both_hold : (first (rule s own) (rule t other) ≡ Passed) ↔ (P × Q)
  both_hold = decides.passes

  pub first_broken : (first (rule s own) (rule t other) ≡ Err own) ↔ (P → ⊥)
  first_broken = (
    λ e. elim ((decides.refuses own).0 e) [ inl x ↦ x.1 | inr y ↦ absurd (d (sym y.1.0)) ],
    λ n. (decides.refuses own).1 (inl (refl, n)),
  )

  pub second_broken : (first (rule s own) (rule t other) ≡ Err other) ↔ (P × (Q → ⊥))
  second_broken = (
    λ e. elim ((decides.refuses other).0 e) [ inl x ↦ absurd (d x.0) | inr y ↦ (y.0, y.1.1) ],
    λ n. (decides.refuses other).1 (inr (n.0, (refl, n.1))),
  )
