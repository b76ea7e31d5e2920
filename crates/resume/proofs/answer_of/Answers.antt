-- One less than the marks passed, by the three answers of a walk; of none that is complete it is refused.
use Prim.Native.Nat.{ℕ, zero, suc, ◌-◌}
use mathlib.Core.Path.{◌≡◌, refl, sym, ap, ◌∙◌}
use native.Mathlib.Numerals.{sub-one}
use native.Mathlib.Omega.{arith}
use Rattle.refusal.specs.declared.Refusal.{Refusal}
use Rattle.traversal.specs.declared.Walked.TheVariants.{Complete, Truncated, Refused}
use Rattle.resume.specs.State.{marks_in, answer_of}
use Rattle.resume.proofs.answer_of.Goals as goal
use Rattle.resume.proofs.answer_of.Goals.{then-k-eq0, else-k-eq0}

answer_complete : (k : ℕ) → (k ≡ 0 → ⊥) → Complete (k - 1) ≡ answer_of (Complete k)
unfolding answer_of
answer_complete zero n = absurd (n refl)
answer_complete (suc k) n = ap Complete (sub-one (suc k))

answer_truncated : (k : ℕ) → Truncated (k - 1) ≡ answer_of (Truncated k)
unfolding answer_of
answer_truncated zero = refl
answer_truncated (suc k) = ap Truncated (sub-one (suc k))

answer_refused : (r : Refusal) (k : ℕ) → Refused r (k - 1) ≡ answer_of (Refused r k)
unfolding answer_of
answer_refused r zero = refl
answer_refused r (suc k) = ap (Refused r) (sub-one (suc k))

pub returns-then-k-eq0-2 : goal.returns-then-k-eq0-2
unfolding answer_of
returns-then-k-eq0-2 c =
    let none : c.in-Complete.field-0 ≡ 0 = sym (c.marks_in-k.ensures ∙ ap marks_in c.in-Complete.is) ∙ c.if-k-eq0-2.true in
    rw (c.in-Complete.is, none)

pub returns-else-k-eq0-2 : goal.returns-else-k-eq0-2
returns-else-k-eq0-2 c =
    let less : c.if-k-eq0.n ≡ c.marks_in-k.result - 1 = elim c.if-k-eq0.branch [ then-k-eq0 w ↦ omega arith | else-k-eq0 w ↦ omega arith ] in
    let k : c.marks_in-k.result ≡ c.in-Complete.field-0 = c.marks_in-k.ensures ∙ ap marks_in c.in-Complete.is in
    rw (c.in-Complete.is, less, k) (answer_complete c.in-Complete.field-0 (λ z. c.if-k-eq0-2.false (k ∙ z)))

pub returns-in-Truncated : goal.returns-in-Truncated
returns-in-Truncated c =
    let less : c.if-k-eq0.n ≡ c.marks_in-k.result - 1 = elim c.if-k-eq0.branch [ then-k-eq0 w ↦ omega arith | else-k-eq0 w ↦ omega arith ] in
    let k : c.marks_in-k.result ≡ c.in-Truncated.field-0 = c.marks_in-k.ensures ∙ ap marks_in c.in-Truncated.is in
    rw (c.in-Truncated.is, less, k) (answer_truncated c.in-Truncated.field-0)

pub returns-in-Refused : goal.returns-in-Refused
returns-in-Refused c =
    let less : c.if-k-eq0.n ≡ c.marks_in-k.result - 1 = elim c.if-k-eq0.branch [ then-k-eq0 w ↦ omega arith | else-k-eq0 w ↦ omega arith ] in
    let k : c.marks_in-k.result ≡ c.in-Refused.field-1 = c.marks_in-k.ensures ∙ ap marks_in c.in-Refused.is in
    rw (c.in-Refused.is, less, k) (answer_refused c.in-Refused.r c.in-Refused.field-1)
