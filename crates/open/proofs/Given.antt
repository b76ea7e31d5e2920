-- Which refusal opening gives: one way by the rule that is broken, the other way by the refusal.
use Rattle.std.specs.Prelude.{Err}
use Prim.Native.Nat.{ℕ, ◌≤◌}
use mathlib.Core.List.{List}
use mathlib.Core.Logic.{◌↔◌, ◌⊎◌, inl, inr}
use mathlib.Core.Path.{◌≡◌, refl, subst}
use native.Mathlib.Omega.{arith}
use Rattle.refusal.specs.declared.Refusal.{Refusal}
use Rattle.refusal.specs.declared.Refusal.TheVariants as No
use Rattle.refusal.specs.Number.{number_of}
use Rattle.refusal.proofs.Checks.{if_passed_answers}
use Rattle.open.specs.Format.{Format, trace}
use Rattle.open.specs.Opening.{pairs, opening, on_opened}
use Rattle.open.specs.Kept.{Opens}
use Rattle.open.specs.Given.{FrontKept, Given}
use Rattle.open.proofs.Keeps.{FrontBroken, FrontPassed, SectionsBroken, opens_iff, opening_decides}

module _ (f : Format) (file : List ℕ) where
  given : {own r : Refusal} → own ≡ r → Given f file own → Given f file r
  given e h = subst (Given f file) e h

  to : {r : Refusal} → FrontBroken f file r ⊎ (FrontPassed f file × SectionsBroken f file r) → Given f file r
  to (inl (inl short)) = given short.0 short.1
  to (inl (inr (l, inl magic))) = given magic.0 (l, magic.1)
  to (inl (inr (l, inr (m, inl version)))) = given version.0 (l, m, version.1)
  to (inl (inr (l, inr (m, inr (v, footer))))) = given footer.0 (l, m, v, footer.1)
  to (inr ((l, (m, (v, t))), inl (k, (h, (before, section))))) = given section.0 ((l, m, v, t), (k, (h, (before, section.1))))
  to (inr ((l, (m, (v, t))), inr (s, (k, (h, (before, inl stride)))))) = given stride.0 ((l, m, v, t), s, (k, (h, (before, stride.1))))
  to (inr ((l, (m, (v, t))), inr (s, (k, (h, (before, inr (i, array))))))) = given array.0 ((l, m, v, t), s, (k, (h, (before, (i, array.1)))))

  passed : FrontKept f file → FrontPassed f file
  passed h = (h.0, (h.1, (h.2, h.3)))

  -- and no other refusal is given than these
  from : (r : Refusal) → Given f file r → (number_of r ≤ 7) × (FrontBroken f file r ⊎ (FrontPassed f file × SectionsBroken f file r))
  from No.Short n = (omega arith, inl (inl (refl, n)))
  from No.Magic h = (omega arith, inl (inr (h.0, inl (refl, h.1))))
  from No.Version h = (omega arith, inl (inr (h.0, inr (h.1, inl (refl, h.2)))))
  from No.Footer h = (omega arith, inl (inr (h.0, inr (h.1, inr (h.2, (refl, h.3))))))
  from No.Section h = (omega arith, inr (passed h.0, inl (h.1.0, (h.1.1.0, (h.1.1.1.0, (refl, h.1.1.1.1))))))
  from No.Stride h = (omega arith, inr (passed h.0, inr (h.1, (h.2.0, (h.2.1.0, (h.2.1.1.0, inl (refl, h.2.1.1.1)))))))
  from No.Array h =
      let at = h.2.1 in
      (omega arith, inr (passed h.0, inr (h.1, (h.2.0, (at.0, (at.1.0, inr (at.1.1.0, (refl, at.1.1.1))))))))
  from No.String h = absurd h
  from No.Link h = absurd h
  from No.Context h = absurd h
  from No.Order h = absurd h
  from No.Deep h = absurd h
  from No.Slot h = absurd h
  from No.Twice h = absurd h
  from No.Index h = absurd h
  from No.NotFinite h = absurd h
  from No.Room h = absurd h
  from No.Mark h = absurd h
  from No.Spelling h = absurd h
  from No.Total h = absurd h

-- opening refuses by r exactly if the rule of r is the first that is broken
pub refused_iff : (f : Format) (file : List ℕ) (r : Refusal) → (opening f file ≡ Err r) ↔ Given f file r
refused_iff f file r = let i = (opening_decides f file).refuses r in (λ e. to f file (i.0 e), λ h. i.1 (from f file r h).1)

-- it has no refusals but 1 to 7
pub one_to_seven : (f : Format) (file : List ℕ) (r : Refusal) → opening f file ≡ Err r → number_of r ≤ 7
one_to_seven f file r e = (from f file r ((refused_iff f file r).0 e)).0

-- an answer that opening does not give is given of a file that opens
pub on_opened_answers : {A : Type 0} (refused : Refusal → A) (f : Format) (file : List ℕ) (answer : List (List ℕ) → A) (y : A)
    → ((r : Refusal) → number_of r ≤ 7 → refused r ≡ y → ⊥)
    → (on_opened refused f file answer ≡ y) ↔ (Opens f file × (answer (pairs f file) ≡ y))
unfolding on_opened
on_opened_answers refused f file answer y other =
    let i = if_passed_answers refused (opening f file) (answer (pairs f file)) y (λ r e. other r (one_to_seven f file r e)) in
    let o = opens_iff f file in
    (λ e. (o.0 (i.0 e).0, (i.0 e).1), λ h. i.1 (o.1 h.0, h.1))

-- trace.db is never refused for its footer: an empty one always stands
pub trace_footer : (file : List ℕ) → opening trace file ≡ Err No.Footer → ⊥
trace_footer file e = ((refused_iff trace file No.Footer).0 e).3 (record { same = refl })
