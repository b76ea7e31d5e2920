-- The definitions of the traversal, a step at a time; an array of contexts is its first context, and then the rest.
use Rattle.std.specs.Prelude.{Err}
use Prim.Native.Nat.{ℕ, zero, suc, ◌+◌, ◌-◌, ◌≤◌, ◌<◌}
use mathlib.Core.Bool.{true, false}
use mathlib.Core.List.{List, [], ◌∷◌, ◌++◌}
use mathlib.Core.Path.{◌≡◌, refl, sym, ◌∙◌}
use native.Mathlib.Decide.{dec_le}
use native.Mathlib.Omega.{arith}
use borrow.Author.Tests.{lt-ltb, le-ltb}
use Rattle.refusal.specs.declared.Refusal.{Refusal}
use Rattle.refusal.specs.declared.Refusal.TheVariants as No
use Rattle.refusal.specs.Check.{rule, Passed}
use Rattle.open.specs.Opening.{field}
use Rattle.context.specs.Context.{children_place, children_end, extent, context_rule}
use Rattle.context.specs.Entry.{Entry, entry_at}
use Rattle.context.proofs.Siblings.{takes_some}
use Rattle.traversal.specs.Traversal.{Outcome, on, cut, refused, Parameters, visit_check, enter, Down, visit, bind, turn, siblings, level}

pub same_bind : (o : Outcome) (K K' : List Entry → Outcome) → ((l : List Entry) → K l ≡ K' l) → bind o K ≡ bind o K'
unfolding bind
same_bind (on l) K K' h = h l
same_bind (cut l) K K' h = refl
same_bind (refused r l) K K' h = refl

module _ (E : Parameters) (down : Down) (parent : ℕ) (ups : List ℕ) where
  -- the contexts of an array from p on, of which the first has number i
  abbrev pub rest : (i p stop : ℕ) → List Entry → Outcome
  rest i p stop l = siblings E down parent ups (stop - p) i p stop l

  abbrev here : (i p stop : ℕ) → List Entry → Outcome
  here i p stop l = visit E down parent (ups ++ (i ∷ [])) p stop l

  ended : (bound i p stop : ℕ) (l : List Entry) → stop ≤ p → siblings E down parent ups bound i p stop l ≡ on l
  unfolding siblings turn
  ended zero i p stop l h = refl
  ended (suc bound) i p stop l h = rw (le-ltb p stop h)

  stepped : (bound i p stop : ℕ) (l : List Entry) → p < stop
      → siblings E down parent ups (suc bound) i p stop l
      ≡ bind (here i p stop l) (λ m. siblings E down parent ups bound (suc i) (p + extent E.asked.file p) stop m)
  unfolding siblings turn
  stepped bound i p stop l h = rw (lt-ltb p stop h)

  -- a bound that is large enough does not count
  enough : (b b' i p stop : ℕ) (l : List Entry) → stop - p ≤ b → stop - p ≤ b'
      → siblings E down parent ups b i p stop l ≡ siblings E down parent ups b' i p stop l
  unfolding siblings
  enough zero b' i p stop l h k = sym (ended b' i p stop l (omega arith))
  enough (suc b) zero i p stop l h k = ended (suc b) i p stop l (omega arith)
  enough (suc b) (suc b') i p stop l h k =
      let z = takes_some E.asked.file p in
      let q : ℕ = p + extent E.asked.file p in
      elim (dec_le stop p) [
        | yes e ↦ ended (suc b) i p stop l e ∙ sym (ended (suc b') i p stop l e)
        | no e ↦ stepped b i p stop l (omega arith)
            ∙ same_bind (here i p stop l) _ _ (λ m. enough b b' (suc i) (p + extent E.asked.file p) stop m (omega arith) (omega arith))
            ∙ sym (stepped b' i p stop l (omega arith))
      ]

  pub rest_end : (i p stop : ℕ) (l : List Entry) → stop ≤ p → rest i p stop l ≡ on l
  rest_end i p stop l h = ended (stop - p) i p stop l h

  pub rest_step : (i p stop : ℕ) (l : List Entry) → p < stop
      → rest i p stop l ≡ bind (here i p stop l) (λ m. rest (suc i) (p + extent E.asked.file p) stop m)
  rest_step i p stop l h =
      let z = takes_some E.asked.file p in
      enough (stop - p) (suc (stop - p - 1)) i p stop l (omega arith) (omega arith) ∙ stepped (stop - p - 1) i p stop l h
      ∙ same_bind (here i p stop l) _ _ (λ m. enough (stop - p - 1) (stop - (p + extent E.asked.file p)) (suc i)
      (p + extent E.asked.file p) stop m (omega arith) (omega arith))

-- ---- a visit, by what its check says and whether there is room

module _ (E : Parameters) (down : Down) (parent : ℕ) (path : List ℕ) (p stop : ℕ) (l : List Entry) where
  pub visit_refused : (r : Refusal) → visit_check E path p stop l ≡ Err r → visit E down parent path p stop l ≡ refused r l
  unfolding visit enter
  visit_refused r e = rw e

  pub visit_10 : context_rule E.asked.file p stop ≡ false → visit E down parent path p stop l ≡ refused No.Context l
  unfolding visit_check rule
  visit_10 e = visit_refused No.Context (rw e)

  pub visit_cut : visit_check E path p stop l ≡ Passed → E.free l ≡ false → visit E down parent path p stop l ≡ cut l
  unfolding visit enter
  visit_cut e h = rw (e, h)

  pub visit_on : visit_check E path p stop l ≡ Passed → E.free l ≡ true
      → visit E down parent path p stop l
      ≡ down p path (field E.asked.file p children_place)
      (children_end E.asked.file p) (l ++ (entry_at E.asked.file parent path p ∷ []))
  unfolding visit enter
  visit_on e h = rw (e, h)

-- an array of contexts with the levels below it
pub level_rest : (E : Parameters) (levels parent : ℕ) (ups : List ℕ) (from stop : ℕ) (l : List Entry)
    → level E (suc levels) parent ups from stop l ≡ rest E (level E levels) parent ups 0 from stop l
unfolding level
level_rest E levels parent ups from stop l = refl
