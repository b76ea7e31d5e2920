-- The paths of a traversal rise in preorder: a parent precedes its children, an elder sibling with all below it a younger one. So the marks
-- of all contexts, and that before the first root, are distinct.
use Rattle.refusal.specs.Check.{Passed}
use Prim.Native.Nat.{ℕ, suc, ◌<◌}
use mathlib.Core.List.{List, [], ◌∷◌, map-append}
use mathlib.Core.Logic.{◌⊎◌, inl, inr}
use mathlib.Core.Path.{◌≡◌, refl, sym, ap, ◌∙◌, subst}
use native.Mathlib.Omega.{arith}
use Rattle.seq.specs.Lists.{All, Ordered, Differs, Distinct}
use Rattle.seq.proofs.Lists.{all_imp, all_append, ordered_imp, ordered_snoc}
use Rattle.context.specs.Entry.{Entry, entry_at}
use Rattle.open.specs.Format.{meta}
use Rattle.open.specs.Opening.{pairs}
use Rattle.context.specs.Context.{targets_of}
use Rattle.traversal.specs.Traversal.{Asked, list_of, Parameters, visit_check, traversal, endless}
use Rattle.traversal.specs.From.{path_of, marks_of}
use Rattle.traversal.proofs.Keeps.{snoc, somewhere, keeps_traversal}

abbrev pub Precedes : List ℕ → List ℕ → Type 0
Precedes [] [] = ⊥
Precedes [] (y ∷ q) = Unit
Precedes (x ∷ p) [] = ⊥
Precedes (x ∷ p) (y ∷ q) = (x < y) ⊎ ((x ≡ y) × Precedes p q)

precedes_trans : (p q r : List ℕ) → Precedes p q → Precedes q r → Precedes p r
precedes_trans [] [] r h k = absurd h
precedes_trans [] (y ∷ q) [] h k = absurd k
precedes_trans [] (y ∷ q) (z ∷ r) h k = tt
precedes_trans (x ∷ p) [] r h k = absurd h
precedes_trans (x ∷ p) (y ∷ q) [] h k = absurd k
precedes_trans (x ∷ p) (y ∷ q) (z ∷ r) (inl a) (inl b) = inl (omega arith)
precedes_trans (x ∷ p) (y ∷ q) (z ∷ r) (inl a) (inr b) = inl (omega (arith, b.0))
precedes_trans (x ∷ p) (y ∷ q) (z ∷ r) (inr a) (inl b) = inl (omega (arith, a.0))
precedes_trans (x ∷ p) (y ∷ q) (z ∷ r) (inr a) (inr b) = inr (a.0 ∙ b.0, precedes_trans p q r a.1 b.1)

precedes_itself : (p : List ℕ) → Precedes p p → ⊥
precedes_itself [] h = h
precedes_itself (x ∷ p) (inl a) = omega arith
precedes_itself (x ∷ p) (inr a) = precedes_itself p a.1

precedes_differs : (p q : List ℕ) → Precedes p q → Differs p q
precedes_differs p q h e = precedes_itself q (subst (λ (x : List ℕ). Precedes x q) e h)

-- a parent and its children
precedes_child : (p : List ℕ) (k : ℕ) → Precedes p (snoc p k)
precedes_child [] k = tt
precedes_child (x ∷ p) k = inr (refl, precedes_child p k)

-- what is below an elder sibling and a younger one
precedes_younger : (p : List ℕ) (i j : ℕ) → Precedes (snoc (snoc p i) j) (snoc p (suc i))
precedes_younger [] i j = inl (omega arith)
precedes_younger (x ∷ p) i j = inr (refl, precedes_younger p i j)

-- ---- the fact that visits keep

record PathsRise (ups : List ℕ) (i : ℕ) (l : List Entry) : Type 0 where
  ordered : Ordered Precedes (marks_of l)
  next : All (λ q. Precedes q (snoc ups i)) (marks_of l)

rise_enters : (E : Parameters) (parent : ℕ) (ups : List ℕ) (i p stop : ℕ) (l : List Entry) → visit_check E (snoc ups i) p stop l ≡ Passed
    → PathsRise ups i l → PathsRise (snoc ups i) 0 (snoc l (entry_at E.asked.file parent (snoc ups i) p))
unfolding entry_at
rise_enters E parent ups i p stop l v r =
    let e = entry_at E.asked.file parent (snoc ups i) p in
    let q : List ℕ = snoc ups i in
    let ms : marks_of (snoc l e) ≡ snoc (marks_of l) q = ap (◌∷◌ []) (map-append path_of l (e ∷ [])) in
    record {
      ordered = subst (Ordered Precedes) (sym ms) (ordered_snoc Precedes (marks_of l) q r.ordered r.next);
      next = subst (All (λ x. Precedes x (snoc q 0))) (sym ms) (all_append (λ x. Precedes x (snoc q 0)) (marks_of l) (q ∷ [])
          (all_imp (λ x h. precedes_trans x q (snoc q 0) h (precedes_child q 0)) (marks_of l) r.next) (precedes_child q 0, tt));
    }

rise_leaves : (ups : List ℕ) (i j : ℕ) (l : List Entry) → PathsRise (snoc ups i) j l → PathsRise ups (suc i) l
rise_leaves ups i j l r = record {
  ordered = r.ordered;
  next = all_imp (λ x h. precedes_trans x (snoc (snoc ups i) j) (snoc ups (suc i)) h (precedes_younger ups i j)) (marks_of l) r.next;
}

pub paths_rise : (a : Asked) → Ordered Precedes (marks_of (list_of (traversal a)))
paths_rise a =
    (somewhere (endless a (targets_of a.file (pairs meta a.file))) PathsRise [] (traversal a) (keeps_traversal a PathsRise (record { enters = rise_enters _; leaves = rise_leaves })
    (record { ordered = (tt, tt); next = (tt, tt) }))).1.1.ordered

pub paths_distinct : (a : Asked) → Distinct (marks_of (list_of (traversal a)))
paths_distinct a = ordered_imp precedes_differs (marks_of (list_of (traversal a))) (paths_rise a)
