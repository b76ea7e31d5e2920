-- Induction over a traversal: a fact of the way down, of the next sibling's number and of the contexts so far holds wherever the
-- traversal ends, if a visit that passes keeps it with the way one level longer, and the end of an array of children gives it back for
-- the next sibling.
use Rattle.std.specs.Prelude.{Err}
use Prim.Native.Nat.{ℕ, zero, suc, ◌+◌, ◌-◌}
use mathlib.Core.Bool.{Bool, true, false}
use mathlib.Core.List.{List, [], ◌∷◌, ◌++◌}
use mathlib.Core.Path.{◌≡◌, refl}
use lib.Dec.{ltb}
use Rattle.refusal.specs.Check.{if_passed, Check, Passed, on_answer}
use Rattle.open.specs.Format.{meta}
use Rattle.open.specs.Opening.{field, opening, pairs, on_opened}
use Rattle.context.specs.Context.{children_place, children_end, extent, targets_of}
use Rattle.context.specs.Entry.{Entry, entry_at}
use Rattle.traversal.specs.Traversal.{Asked, Outcome, on, cut, refused, list_of, Parameters, endless, visit_check, enter, Down, visit, bind, turn, siblings, level, depth_limit, from_roots, traversal}

abbrev pub Fact : Type 1
Fact = (ups : List ℕ) (i : ℕ) → List Entry → Type 0

abbrev pub snoc : {A : Type 0} → List A → A → List A
snoc l x = l ++ (x ∷ [])

-- a fact that visits keep
pub record Kept (E : Parameters) (I : Fact) : Type 0 where
  pub enters : (parent : ℕ) (ups : List ℕ) (i p stop : ℕ) (l : List Entry) → visit_check E (snoc ups i) p stop l ≡ Passed → I ups i l
      → I (snoc ups i) 0 (snoc l (entry_at E.asked.file parent (snoc ups i) p))
  pub leaves : (ups : List ℕ) (i j : ℕ) (l : List Entry) → I (snoc ups i) j l → I ups (suc i) l

abbrev pub Somewhere : Fact → List Entry → Type 0
Somewhere I l = (ups : List ℕ) × ((i : ℕ) × I ups i l)

-- after an array of contexts: at its end if it goes on, and else where it ended; it is cut only where there is no room
abbrev pub After : Parameters → Fact → List ℕ → Outcome → Type 0
After E I ups (on l) = (j : ℕ) × I ups j l
After E I ups (cut l) = (E.free l ≡ false) × Somewhere I l
After E I ups (refused r l) = Somewhere I l

pub somewhere : (E : Parameters) (I : Fact) (ups : List ℕ) (o : Outcome) → After E I ups o → Somewhere I (list_of o)
somewhere E I ups (on l) h = (ups, h)
somewhere E I ups (cut l) h = h.1
somewhere E I ups (refused r l) h = h

module _ (E : Parameters) (I : Fact) (k : Kept E I) where
  abbrev pub KeepsDown : Down → Type 0
  KeepsDown down = (parent : ℕ) (path : List ℕ) (from stop : ℕ) (l : List Entry) → I path 0 l → After E I path (down parent path from stop l)

  keeps_enter : (v : Check) (room : Bool) (into : List Entry → Outcome) (l : List Entry) (e : Entry) (ups : List ℕ) (i : ℕ) → E.free l ≡ room
      → I ups i l → (v ≡ Passed → After E I (snoc ups i) (into (snoc l e))) → After E I (snoc ups i) (enter v room into l e)
  unfolding enter
  keeps_enter Passed true into l e ups i z h f = f refl
  keeps_enter Passed false into l e ups i z h f = (z, (ups, (i, h)))
  keeps_enter (Err r) room into l e ups i z h f = (ups, (i, h))

  keeps_bind : (o : Outcome) (next : List Entry → Outcome) (ups : List ℕ) (i : ℕ) → After E I (snoc ups i) o
      → ((l : List Entry) → I ups (suc i) l → After E I ups (next l)) → After E I ups (bind o next)
  unfolding bind
  keeps_bind (on l) next ups i h f = f l (k.leaves ups i h.0 l h.1)
  keeps_bind (cut l) next ups i h f = h
  keeps_bind (refused r l) next ups i h f = h

  keeps_turn : (b : Bool) (here next : List Entry → Outcome) (l : List Entry) (ups : List ℕ) (i : ℕ) → I ups i l → After E I (snoc ups i) (here l)
      → ((l : List Entry) → I ups (suc i) l → After E I ups (next l)) → After E I ups (turn b here next l)
  unfolding turn
  keeps_turn true here next l ups i h g f = keeps_bind (here l) next ups i g f
  keeps_turn false here next l ups i h g f = (i, h)

  pub keeps_visit : (down : Down) → KeepsDown down → (parent : ℕ) (ups : List ℕ) (i p stop : ℕ) (l : List Entry) → I ups i l
      → After E I (snoc ups i) (visit E down parent (snoc ups i) p stop l)
  unfolding visit
  keeps_visit down d parent ups i p stop l h =
      let f = E.asked.file in
      keeps_enter (visit_check E (snoc ups i) p stop l) (E.free l)
      (down p (snoc ups i) (field f p children_place) (children_end f p))
      l (entry_at f parent (snoc ups i) p) ups i refl h
      (λ e. d _ _ _ _ _ (k.enters parent ups i p stop l e h))

  pub keeps_siblings : (down : Down) → KeepsDown down → (parent : ℕ) (ups : List ℕ) (bound i p stop : ℕ) (l : List Entry) → I ups i l
      → After E I ups (siblings E down parent ups bound i p stop l)
  unfolding siblings
  keeps_siblings down d parent ups zero i p stop l h = (i, h)
  keeps_siblings down d parent ups (suc bound) i p stop l h =
      keeps_turn (ltb p stop) (visit E down parent (snoc ups i) p stop)
      (λ m. siblings E down parent ups bound (suc i) (p + extent E.asked.file p) stop m) l ups i h
      (keeps_visit down d parent ups i p stop l h)
      (λ m g. keeps_siblings down d parent ups bound (suc i) (p + extent E.asked.file p) stop m g)

  pub keeps_level : (levels : ℕ) → KeepsDown (level E levels)
  unfolding level
  keeps_level zero parent ups from stop l h = (0, h)
  keeps_level (suc levels) parent ups from stop l h =
      keeps_siblings (level E levels) (keeps_level levels) parent ups (stop - from) 0 from stop l h

-- at the end of a file's traversal
pub keeps_traversal : (a : Asked) (I : Fact) → Kept (endless a (targets_of a.file (pairs meta a.file))) I → I [] 0 []
    → After (endless a (targets_of a.file (pairs meta a.file))) I [] (traversal a)
unfolding traversal on_opened on_answer from_roots
keeps_traversal a I k h = go (opening meta a.file)
  where
    E : Parameters
    E = endless a (targets_of a.file (pairs meta a.file))

    go : (v : Check) → After E I [] (if_passed (λ r. refused r []) v (from_roots E))
    go Passed = keeps_level E I k (suc depth_limit) 0 [] _ _ [] h
    go (Err r) = ([], (0, h))
