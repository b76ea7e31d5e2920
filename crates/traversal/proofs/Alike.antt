-- Two traversals of the same contexts side by side, with other marks and other room: what relates their outcomes where nothing is left to
-- traverse, and is kept by what follows and by a visit, relates them in the end. P: of the contexts so far.
use Prim.Native.Nat.{ℕ, zero, suc, ◌+◌, ◌-◌}
use mathlib.Core.Bool.{Bool, true, false}
use mathlib.Core.List.{List, [], ◌∷◌, ◌++◌}
use lib.Dec.{ltb}
use Rattle.open.specs.Opening.{field}
use Rattle.context.specs.Context.{Targets, children_place, children_end, extent}
use Rattle.context.specs.Entry.{Entry, entry_at}
use Rattle.traversal.specs.Traversal.{Lengths, Marks, ask, Outcome, on, Parameters, parameters, visit_check, enter, visit, bind, turn, siblings, level}
use Rattle.traversal.proofs.Grows.{Grows, grows_siblings, grows_level}

-- room for one more, whatever there is
abbrev pub always : List Entry → Bool
always l = true

module _ (file : List ℕ) (m m' : Marks) (t : Targets) (n n' : Lengths) (free free' : List Entry → Bool) where
  abbrev pub left : Parameters
  left = parameters (ask file m n) t free

  abbrev pub right : Parameters
  right = parameters (ask file m' n') t free'

  pub record Alike (P : List Entry → Type 0) (R : Outcome → Outcome → Type 0) : Type 0 where
    pub stay : (l : List Entry) → P l → R (on l) (on l)
    pub follow : (o o' : Outcome) (K K' : List Entry → Outcome) → Grows K → Grows K' → R o o' → ((l : List Entry) → P l → R (K l) (K' l))
        → R (bind o K) (bind o' K')
    pub entered : (path : List ℕ) (p stop : ℕ) (l : List Entry) (e : Entry) (K K' : List Entry → Outcome) → Grows K → Grows K' → P l
        → ((m : List Entry) → P m → R (K m) (K' m))
        → R (enter (visit_check left path p stop l) (free l) K l e) (enter (visit_check right path p stop l) (free' l) K' l e)

  module _ (P : List Entry → Type 0) (R : Outcome → Outcome → Type 0) (a : Alike P R) where
    alike_turn : (b : Bool) (H H' K K' : List Entry → Outcome) (l : List Entry) → Grows K → Grows K' → P l → R (H l) (H' l)
        → ((m : List Entry) → P m → R (K m) (K' m)) → R (turn b H K l) (turn b H' K' l)
    unfolding turn
    alike_turn true H H' K K' l g g' h r k = a.follow (H l) (H' l) K K' g g' r k
    alike_turn false H H' K K' l g g' h r k = a.stay l h

    module _ (levels : ℕ) (below : (parent : ℕ) (path : List ℕ) (from stop : ℕ) (l : List Entry) → P l
        → R (level left levels parent path from stop l) (level right levels parent path from stop l)) where
      alike_visit : (parent : ℕ) (path : List ℕ) (p stop : ℕ) (l : List Entry) → P l
          → R (visit left (level left levels) parent path p stop l) (visit right (level right levels) parent path p stop l)
      unfolding visit
      alike_visit parent path p stop l h =
          let from = field file p children_place in
          let to = children_end file p in
          a.entered path p stop l (entry_at file parent path p) (level left levels p path from to) (level right levels p path from to)
          (grows_level left levels p path from to) (grows_level right levels p path from to) h (below p path from to)

      alike_siblings : (parent : ℕ) (ups : List ℕ) (bound i p stop : ℕ) (l : List Entry) → P l
          → R (siblings left (level left levels) parent ups bound i p stop l) (siblings right (level right levels) parent ups bound i p stop l)
      unfolding siblings
      alike_siblings parent ups zero i p stop l h = a.stay l h
      alike_siblings parent ups (suc bound) i p stop l h =
          alike_turn (ltb p stop) (visit left (level left levels) parent (ups ++ (i ∷ [])) p stop)
          (visit right (level right levels) parent (ups ++ (i ∷ [])) p stop)
          (λ m. siblings left (level left levels) parent ups bound (suc i) (p + extent file p) stop m)
          (λ m. siblings right (level right levels) parent ups bound (suc i) (p + extent file p) stop m) l
          (grows_siblings left levels parent ups bound (suc i) (p + extent file p) stop)
          (grows_siblings right levels parent ups bound (suc i) (p + extent file p) stop) h
          (alike_visit parent (ups ++ (i ∷ [])) p stop l h)
          (alike_siblings parent ups bound (suc i) (p + extent file p) stop)

    pub alike_level : (levels parent : ℕ) (path : List ℕ) (from stop : ℕ) (l : List Entry) → P l
        → R (level left levels parent path from stop l) (level right levels parent path from stop l)
    unfolding level
    alike_level zero parent path from stop l h = a.stay l h
    alike_level (suc levels) parent path from stop l h =
        alike_siblings levels (alike_level levels) parent path (stop - from) 0 from stop l h
