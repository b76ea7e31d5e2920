-- Every part of a traversal keeps the contexts before it; one with room for every context is never cut.
use Prim.Native.Nat.{ℕ}
use mathlib.Core.Bool.{Bool, true, false, true≢false}
use mathlib.Core.List.{List, []}
use mathlib.Core.Path.{◌≡◌, refl}
use Rattle.open.specs.Format.{meta}
use Rattle.open.specs.Opening.{pairs}
use Rattle.context.specs.Context.{targets_of}
use Rattle.context.specs.Entry.{Entry}
use Rattle.traversal.specs.Demand3.{Begins}
use Rattle.traversal.specs.Traversal.{Asked, Outcome, on, cut, refused, list_of, Parameters, endless, Down, bind, siblings, level, traversal}
use Rattle.traversal.proofs.Begins.{begins_refl, begins_trans, begins_snoc}
use Rattle.traversal.proofs.Keeps.{Fact, Kept, After, somewhere, keeps_siblings, keeps_level, keeps_traversal}

abbrev pub Grows : (List Entry → Outcome) → Type 0
Grows F = (l : List Entry) → Begins l (list_of (F l))

abbrev pub GrowsDown : Down → Type 0
GrowsDown down = (parent : ℕ) (path : List ℕ) (from stop : ℕ) → Grows (down parent path from stop)

pub grows_bind : (o : Outcome) (K : List Entry → Outcome) → Grows K → Begins (list_of o) (list_of (bind o K))
unfolding bind
grows_bind (on l) K g = g l
grows_bind (cut l) K g = begins_refl l
grows_bind (refused r l) K g = begins_refl l

-- what begins with l, wherever on the way
abbrev From : List Entry → Fact
From l ups i m = Begins l m

module _ (E : Parameters) where
  from_kept : (l : List Entry) → Kept E (From l)
  from_kept l = record {
    enters = λ parent ups i p stop m v h. begins_trans l m _ h (begins_snoc m _);
    leaves = λ ups i j m h. h;
  }

  ends : (l : List Entry) (ups : List ℕ) (o : Outcome) → After E (From l) ups o → Begins l (list_of o)
  ends l ups o h = (somewhere E (From l) ups o h).1.1

  pub grows_level : (levels : ℕ) → GrowsDown (level E levels)
  grows_level levels parent path from stop l =
      ends l path (level E levels parent path from stop l)
      (keeps_level E (From l) (from_kept l) levels parent path from stop l (begins_refl l))

  pub grows_siblings : (levels parent : ℕ) (ups : List ℕ) (bound i p stop : ℕ) → Grows (siblings E (level E levels) parent ups bound i p stop)
  grows_siblings levels parent ups bound i p stop l =
      ends l ups (siblings E (level E levels) parent ups bound i p stop l) (keeps_siblings E (From l) (from_kept l) (level E levels) (keeps_level E (From l) (from_kept l) levels) parent ups bound i p stop l
      (begins_refl l))

-- ---- cut or not

abbrev pub is_cut : Outcome → Bool
is_cut (on l) = false
is_cut (cut l) = true
is_cut (refused r l) = false

pub never_cut : (a : Asked) → is_cut (traversal a) ≡ false
never_cut a =
    let E = endless a (targets_of a.file (pairs meta a.file)) in
    go (traversal a) (keeps_traversal a (λ ups i l. Unit {0}) (record { enters = λ parent ups i p stop l v h. tt; leaves = λ ups i j l h. tt }) tt)
  where
    go : (o : Outcome) → After (endless a (targets_of a.file (pairs meta a.file))) (λ ups i l. Unit {0}) [] o → is_cut o ≡ false
    go (on l) h = refl
    go (cut l) h = absurd (true≢false h.0)
    go (refused r l) h = refl
