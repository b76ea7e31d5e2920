-- The trail is one for a file and a table's length: marks, and how long the listing is, do not count. So it is from each mark, where the
-- room for a new one is the same or none is asked for.
use Rattle.std.specs.Prelude.{Err}
use Prim.Native.Nat.{ℕ}
use mathlib.Core.Bool.{Bool, true, false, ◌||◌, not}
use mathlib.Core.List.{List, [], ◌∷◌, ◌++◌}
use mathlib.Core.Path.{◌≡◌, refl, ap, ap₂, ◌∙◌}
use lib.Dec.{leb}
use Rattle.refusal.specs.declared.Refusal.TheVariants as No
use Rattle.refusal.specs.Check.{rule, first, if_passed, Check, Passed, on_answer}
use Rattle.open.specs.Format.{meta}
use Rattle.open.specs.Opening.{opening, pairs, on_opened}
use Rattle.mark.specs.Mark.{mark_room, Decoded, decode, is_named, path_in}
use Rattle.context.specs.Context.{Targets, targets_of}
use Rattle.context.specs.Entry.{Entry}
use Rattle.traversal.specs.Traversal.{Lengths, Marks, ask, Outcome, refused, endless, visit_check, enter, bind, level, from_roots, traversal}
use Rattle.traversal.specs.From.{from_mark}
use Rattle.traversal.specs.Walk.{walk_check, trail_from}
use Rattle.traversal.proofs.Steps.{same_bind}
use Rattle.traversal.proofs.Alike.{always, left, right, alike_level}

same_enter : (v : Check) (K K' : List Entry → Outcome) (l : List Entry) (x : Entry) → K (l ++ (x ∷ [])) ≡ K' (l ++ (x ∷ []))
    → enter v true K l x ≡ enter v true K' l x
unfolding enter
same_enter Passed K K' l x h = h
same_enter (Err r) K K' l x h = refl

module _ (file : List ℕ) (m m' : Marks) (t : Targets) (n n' : Lengths) (e : n.slots ≡ n'.slots) where
  same_check : (path : List ℕ) (p stop : ℕ) (l : List Entry)
      → visit_check (left file m m' t n n' always always) path p stop l ≡ visit_check (right file m m' t n n' always always) path p stop l
  unfolding visit_check
  same_check path p stop l = rw e

  same_level : (levels parent : ℕ) (path : List ℕ) (from stop : ℕ) (l : List Entry)
      → level (left file m m' t n n' always always) levels parent path from stop l ≡ level (right file m m' t n n' always always) levels parent path from stop l
  same_level levels parent path from stop l =
      alike_level file m m' t n n' always always (λ l. Unit {0}) (λ o o'. o ≡ o')
      (record {
        stay = λ l h. refl;
        follow = λ o o' K K' g g' q k. ap (λ (x : Outcome). bind x K) q ∙ same_bind o' K K' (λ l. k l tt);
        entered = λ path p stop l x K K' g g' h k.
            ap (λ (v : Check). enter v true K l x) (same_check path p stop l) ∙ same_enter _ K K' l x (k (l ++ (x ∷ [])) tt);
      }) levels parent path from stop l tt

pub trail_same : (file : List ℕ) (m m' : Marks) (n n' : Lengths) → n.slots ≡ n'.slots → traversal (ask file m n) ≡ traversal (ask file m' n')
unfolding traversal on_opened from_roots on_answer
trail_same file m m' n n' e = go (opening meta file)
  where
    t : Targets
    t = targets_of file (pairs meta file)

    go : (v : Check)
        → if_passed (λ r. refused r []) v (from_roots (endless (ask file m n) t)) ≡ if_passed (λ r. refused r []) v (from_roots (endless (ask file m' n') t))
    go Passed = same_level file m m' t n n' e _ 0 [] _ _ []
    go (Err r) = refl

-- ---- from a mark

module _ (file : List ℕ) (m m' : Marks) (mark : decode m.given ≡ decode m'.given) (asks : m.asks ≡ m'.asks) (n n' : Lengths)
    (room : m.asks ≡ true → n.bytes ≡ n'.bytes) where
  pub check_same : walk_check (ask file m n) ≡ walk_check (ask file m' n')
  unfolding walk_check
  check_same = rw (mark, ← asks) (go m.asks room)
    where
      rest : Check
      rest = first (opening meta file) (rule (is_named (decode m'.given)) No.Mark)

      go : (b : Bool) → (b ≡ true → n.bytes ≡ n'.bytes)
          → first (rule (not b || leb mark_room n.bytes) No.Room) rest ≡ first (rule (not b || leb mark_room n'.bytes) No.Room) rest
      go true h = rw (h refl)
      go false h = refl

  pub trail_from_same : n.slots ≡ n'.slots → trail_from (ask file m n) ≡ trail_from (ask file m' n')
  unfolding trail_from
  trail_from_same e =
      ap₂ (λ (v : Check) (o : Outcome). if_passed (λ r. refused r []) v o) check_same
      (ap₂ (λ (d : Decoded) (o : Outcome). from_mark (path_in d) o) mark (trail_same file m m' n n' e))
