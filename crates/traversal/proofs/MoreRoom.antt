-- More room for the same marks: from a mark as well, a longer table makes the trail wider, so that a walk's list is the beginning of the one
-- with more room, and a walk that is final stays as it is. Over entries with all their fields, and so over every record that is handed out.
use Rattle.std.specs.Prelude.{Err}
use Prim.Native.Nat.{ℕ, ◌≤◌}
use mathlib.Core.Bool.{Bool, true, false}
use mathlib.Core.List.{List, []}
use mathlib.Core.Logic.{inl, inr}
use mathlib.Core.Path.{◌≡◌, refl, sym, ap, ◌∙◌, subst}
use native.Mathlib.Omega.{arith}
use borrow.Author.Tests.{leb-true, leb-false}
use lib.Dec.{leb}
use lib.ListN.{length, take, length-take}
use Rattle.refusal.specs.declared.Refusal.{Refusal}
use Rattle.refusal.specs.Check.{if_passed, Check, Passed, on_answer}
use Rattle.context.specs.Entry.{Entry}
use Rattle.traversal.specs.Traversal.{Lengths, Marks, Asked, ask, Outcome, cut, refused, list_of, traversal}
use Rattle.traversal.specs.From.{from_mark}
use Rattle.traversal.specs.Walk.{truncate, walk_check, given_path, trail_from, walk_of, walked_of}
use Rattle.traversal.specs.Demand3.{WantsRoom, Final, Begins}
use Rattle.traversal.proofs.Begins.{begins_trans, begins_take, begins_cut}
use Rattle.traversal.proofs.Cut.{truncate_short, truncate_long, list_truncate}
use Rattle.traversal.proofs.Trail.{check_same}
use Rattle.traversal.proofs.Wider.{Wider, wider_traversal, wider_begins, wider_from}

-- ---- two outcomes

final_cut : (l : List Entry) → Final (walked_of (cut l)) → ⊥
unfolding walked_of
final_cut l h = h

final_refused : (r : Refusal) (l : List Entry) → WantsRoom r → Final (walked_of (refused r l)) → ⊥
unfolding walked_of
final_refused r l w h = h w

module _ (n n' : ℕ) (o o' : Outcome) (le : n ≤ n') (w : Wider o o') where
  more_begins : Begins (list_of (truncate n o)) (list_of (truncate n' o'))
  more_begins = rw (list_truncate n o, list_truncate n' o')
      (begins_cut n' (take n (list_of o)) (list_of o')
      (begins_trans (take n (list_of o)) (list_of o) (list_of o') (begins_take n (list_of o)) (wider_begins o o' w))
      (omega (arith, length-take n (list_of o))))

  stays : length (list_of o) ≤ n → Wider o o' → Final (walked_of o) → truncate n' o' ≡ o
  stays k (inl e) f = truncate_short n' o' (omega (arith, ap (λ (x : Outcome). length (list_of x)) e)) ∙ sym e
  stays k (inr v) f = absurd (final_refused v.0 v.1 v.2 (subst (λ (x : Outcome). Final (walked_of x)) v.3 f))

  more_same : Final (walked_of (truncate n o)) → truncate n' o' ≡ truncate n o
  more_same = go (leb (length (list_of o)) n) refl
    where
      go : (b : Bool) → leb (length (list_of o)) n ≡ b → Final (walked_of (truncate n o)) → truncate n' o' ≡ truncate n o
      go true e = rw (truncate_short n o (leb-true (length (list_of o)) n e)) (stays (leb-true (length (list_of o)) n e) w)
      go false e = rw (truncate_long n o (leb-false (length (list_of o)) n e)) (λ f. absurd (final_cut (take n (list_of o)) f))

-- ---- two walks

module _ (file : List ℕ) (m : Marks) (n n' : Lengths) (room : m.asks ≡ true → n.bytes ≡ n'.bytes) (h : n.words ≤ n'.words)
    (k : n.slots ≤ n'.slots) where
  abbrev less : Asked
  less = ask file m n

  abbrev more : Asked
  more = ask file m n'

  wider_trail : Wider (trail_from less) (trail_from more)
  unfolding trail_from on_answer
  wider_trail = rw (check_same file m m refl refl n n' room) (go (walk_check more))
    where
      go : (v : Check)
          → Wider (if_passed (λ r. refused r []) v (from_mark (given_path less) (traversal less)))
          (if_passed (λ r. refused r []) v (from_mark (given_path more) (traversal more)))
      go Passed = wider_from (given_path less) (traversal less) (traversal more) (wider_traversal file m n n' k)
      go (Err r) = inl refl

  pub entries_begin : Begins (list_of (walk_of less)) (list_of (walk_of more))
  unfolding walk_of
  entries_begin = more_begins n.words n'.words (trail_from less) (trail_from more) h wider_trail

  pub entries_same : Final (walked_of (walk_of less)) → walk_of more ≡ walk_of less
  unfolding walk_of
  entries_same = more_same n.words n'.words (trail_from less) (trail_from more) h wider_trail
