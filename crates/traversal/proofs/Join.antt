-- Parts of an outcome from marks on. Each is the contexts from its mark's number on, as many as there is room for, and the number of its
-- new mark is that of its mark and the number listed together: two of them joined are one with the joined room.
use Prim.Native.Nat.{ℕ, ◌+◌, ◌≤◌, ◌<◌}
use mathlib.Core.Bool.{Bool, true, false}
use mathlib.Core.List.{List, [], ◌++◌, append-nil}
use mathlib.Core.Path.{◌≡◌, refl, sym, ap, ap₂, ◌∙◌, subst}
use native.Mathlib.Omega.{arith}
use borrow.Author.Tests.{leb-true, leb-false}
use lib.Dec.{leb}
use lib.ListN.{length, take, drop, length-take, length-drop, drop_of_length-le}
use lib.Seq.{take_all, take-nil, take-add, drop-drop}
use Rattle.seq.specs.Lists.{All, Distinct}
use Rattle.seq.proofs.Lists.{all_take, all_drop}
use Rattle.refusal.specs.Check.{either, on_answer, Passed}
use Rattle.context.specs.Entry.{Entry}
use Rattle.traversal.specs.Traversal.{Asked, Outcome, cut, list_of, traversal}
use Rattle.traversal.specs.From.{marks_of, skipped, is_passed, after_mark, up_to_mark, with_list, unpassed, from_mark, last_path}
use Rattle.traversal.specs.Walk.{truncate, walk_check, given_path, trail_from, walk_of, new_path, reached}
use Rattle.traversal.proofs.Begins.{take_own}
use Rattle.traversal.proofs.Cut.{truncate_short, truncate_long, list_truncate}
use Rattle.traversal.proofs.From.{list_with, with_with, with_own, list_unpassed, from_passed, from_unpassed, list_from}
use Rattle.traversal.proofs.Preorder.{paths_distinct}
use Rattle.traversal.proofs.Places.{mark_at, skipped_mark, passed_mark, mark_skipped, last_append, last_all, last_mark}

-- from a mark on with room for n, and the path of its new mark
unfoldable pub outcome_from : (path : List ℕ) (n : ℕ) → Outcome → Outcome
outcome_from path n o = truncate n (from_mark path o)

unfoldable pub path_after : (path : List ℕ) (n : ℕ) → Outcome → List ℕ
path_after path n o = last_path path (list_of (outcome_from path n o))

-- ---- truncated twice

module _ (l : List Entry) (a b : ℕ) where
  abbrev remaining : List Entry
  remaining = drop (length (take a l)) l

  -- the first a, and then b from just after them
  lists_join : take a l ++ take b remaining ≡ take (a + b) l
  lists_join = go (leb a (length l)) refl
    where
      go : (t : Bool) → leb a (length l) ≡ t → take a l ++ take b remaining ≡ take (a + b) l
      go true e =
          let n : length (take a l) ≡ a = omega (arith, length-take a l, leb-true a (length l) e) in
          rw n (sym (take-add a b l))
      go false e =
          let h : length l ≤ a = omega (arith, leb-false a (length l) e) in
          let z : take a l ≡ l = take_all a l h in
          let k : length l ≤ length l = omega arith in
          rw (z, drop_of_length-le l k, take-nil, append-nil) (sym (take_all (a + b) l (omega arith)))

  -- they end as a + b do
  truncate_join : (o : Outcome) → with_list (truncate b (with_list o remaining)) (take a l ++ take b remaining) ≡ truncate (a + b) (with_list o l)
  truncate_join o = go (leb (length l) (a + b)) refl
    where
      go : (t : Bool) → leb (length l) (a + b) ≡ t
          → with_list (truncate b (with_list o remaining)) (take a l ++ take b remaining) ≡ truncate (a + b) (with_list o l)
      go true e =
          let all : length l ≤ a + b = leb-true (length l) (a + b) e in
          let n : length remaining ≤ b = omega (arith, length-drop (length (take a l)) l, length-take a l) in
          ap₂ with_list (truncate_short b (with_list o remaining) (rw (list_with o remaining) n)) (lists_join ∙ take_all (a + b) l all)
          ∙ with_with o remaining l ∙ sym (truncate_short (a + b) (with_list o l) (rw (list_with o l) all))
      go false e =
          let less : a + b < length l = leb-false (length l) (a + b) e in
          let n : b < length remaining = omega (arith, length-drop (length (take a l)) l, length-take a l) in
          ap₂ with_list (truncate_long b (with_list o remaining) (rw (list_with o remaining) n)) lists_join
          ∙ ap (λ (x : List Entry). cut (take (a + b) x)) (sym (list_with o l))
          ∙ sym (truncate_long (a + b) (with_list o l) (rw (list_with o l) less))

-- ---- from a mark that is not passed: nothing, whatever the room, and the mark that it had

module _ (o : Outcome) (path : List ℕ) (n : ℕ) (h : is_passed path (list_of o) ≡ false) where
  walk_unpassed : outcome_from path n o ≡ unpassed o
  unfolding outcome_from
  walk_unpassed =
      ap (truncate n) (from_unpassed path o h) ∙ truncate_short n (unpassed o) (rw (list_unpassed o) (omega arith))

  path_unpassed : path_after path n o ≡ path
  unfolding path_after last_path
  path_unpassed = ap (λ (x : Outcome). last_path path (list_of x)) walk_unpassed ∙ ap (last_path path) (list_unpassed o)

  up_to_unpassed : up_to_mark (path_after path n o) (list_of o) ≡ []
  unfolding up_to_mark either
  up_to_unpassed = rw (path_unpassed, h)

-- ---- from one that is passed

pub up_to_passed : (path : List ℕ) (l : List Entry) → is_passed path l ≡ true → up_to_mark path l ≡ take (skipped path l) l
unfolding up_to_mark either
up_to_passed path l h = rw h

-- the contexts after its mark, as many as there is room for
pub list_walk : (o : Outcome) (path : List ℕ) (n : ℕ) → list_of (outcome_from path n o) ≡ take n (after_mark path (list_of o))
unfolding outcome_from
list_walk o path n = list_truncate n (from_mark path o) ∙ ap (take n) (list_from path o)

-- so they are among all
walk_all : (P : Entry → Type 0) (o : Outcome) (path : List ℕ) (n : ℕ) → All P (list_of o) → All P (list_of (outcome_from path n o))
unfolding after_mark
walk_all P o path n k =
    subst (All P) (sym (list_walk o path n))
    (all_take P n (drop (skipped path (list_of o)) (list_of o)) (all_drop P (skipped path (list_of o)) (list_of o) k))

module _ (o : Outcome) (apart : Distinct (marks_of (list_of o))) (path : List ℕ) (n : ℕ) (h : is_passed path (list_of o) ≡ true) where
  -- how many they are, and the number of the new mark
  abbrev gone : ℕ
  gone = length (take n (after_mark path (list_of o)))

  abbrev arrived : ℕ
  arrived = skipped path (list_of o) + gone

  mark_inside : skipped path (list_of o) ≤ length (list_of o)
  unfolding is_passed
  mark_inside = leb-true (skipped path (list_of o)) (length (list_of o)) h

  arrived_inside : arrived ≤ length (list_of o)
  unfolding after_mark
  arrived_inside =
      omega (arith, length-take n (drop (skipped path (list_of o)) (list_of o)), length-drop (skipped path (list_of o)) (list_of o), mark_inside)

  new_mark : path_after path n o ≡ mark_at (list_of o) arrived
  unfolding path_after after_mark
  new_mark =
      ap₂ last_path (sym (mark_skipped path (list_of o) mark_inside)) (list_walk o path n ∙ sym (take_own n (after_mark path (list_of o))))
      ∙ last_mark (list_of o) (skipped path (list_of o)) gone arrived_inside

  pub new_passed : is_passed (path_after path n o) (list_of o) ≡ true
  new_passed = ap (λ (p : List ℕ). is_passed p (list_of o)) new_mark ∙ passed_mark (list_of o) arrived apart arrived_inside

  new_skipped : skipped (path_after path n o) (list_of o) ≡ arrived
  new_skipped = ap (λ (p : List ℕ). skipped p (list_of o)) new_mark ∙ skipped_mark (list_of o) arrived apart arrived_inside

  -- up to the new mark: those passed over, then those listed
  up_to_new : up_to_mark (path_after path n o) (list_of o) ≡ up_to_mark path (list_of o) ++ list_of (outcome_from path n o)
  unfolding after_mark
  up_to_new =
      up_to_passed (path_after path n o) (list_of o) new_passed ∙ ap (λ (k : ℕ). take k (list_of o)) new_skipped
      ∙ take-add (skipped path (list_of o)) gone (list_of o)
      ∙ ap₂ ◌++◌ (sym (up_to_passed path (list_of o) h)) (take_own n (after_mark path (list_of o)) ∙ sym (list_walk o path n))

  -- and after it: what stands after those listed
  after_new : after_mark (path_after path n o) (list_of o) ≡ drop gone (after_mark path (list_of o))
  unfolding after_mark
  after_new = ap (λ (k : ℕ). drop k (list_of o)) new_skipped ∙ sym (drop-drop gone (skipped path (list_of o)) (list_of o))

-- ---- two parts

module _ (o : Outcome) (apart : Distinct (marks_of (list_of o))) (path : List ℕ) (a b : ℕ) where
  -- the lists joined, with the second's end
  abbrev Joins : Type 0
  Joins =
      with_list (outcome_from (path_after path a o) b o) (list_of (outcome_from path a o) ++ list_of (outcome_from (path_after path a o) b o))
      ≡ outcome_from path (a + b) o

  join_passed : is_passed path (list_of o) ≡ true → Joins
  unfolding outcome_from
  join_passed h =
      let next = new_passed o apart path a h in
      let after = after_new o apart path a h in
      ap₂ with_list
      (ap (truncate b) (from_passed (path_after path a o) o next) ∙ ap (λ (m : List Entry). truncate b (with_list o m)) after)
      (ap₂ ◌++◌ (list_walk o path a) (list_walk o (path_after path a o) b ∙ ap (take b) after))
      ∙ truncate_join (after_mark path (list_of o)) a b o ∙ sym (ap (truncate (a + b)) (from_passed path o h))

  join_unpassed : is_passed path (list_of o) ≡ false → Joins
  join_unpassed h =
      let second : outcome_from (path_after path a o) b o ≡ unpassed o =
      ap (λ (p : List ℕ). outcome_from p b o) (path_unpassed o path a h) ∙ walk_unpassed o path b h in
      ap₂ with_list second (ap₂ ◌++◌ (ap list_of (walk_unpassed o path a h) ∙ list_unpassed o) (ap list_of second))
      ∙ with_own (unpassed o) ∙ sym (walk_unpassed o path (a + b) h)

  pub join_outcome : Joins
  join_outcome = go (is_passed path (list_of o)) refl
    where
      go : (t : Bool) → is_passed path (list_of o) ≡ t → Joins
      go true h = join_passed h
      go false h = join_unpassed h

  -- and the new mark is one walk's
  pub join_path : path_after (path_after path a o) b o ≡ path_after path (a + b) o
  unfolding path_after
  join_path =
      sym (last_append path (list_of (outcome_from path a o)) (list_of (outcome_from (path_after path a o) b o)))
      ∙ ap (last_path path) (sym (list_with (outcome_from (path_after path a o) b o) _) ∙ ap list_of join_outcome)

-- ---- a walk of a file behind the rules that stand before the trail

module _ (a : Asked) (check : walk_check a ≡ Passed) where
  pub walk_from : walk_of a ≡ outcome_from (given_path a) a.lent.words (traversal a)
  unfolding walk_of trail_from on_answer outcome_from
  walk_from = rw check

  pub path-after : new_path a ≡ path_after (given_path a) a.lent.words (traversal a)
  unfolding new_path path_after
  path-after = ap (λ (o : Outcome). last_path (given_path a) (list_of o)) walk_from

  -- what holds of the path given and of all contexts' holds of the new one
  pub new_path_all : (P : List ℕ → Type 0) → P (given_path a) → All (λ e. P e.path) (list_of (traversal a)) → P (new_path a)
  unfolding new_path
  new_path_all P h k =
      last_all P (given_path a) (list_of (walk_of a)) h (subst (λ (o : Outcome). All (λ e. P e.path) (list_of o)) (sym walk_from)
      (walk_all (λ e. P e.path) (traversal a) (given_path a) a.lent.words k))

  pub reached_passed : is_passed (given_path a) (list_of (traversal a)) ≡ true
      → reached a ≡ up_to_mark (given_path a) (list_of (traversal a)) ++ list_of (walk_of a)
  unfolding reached
  reached_passed h =
      ap (λ (p : List ℕ). up_to_mark p (list_of (traversal a))) path-after
      ∙ up_to_new (traversal a) (paths_distinct a) (given_path a) a.lent.words h
      ∙ ap (λ (o : Outcome). up_to_mark (given_path a) (list_of (traversal a)) ++ list_of o) (sym walk_from)

  pub reached_unpassed : is_passed (given_path a) (list_of (traversal a)) ≡ false → reached a ≡ []
  unfolding reached
  reached_unpassed h =
      ap (λ (p : List ℕ). up_to_mark p (list_of (traversal a))) path-after ∙ up_to_unpassed (traversal a) (given_path a) a.lent.words h
