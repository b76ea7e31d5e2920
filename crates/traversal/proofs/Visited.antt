-- What a walk visits: the traversal as long as there is room after the mark. From just after the mark it is the walk; the contexts that the
-- table holds are all visited, and the new mark is that of the last of them.
use Prim.Native.Nat.{ℕ, suc, ◌+◌, ◌≤◌, ◌<◌}
use mathlib.Core.Bool.{Bool, true, false}
use mathlib.Core.List.{List, [], ◌++◌}
use mathlib.Core.Path.{◌≡◌, refl, sym, ap, ap₂, ◌∙◌, subst}
use native.Mathlib.Omega.{arith}
use borrow.Author.Tests.{leb-true, leb-false, le-leb}
use lib.Dec.{leb}
use lib.ListN.{length, take, drop, length-take, take-append-drop}
use lib.Seq.{take_all, take-add, drop_at, length-take-le}
use Rattle.refusal.specs.Check.{either, on_answer, Passed}
use Rattle.open.specs.Format.{meta}
use Rattle.open.specs.Opening.{pairs, on_opened}
use Rattle.context.specs.Context.{targets_of}
use Rattle.context.specs.Entry.{Entry}
use Rattle.traversal.specs.Traversal.{Asked, Outcome, cut, list_of, depth_limit, from_roots, traversal}
use Rattle.traversal.specs.From.{skipped, is_passed, after_mark, up_to_mark, from_mark, last_path, marks_from, limited_from}
use Rattle.traversal.specs.Walk.{truncate, walk_check, given_path, walk_of, mark_passed, new_path, reached}
use Rattle.traversal.proofs.From.{list_unpassed, from_passed, from_unpassed, list_from}
use Rattle.traversal.proofs.Passing.{skipped_front, marks_passed, marks_unpassed, after_length}
use Rattle.traversal.proofs.Cut.{truncate_short, truncate_long, truncate_after, after_short, after_long, cuts_after}
use Rattle.traversal.proofs.Places.{mark_at, mark_skipped, last_append, last_mark}
use Rattle.traversal.proofs.Rules.{check_told}
use Rattle.traversal.proofs.Join.{outcome_from, up_to_passed, list_walk, walk_from, reached_passed, reached_unpassed}

-- ---- an outcome cut n contexts after a mark

module _ (path : List ℕ) (n : ℕ) (o : Outcome) where
  abbrev l : List Entry
  l = list_of o

  -- where the mark is not passed, it is whole
  after_unpassed : is_passed path l ≡ false → truncate_after path n o ≡ o
  after_unpassed h = after_short path n o (omega (arith, (marks_unpassed path l).1 h))

  -- and where it is, those up to the mark stand on it, and n after it
  abbrev kept : List Entry
  kept = take (skipped path l + n) l

  module _ (h : is_passed path l ≡ true) where
    on_list : skipped path l ≤ length l
    unfolding is_passed
    on_list = leb-true (skipped path l) (length l) h

    list_after : list_of (truncate_after path n o) ≡ kept
    unfolding truncate_after either marks_from
    list_after = go (leb (marks_from path l) (suc n)) refl
      where
        go : (b : Bool) → leb (marks_from path l) (suc n) ≡ b → list_of (either b o (cut kept)) ≡ kept
        go true e = sym (take_all (skipped path l + n) l (omega (arith, on_list, leb-true (marks_from path l) (suc n) e)))
        go false e = refl

    -- the mark is passed there, and passes over as many
    skipped_kept : skipped path kept ≡ skipped path l
    skipped_kept =
        let e = ap (skipped path) (take-append-drop (skipped path l + n) l) in
        skipped_front path kept (drop (skipped path l + n) l) (omega (arith, e, on_list, length-take (skipped path l + n) l)) ∙ e

    passed_kept : is_passed path kept ≡ true
    unfolding is_passed
    passed_kept = rw skipped_kept (le-leb (skipped path l) (length kept) (omega (arith, on_list, length-take (skipped path l + n) l)))

    after_kept : after_mark path kept ≡ take n (after_mark path l)
    unfolding after_mark
    after_kept = rw (skipped_kept, take-add (skipped path l) n l)
        (drop_at (take (skipped path l) l) (take n (drop (skipped path l) l)) (skipped path l) (length-take-le (skipped path l) l on_list))

  -- from just after the mark it is what the whole one is, truncated
  abbrev FromAfter : Type 0
  FromAfter = from_mark path (truncate_after path n o) ≡ truncate n (from_mark path o)

  -- which has all of the whole one
  from_short : length (list_of (from_mark path o)) ≤ n → marks_from path l ≤ suc n → FromAfter
  from_short h k = ap (from_mark path) (after_short path n o k) ∙ sym (truncate_short n (from_mark path o) h)

  from_long : is_passed path l ≡ true → n < length (after_mark path l) → FromAfter
  from_long h k =
      let e = list_from path o in
      ap (from_mark path) (after_long path n o (omega (arith, after_length path l ((marks_passed path l).1 h))))
      ∙ from_passed path (cut kept) (passed_kept h) ∙ ap cut (after_kept h ∙ ap (take n) (sym e))
      ∙ sym (truncate_long n (from_mark path o) (rw e k))

  from_after : FromAfter
  from_after = go (is_passed path l) refl
    where
      by_room : is_passed path l ≡ true → (b : Bool) → leb (length (after_mark path l)) n ≡ b → FromAfter
      by_room h true e =
          let k = leb-true (length (after_mark path l)) n e in
          from_short (rw (list_from path o) k) (omega (arith, after_length path l ((marks_passed path l).1 h)))
      by_room h false e = from_long h (leb-false (length (after_mark path l)) n e)

      go : (b : Bool) → is_passed path l ≡ b → FromAfter
      go true h = by_room h (leb (length (after_mark path l)) n) refl
      go false h = from_short (rw (from_unpassed path o h, list_unpassed o) (omega arith)) (omega (arith, (marks_unpassed path l).1 h))

  -- whether the mark is passed does not change
  passing_after : is_passed path l ≡ is_passed path (list_of (truncate_after path n o))
  passing_after = go (is_passed path l) refl
    where
      go : (b : Bool) → is_passed path l ≡ b → is_passed path l ≡ is_passed path (list_of (truncate_after path n o))
      go true h = h ∙ sym (ap (is_passed path) (list_after h) ∙ passed_kept h)
      go false h = ap (λ (x : Outcome). is_passed path (list_of x)) (sym (after_unpassed h))

-- the last of those up to a mark has its path
last_skipped : (path : List ℕ) (l : List Entry) → is_passed path l ≡ true → last_path [] (take (skipped path l) l) ≡ path
unfolding is_passed
last_skipped path l h =
    let k = leb-true (skipped path l) (length l) h in
    let z : 0 + skipped path l ≡ skipped path l = omega arith in
    last_mark l 0 (skipped path l) (omega arith) ∙ ap (mark_at l) z ∙ mark_skipped path l k

-- ---- a walk of a file behind the rules that stand before the trail

pub record VisitedBy (a : Asked) (v : Outcome) : Type 0 where
  pub walk : walk_of a ≡ from_mark (given_path a) v
  pub passing : mark_passed a ≡ is_passed (given_path a) (list_of v)
  pub filled : is_passed (given_path a) (list_of v) ≡ true → reached a ≡ list_of v
  pub path : is_passed (given_path a) (list_of v) ≡ true → new_path a ≡ last_path [] (list_of v)
  pub empty : is_passed (given_path a) (list_of v) ≡ false → reached a ≡ []

module _ (a : Asked) (check : walk_check a ≡ Passed) where
  abbrev p : List ℕ
  p = given_path a

  abbrev words : ℕ
  words = a.lent.words

  abbrev whole : List Entry
  whole = list_of (traversal a)

  abbrev visits : Outcome
  visits = truncate_after p words (traversal a)

  -- as long as there is room
  as_room : from_roots (limited_from p a (targets_of a.file (pairs meta a.file))) ≡ visits
  unfolding from_roots traversal on_opened on_answer marks_from
  as_room = rw (check_told a check).1
      (cuts_after p words a (targets_of a.file (pairs meta a.file)) (λ m. leb (marks_from p m) words) (λ m. refl) (suc depth_limit) 0 [] _ _ []
      (omega arith))

  -- those passed over, then those listed
  all_visited : is_passed p whole ≡ true → up_to_mark p whole ++ list_of (walk_of a) ≡ list_of visits
  unfolding after_mark
  all_visited h =
      ap₂ ◌++◌ (up_to_passed p whole h) (ap list_of (walk_from a check) ∙ list_walk (traversal a) p words)
      ∙ sym (take-add (skipped p whole) words whole) ∙ sym (list_after p words (traversal a) h)

  last_visited : is_passed p whole ≡ true → new_path a ≡ last_path [] (list_of visits)
  unfolding new_path
  last_visited h =
      ap (λ (q : List ℕ). last_path q (list_of (walk_of a))) (sym (ap (last_path []) (up_to_passed p whole h) ∙ last_skipped p whole h))
      ∙ sym (last_append [] (up_to_mark p whole) (list_of (walk_of a))) ∙ ap (last_path []) (all_visited h)

  visits_by : VisitedBy a visits
  unfolding outcome_from mark_passed on_answer
  visits_by =
      let same = passing_after p words (traversal a) in
      record {
        walk = walk_from a check ∙ sym (from_after p words (traversal a));
        passing = rw check same;
        filled = λ h. reached_passed a check (same ∙ h) ∙ all_visited (same ∙ h);
        path = λ h. last_visited (same ∙ h);
        empty = λ h. reached_unpassed a check (same ∙ h);
      }

pub visited : (a : Asked) → walk_check a ≡ Passed
    → VisitedBy a (from_roots (limited_from (given_path a) a (targets_of a.file (pairs meta a.file))))
visited a check = subst (VisitedBy a) (sym (as_room a check)) (visits_by a check)
