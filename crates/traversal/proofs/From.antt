-- Outcomes with other contexts; the traversal from just after a mark, by whether the mark is passed; and from none.
use Prim.Native.Nat.{ℕ}
use mathlib.Core.Bool.{Bool, true, false}
use mathlib.Core.List.{List, []}
use mathlib.Core.Path.{◌≡◌, refl, sym, ap, ◌∙◌}
use native.Mathlib.Omega.{arith}
use borrow.Author.Tests.{le-leb, leb-false}
use lib.ListN.{length, drop_of_length-le}
use Rattle.refusal.specs.Check.{either}
use Rattle.context.specs.Entry.{Entry}
use Rattle.traversal.specs.Traversal.{Outcome, on, cut, refused, list_of}
use Rattle.traversal.specs.From.{same_path, path_index, skipped, is_passed, after_mark, with_list, unpassed, from_mark}

pub list_with : (o : Outcome) (m : List Entry) → list_of (with_list o m) ≡ m
list_with (on l) m = refl
list_with (cut l) m = refl
list_with (refused r l) m = refl

pub with_with : (o : Outcome) (a b : List Entry) → with_list (with_list o a) b ≡ with_list o b
with_with (on l) a b = refl
with_with (cut l) a b = refl
with_with (refused r l) a b = refl

pub with_own : (o : Outcome) → with_list o (list_of o) ≡ o
with_own (on l) = refl
with_own (cut l) = refl
with_own (refused r l) = refl

pub list_unpassed : (o : Outcome) → list_of (unpassed o) ≡ []
list_unpassed (on l) = refl
list_unpassed (cut l) = refl
list_unpassed (refused r l) = refl

module _ (path : List ℕ) (o : Outcome) where
  pub from_passed : is_passed path (list_of o) ≡ true → from_mark path o ≡ with_list o (after_mark path (list_of o))
  unfolding from_mark either
  from_passed h = rw h

  pub from_unpassed : is_passed path (list_of o) ≡ false → from_mark path o ≡ unpassed o
  unfolding from_mark either
  from_unpassed h = rw h

  none_after : is_passed path (list_of o) ≡ false → after_mark path (list_of o) ≡ []
  unfolding is_passed after_mark
  none_after h = drop_of_length-le (list_of o) {i = skipped path (list_of o)} (omega (arith, leb-false (skipped path (list_of o)) (length (list_of o)) h))

  -- its contexts, passed or not
  pub list_from : list_of (from_mark path o) ≡ after_mark path (list_of o)
  list_from = go (is_passed path (list_of o)) refl
    where
      go : (b : Bool) → is_passed path (list_of o) ≡ b → list_of (from_mark path o) ≡ after_mark path (list_of o)
      go true h = ap list_of (from_passed h) ∙ list_with o (after_mark path (list_of o))
      go false h = ap list_of (from_unpassed h) ∙ list_unpassed o ∙ sym (none_after h)

-- ---- depth 0 is always passed, and passes over nothing

pub root_skipped : (l : List Entry) → skipped [] l ≡ 0
unfolding skipped path_index same_path either
root_skipped l = refl

pub root_passed : (l : List Entry) → is_passed [] l ≡ true
unfolding is_passed
root_passed l = rw (root_skipped l) (le-leb 0 (length l) (omega arith))

pub root_after : (l : List Entry) → after_mark [] l ≡ l
unfolding after_mark
root_after l = rw (root_skipped l)

pub from_root : (o : Outcome) → from_mark [] o ≡ o
from_root o = from_passed [] o (root_passed (list_of o)) ∙ ap (with_list o) (root_after (list_of o)) ∙ with_own o
