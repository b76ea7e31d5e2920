-- Going on from a mark: document 02, request 2026-03. The traversal from just after the context that a mark's path names.
use Rattle.std.specs.Prelude.{ℕ, suc, ◌-◌, Bool, true, false, ◌&&◌, List, [], ◌∷◌, map, leb, eqb, length, take, drop}
use Rattle.refusal.specs.declared.Refusal.TheVariants as No
use Rattle.refusal.specs.Check.{either}
use Rattle.context.specs.Context.{Targets}
use Rattle.context.specs.Entry.{Entry}
use Rattle.traversal.specs.Traversal.{Asked, Outcome, on, cut, refused, list_of, Parameters, parameters}

abbrev pub path_of : Entry → List ℕ
path_of e = e.path

unfoldable pub same_path : (p q : List ℕ) → Bool
same_path [] [] = true
same_path [] (y ∷ q) = false
same_path (x ∷ p) [] = false
same_path (x ∷ p) (y ∷ q) = eqb x y && same_path p q

-- ---- how many contexts a mark passes over

-- what a mark can name on a list of contexts: "before the first root", of depth 0, and each of them
abbrev pub marks_of : List Entry → List (List ℕ)
marks_of l = [] ∷ map path_of l

-- the number of a path among some; their number if it is none of them
unfoldable pub path_index : (path : List ℕ) → List (List ℕ) → ℕ
path_index path [] = 0
path_index path (q ∷ qs) = either (same_path path q) 0 (suc (path_index path qs))

-- up to the one with the path, itself included
unfoldable pub skipped : (path : List ℕ) → List Entry → ℕ
skipped path l = path_index path (marks_of l)

-- whether it is passed: on the list or, of depth 0, always
unfoldable pub is_passed : (path : List ℕ) → List Entry → Bool
is_passed path l = leb (skipped path l) (length l)

-- those after it; none where it is not passed
unfoldable pub after_mark : (path : List ℕ) → List Entry → List Entry
after_mark path l = drop (skipped path l) l

-- those up to it; none where it is not passed
unfoldable pub up_to_mark : (path : List ℕ) → List Entry → List Entry
up_to_mark path l = either (is_passed path l) (take (skipped path l) l) []

-- ---- from just after it

-- the same end with other contexts
abbrev pub with_list : Outcome → List Entry → Outcome
with_list (on l) m = on m
with_list (cut l) m = cut m
with_list (refused r l) m = refused r m

-- "18 Mark, .. if the trail ends whole without passing the context it names; if the trail ends in a refusal before passing it, that
-- refusal stands with 0 listed"
abbrev pub unpassed : Outcome → Outcome
unpassed (on l) = refused No.Mark []
unpassed (cut l) = cut []
unpassed (refused r l) = refused r []

unfoldable pub from_mark : (path : List ℕ) → Outcome → Outcome
from_mark path o = either (is_passed path (list_of o)) (with_list o (after_mark path (list_of o))) (unpassed o)

-- ---- the new mark

-- the path of the last of some contexts; where there are none, one that was given
unfoldable pub last_path : (path : List ℕ) → List Entry → List ℕ
last_path path [] = path
last_path path (e ∷ es) = last_path e.path es

-- ---- how far a walk has come, by the contexts visited: for the code

-- the marks from one on that are passed, itself among them; 0 where it is not
unfoldable pub marks_from : (path : List ℕ) → List Entry → ℕ
marks_from path l = suc (length l) - skipped path l

-- as far as the listing has words for those after the mark
abbrev pub limited_from : (path : List ℕ) → Asked → Targets → Parameters
limited_from path a t = parameters a t (λ l. leb (marks_from path l) a.lent.words)
