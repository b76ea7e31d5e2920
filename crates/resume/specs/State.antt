-- What holds of the lent slices at each point of a walk from a mark: for the contracts of its functions. The promise of the entry point
-- cites the traversal's definitions alone.
use Rattle.std.specs.Prelude.{ℕ, zero, suc, ◌+◌, List, [], ◌≡◌, eqb, leb, length, set}
use Rattle.refusal.specs.declared.Refusal.TheVariants as No
use Rattle.refusal.specs.Check.{either, rule, first, if_passed}
use Rattle.open.specs.Format.{u64}
use Rattle.open.specs.Names as Section
use Rattle.open.specs.Opening.{field, place_in}
use Rattle.context.specs.Context.{Targets, context_rule, targets_of}
use Rattle.context.specs.Entry.{Entry}
use Rattle.traversal.specs.declared.Walked.{Walked}
use Rattle.traversal.specs.declared.Walked.TheVariants.{Complete, Truncated, Refused}
use Rattle.traversal.specs.Traversal.{Marks, Asked, ask, Outcome, on, cut, refused, list_of, depth_limit, level, from_roots}
use Rattle.traversal.specs.From.{after_mark, last_path, marks_from, limited_from}
use Rattle.traversal.specs.Walk.{listing_with, table_with, records_with, Slices}
use Rattle.seek.specs.declared.Seek.{Seek}
use Rattle.seek.specs.Seek.{stepped}
use Rattle.visit.specs.Visit.{Placed, checks_after10, RecordPut}
use Rattle.resume.specs.declared.Cursor.{Cursor}
use Rattle.resume.specs.declared.Progress.{Progress}
use Rattle.resume.specs.Way.{WayTo}

-- the contexts of l are visited: those after the mark are listed, all have their slots, and k marks are passed from the mark on
pub record Holds (path : List ℕ) (was : Slices) (l : List Entry) (s : Slices) (k : ℕ) : Type 0 where
  pub listed : s.listing ≡ listing_with (after_mark path l) was.listing
  pub filled : s.table ≡ table_with l (length was.table)
  pub recorded : s.records ≡ records_with (after_mark path l) was.records
  pub counted : k ≡ marks_from path l
  pub placed : Placed l

-- an end, with the marks passed from the mark on
unfoldable pub counted_end : (path : List ℕ) → Outcome → Walked
counted_end path (on l) = Complete (marks_from path l)
counted_end path (cut l) = Truncated (marks_from path l)
counted_end path (refused r l) = Refused r (marks_from path l)

pub record Ended (file : List ℕ) (start : ℕ) (path : List ℕ) (was : Slices) (o : Outcome) (r : Walked) (s : Slices) (way : List ℕ) : Type 0 where
  pub holds : Holds path was (list_of o) s (marks_from path (list_of o))
  pub says : r ≡ counted_end path o
  pub last : WayTo file start (last_path [] (list_of o)) way

-- what is asked with these slices, whatever else is
abbrev pub asked_with : List ℕ → Slices → Marks → (bytes : ℕ) → Asked
asked_with file was m bytes = ask file m (record { words = length was.listing; slots = length was.table; bytes = bytes })

-- the roots, from `at` to `stop`, with all below them
abbrev pub RootsDone : List ℕ → Targets → (path : List ℕ) (at stop : ℕ) → Slices → Walked → Slices → (way : List ℕ) → Type 0
RootsDone file t path at stop was r s way =
    (m : Marks) (bytes : ℕ)
    → Ended file at path was (level (limited_from path (asked_with file was m bytes) t) (suc depth_limit) 0 [] at stop []) r s way

-- all of an opened file's, whose sections stand at these places
abbrev pub AllDone : List ℕ → (ps : List (List ℕ)) (path : List ℕ) → Slices → Walked → Slices → (way : List ℕ) → Type 0
AllDone file ps path was r s way =
    (m : Marks) (bytes : ℕ)
    → Ended file (field file (place_in ps Section.context) (u64 8)) path was (from_roots (limited_from path (asked_with file was m bytes) (targets_of file ps)))
    r s way

-- whether the walk goes on to list or pass the context there, k marks having been passed
unfoldable pub visit_answer : List ℕ → Targets → Cursor → (table : List ℕ) (words k : ℕ) → Walked
visit_answer file t here table words k =
    if_passed (λ r. Refused r k)
    (first (rule (context_rule file here.p here.end) No.Context) (checks_after10 file t (here.up + 1) here.p table))
    (either (leb k words) (Complete k) (Truncated k))

abbrev pub progress : (marks : ℕ) → Seek → Progress
progress marks sk = record { marks = marks; seek = sk }

-- after one more context, below `up` others, by whether the mark is passed: the marks, and how far the given one is found; the listing; the
-- records
unfoldable pub progress_more : (path : List ℕ) (marks : ℕ) → Seek → (up : ℕ) → Progress
progress_more path zero sk up = progress (either (eqb (stepped path sk up).matched (length path)) 1 0) (stepped path sk up)
progress_more path (suc k) sk up = progress (suc (suc k)) sk

unfoldable pub listing_more : (k p : ℕ) (was : List ℕ) → List ℕ
listing_more zero p was = was
listing_more (suc n) p was = set was n p

abbrev pub RecordMore : List ℕ → (p depth parent k : ℕ) → (was now : List ℕ) → Type 0
RecordMore file p depth parent zero was now = now ≡ was
RecordMore file p depth parent (suc n) was now = RecordPut file p depth parent n was now

-- ---- the answer by the marks passed

abbrev pub marks_in : Walked → ℕ
marks_in (Complete k) = k
marks_in (Truncated k) = k
marks_in (Refused r k) = k

-- where none is passed: 18, or the refusal that came first; else with the contexts after the mark
unfoldable pub answer_of : Walked → Walked
answer_of (Complete zero) = Refused No.Mark 0
answer_of (Complete (suc k)) = Complete k
answer_of (Truncated zero) = Truncated 0
answer_of (Truncated (suc k)) = Truncated k
answer_of (Refused r zero) = Refused r 0
answer_of (Refused r (suc k)) = Refused r k
