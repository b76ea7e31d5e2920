-- A walk: as much of the traversal from a mark on as a listing has room for, and what it leaves in lent slices.
use Rattle.std.specs.Prelude.{ℕ, ◌/◌, Bool, false, ◌&&◌, ◌||◌, not, List, [], ◌∷◌, ◌++◌, map, ◌≡◌, leb, length, take, set, replicate}
use Rattle.refusal.specs.declared.Refusal.TheVariants as No
use Rattle.refusal.specs.Check.{either, rule, first, if_passed, Check}
use Rattle.refusal.specs.Number.{number_of}
use Rattle.buffer.specs.Over.{over}
use Rattle.open.specs.Format.{meta}
use Rattle.open.specs.Opening.{opening}
use Rattle.mark.specs.Mark.{mark_room, encode, decode, is_named, path_in}
use Rattle.context.specs.Entry.{Entry, entry_words, words_each}
use Rattle.traversal.specs.declared.Walked.{Walked}
use Rattle.traversal.specs.declared.Walked.TheVariants.{Complete, Truncated, Refused}
use Rattle.traversal.specs.Traversal.{Marks, Asked, ask, Outcome, on, cut, refused, list_of, traversal}
use Rattle.traversal.specs.From.{is_passed, up_to_mark, from_mark, last_path}

-- all with its end, or the first n and cut
unfoldable pub truncate : (n : ℕ) → Outcome → Outcome
truncate n o = either (leb (length (list_of o)) n) o (cut (take n (list_of o)))

-- ---- what is asked

-- "17 before opening, if fewer than 805 bytes are lent for the new mark"; opening; "18 Mark, if the mark is malformed (after opening ..)"
unfoldable pub walk_check : Asked → Check
walk_check a =
    first (rule (not a.marks.asks || leb mark_room a.lent.bytes) No.Room)
    (first (opening meta a.file) (rule (is_named (decode a.marks.given)) No.Mark))

-- the path of the mark given
abbrev pub given_path : Asked → List ℕ
given_path a = path_in (decode a.marks.given)

-- the trail from just after the mark. "For a walk refused by the mark rules below, that trail has no contexts and ends by that refusal."
unfoldable pub trail_from : Asked → Outcome
trail_from a = if_passed (λ r. refused r []) (walk_check a) (from_mark (given_path a) (traversal a))

unfoldable pub walk_of : Asked → Outcome
walk_of a = truncate a.lent.words (trail_from a)

-- whether it got so far that the mark was passed
unfoldable pub mark_passed : Asked → Bool
mark_passed a = if_passed (λ r. false) (walk_check a) (is_passed (given_path a) (list_of (traversal a)))

-- "a mark of the last context listed or, if none is, the mark it had"
unfoldable pub new_path : Asked → List ℕ
new_path a = last_path (given_path a) (list_of (walk_of a))

-- "everything up to that new mark"
unfoldable pub reached : Asked → List Entry
reached a = up_to_mark (new_path a) (list_of (traversal a))

-- ---- its answer

unfoldable pub walked_of : Outcome → Walked
walked_of (on l) = Complete (length l)
walked_of (cut l) = Truncated (length l)
walked_of (refused r l) = Refused r (length l)

abbrev pub number_listed : Walked → ℕ
number_listed (Complete n) = n
number_listed (Truncated n) = n
number_listed (Refused r n) = n

-- the answer in words: 0 whole, 101 cut, or the refusal's number; the number listed
unfoldable pub walked_words : Walked → List ℕ
walked_words (Complete n) = 0 ∷ n ∷ []
walked_words (Truncated n) = 101 ∷ n ∷ []
walked_words (Refused r n) = number_of r ∷ n ∷ []

-- ---- lent slices after some contexts are listed

abbrev pub place_of : Entry → ℕ
place_of e = e.place

-- word i of the listing is the place of context i
unfoldable pub listing_with : List Entry → (was : List ℕ) → List ℕ
listing_with l was = over was 0 (map place_of l)

-- slot ctxId of each context holds its place
unfoldable pub slots_with : List Entry → (table : List ℕ) → List ℕ
slots_with [] table = table
slots_with (e ∷ es) table = slots_with es (set table e.ctx_id e.place)

-- every other slot is 0
unfoldable pub table_with : List Entry → (slots : ℕ) → List ℕ
table_with l slots = slots_with l (replicate slots 0)

-- the words of each context, one after the other, as far as there is room for whole ones
unfoldable pub words_of : List Entry → List ℕ
words_of [] = []
words_of (e ∷ es) = entry_words e ++ words_of es

unfoldable pub records_with : List Entry → (was : List ℕ) → List ℕ
records_with l was = over was 0 (words_of (take (length was / words_each) l))

-- ---- and after a walk. Where it is refused before the trail, nothing is listed, so that the listing and the records are untouched too

-- "fills the table afresh for everything up to that new mark"
unfoldable pub table_after : Asked → (was : List ℕ) → List ℕ
table_after a was = if_passed (λ r. was) (walk_check a) (table_with (reached a) (length was))

-- "A walk hands out on request a mark ..; bytes after it stay"; "no refusal before or by opening, with 18 or with an unpassed mark writes
-- a new one"
unfoldable pub mark_after : Asked → (was : List ℕ) → List ℕ
mark_after a was = either (a.marks.asks && mark_passed a) (over was 0 (encode (new_path a))) was

-- ---- a walk of a file with lent slices

pub record Slices : Type 0 where
  pub listing : List ℕ
  pub table : List ℕ
  pub records : List ℕ
  pub mark : List ℕ

-- without one for a mark
abbrev pub slices : (listing table records : List ℕ) → Slices
slices listing table records = record { listing = listing; table = table; records = records; mark = [] }

abbrev pub slices_with_mark : (listing table records mark : List ℕ) → Slices
slices_with_mark listing table records mark = record { listing = listing; table = table; records = records; mark = mark }

-- what it is asked with
abbrev pub ask_with : (file : List ℕ) → Marks → Slices → Asked
ask_with file m s = ask file m (record { words = length s.listing; slots = length s.table; bytes = length s.mark })

-- what it leaves: its answer, as `say` puts it, and the slices
pub record LeavesFrom {A : Type 0} (say : Walked → A) (file : List ℕ) (m : Marks) (was : Slices) (answer : A) (now : Slices) : Type 0 where
  pub answers : answer ≡ say (walked_of (walk_of (ask_with file m was)))
  pub lists : now.listing ≡ listing_with (list_of (walk_of (ask_with file m was))) was.listing
  pub fills : now.table ≡ table_after (ask_with file m was) was.table
  pub recorded : now.records ≡ records_with (list_of (walk_of (ask_with file m was))) was.records
  pub marked : now.mark ≡ mark_after (ask_with file m was) was.mark

abbrev pub marks_with : (given : List ℕ) (asks : Bool) → Marks
marks_with given asks = record { given = given; asks = asks }

-- no mark, and none asked for
abbrev pub unmarked : Marks
unmarked = marks_with [] false

abbrev pub Leaves : {A : Type 0} → (say : Walked → A) → (file : List ℕ) → (was : Slices) → (answer : A) → (now : Slices) → Type 0
Leaves say file was answer now = LeavesFrom say file unmarked was answer now

-- by the answer itself
abbrev pub itself : Walked → Walked
itself w = w
