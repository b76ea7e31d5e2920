-- Demand 3, "one claim about any two such walks": of any one walk, and of any two of the same bytes. "Demand 3 then reads for each mark,
-- over the trail from just after it": `trail_from`, which for no mark is the trail. By request 2026-07 it reads over records too, as they are
-- handed out: as far as there is room for whole ones.
use Rattle.refusal.specs.Check.{Passed}
use Rattle.std.specs.Prelude.{ℕ, ◌*◌, ◌/◌, ◌≤◌, ◌<◌, min, true, false, List, [], ◌∷◌, ◌++◌, map, ◌↔◌, ◌≡◌, refl, length, get_or, take, drop, Err}
use Rattle.refusal.specs.declared.Refusal.{Refusal}
use Rattle.refusal.specs.declared.Refusal.TheVariants as No
use Rattle.seq.specs.Lists.{In}
use Rattle.mark.specs.Mark.{decode}
use Rattle.context.specs.Entry.{Entry, entry_words, words_each}
use Rattle.traversal.specs.declared.Walked.{Walked}
use Rattle.traversal.specs.declared.Walked.TheVariants.{Complete, Truncated, Refused}
use Rattle.traversal.specs.Traversal.{Marks, Asked, list_of, traversal}
use Rattle.traversal.specs.From.{up_to_mark}
use Rattle.traversal.specs.Walk.{walk_check, given_path, trail_from, walk_of, mark_passed, reached, walked_of, number_listed, place_of, Slices, ask_with, LeavesFrom, itself}

-- a walk of a file as its caller sees it: marks given and asked for, what was lent, the answer, what stands there afterwards; as the
-- contracts promise it
pub record Call (file : List ℕ) : Type 0 where
  pub marks : Marks
  pub was : Slices
  pub answer : Walked
  pub now : Slices
  pub promised : LeavesFrom itself file marks was answer now

-- a call whose answer is said in another way, as in words from C; `answers` of its promise ties the two
abbrev pub call_of : {A : Type 0} {say : Walked → A} {file : List ℕ} {m : Marks} {was : Slices} {answer : A} {now : Slices}
    → LeavesFrom say file m was answer now → Call file
call_of {file = file} {m = m} {was = was} {now = now} l = record {
  marks = m;
  was = was;
  answer = walked_of (walk_of (ask_with file m was));
  now = now;
  promised = record { answers = refl; lists = l.lists; fills = l.fills; recorded = l.recorded; marked = l.marked };
}

module _ {file : List ℕ} (c : Call file) where
  abbrev pub asked : Asked
  asked = ask_with file c.marks c.was

  abbrev pub listed_number : ℕ
  listed_number = number_listed c.answer

  -- its list: that many words from the listing's start
  abbrev pub listed_words : List ℕ
  listed_words = take listed_number c.now.listing

  -- the contexts on the trail from just after the mark, and those of them that are listed
  abbrev pub trail : List Entry
  trail = list_of (trail_from asked)

  abbrev pub listed : List Entry
  listed = take listed_number trail

  -- the records: for how many there is room, how many are handed out, and their words, from the start
  abbrev pub record_room : ℕ
  record_room = length c.was.records / words_each

  abbrev pub record_number : ℕ
  record_number = min listed_number record_room

  abbrev pub record_words : List ℕ
  record_words = take (record_number * words_each) c.now.records

  -- record n is handed out, and is that of e
  pub record RecordOf (n : ℕ) (e : Entry) : Type 0 where
    pub before : List Entry
    pub after : List Entry
    pub lists : listed ≡ before ++ (e ∷ after)
    pub number : n ≡ length before
    pub room : n < record_room

  -- refused, and nothing written
  abbrev pub Untouched : Refusal → Type 0
  Untouched r =
      (c.answer ≡ Refused r 0) × (c.now.listing ≡ c.was.listing) × (c.now.table ≡ c.was.table) × (c.now.records ≡ c.was.records)
      × (c.now.mark ≡ c.was.mark)

-- ---- of one walk

pub record OneWalk {file : List ℕ} (c : Call file) : Type 0 where
  -- "Its number listed is the smaller of two counts, the contexts on the trail and the words of the listing."
  pub smaller : listed_number c ≡ min (length (trail c)) (length c.was.listing)
  -- "a walk lists the trail's contexts from the first on, as far as its listing has words"
  pub from_first : listed_words c ≡ map place_of (listed c)
  -- "words beyond are untouched"
  pub beyond : drop (listed_number c) c.now.listing ≡ drop (listed_number c) c.was.listing
  -- "It says cut exactly when the trail has more contexts than the listing has words"
  pub says-cut : (c.answer ≡ Truncated (listed_number c)) ↔ (length c.was.listing < length (trail c))
  -- "otherwise it gives the trail's end"
  pub gives_end : length (trail c) ≤ length c.was.listing → c.answer ≡ walked_of (trail_from (asked c))
  -- "The table is 0 except that slot ctxId of each listed context holds its place": of each "up to that new mark"
  pub slot : walk_check (asked c) ≡ Passed → (e : Entry) → In e (reached (asked c)) → get_or c.now.table e.ctx_id 0 ≡ e.place
  pub no_slot : walk_check (asked c) ≡ Passed → (i : ℕ) → ((e : Entry) → In e (reached (asked c)) → e.ctx_id ≡ i → ⊥)
      → get_or c.now.table i 0 ≡ 0
  pub slots : length c.now.table ≡ length c.was.table
  -- those passed over, up to the mark given, and those listed; none where the mark was not passed
  pub up_to : mark_passed (asked c) ≡ true → reached (asked c) ≡ up_to_mark (given_path (asked c)) (list_of (traversal (asked c))) ++ listed c
  pub none : walk_check (asked c) ≡ Passed → mark_passed (asked c) ≡ false → reached (asked c) ≡ []
  -- "Every context record handed out by a walk": those of the first contexts listed, as many whole ones as there is room for, word for word
  pub each_record : (n : ℕ) → n < record_number c → (e : Entry) × RecordOf c n e
  pub record_is : (n : ℕ) (e : Entry) → RecordOf c n e → take words_each (drop (n * words_each) c.now.records) ≡ entry_words e
  pub beyond_records : drop (record_number c * words_each) c.now.records ≡ drop (record_number c * words_each) c.was.records
  -- "If opening refuses, 0 are listed and neither slice changes." So it is with the mark rules that stand before the trail.
  pub not_begun : (r : Refusal) → walk_check (asked c) ≡ Err r → Untouched c r

-- ---- of two

-- refusals that more room may change: "a missing table slot"
abbrev pub WantsRoom : Refusal → Type 0
WantsRoom r = r ≡ No.Slot

-- "ended whole, or was refused for anything but a missing table slot"
abbrev pub Final : Walked → Type 0
Final (Complete n) = Unit
Final (Truncated n) = ⊥
Final (Refused r n) = WantsRoom r → ⊥

-- a list begins with another
abbrev pub Begins : {A : Type 0} → List A → List A → Type 0
Begins {A = A} a b = (c : List A) × (b ≡ a ++ c)

-- two lists are the same as far as both go
abbrev pub Agree : {A : Type 0} → List A → List A → Type 0
Agree a b = take (length a) b ≡ take (length b) a

pub record TwoWalks {file : List ℕ} (old new : Call file) : Type 0 where
  -- "the old list is the beginning of the new one"
  pub begins : Begins (listed_words old) (listed_words new)
  -- "the new one has the same list and the same end"
  pub same_list : Final old.answer → listed_words new ≡ listed_words old
  pub same_end : Final old.answer → new.answer ≡ old.answer
  -- over their records: with at least as much room for them the old ones begin the new; with as many handed out they are the same where
  -- the list is; with any room they are the same as far as both go
  pub records_begin : record_room old ≤ record_room new → Begins (record_words old) (record_words new)
  pub same_records : Final old.answer → record_number old ≡ record_number new → record_words new ≡ record_words old
  pub records_agree : Agree (record_words old) (record_words new)

-- "for each mark, .. where both walks ask for a new mark with the same room for it, or neither asks". A mark is what its bytes say: no bytes
-- and those of depth 0 are the same
pub record AskedAlike {file : List ℕ} (c d : Call file) : Type 0 where
  pub same_mark : decode c.marks.given ≡ decode d.marks.given
  pub same_asks : c.marks.asks ≡ d.marks.asks
  pub same_room : c.marks.asks ≡ true → length c.was.mark ≡ length d.was.mark

-- ---- of any

pub record Demand3 : Type 0 where
  -- "The format defines one trail for a file and a table's length"
  pub one_trail : (file : List ℕ) (c d : Call file) → AskedAlike c d → length c.was.table ≡ length d.was.table
      → trail_from (asked c) ≡ trail_from (asked d)
  pub one : (file : List ℕ) (c : Call file) → OneWalk c
  -- "with a listing and a table each at least as long, whatever they held"
  pub two : (file : List ℕ) (old new : Call file) → AskedAlike old new → length old.was.listing ≤ length new.was.listing
      → length old.was.table ≤ length new.was.table → TwoWalks old new
