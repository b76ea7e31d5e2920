-- Going on from a mark, in facts: each outcome of a walk from a mark with all that it leaves, and parts that joined equal one walk.
use Rattle.refusal.specs.Check.{Passed}
use Rattle.std.specs.Prelude.{ℕ, ◌+◌, ◌*◌, ◌≤◌, ◌<◌, true, false, List, [], ◌∷◌, ◌++◌, map, ◌↔◌, ◌⊎◌, ◌≡◌, length, take, drop, replicate, Err}
use Rattle.le.specs.Number.{number}
use Rattle.refusal.specs.declared.Refusal.{Refusal}
use Rattle.refusal.specs.declared.Refusal.TheVariants as No
use Rattle.open.specs.Format.{meta}
use Rattle.open.specs.Opening.{opening}
use Rattle.layout.specs.Octets.{Octets}
use Rattle.seq.specs.Lists.{In}
use Rattle.mark.specs.Mark.{mark_room, encode, named, malformed, decode}
use Rattle.context.specs.Entry.{Entry, words_each}
use Rattle.traversal.specs.declared.Walked.{Walked}
use Rattle.traversal.specs.declared.Walked.TheVariants.{Complete, Truncated, Refused}
use Rattle.traversal.specs.Traversal.{on, refused, list_of, traversal}
use Rattle.traversal.specs.From.{with_list, last_path}
use Rattle.traversal.specs.Walk.{walk_check, trail_from, mark_passed, place_of, table_with}
use Rattle.traversal.specs.Demand3.{Call, asked, listed_number, listed_words, listed, record_room, record_words, Untouched, Agree}

-- the context that a path names is on a list; "before the first root .. always counts as passed"
abbrev pub OnTrail : (path : List ℕ) → List Entry → Type 0
OnTrail path l = (path ≡ []) ⊎ ((e : Entry) × In e l × (e.path ≡ path))

module _ {file : List ℕ} (c : Call file) where
  -- no new mark is asked for, or there is room for each
  abbrev pub Roomy : Type 0
  Roomy = c.marks.asks ≡ true → mark_room ≤ length c.was.mark

  -- past the rules that stand before the trail, from the mark that names a path
  pub record Begun (path : List ℕ) : Type 0 where
    pub roomy : Roomy
    pub opens : opening meta file ≡ Passed
    pub names : decode c.marks.given ≡ named path

  -- refused, "the table is 0, the listing is untouched", and no new mark
  abbrev pub Cleared : Refusal → Type 0
  Cleared r =
      (c.answer ≡ Refused r 0) × (c.now.listing ≡ c.was.listing) × (c.now.table ≡ replicate (length c.was.table) 0)
      × (c.now.records ≡ c.was.records) × (c.now.mark ≡ c.was.mark)

  abbrev pub contexts : List Entry
  contexts = list_of (traversal (asked c))

  -- "if the mark is malformed .., or if the trail ends whole without passing the context it names"
  abbrev pub MarkFails : Type 0
  MarkFails =
      (decode c.marks.given ≡ malformed)
      ⊎ ((path : List ℕ) × (l : List Entry) × (decode c.marks.given ≡ named path) × (traversal (asked c) ≡ on l) × (OnTrail path l → ⊥))

  -- as many of some contexts as the listing has words; these are listed, and others have slots
  abbrev pub fitting : List Entry → List Entry
  fitting l = take (length c.was.listing) l

  abbrev pub ListsAndFills : (l m : List Entry) → Type 0
  ListsAndFills l m = (listed_words c ≡ map place_of (fitting l)) × (c.now.table ≡ table_with m (length c.was.table))

  pub record Outcomes : Type 0 where
    -- "17 before opening, if fewer than 805 bytes are lent for the new mark"
    pub no_room : c.marks.asks ≡ true → length c.was.mark < 805 → Untouched c No.Room
    pub not_opened : Roomy → (r : Refusal) → opening meta file ≡ Err r → Untouched c r
    -- "18 Mark, if the mark is malformed (after opening, both slices untouched)"
    pub ill_formed : Roomy → opening meta file ≡ Passed → decode c.marks.given ≡ malformed → Untouched c No.Mark
    -- "or if the trail ends whole without passing the context it names"
    pub missing : (path : List ℕ) → Begun path → (l : List Entry) → traversal (asked c) ≡ on l → (OnTrail path l → ⊥) → Cleared No.Mark
    -- "if the trail ends in a refusal before passing it, that refusal stands with 0 listed"
    pub refused_first : (path : List ℕ) → Begun path → (r : Refusal) (l : List Entry) → traversal (asked c) ≡ refused r l
        → (OnTrail path l → ⊥) → Cleared r
    -- 17 and 18 for nothing else
    pub says_17 : ((n : ℕ) × (c.answer ≡ Refused No.Room n)) ↔ ((c.marks.asks ≡ true) × (length c.was.mark < 805))
    pub says_18 : ((n : ℕ) × (c.answer ≡ Refused No.Mark n)) ↔ (Roomy × (opening meta file ≡ Passed) × MarkFails)
    -- a walk reads no string
    pub never_19 : (n : ℕ) → c.answer ≡ Refused No.Spelling n → ⊥
    -- "fills the table afresh for everything up to that new mark, and lists from just after the mark": from depth 0 the whole trail, and else
    -- what follows the context that the mark names
    pub from-roots : Begun [] → (trail_from (asked c) ≡ traversal (asked c)) × ListsAndFills contexts (fitting contexts)
    pub goes_on : (path : List ℕ) → Begun path → (before : List Entry) (e : Entry) (after : List Entry) → contexts ≡ before ++ (e ∷ after)
        → e.path ≡ path → (trail_from (asked c) ≡ with_list (traversal (asked c)) after) × ListsAndFills after (before ++ (e ∷ fitting after))
    -- "a mark of the last context listed or, if none is, the mark it had; bytes after it stay"
    pub hands_out : (path : List ℕ) → Begun path → OnTrail path contexts → c.marks.asks ≡ true
        → (take (length (encode (last_path path (listed c)))) c.now.mark ≡ encode (last_path path (listed c)))
        × (drop (length (encode (last_path path (listed c)))) c.now.mark ≡ drop (length (encode (last_path path (listed c)))) c.was.mark)
    -- then its very bytes
    pub hands_back : (path : List ℕ) → Begun path → OnTrail path contexts → c.marks.asks ≡ true → listed_number c ≡ 0
        → 0 < length c.marks.given → Octets c.marks.given → take (length c.marks.given) c.now.mark ≡ c.marks.given
    pub not_asked : c.marks.asks ≡ false → c.now.mark ≡ c.was.mark
    -- the mark was passed if anything is listed, or the end is whole or cut
    pub passed_listed : 0 < listed_number c → mark_passed (asked c) ≡ true
    pub passed_whole : (n : ℕ) → c.answer ≡ Complete n → mark_passed (asked c) ≡ true
    pub passed_cut : (n : ℕ) → c.answer ≡ Truncated n → mark_passed (asked c) ≡ true

-- ---- parts

module _ {file : List ℕ} where
  -- the mark that a walk handed out: as many bytes as its length says
  abbrev pub handed : Call file → List ℕ
  handed c = take (number 2 c.now.mark 0) c.now.mark

  -- one that handed out a mark, and one that goes on from it with a table as long
  pub record Follows (c d : Call file) : Type 0 where
    pub asks : c.marks.asks ≡ true
    pub roomy : mark_room ≤ length c.was.mark
    pub passed : mark_passed (asked c) ≡ true
    pub from_it : d.marks.given ≡ handed c
    pub table_as_long : length d.was.table ≡ length c.was.table

  -- a walk, and others each of which follows the one before it
  abbrev pub Parts : Call file → List (Call file) → Type 0
  Parts c [] = Unit
  Parts c (d ∷ ds) = Follows c d × Parts d ds

  abbrev pub last_part : Call file → List (Call file) → Call file
  last_part c [] = c
  last_part c (d ∷ ds) = last_part d ds

  -- "the joined room", and what is joined
  abbrev pub joined_room : Call file → List (Call file) → ℕ
  joined_room c [] = length c.was.listing
  joined_room c (d ∷ ds) = length c.was.listing + joined_room d ds

  abbrev pub joined_number : Call file → List (Call file) → ℕ
  joined_number c [] = listed_number c
  joined_number c (d ∷ ds) = listed_number c + joined_number d ds

  abbrev pub joined_words : Call file → List (Call file) → List ℕ
  joined_words c [] = listed_words c
  joined_words c (d ∷ ds) = listed_words c ++ joined_words d ds

  abbrev pub joined_entries : Call file → List (Call file) → List Entry
  joined_entries c [] = listed c
  joined_entries c (d ∷ ds) = listed c ++ joined_entries d ds

  abbrev pub joined_records : Call file → List (Call file) → List ℕ
  joined_records c [] = record_words c
  joined_records c (d ∷ ds) = record_words c ++ joined_records d ds

  -- each part has room for the records of all that it lists
  abbrev pub AllRecorded : Call file → List (Call file) → Type 0
  AllRecorded c [] = listed_number c ≤ record_room c
  AllRecorded c (d ∷ ds) = (listed_number c ≤ record_room c) × AllRecorded d ds

  -- the records of each part are those of the one walk from its first context on, as far as both go: before them it lists n
  abbrev pub RecordsFrom : (whole : Call file) (n : ℕ) → Call file → List (Call file) → Type 0
  RecordsFrom whole n c [] = Agree (drop (n * words_each) (record_words whole)) (record_words c)
  RecordsFrom whole n c (d ∷ ds) =
      Agree (drop (n * words_each) (record_words whole)) (record_words c) × RecordsFrom whole (n + listed_number c) d ds

-- the same end with another number listed
abbrev pub with_number : Walked → ℕ → Walked
with_number (Complete n) m = Complete m
with_number (Truncated n) m = Truncated m
with_number (Refused r n) m = Refused r m

-- "the joined room and the same table, where neither a part nor that walk is refused for its mark room": the parts but the last have room
-- for their marks, since they follow one another
pub record AsOne {file : List ℕ} (c : Call file) (ds : List (Call file)) (whole : Call file) : Type 0 where
  pub same_mark : decode whole.marks.given ≡ decode c.marks.given
  pub joined-room : length whole.was.listing ≡ joined_room c ds
  pub same_table : length whole.was.table ≡ length c.was.table
  pub whole_roomy : Roomy whole
  pub last_roomy : Roomy (last_part c ds)

-- "Parts joined equal one walk"
pub record Joined {file : List ℕ} (c : Call file) (ds : List (Call file)) (whole : Call file) : Type 0 where
  pub lists : listed_words whole ≡ joined_words c ds
  -- with all their fields
  pub entries : listed whole ≡ joined_entries c ds
  -- and so with their records, as far as the one walk has room for whole ones; where a part has not, those that it has
  pub records : AllRecorded c ds → record_words whole ≡ take (record_room whole * words_each) (joined_records c ds)
  pub records_of_each : RecordsFrom whole 0 c ds
  pub ends : whole.answer ≡ with_number (last_part c ds).answer (joined_number c ds)
  pub table : walk_check (asked whole) ≡ Passed → whole.now.table ≡ (last_part c ds).now.table
  -- where both ask for one and the mark is passed
  pub mark : whole.marks.asks ≡ true → (last_part c ds).marks.asks ≡ true → mark_passed (asked whole) ≡ true → handed whole ≡ handed (last_part c ds)

-- ---- of any

pub record GoingOn : Type 0 where
  pub says : (file : List ℕ) (c : Call file) → Outcomes c
  pub as_one : (file : List ℕ) → Octets file → (c : Call file) (ds : List (Call file)) (whole : Call file) → Octets c.marks.given
      → Parts c ds → AsOne c ds whole → Joined c ds whole
  -- where a walk hands out no mark, since the one given is not passed, any other from it with a table as long answers as it does
  pub unhanded : (file : List ℕ) (c d : Call file) → decode d.marks.given ≡ decode c.marks.given → length d.was.table ≡ length c.was.table
      → Roomy c → Roomy d → mark_passed (asked c) ≡ false → d.answer ≡ c.answer
