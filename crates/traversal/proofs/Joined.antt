-- Parts joined equal one walk. A mark that was handed out is read back as the path that it names, since a traversal's paths can be marks;
-- so two parts join as their outcomes do. For more, the rest are one walk from the second part's mark on, by induction.
use Rattle.std.specs.Prelude.{Err}
use Prim.Native.Nat.{ℕ, ◌+◌, ◌*◌, ◌≤◌}
use mathlib.Core.Bool.{Bool, true, false}
use mathlib.Core.List.{List, [], ◌∷◌, ◌++◌, map, map-append, append_assoc, append-nil}
use mathlib.Core.Path.{◌≡◌, refl, sym, ap, ap₂, ◌∙◌, subst}
use native.Mathlib.Omega.{arith}
use lib.ListN.{length, take, drop, replicate, length-append, length-replicate}
use lib.Seq.{take_all}
use Rattle.refusal.specs.declared.Refusal.TheVariants as No
use Rattle.refusal.specs.Check.{rule, first, if_passed, Check, on_answer, Passed}
use Rattle.layout.specs.Octets.{Octets}
use Rattle.le.specs.Number.{number}
use Rattle.open.specs.Format.{meta}
use Rattle.open.specs.Opening.{opening}
use Rattle.mark.specs.Mark.{encode, Decoded, named, decode, is_named, path_in, Encodable}
use Rattle.mark.proofs.Bytes.{decode_encode, decoded_encodable, mark_read}
use Rattle.context.specs.Entry.{Entry, words_each}
use Rattle.traversal.specs.declared.Walked.{Walked}
use Rattle.traversal.specs.declared.Walked.TheVariants.{Complete, Truncated, Refused}
use Rattle.traversal.specs.Traversal.{Marks, Asked, Outcome, on, cut, refused, list_of, traversal}
use Rattle.traversal.specs.From.{is_passed, up_to_mark, with_list, from_mark, last_path}
use Rattle.traversal.specs.Walk.{truncate, walk_check, given_path, trail_from, walk_of, mark_passed, new_path, reached, walked_of, number_listed}
use Rattle.traversal.specs.Walk.{place_of, listing_with, table_with, words_of, records_with, table_after, mark_after, Slices, slices_with_mark, ask_with}
use Rattle.traversal.specs.Demand3.{Call, asked, listed_number, listed_words, listed, record_room, record_words, Agree}
use Rattle.traversal.specs.Joined.{Roomy, Begun, handed, Follows, Parts, last_part, joined_room, joined_number, joined_entries, joined_records, AllRecorded, RecordsFrom, with_number, AsOne, Joined, GoingOn}
use Rattle.traversal.proofs.Begins.{left_agrees}
use Rattle.traversal.proofs.From.{list_with, list_unpassed, from_unpassed}
use Rattle.traversal.proofs.Trail.{trail_same}
use Rattle.traversal.proofs.Preorder.{paths_distinct}
use Rattle.traversal.proofs.Records.{words_append, length_words}
use Rattle.traversal.proofs.Join.{outcome_from, path_after, new_passed, join_outcome, join_path, walk_from, path-after, new_path_all}
use Rattle.traversal.proofs.Small.{contexts_encodable}
use Rattle.traversal.proofs.Demand3.{counted, same_listed, listed_length, record-words, filled, demand3}
use Rattle.traversal.proofs.Rules.{roomy_check, begun_passes, begun_path, check_told, mark-passed, passed_check}
use Rattle.traversal.proofs.Outcomes.{handed_out, new_shallow, outcomes}

-- ---- answers with another number

number_with : (w : Walked) (n : ℕ) → number_listed (with_number w n) ≡ n
number_with (Complete m) n = refl
number_with (Truncated m) n = refl
number_with (Refused r m) n = refl

with-number : (w : Walked) (n m : ℕ) → with_number (with_number w n) m ≡ with_number w m
with-number (Complete k) n m = refl
with-number (Truncated k) n m = refl
with-number (Refused r k) n m = refl

own_number : (w : Walked) → with_number w (number_listed w) ≡ w
own_number (Complete n) = refl
own_number (Truncated n) = refl
own_number (Refused r n) = refl

walked_with : (o : Outcome) (l : List Entry) → walked_of (with_list o l) ≡ with_number (walked_of o) (length l)
unfolding walked_of
walked_with (on m) l = refl
walked_with (cut m) l = refl
walked_with (refused r m) l = refl

-- ---- records, by the contexts listed

module _ {file : List ℕ} where
  all_words : (c : Call file) → listed_number c ≤ record_room c → record_words c ≡ words_of (listed c)
  all_words c h = record-words c ∙ take_all (record_room c * words_each) (words_of (listed c)) (omega (arith, length_words (listed c), listed_length c))

  joined-words : (c : Call file) (ds : List (Call file)) → AllRecorded c ds → joined_records c ds ≡ words_of (joined_entries c ds)
  joined-words c [] h = all_words c h
  joined-words c (d ∷ ds) h = ap₂ ◌++◌ (all_words c h.0) (joined-words d ds h.1) ∙ sym (words_append (listed c) (joined_entries d ds))

  joined-records : (c : Call file) (ds : List (Call file)) (whole : Call file) → listed whole ≡ joined_entries c ds → AllRecorded c ds
      → record_words whole ≡ take (record_room whole * words_each) (joined_records c ds)
  joined-records c ds whole e h = record-words whole ∙ ap (take (record_room whole * words_each)) (ap words_of e ∙ sym (joined-words c ds h))

  -- a part's, where the one walk lists some contexts before it and some behind it
  part_records : (whole c : Call file) (before after : List Entry) (n : ℕ) → listed whole ≡ before ++ (listed c ++ after) → length before ≡ n
      → Agree (drop (n * words_each) (record_words whole)) (record_words c)
  part_records whole c before after n e k =
      rw (
        record-words whole,
        record-words c,
        e,
        words_append before (listed c ++ after),
        words_append (listed c) after,
      )
      (left_agrees (n * words_each) (record_room whole * words_each) (record_room c * words_each) (words_of before) (words_of (listed c)) (words_of after)
      (length_words before ∙ ap (λ (m : ℕ). m * words_each) k))

  records_from : (whole : Call file) (n : ℕ) (c : Call file) (ds : List (Call file)) (before : List Entry) → length before ≡ n
      → listed whole ≡ before ++ joined_entries c ds → RecordsFrom whole n c ds
  records_from whole n c [] before k e =
      part_records whole c before [] n (e ∙ ap (λ (l : List Entry). before ++ l) (sym (append-nil (listed c)))) k
  records_from whole n c (d ∷ ds) before k e = (
    part_records whole c before (joined_entries d ds) n e k,
    records_from whole (n + listed_number c) d ds (before ++ listed c) (length-append before (listed c) ∙ ap₂ ◌+◌ k (listed_length c))
        (e ∙ sym (append_assoc before (listed c) (joined_entries d ds))),
  )

-- ---- of one call

module _ {file : List ℕ} where
  -- what is asked has a walk
  abbrev walked_by : (m : Marks) → (was : Slices) → Call file
  walked_by m was =
      let a = ask_with file m was in
      record {
        marks = m;
        was = was;
        answer = walked_of (walk_of a);
        now = record {
          listing = listing_with (list_of (walk_of a)) was.listing;
          table = table_after a was.table;
          records = records_with (list_of (walk_of a)) was.records;
          mark = mark_after a was.mark;
        };
        promised = record { answers = refl; lists = refl; fills = refl; recorded = refl; marked = refl };
      }

  words-of : (c : Call file) → listed_words c ≡ map place_of (listed c)
  words-of c = (demand3.one file c).from_first

  -- the mark handed out is the new one
  handed_new : (c : Call file) → c.marks.asks ≡ true → Roomy c → mark_passed (asked c) ≡ true → handed c ≡ encode (new_path (asked c))
  handed_new c e roomy passed =
      ap (λ (m : List ℕ). take (number 2 m 0) m) (handed_out c e passed)
      ∙ mark_read (new_path (asked c)) c.was.mark (new_shallow c (passed_check (asked c) passed).0) (roomy e)

-- none are listed where the mark is not passed
unpassed_trail : (a : Asked) → mark_passed a ≡ false → list_of (trail_from a) ≡ []
unfolding trail_from mark_passed on_answer
unpassed_trail a h = go (walk_check a) h
  where
    go : (v : Check) → if_passed (λ r. false) v (is_passed (given_path a) (list_of (traversal a))) ≡ false
        → list_of (if_passed (λ r. refused r []) v (from_mark (given_path a) (traversal a))) ≡ []
    go Passed k = ap list_of (from_unpassed (given_path a) (traversal a) k) ∙ list_unpassed (traversal a)
    go (Err r) k = refl

-- ---- two calls with the same mark given and tables as long, whatever they ask for

module _ {file : List ℕ} (c d : Call file) (given : decode d.marks.given ≡ decode c.marks.given) (slots : length d.was.table ≡ length c.was.table)
    (roomy-c : Roomy c) (roomy-d : Roomy d) where
  alike_check : walk_check (asked d) ≡ walk_check (asked c)
  alike_check =
      roomy_check d roomy-d ∙ ap (λ (m : Decoded). first (opening meta file) (rule (is_named m) No.Mark)) given ∙ sym (roomy_check c roomy-c)

  alike_given : given_path (asked d) ≡ given_path (asked c)
  alike_given = ap path_in given

  alike_traversal : traversal (asked d) ≡ traversal (asked c)
  alike_traversal = trail_same file d.marks c.marks (asked d).lent (asked c).lent slots

  alike_trail : trail_from (asked d) ≡ trail_from (asked c)
  unfolding trail_from
  alike_trail =
      ap₂ (λ (v : Check) (o : Outcome). if_passed (λ r. refused r []) v o) alike_check (ap₂ from_mark alike_given alike_traversal)

  alike_passed : mark_passed (asked d) ≡ mark_passed (asked c)
  unfolding mark_passed
  alike_passed =
      ap₂ (λ (v : Check) (b : Bool). if_passed (λ r. false) v b) alike_check
      (ap₂ (λ (p : List ℕ) (o : Outcome). is_passed p (list_of o)) alike_given alike_traversal)

  -- with as long a listing they are the same walk
  module _ (words : length d.was.listing ≡ length c.was.listing) where
    alike_walk : walk_of (asked d) ≡ walk_of (asked c)
    unfolding walk_of
    alike_walk = ap₂ truncate words alike_trail

    alike_new : new_path (asked d) ≡ new_path (asked c)
    unfolding new_path
    alike_new = ap₂ (λ (p : List ℕ) (o : Outcome). last_path p (list_of o)) alike_given alike_walk

    alike_reached : reached (asked d) ≡ reached (asked c)
    unfolding reached
    alike_reached = ap₂ (λ (p : List ℕ) (o : Outcome). up_to_mark p (list_of o)) alike_new alike_traversal

    one_joined : Joined c [] d
    one_joined =
        let entries : listed d ≡ listed c = sym (same_listed d) ∙ ap list_of alike_walk ∙ same_listed c in
        record {
          lists = words-of d ∙ ap (map place_of) entries ∙ sym (words-of c);
          entries = entries;
          records = joined-records c [] d entries;
          records_of_each = records_from d 0 c [] [] refl entries;
          ends = d.promised.answers ∙ ap walked_of alike_walk ∙ sym c.promised.answers ∙ sym (own_number c.answer);
          table = λ check. filled d check ∙ ap₂ table_with alike_reached slots ∙ sym (filled c (sym alike_check ∙ check));
          mark = λ e f passed. handed_new d e roomy-d passed ∙ ap encode alike_new ∙ sym (handed_new c f roomy-c (sym alike_passed ∙ passed));
        }

  -- with a mark that is not passed, and so none to go on from, they answer alike whatever their listings
  unhanded : mark_passed (asked c) ≡ false → d.answer ≡ c.answer
  unhanded lost =
      let none = unpassed_trail (asked c) lost in
      answers d (ap list_of alike_trail ∙ none) ∙ ap walked_of alike_trail ∙ sym (answers c none)
    where
      answers : (x : Call file) → list_of (trail_from (asked x)) ≡ [] → x.answer ≡ walked_of (trail_from (asked x))
      answers x e = (demand3.one file x).gives_end (omega (arith, ap length e))

-- ---- a call, one that follows it, and the one walk that they equal

module _ {file : List ℕ} (octets : Octets file) (c d : Call file) (can : Encodable (given_path (asked c))) (f : Follows c d) where
  check_c : walk_check (asked c) ≡ Passed
  check_c = (passed_check (asked c) f.passed).0

  -- the mark handed on is read back
  new_encodable : Encodable (new_path (asked c))
  new_encodable = new_path_all (asked c) check_c Encodable can (contexts_encodable (asked c) octets)

  read_back : decode d.marks.given ≡ named (new_path (asked c))
  read_back =
      ap decode (f.from_it ∙ handed_new c f.asks (λ e. f.roomy) f.passed) ∙ decode_encode (new_path (asked c)) new_encodable

  next_encodable : Encodable (given_path (asked d))
  unfolding path_in
  next_encodable = subst Encodable (sym (ap path_in read_back)) new_encodable

  module _ (whole : Call file) (given : decode whole.marks.given ≡ decode c.marks.given)
      (room : length whole.was.listing ≡ length c.was.listing + length d.was.listing)
      (slots : length whole.was.table ≡ length c.was.table) (roomy-d : Roomy d) (roomy-whole : Roomy whole) where
    abbrev o : Outcome
    o = traversal (asked c)

    abbrev path : List ℕ
    path = given_path (asked c)

    abbrev n : ℕ
    n = length c.was.listing

    abbrev m : ℕ
    m = length d.was.listing

    begun_d : Begun d (new_path (asked c))
    begun_d = record { roomy = roomy-d; opens = (check_told (asked c) check_c).1; names = read_back }

    check_d : walk_check (asked d) ≡ Passed
    check_d = begun_passes d (new_path (asked c)) begun_d

    check_whole : walk_check (asked whole) ≡ Passed
    check_whole = alike_check c whole given slots (λ e. f.roomy) roomy-whole ∙ check_c

    given_whole : given_path (asked whole) ≡ path
    given_whole = alike_given c whole given slots (λ e. f.roomy) roomy-whole

    given_d : given_path (asked d) ≡ path_after path n o
    given_d = begun_path d (new_path (asked c)) begun_d ∙ path-after (asked c) check_c

    trail_d : traversal (asked d) ≡ o
    trail_d = trail_same file d.marks c.marks (asked d).lent (asked c).lent f.table_as_long

    trail_whole : traversal (asked whole) ≡ o
    trail_whole = alike_traversal c whole given slots (λ e. f.roomy) roomy-whole

    walk_d : walk_of (asked d) ≡ outcome_from (path_after path n o) m o
    walk_d = walk_from (asked d) check_d ∙ ap₂ (λ (p : List ℕ) (x : Outcome). outcome_from p m x) given_d trail_d

    walk_whole : walk_of (asked whole) ≡ outcome_from path (n + m) o
    walk_whole =
        walk_from (asked whole) check_whole
        ∙ ap₂ (λ (p : List ℕ) (x : Outcome). outcome_from p (length whole.was.listing) x) given_whole trail_whole
        ∙ ap (λ (k : ℕ). outcome_from path k o) room

    path_d : new_path (asked d) ≡ path_after (path_after path n o) m o
    path_d = path-after (asked d) check_d ∙ ap₂ (λ (p : List ℕ) (x : Outcome). path_after p m x) given_d trail_d

    path_whole : new_path (asked whole) ≡ path_after path (n + m) o
    path_whole =
        path-after (asked whole) check_whole
        ∙ ap₂ (λ (p : List ℕ) (x : Outcome). path_after p (length whole.was.listing) x) given_whole trail_whole
        ∙ ap (λ (k : ℕ). path_after path k o) room

    one_new : new_path (asked whole) ≡ new_path (asked d)
    one_new = path_whole ∙ sym (join_path o (paths_distinct (asked c)) path n m) ∙ sym path_d

    one_walk : walk_of (asked whole) ≡ with_list (walk_of (asked d)) (list_of (walk_of (asked c)) ++ list_of (walk_of (asked d)))
    one_walk =
        walk_whole ∙ sym (join_outcome o (paths_distinct (asked c)) path n m)
        ∙ sym (ap₂ (λ (x y : Outcome). with_list y (list_of x ++ list_of y)) (walk_from (asked c) check_c) walk_d)

    one_list : list_of (walk_of (asked whole)) ≡ list_of (walk_of (asked c)) ++ list_of (walk_of (asked d))
    one_list = ap list_of one_walk ∙ list_with (walk_of (asked d)) (list_of (walk_of (asked c)) ++ list_of (walk_of (asked d)))

    one_reached : reached (asked whole) ≡ reached (asked d)
    unfolding reached
    one_reached = ap₂ (λ (p : List ℕ) (x : Outcome). up_to_mark p (list_of x)) one_new (trail_whole ∙ sym trail_d)

    -- what the first hands on, the second passes
    next_passed : mark_passed (asked d) ≡ true
    next_passed =
        mark-passed (asked d) check_d ∙ ap₂ (λ (p : List ℕ) (x : Outcome). is_passed p (list_of x)) given_d trail_d
        ∙ new_passed o (paths_distinct (asked c)) path n (passed_check (asked c) f.passed).1

    two_joined : Joined c (d ∷ []) whole
    two_joined =
        let entries : listed whole ≡ listed c ++ listed d = sym (same_listed whole) ∙ one_list ∙ ap₂ ◌++◌ (same_listed c) (same_listed d) in
        let number : length (list_of (walk_of (asked c)) ++ list_of (walk_of (asked d))) ≡ listed_number c + listed_number d =
        length-append (list_of (walk_of (asked c))) (list_of (walk_of (asked d))) ∙ ap₂ ◌+◌ (sym (counted c)) (sym (counted d)) in
        record {
          lists = words-of whole ∙ ap (map place_of) entries ∙ map-append place_of (listed c) (listed d)
              ∙ ap₂ ◌++◌ (sym (words-of c)) (sym (words-of d));
          entries = entries;
          records = joined-records c (d ∷ []) whole entries;
          records_of_each = records_from whole 0 c (d ∷ []) [] refl entries;
          ends = whole.promised.answers ∙ ap walked_of one_walk ∙ walked_with (walk_of (asked d)) _
              ∙ ap₂ with_number (sym d.promised.answers) number;
          table = λ check. filled whole check ∙ ap₂ table_with one_reached (slots ∙ sym f.table_as_long) ∙ sym (filled d check_d);
          mark = λ e g passed. handed_new whole e roomy-whole passed ∙ ap encode one_new ∙ sym (handed_new d g roomy-d next_passed);
        }

-- ---- any number of parts

module _ {file : List ℕ} (octets : Octets file) where
  joined_from : (c : Call file) (ds : List (Call file)) (whole : Call file) → Encodable (given_path (asked c)) → Parts c ds → AsOne c ds whole
      → Joined c ds whole
  joined_from c [] whole can p one =
      one_joined c whole one.same_mark one.same_table one.last_roomy one.whole_roomy one.joined-room
  joined_from c (d ∷ ds) whole can p one =
      -- the rest as one walk
      let rest : Call file =
      walked_by (record { given = d.marks.given; asks = whole.marks.asks })
      (slices_with_mark (replicate (joined_room d ds) 0) whole.was.table [] whole.was.mark) in
      let room : length rest.was.listing ≡ joined_room d ds = length-replicate (joined_room d ds) 0 in
      let later : Joined d ds rest =
      joined_from d ds rest (next_encodable octets c d can p.0) p.1 (record {
        same_mark = refl;
        joined-room = room;
        same_table = one.same_table ∙ sym p.0.table_as_long;
        whole_roomy = one.whole_roomy;
        last_roomy = one.last_roomy;
      }) in
      let follows : Follows c rest = record {
        asks = p.0.asks;
        roomy = p.0.roomy;
        passed = p.0.passed;
        from_it = p.0.from_it;
        table_as_long = one.same_table;
      } in
      let rooms : length whole.was.listing ≡ length c.was.listing + length rest.was.listing =
      one.joined-room ∙ ap (λ (k : ℕ). length c.was.listing + k) (sym room) in
      let both : Joined c (rest ∷ []) whole =
      two_joined octets c rest can follows whole one.same_mark rooms one.same_table one.whole_roomy one.whole_roomy in
      let check = check_d octets c rest can follows whole one.same_mark rooms one.same_table one.whole_roomy one.whole_roomy in
      let passed = next_passed octets c rest can follows whole one.same_mark rooms one.same_table one.whole_roomy one.whole_roomy in
      let number : listed_number rest ≡ joined_number d ds =
      ap number_listed later.ends ∙ number_with (last_part d ds).answer (joined_number d ds) in
      let entries : listed whole ≡ joined_entries c (d ∷ ds) = both.entries ∙ ap (λ (l : List Entry). listed c ++ l) later.entries in
      record {
        lists = both.lists ∙ ap (λ (l : List ℕ). listed_words c ++ l) later.lists;
        entries = entries;
        records = joined-records c (d ∷ ds) whole entries;
        records_of_each = records_from whole 0 c (d ∷ ds) [] refl entries;
        ends = both.ends ∙ ap₂ (λ (w : Walked) (k : ℕ). with_number w (listed_number c + k)) later.ends number
            ∙ with-number (last_part d ds).answer (joined_number d ds) (listed_number c + joined_number d ds);
        table = λ h. both.table h ∙ later.table check;
        mark = λ e g h. both.mark e e h ∙ later.mark e g passed;
      }

-- the bytes of a file, and of the mark given, are bytes
joined : {file : List ℕ} → Octets file → (c : Call file) (ds : List (Call file)) (whole : Call file) → Octets c.marks.given
    → Parts c ds → AsOne c ds whole → Joined c ds whole
joined octets c ds whole given = joined_from octets c ds whole (decoded_encodable c.marks.given given)

pub going_on : GoingOn
going_on = record {
  says = λ file c. outcomes c;
  as_one = λ file octets c ds whole given parts one. joined octets c ds whole given parts one;
  unhanded = λ file c d given table roomy-c roomy-d lost. unhanded c d given table roomy-c roomy-d lost;
}
