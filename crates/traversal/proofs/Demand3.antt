-- Demand 3. A walk is the trail from just after its mark, truncated to the listing's words; with more room that trail only goes on.
use Rattle.std.specs.Prelude.{Err}
use Prim.Native.Nat.{ℕ, ◌+◌, ◌*◌, ◌≤◌, ◌<◌, min}
use mathlib.Core.Bool.{Bool, true, false, true≢false}
use mathlib.Core.List.{List, [], ◌++◌, map, map-append}
use mathlib.Core.Path.{◌≡◌, refl, sym, ap, ap₂, ◌∙◌, subst}
use native.Mathlib.Nat.{min_comm}
use native.Mathlib.Omega.{arith}
use borrow.Author.Tests.{leb-true, leb-false}
use lib.Dec.{leb}
use lib.ListN.{length, take, drop, length-take, length-map}
use lib.Seq.{take_at, drop_at}
use Rattle.seq.proofs.Lists.{in_at}
use Rattle.refusal.specs.declared.Refusal.{Refusal}
use Rattle.refusal.specs.Check.{either, if_passed, Check, on_answer, Passed}
use Rattle.buffer.proofs.Laws.{over_eq}
use Rattle.context.specs.Entry.{Entry, entry_words, words_each}
use Rattle.traversal.specs.declared.Walked.{Walked}
use Rattle.traversal.specs.declared.Walked.TheVariants.{Complete, Truncated, Refused}
use Rattle.traversal.specs.Traversal.{Marks, Asked, ask, Outcome, on, cut, refused, list_of, traversal}
use Rattle.traversal.specs.From.{is_passed, after_mark, up_to_mark, with_list, unpassed, from_mark}
use Rattle.traversal.specs.Walk.{truncate, walk_check, given_path, trail_from, walk_of, mark_passed, reached, walked_of, number_listed, place_of, listing_with, table_with, words_of, records_with, table_after, Slices, LeavesFrom, itself}
use Rattle.traversal.specs.Demand3.{Call, asked, listed_number, listed_words, trail, listed, record_room, record_number, record_words, RecordOf, Untouched, OneWalk, Final, Begins, TwoWalks, AskedAlike, Demand3}
use Rattle.traversal.proofs.Begins.{begins_trans, begins_take, take_own, begins_taken, both_begin}
use Rattle.traversal.proofs.Cut.{truncate_short, truncate_long, list_truncate}
use Rattle.traversal.proofs.Grows.{is_cut, never_cut}
use Rattle.traversal.proofs.Untouched.{refused_untouched}
use Rattle.traversal.proofs.Records.{words_append, length_words, records_first, records_behind, record_at}
use Rattle.traversal.proofs.Trail.{trail_from_same}
use Rattle.traversal.proofs.MoreRoom.{entries_begin, entries_same}
use Rattle.traversal.proofs.Table.{length_table}
use Rattle.traversal.proofs.Join.{reached_passed, reached_unpassed}
use Rattle.traversal.proofs.Rules.{mark-passed, passed_check}
use Rattle.traversal.proofs.Filled.{reached_slot, empty_slot}

-- ---- what is asked

number_of : (o : Outcome) → number_listed (walked_of o) ≡ length (list_of o)
unfolding walked_of
number_of (on l) = refl
number_of (cut l) = refl
number_of (refused r l) = refl

-- a walk lists the first of the trail's contexts, no more than it has room for
pub lists_first : (a : Asked) → list_of (walk_of a) ≡ take a.lent.words (list_of (trail_from a))
unfolding walk_of
lists_first a = list_truncate a.lent.words (trail_from a)

fits_room : (a : Asked) → length (list_of (walk_of a)) ≤ a.lent.words
fits_room a = omega (arith, ap length (lists_first a), length-take a.lent.words (list_of (trail_from a)))

-- with room for all, a walk is the trail
all_listed : (a : Asked) → length (list_of (trail_from a)) ≤ a.lent.words → walk_of a ≡ trail_from a
unfolding walk_of
all_listed a h = truncate_short a.lent.words (trail_from a) h

-- a trail is never cut
cut_from : (path : List ℕ) (o : Outcome) → is_cut (from_mark path o) ≡ is_cut o
unfolding from_mark either
cut_from path o = go (is_passed path (list_of o)) o (after_mark path (list_of o))
  where
    go : (b : Bool) (o : Outcome) (m : List Entry) → is_cut (either b (with_list o m) (unpassed o)) ≡ is_cut o
    go true (on l) m = refl
    go true (cut l) m = refl
    go true (refused r l) m = refl
    go false (on l) m = refl
    go false (cut l) m = refl
    go false (refused r l) m = refl

never_trail_cut : (a : Asked) → is_cut (trail_from a) ≡ false
unfolding trail_from on_answer
never_trail_cut a = go (walk_check a)
  where
    go : (v : Check) → is_cut (if_passed (λ r. refused r []) v (from_mark (given_path a) (traversal a))) ≡ false
    go Passed = cut_from (given_path a) (traversal a) ∙ never_cut a
    go (Err r) = refl

-- ---- one walk

abbrev says_cut : Walked → Bool
says_cut (Complete n) = false
says_cut (Truncated n) = true
says_cut (Refused r n) = false

says-cut : (o : Outcome) → says_cut (walked_of o) ≡ is_cut o
unfolding walked_of
says-cut (on l) = refl
says-cut (cut l) = refl
says-cut (refused r l) = refl

walked_cut : (l : List Entry) → walked_of (cut l) ≡ Truncated (length l)
unfolding walked_of
walked_cut l = refl

module _ {file : List ℕ} (c : Call file) where
  abbrev a : Asked
  a = asked c

  abbrev room : ℕ
  room = length c.was.listing

  pub counted : listed_number c ≡ length (list_of (walk_of (asked c)))
  counted = ap number_listed c.promised.answers ∙ number_of (walk_of a)

  pub same_listed : list_of (walk_of (asked c)) ≡ listed c
  same_listed =
      lists_first a ∙ sym (take_own room (trail c)) ∙ ap (λ (n : ℕ). take n (trail c)) (sym (counted ∙ ap length (lists_first a)))

  abbrev places : List ℕ
  places = map place_of (list_of (walk_of a))

  written : c.now.listing ≡ places ++ drop (length places) c.was.listing
  unfolding listing_with
  written =
      let none : 0 + length places ≡ length places = omega arith in
      c.promised.lists ∙ over_eq c.was.listing 0 places (omega (arith, length-map (list_of (walk_of a)) place_of, fits_room a))
      ∙ ap (λ (n : ℕ). places ++ drop n c.was.listing) none

  many : length places ≡ listed_number c
  many = length-map (list_of (walk_of a)) place_of ∙ sym counted

  listed_places : listed_words c ≡ map place_of (listed c)
  listed_places =
      ap (take (listed_number c)) written ∙ take_at places (drop (length places) c.was.listing) (listed_number c) many ∙ ap (map place_of) same_listed

  untouched : drop (listed_number c) c.now.listing ≡ drop (listed_number c) c.was.listing
  untouched =
      ap (drop (listed_number c)) written ∙ drop_at places (drop (length places) c.was.listing) (listed_number c) many
      ∙ ap (λ (n : ℕ). drop n c.was.listing) many

  -- ---- its records

  pub listed_length : length (listed c) ≡ listed_number c
  listed_length = ap length (sym same_listed) ∙ sym counted

  records_put : c.now.records ≡ records_with (listed c) c.was.records
  records_put = c.promised.recorded ∙ ap (λ (l : List Entry). records_with l c.was.records) same_listed

  pub record-words : record_words c ≡ take (record_room c * words_each) (words_of (listed c))
  record-words =
      ap₂ (λ (n : ℕ) (w : List ℕ). take (min n (record_room c) * words_each) w) (sym listed_length) records_put
      ∙ records_first c.was.records (listed c)

  pub words_by_number : record_words c ≡ take (record_number c * words_each) (words_of (listed c))
  words_by_number =
      let all : List ℕ = take (record_room c * words_each) (words_of (listed c)) in
      let as_many : length all ≡ record_number c * words_each =
      omega (arith, length-take (record_room c * words_each) (words_of (listed c)), length_words (listed c), listed_length) in
      record-words ∙ sym (take_own (record_room c * words_each) (words_of (listed c))) ∙ ap (λ (n : ℕ). take n (words_of (listed c))) as_many

  behind : drop (record_number c * words_each) c.now.records ≡ drop (record_number c * words_each) c.was.records
  behind =
      ap₂ (λ (n : ℕ) (w : List ℕ). drop (min n (record_room c) * words_each) w) (sym listed_length) records_put
      ∙ records_behind c.was.records (listed c)
      ∙ ap (λ (n : ℕ). drop (min n (record_room c) * words_each) c.was.records) listed_length

  each : (i : ℕ) → i < record_number c → (e : Entry) × RecordOf c i e
  each i h =
      let at = in_at i (listed c) (omega (arith, listed_length)) in
      (at.0, record { before = at.1.0; after = at.1.1; lists = at.1.2; number = at.2; room = omega arith })

  at_number : (i : ℕ) (e : Entry) → RecordOf c i e → take words_each (drop (i * words_each) c.now.records) ≡ entry_words e
  at_number i e h =
      ap₂ (λ (n : ℕ) (w : List ℕ). take words_each (drop (n * words_each) w)) h.number
      (records_put ∙ ap (λ (l : List Entry). records_with l c.was.records) h.lists)
      ∙ record_at c.was.records h.before e h.after (let r = h.room in omega (arith, h.number))

  short_end : length (trail c) ≤ room → c.answer ≡ walked_of (trail_from a)
  short_end h = c.promised.answers ∙ ap walked_of (all_listed a h)

  cut_says : room < length (trail c) → c.answer ≡ Truncated (listed_number c)
  unfolding walk_of
  cut_says h =
      let long : walk_of a ≡ cut (take room (trail c)) = truncate_long room (trail_from a) h in
      c.promised.answers ∙ ap walked_of long ∙ walked_cut (take room (trail c))
      ∙ ap Truncated (sym (counted ∙ ap (λ (o : Outcome). length (list_of o)) long))

  says_long : c.answer ≡ Truncated (listed_number c) → room < length (trail c)
  says_long e = go (leb (length (trail c)) room) refl
    where
      go : (b : Bool) → leb (length (trail c)) room ≡ b → room < length (trail c)
      go true h =
          let whole : c.answer ≡ walked_of (trail_from a) = short_end (leb-true (length (trail c)) room h) in
          absurd (true≢false (sym (ap says_cut e) ∙ ap says_cut whole ∙ says-cut (trail_from a) ∙ never_trail_cut a))
      go false h = leb-false (length (trail c)) room h

  -- so one that is not cut has room for all, and gives the trail's end
  pub not_cut : ((n : ℕ) → c.answer ≡ Truncated n → ⊥)
      → (length (trail c) ≤ length c.was.listing) × (c.answer ≡ walked_of (trail_from (asked c)))
  not_cut f = go (leb (length (trail c)) room) refl
    where
      go : (b : Bool) → leb (length (trail c)) room ≡ b → (length (trail c) ≤ room) × (c.answer ≡ walked_of (trail_from a))
      go true e = let h = leb-true (length (trail c)) room e in (h, short_end h)
      go false e = absurd (f (listed_number c) (cut_says (leb-false (length (trail c)) room e)))

  -- ---- its table

  pub filled : walk_check (asked c) ≡ Passed → c.now.table ≡ table_with (reached (asked c)) (length c.was.table)
  unfolding table_after on_answer
  filled h = c.promised.fills ∙ rw h

  same_slots : length c.now.table ≡ length c.was.table
  unfolding table_after on_answer
  same_slots = ap length c.promised.fills ∙ go (walk_check a)
    where
      go : (v : Check) → length (if_passed (λ r. c.was.table) v (table_with (reached a) (length c.was.table))) ≡ length c.was.table
      go Passed = length_table (reached a) (length c.was.table)
      go (Err r) = refl

  -- ---- refused before the trail

  nothing_changed : (r : Refusal) → walk_check a ≡ Err r → Untouched c r
  nothing_changed r e =
      let left = refused_untouched file c.marks c.was r e in (
        c.promised.answers ∙ sym left.answers,
        c.promised.lists ∙ sym left.lists,
        c.promised.fills ∙ sym left.fills,
        c.promised.recorded ∙ sym left.recorded,
        c.promised.marked ∙ sym left.marked,
      )

  -- ---- the contexts reached

  those_reached : mark_passed a ≡ true → reached a ≡ up_to_mark (given_path a) (list_of (traversal a)) ++ listed c
  those_reached h =
      let p = passed_check a h in
      reached_passed a p.0 p.1 ∙ ap (λ (l : List Entry). up_to_mark (given_path a) (list_of (traversal a)) ++ l) same_listed

  none_reached : walk_check a ≡ Passed → mark_passed a ≡ false → reached a ≡ []
  none_reached e h = reached_unpassed a e (sym (mark-passed a e) ∙ h)

  of_one : OneWalk c
  of_one = record {
    smaller = counted ∙ ap length (lists_first a) ∙ length-take room (trail c) ∙ min_comm room (length (trail c));
    from_first = listed_places;
    beyond = untouched;
    says-cut = (says_long, cut_says);
    gives_end = short_end;
    slot = λ p e h. rw (filled p) (reached_slot a e h);
    no_slot = λ p i f. rw (filled p) (empty_slot (length c.was.table) (reached a) i f);
    slots = same_slots;
    up_to = those_reached;
    none = none_reached;
    each_record = each;
    record_is = at_number;
    beyond_records = behind;
    not_begun = nothing_changed;
  }

-- ---- two walks

begins_map : (f : Entry → ℕ) (x y : List Entry) → Begins x y → Begins (map f x) (map f y)
begins_map f x y h = (map f h.0, ap (map f) h.1 ∙ map-append f x h.0)

module _ {file : List ℕ} (old new : Call file) (alike : AskedAlike old new) (h : length old.was.listing ≤ length new.was.listing)
    (k : length old.was.table ≤ length new.was.table) where
  -- the new one's lengths with the old one's marks
  abbrev wider : Asked
  wider = ask file old.marks (asked new).lent

  same_asked : walk_of wider ≡ walk_of (asked new)
  unfolding walk_of
  same_asked = ap (truncate (asked new).lent.words)
      (trail_from_same file old.marks new.marks alike.same_mark alike.same_asks (asked new).lent (asked new).lent (λ e. refl) refl)

  begin : Begins (list_of (walk_of (asked old))) (list_of (walk_of (asked new)))
  begin = subst (λ (o : Outcome). Begins (list_of (walk_of (asked old))) (list_of o)) same_asked
      (entries_begin file old.marks (asked old).lent (asked new).lent alike.same_room h k)

  same : Final old.answer → walk_of (asked new) ≡ walk_of (asked old)
  same f = sym same_asked
      ∙ entries_same file old.marks (asked old).lent (asked new).lent alike.same_room h k (subst Final old.promised.answers f)

  places_of : (c : Call file) → listed_words c ≡ map place_of (list_of (walk_of (asked c)))
  places_of c = listed_places c ∙ ap (map place_of) (sym (same_listed c))

  words_begin : Begins (words_of (listed old)) (words_of (listed new))
  words_begin = rw (← same_listed old, ← same_listed new) (words_of begin.0, ap words_of begin.1 ∙ words_append (list_of (walk_of (asked old))) begin.0)

  of_two : TwoWalks old new
  of_two = record {
    begins = rw (places_of old, places_of new) (begins_map place_of (list_of (walk_of (asked old))) (list_of (walk_of (asked new))) begin);
    same_list = λ f. places_of new ∙ ap (λ (o : Outcome). map place_of (list_of o)) (same f) ∙ sym (places_of old);
    same_end = λ f. new.promised.answers ∙ ap walked_of (same f) ∙ sym old.promised.answers;
    records_begin = λ r. rw (record-words old, record-words new)
        (begins_taken (record_room old * words_each) (record_room new * words_each) (words_of (listed old)) (words_of (listed new)) words_begin (omega arith));
    same_records = λ f e.
        words_by_number new
        ∙ ap₂ (λ (n : ℕ) (l : List Entry). take (n * words_each) (words_of l)) (sym e) (sym (same_listed new) ∙ ap list_of (same f) ∙ same_listed old)
        ∙ sym (words_by_number old);
    records_agree = rw (record-words old, record-words new)
        (both_begin (take (record_room old * words_each) (words_of (listed old))) (take (record_room new * words_each) (words_of (listed new))) (words_of (listed new))
        (begins_trans (take (record_room old * words_each) (words_of (listed old))) (words_of (listed old)) (words_of (listed new))
        (begins_take (record_room old * words_each) (words_of (listed old))) words_begin)
        (begins_take (record_room new * words_each) (words_of (listed new))));
  }

one_trail_of : {file : List ℕ} (c d : Call file) → AskedAlike c d → length c.was.table ≡ length d.was.table
    → trail_from (asked c) ≡ trail_from (asked d)
one_trail_of {file = file} c d alike e =
    trail_from_same file c.marks d.marks alike.same_mark alike.same_asks (asked c).lent (asked d).lent alike.same_room e

pub demand3 : Demand3
demand3 = record {
  one_trail = λ file c d alike e. one_trail_of c d alike e;
  one = λ file c. of_one c;
  two = λ file old new alike h k. of_two old new alike h k;
}

-- ---- answers put otherwise, as in words

pub said_as : {A : Type 0} {say : Walked → A} {file : List ℕ} {m : Marks} {was now : Slices} {w : Walked} {answer : A}
    → LeavesFrom itself file m was w now → answer ≡ say w → LeavesFrom say file m was answer now
said_as {say = say} l e = record { answers = e ∙ ap say l.answers; lists = l.lists; fills = l.fills; recorded = l.recorded; marked = l.marked }
