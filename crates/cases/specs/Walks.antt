-- What a walk says and leaves, in words. To unfold one of these is to unfold all that computes it: each case names it alone, with its file.
use Rattle.std.specs.Prelude.{ℕ, Bool, false, List, [], ◌∷◌, replicate}
use Rattle.le.specs.Number.{number}
use Rattle.refusal.specs.Check.{either, rule, on_answer}
use Rattle.buffer.specs.Over.{over}
use Rattle.layout.specs.Bytes.{bytes, fields}
use Rattle.layout.specs.Stands.{starts, stands}
use Rattle.open.specs.Opening.{place_for, pair_at, pairs_from, pairs, section_rule, stride_rule, array_rule, contexts_rule, field, number_at, stride_rules, content_rule, header_rule, front_rules, in_order, section_check, header_check, opening_with, opening, on_opened}
use Rattle.array.specs.Element.{linked_below, linked}
use Rattle.array.specs.Stored.{array_of}
use Rattle.flex.specs.Packing.{bit, presence, is_present, how_many, before, place, words}
use Rattle.context.specs.Context.{extent, flex_at, context_rule, link_rule, links_rule, children_rule, targets_of}
use Rattle.context.specs.Entry.{entry_at, entry_words}
use Rattle.mark.specs.Mark.{number_fields, encode, well_formed, numbers_at, decode, is_named, path_in}
use Rattle.traversal.specs.Traversal.{Asked, ask, list_of, seen, slot_check, visit_check, enter, visit, bind, turn, siblings, level, from_roots, traversal}
use Rattle.traversal.specs.From.{same_path, path_index, skipped, is_passed, after_mark, up_to_mark, from_mark, last_path}
use Rattle.traversal.specs.Walk.{truncate, walk_check, trail_from, walk_of, mark_passed, new_path, reached, walked_of, walked_words, listing_with, slots_with, table_with, words_of, records_with, table_after, mark_after, marks_with, unmarked}

-- the answer: 0 whole, 101 cut, or the refusal's number; then the number listed
unfoldable pub answer_to : Asked → List ℕ
unfolding number bytes fields starts stands rule on_answer either place_for pair_at pairs_from pairs section_rule stride_rule array_rule contexts_rule field number_at stride_rules content_rule header_rule front_rules in_order section_check header_check opening_with opening on_opened linked_below linked array_of bit presence is_present how_many before place words extent flex_at context_rule link_rule links_rule children_rule targets_of entry_at seen slot_check visit_check enter visit bind turn siblings level from_roots traversal well_formed numbers_at decode is_named path_in same_path path_index skipped is_passed after_mark from_mark walk_check trail_from truncate walk_of walked_of walked_words
answer_to a = walked_words (walked_of (walk_of a))

-- without a mark, by the lengths of the listing and the table
unfoldable pub walked : (file : List ℕ) (listing table : ℕ) → List ℕ
unfolding answer_to
walked file listing table = answer_to (ask file unmarked (record { words = listing; slots = table; bytes = 0 }))

-- from a mark, with the records of what is listed: words of which each was 9
unfoldable pub walked_records : (file given : List ℕ) (listing table records : ℕ) → List (List ℕ)
unfolding answer_to over entry_words words_of records_with
walked_records file given listing table records =
    let a = ask file (marks_with given false) (record { words = listing; slots = table; bytes = 0 }) in
    answer_to a
    ∷ records_with (list_of (walk_of a)) (replicate records 9)
    ∷ []

-- from a mark: the answer; the listing, of which each word was 8; the table, of which each was 7; the bytes for the new mark, each of
-- which was 9
unfoldable pub walked_from : (file given : List ℕ) (asks : Bool) (listing table room : ℕ) → List (List ℕ)
unfolding answer_to number_fields encode over up_to_mark last_path mark_passed new_path reached listing_with slots_with table_with table_after mark_after
walked_from file given asks listing table room =
    let a = ask file (marks_with given asks) (record { words = listing; slots = table; bytes = room }) in
    answer_to a
    ∷ listing_with (list_of (walk_of a)) (replicate listing 8)
    ∷ table_after a (replicate table 7)
    ∷ mark_after a (replicate room 9)
    ∷ []
