-- Lent lists, written and read back by computation: the answers with room, without, and with lists that break each rule; two bytes past the
-- file, which stay; and the values and identifications that the readers find in what was written.
use Rattle.std.specs.Prelude.{Err, Ok, Option}
use Prim.Native.Nat.{ℕ}
use mathlib.Core.List.{List, [], ◌∷◌, ◌++◌}
use mathlib.Core.Path.{◌≡◌, refl}
use lib.ListN.{take, drop, replicate}
use Rattle.le.specs.Number.{number}
use Rattle.layout.specs.Bytes.{bytes, ◌is◌, fields, join}
use Rattle.layout.specs.Many.{many, to_four, zeros}
use Rattle.layout.specs.Stands.{starts, stands}
use Rattle.refusal.specs.declared.Refusal.TheVariants as No
use Rattle.refusal.specs.Check.{either, rule, Answer, on_answer, Absent, Found}
use Rattle.buffer.specs.Over.{over}
use Rattle.open.specs.Opening.{place_for, pair_at, pairs_from, pairs, section_rule, stride_rule, array_rule, field, number_at, stride_rules, content_rule, header_rule, front_rules, in_order, section_check, header_check, opening_with, opening, on_opened}
use Rattle.array.specs.Element.{element_at}
use Rattle.array.specs.Stored.{array_of}
use Rattle.outside.specs.Outside.{apart, apart_all, lies}
use Rattle.seq.specs.Sequence.{every, floor, rises, position, sum}
use Rattle.block.specs.Block.{block_at, id_at, word_at, range_rule, start_of, end_of, part_of, part_at, order_rule, block_check, value_at, in_part, index_of, lookup_in}
use Rattle.lookup.specs.Lookup.{checked_block, checked_at, profile_block, profile_lookup}
use Rattle.tuple.specs.Tuple.{identifiers, tuple_rule, tuple_of, tuple_in, tuple_at, identifier_of, identifier_in, identifier_at, given_identifier}
use Rattle.block_file.specs.Pairs.{leads, groups, value_element, index_element, written, indices_from, block_of, header_bytes}
use Rattle.profile_file.specs.Survey.{count_below, run_start, run_length}
use Rattle.profile_file.specs.File.{identification_bytes, tuple_bytes, block_bytes, tuples_from, tuples_size, tuple_from, block_from, block_header, info_bytes, file_header, infos_header, profile_file}
use Rattle.profile_file.specs.Check.{entries_listed, profiles_listed, before_rule, sorted_rule, sizes_fit, contexts_fit, counts_rule, sizes_check, write_check}
use Rattle.profile_lists.specs.Lists.{all_there, lists_check}
use Rattle.profile_writer.specs.Write.{write_answer, write_file}

-- an entry, its ignored bytes not 0; and an identification
abbrev entry : (profile context metric bits : ℕ) → List ℕ
entry profile context metric bits = fields (4 is profile ∷ 4 is context ∷ 2 is metric ∷ 6 is 0xffffffffffff ∷ 8 is bits ∷ [])

abbrev only : List ℕ
only = fields (1 is 7 ∷ 1 is 255 ∷ 2 is 65535 ∷ 4 is 3 ∷ 8 is 9 ∷ [])

-- two profiles that share tuple 1; tuple 0 has no identification, and no profile; the second profile has no entry; a value is zero; the last
-- piece is no entry
abbrev profiles : List ℕ
profiles = 1 ∷ 1 ∷ []

abbrev tuples : List ℕ
tuples = 0 ∷ 1 ∷ []

abbrev entries : List ℕ
entries = entry 0 5 1 0x4000000000000000 ++ (entry 0 5 4 0x4008000000000000 ++ (entry 0 9 1 0x4014000000000000 ++ (entry 0 9 2 0 ++ (1 ∷ 2 ∷ 3 ∷ []))))

pub answers : write_answer profiles tuples only entries 248
    ∷ write_answer profiles tuples only entries 247
    ∷ write_answer profiles tuples [] entries 0
    ∷ write_answer (1 ∷ 2 ∷ []) tuples only entries 248
    ∷ write_answer profiles tuples only (entry 0 5 1 0 ++ entry 0 5 1 1) 0
    ∷ write_answer profiles tuples only (entry 0 5 1 0 ++ (entry 0 5 1 1 ++ entry 2 0 0 0)) 0
    ∷ write_answer [] [] [] [] 72
    ∷ []
    ≡ Ok 248
    ∷ Err No.Room
    ∷ Err No.Index
    ∷ Err No.Index
    ∷ Err No.Order
    ∷ Err No.Index
    ∷ Ok 72
    ∷ []
unfolding profile_file file_header infos_header tuples_from tuples_size tuple_from block_from block_header info_bytes identification_bytes tuple_bytes block_bytes run_length run_start count_below many fields bytes join written value_element index_element zeros to_four leads groups either header_bytes block_of indices_from place_for number starts stands rule on_answer pair_at pairs_from pairs section_rule stride_rule array_rule field number_at stride_rules content_rule header_rule front_rules in_order section_check header_check opening_with opening on_opened element_at array_of apart apart_all lies every floor rises position block_at id_at word_at range_rule start_of end_of part_of part_at order_rule block_check value_at in_part index_of lookup_in checked_block checked_at profile_block profile_lookup identifiers tuple_rule tuple_of tuple_in tuple_at identifier_of identifier_in identifier_at entries_listed profiles_listed before_rule sorted_rule sizes_fit contexts_fit counts_rule sizes_check write_check all_there lists_check write_answer write_file sum over
answers = refl

-- over 250 bytes of 255
abbrev after : List ℕ
after = write_file profiles tuples only entries (replicate 250 255)

pub rest : drop 248 after ≡ 255 ∷ 255 ∷ []
unfolding profile_file file_header infos_header tuples_from tuples_size tuple_from block_from block_header info_bytes identification_bytes tuple_bytes block_bytes run_length run_start count_below many fields bytes join written value_element index_element zeros to_four leads groups either header_bytes block_of indices_from place_for number starts stands rule on_answer pair_at pairs_from pairs section_rule stride_rule array_rule field number_at stride_rules content_rule header_rule front_rules in_order section_check header_check opening_with opening on_opened element_at array_of apart apart_all lies every floor rises position block_at id_at word_at range_rule start_of end_of part_of part_at order_rule block_check value_at in_part index_of lookup_in checked_block checked_at profile_block profile_lookup identifiers tuple_rule tuple_of tuple_in tuple_at identifier_of identifier_in identifier_at entries_listed profiles_listed before_rule sorted_rule sizes_fit contexts_fit counts_rule sizes_check write_check all_there lists_check write_answer write_file sum over
rest = refl

abbrev found : (profile context metric : ℕ) → Answer (Option ℕ)
found profile context metric = profile_lookup (take 248 after) profile context metric

pub lookups : found 0 5 4 ∷ found 0 9 2 ∷ found 0 9 4 ∷ found 1 5 1 ∷ found 2 5 1 ∷ []
    ≡ Found 0x4008000000000000 ∷ Found 0 ∷ Absent ∷ Absent ∷ Err No.Index ∷ []
unfolding profile_file file_header infos_header tuples_from tuples_size tuple_from block_from block_header info_bytes identification_bytes tuple_bytes block_bytes run_length run_start count_below many fields bytes join written value_element index_element zeros to_four leads groups either header_bytes block_of indices_from place_for number starts stands rule on_answer pair_at pairs_from pairs section_rule stride_rule array_rule field number_at stride_rules content_rule header_rule front_rules in_order section_check header_check opening_with opening on_opened element_at array_of apart apart_all lies every floor rises position block_at id_at word_at range_rule start_of end_of part_of part_at order_rule block_check value_at in_part index_of lookup_in checked_block checked_at profile_block profile_lookup identifiers tuple_rule tuple_of tuple_in tuple_at identifier_of identifier_in identifier_at entries_listed profiles_listed before_rule sorted_rule sizes_fit contexts_fit counts_rule sizes_check write_check all_there lists_check write_answer write_file sum over
lookups = refl

pub shared_tuple : identifier_at (take 248 after) 1 0 ≡ given_identifier 7 65535 3 9
unfolding profile_file file_header infos_header tuples_from tuples_size tuple_from block_from block_header info_bytes identification_bytes tuple_bytes block_bytes run_length run_start count_below many fields bytes join written value_element index_element zeros to_four leads groups either header_bytes block_of indices_from place_for number starts stands rule on_answer pair_at pairs_from pairs section_rule stride_rule array_rule field number_at stride_rules content_rule header_rule front_rules in_order section_check header_check opening_with opening on_opened element_at array_of apart apart_all lies every floor rises position block_at id_at word_at range_rule start_of end_of part_of part_at order_rule block_check value_at in_part index_of lookup_in checked_block checked_at profile_block profile_lookup identifiers tuple_rule tuple_of tuple_in tuple_at identifier_of identifier_in identifier_at entries_listed profiles_listed before_rule sorted_rule sizes_fit contexts_fit counts_rule sizes_check write_check all_there lists_check write_answer write_file sum over
shared_tuple = refl
