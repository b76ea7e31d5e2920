-- A hot path, in words: what is answered, and the path slice afterwards. To unfold it is to unfold all that computes it.
use Rattle.std.specs.Prelude.{ℕ, List, [], ◌∷◌, ◌++◌, replicate}
use Rattle.std.specs.Float.Ieee.{add, lt, of_bits, to_bits}
use Rattle.refusal.specs.Check.{either, on_answer}
use Rattle.layout.specs.Bytes.{ascii, bytes, ◌is◌, fields}
use Rattle.buffer.specs.Over.{over}
use Rattle.outside.specs.Outside.{apart, apart_all, lies}
use Rattle.seq.specs.Sequence.{every, floor, rises, position}
use Rattle.float.specs.Float.{finite, less}
use Rattle.total.specs.Totals.{start_of, step_of, tally_to, finish, totals_of}
use Rattle.array.specs.Element.{element_at}
use Rattle.block.specs.Block as Block
use Rattle.block.specs.Block.{block_at, id_at, word_at, range_rule, end_of, part_of, part_at, order_rule, block_check, value_at, in_part, index_of, lookup_in}
use Rattle.lookup.specs.Lookup.{checked_block, checked_at, profile_block, profile_lookup}
use Rattle.traversal.specs.Children.{children_of}
use Rattle.hot_path.specs.HotPath.{candidate, candidates, hottest_in, hottest_of, with_place, follow, descent_from, on_whole, question, path_slices, hot_descent, hot_answer, path_after, hot_path_of, hot_path_words}
use Rattle.cases.specs.W.{w, entry, padding, built}
use Rattle.cases.specs.Walks.{answer_to}

-- a profile.db of one profile with three values of metric 7, whose contexts rise
unfoldable pub values_file : (c x d y e z : ℕ) → List ℕ
unfolding fields bytes built
values_file c x d y e z =
    built ((0, ascii "HPCTOOLKITprof" ++ fields (1 is 4 ∷ 1 is 0 ∷ []))
    ∷ (16, entry 56 48)
    ∷ (32, entry 0 0)
    ∷ (48, fields (8 is 64 ∷ 4 is 1 ∷ 1 is 40 ∷ []))
    ∷ (61, padding 3)
    ∷ (64, fields (8 is 3 ∷ 8 is 104 ∷ 4 is 3 ∷ 4 is 0 ∷ 8 is 136 ∷ 8 is 0 ∷ []))
    ∷ (104, fields (2 is 7 ∷ 8 is x ∷ 2 is 7 ∷ 8 is y ∷ 2 is 7 ∷ 8 is z ∷ []))
    ∷ (134, padding 2)
    ∷ (136, fields (4 is c ∷ 8 is 0 ∷ 4 is d ∷ 8 is 1 ∷ 4 is e ∷ 8 is 2 ∷ []))
    ∷ (172, ascii "_prof.db")
    ∷ [])

-- of W, in profile 0: with so many words of the listing, a table of five, and so many words of the path, of which each was 9
unfoldable pub hot_in_w : (db : List ℕ) (metric words room : ℕ) → List (List ℕ)
unfolding answer_to w over apart apart_all lies every floor rises position add lt of_bits to_bits finite less start_of step_of tally_to finish totals_of either element_at on_answer block_at id_at word_at range_rule Block.start_of end_of part_of part_at order_rule block_check value_at in_part index_of lookup_in checked_block checked_at profile_block profile_lookup children_of candidate candidates hottest_in hottest_of with_place follow descent_from on_whole hot_descent hot_answer path_after
hot_in_w db metric words room =
    let q = question w db 0 metric in
    let s = path_slices (replicate words 9) (replicate 5 9) (replicate room 9) in
    hot_path_words (hot_path_of q s)
    ∷ path_after s.path (hot_descent q s)
    ∷ []
