-- The cases that document 01 marks P, in one list, computed through the definitions that the promises cite.
use Rattle.refusal.specs.Check.{on_answer}
use Prim.Native.Nat.{ℕ}
use mathlib.Core.List.{List, [], ◌∷◌}
use mathlib.Core.Path.{◌≡◌, refl}
use Rattle.array.specs.Element.{element_at}
use Rattle.seq.specs.Sequence.{every, floor, rises, position}
use Rattle.outside.specs.Outside.{apart, apart_all, lies}
use Rattle.block.specs.Block.{block_at, id_at, word_at, range_rule, start_of, end_of, part_of, part_at, order_rule, block_check, value_at, in_part, index_of, lookup_in, lookup_words, found_words}
use Rattle.lookup.specs.Lookup.{checked_block, checked_at, profile_block, profile_lookup}
use Rattle.cases.specs.Walks.{walked}
use Rattle.cases.specs.W.{parts, w, built}
use Rattle.cases.specs.B.{three, five, b}
use Rattle.cases.specs.FlexFile.{flex_file, a_module, a_file, a_function}

-- a lookup's answer in words: 0 found, 100 absent, or the refusal's number; then the bits
abbrev looked : (file : List ℕ) (context metric : ℕ) → List ℕ
looked file context metric = lookup_words (profile_lookup file 0 context metric)

pub cases : ◌≡◌ {A = List (List ℕ)}
    (walked w 4 5
    ∷ walked w 3 5
    ∷ walked w 0 5
    ∷ walked w 3 4
    ∷ walked w 2 4
    -- C's id 1
    ∷ walked (built (parts 1)) 4 5
    -- flags 3 with 2 words; flags 6 with 4
    ∷ walked (flex_file 3 (a_function ∷ a_file ∷ [])) 4 5
    ∷ walked (flex_file 6 (a_file ∷ 7 ∷ a_module ∷ 5 ∷ [])) 4 5
    -- B
    ∷ looked (b 0 2) 5 4
    ∷ looked (b 0 2) 9 1
    ∷ looked (b 0 2) 9 4
    ∷ looked (b 0 2) 7 1
    -- starts 0, 0 and 1, 2
    ∷ looked (b 0 0) 5 4
    ∷ looked (b 1 2) 5 4
    ∷ [])
    ((0 ∷ 4 ∷ [])
    ∷ (101 ∷ 3 ∷ [])
    ∷ (101 ∷ 0 ∷ [])
    ∷ (13 ∷ 3 ∷ [])
    ∷ (101 ∷ 2 ∷ [])
    ∷ (14 ∷ 1 ∷ [])
    ∷ (10 ∷ 0 ∷ [])
    ∷ (0 ∷ 2 ∷ [])
    ∷ (0 ∷ three ∷ [])
    ∷ (0 ∷ five ∷ [])
    ∷ (100 ∷ 0 ∷ [])
    ∷ (100 ∷ 0 ∷ [])
    ∷ (11 ∷ [])
    ∷ (11 ∷ [])
    ∷ [])
unfolding w walked flex_file b element_at on_answer every floor rises position block_at id_at word_at apart apart_all lies range_rule start_of end_of part_of part_at order_rule block_check value_at in_part index_of lookup_in lookup_words found_words checked_block checked_at profile_block profile_lookup
cases = refl
