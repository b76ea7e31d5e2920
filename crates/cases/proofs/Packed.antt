-- Request 2026-04, computed through the definitions that the promises cite: the records of two roots, the first with these flags and flex
-- words, the second with none.
use mathlib.Core.List.{[], ◌∷◌}
use mathlib.Core.Path.{◌≡◌, refl}
use Rattle.cases.specs.Walks.{walked_records}
use Rattle.cases.specs.FlexFile.{flex_file, a_module, a_file, a_function}

-- place, depth, ctxId, relation, lexicalType, flags mod 8; function, file, line, module, offset; parent
pub cases_packed :
    -- 14 is row 6
    (walked_records (flex_file 14 (a_file ∷ 7 ∷ a_module ∷ 5 ∷ [])) [] 2 3 24
    ≡ (0 ∷ 2 ∷ [])
    ∷ (216 ∷ 1 ∷ 1 ∷ 1 ∷ 0 ∷ 6 ∷ 0 ∷ a_file ∷ 7 ∷ a_module ∷ 5 ∷ 0 ∷ 272 ∷ 1 ∷ 2 ∷ 1 ∷ 0 ∷ 0 ∷ 0 ∷ 0 ∷ 0 ∷ 0 ∷ 0 ∷ 0 ∷ [])
    ∷ [])
    -- 255 is row 7
    × (walked_records (flex_file 255 (a_function ∷ a_file ∷ 7 ∷ a_module ∷ 5 ∷ [])) [] 2 3 24
    ≡ (0 ∷ 2 ∷ [])
    ∷ (216 ∷ 1 ∷ 1 ∷ 1 ∷ 0 ∷ 7 ∷ a_function ∷ a_file ∷ 7 ∷ a_module ∷ 5 ∷ 0 ∷ 280 ∷ 1 ∷ 2 ∷ 1 ∷ 0 ∷ 0 ∷ 0 ∷ 0 ∷ 0 ∷ 0 ∷ 0 ∷ 0 ∷ [])
    ∷ [])
    -- 6 with 5 words: the next sibling is 64 bytes on
    × (walked_records (flex_file 6 (a_file ∷ 7 ∷ a_module ∷ 5 ∷ 9 ∷ [])) [] 2 3 24
    ≡ (0 ∷ 2 ∷ [])
    ∷ (216 ∷ 1 ∷ 1 ∷ 1 ∷ 0 ∷ 6 ∷ 0 ∷ a_file ∷ 7 ∷ a_module ∷ 5 ∷ 0 ∷ 280 ∷ 1 ∷ 2 ∷ 1 ∷ 0 ∷ 0 ∷ 0 ∷ 0 ∷ 0 ∷ 0 ∷ 0 ∷ 0 ∷ [])
    ∷ [])
unfolding walked_records flex_file
cases_packed = (refl, refl, refl)
