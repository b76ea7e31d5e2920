-- A file with two roots, the first with the flags and flex words given, the second with none, and with one module, file and function.
use Rattle.std.specs.Prelude.{ℕ, ◌+◌, ◌-◌, ◌*◌, List, [], ◌∷◌, ◌++◌, map, length}
use Rattle.layout.specs.Bytes.{ascii, bytes, ◌is◌, fields, join}
use Rattle.cases.specs.W.{entry, context_with, context, padding, magic, common, built}

-- an array of one element right behind its header, in a section of their own
abbrev one : (place stride : ℕ) → List ℕ
one place stride = fields (8 is place ∷ 4 is 1 ∷ 2 is stride ∷ []) ++ padding (2 + stride)

abbrev pub a_module : ℕ
a_module = 320

abbrev pub a_file : ℕ
a_file = 352

abbrev pub a_function : ℕ
a_function = 384

-- for at most five flex words
unfoldable pub flex_parts : (flags : ℕ) (flex : List ℕ) → List (ℕ × List ℕ)
unfolding fields bytes magic common join
flex_parts flags flex =
    ((0, magic)
    ∷ (16, entry 18 144)
    ∷ (32, entry 9 168)
    ∷ (48, entry 15 184)
    ∷ (64, entry 104 200)
    ∷ (80, entry 0 0)
    ∷ (96, entry 32 304)
    ∷ (112, entry 32 336)
    ∷ (128, entry 56 368)
    ∷ []) ++ common
    ++ ((200, entry (48 + 8 * length flex) 216)
    ∷ (216, context_with flags (length flex) 0 0 1 0 1)
    ∷ (240, fields (map (λ x. 8 is x) flex))
    ∷ (240 + 8 * length flex, context 0 0 2 0 1)
    ∷ (264 + 8 * length flex, padding (40 - 8 * length flex))
    ∷ (304, one a_module 16)
    ∷ (336, one a_file 16)
    ∷ (368, one a_function 40)
    ∷ (424, ascii "_meta.db")
    ∷ [])

unfoldable pub flex_file : (flags : ℕ) (flex : List ℕ) → List ℕ
unfolding flex_parts built
flex_file flags flex = built (flex_parts flags flex)
