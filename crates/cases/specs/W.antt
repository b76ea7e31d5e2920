-- File W of document 01, as parts that stand one after the other. Each part is written beside its place; `placed` computes the
-- places from the parts' lengths.
use Rattle.std.specs.Prelude.{ℕ, ◌+◌, List, [], ◌∷◌, ◌++◌, map, length, replicate}
use Rattle.layout.specs.Bytes.{ascii, bytes, ◌is◌, fields, join}

-- size and pointer of a section
abbrev pub entry : (size place : ℕ) → List ℕ
entry size place = fields (8 is size ∷ 8 is place ∷ [])

-- a context up to its flex words
abbrev pub context_with : (flags n_flex_words sz_children p_children ctx_id lexical_type relation : ℕ) → List ℕ
context_with flags words size place id type relation =
    fields (8 is size ∷ 8 is place ∷ 4 is id ∷ 1 is flags ∷ 1 is relation ∷ 1 is type ∷ 1 is words ∷ [])

-- with flags 0 and no flex words
abbrev pub context : (sz_children p_children ctx_id lexical_type relation : ℕ) → List ℕ
context = context_with 0 0

-- the header of an array without elements: place, count, stride
abbrev pub empty : (least : ℕ) → List ℕ
empty least = fields (8 is 0 ∷ 4 is 0 ∷ 2 is least ∷ [])

abbrev pub padding : ℕ → List ℕ
padding n = replicate n 0

unfoldable pub magic : List ℕ
unfolding fields bytes
magic = ascii "HPCTOOLKITmeta" ++ fields (1 is 4 ∷ 1 is 0 ∷ [])

-- General, IdNames and Metrics
unfoldable pub common : List (ℕ × List ℕ)
unfolding fields bytes
common =
    -- General: the title and the description, then the bytes of both
    (144, fields (8 is 160 ∷ 8 is 161 ∷ []))
    ∷ (160, ascii "T")
    ∷ (161, 0 ∷ [])
    ∷ (162, padding 6)
    -- IdNames: no names
    ∷ (168, fields (8 is 0 ∷ 1 is 0 ∷ []))
    ∷ (177, padding 7)
    -- Metrics: none, and the least strides
    ∷ (184, fields (8 is 0 ∷ 4 is 0 ∷ 1 is 24 ∷ 1 is 24 ∷ 1 is 16 ∷ []))
    ∷ (199, padding 1)
    ∷ []

-- W, with the id of context C
unfoldable pub parts : (id_c : ℕ) → List (ℕ × List ℕ)
unfolding fields bytes magic common
parts id_c =
    ((0, magic)
    ∷ (16, entry 18 144)
    ∷ (32, entry 9 168)
    ∷ (48, entry 15 184)
    ∷ (64, entry 112 200)
    ∷ (80, entry 0 0)
    ∷ (96, entry 14 312)
    ∷ (112, entry 14 328)
    ∷ (128, entry 14 344)
    ∷ []) ++ common
    ++ (
    -- Context: size and place of the roots; then A, B, and A's children C, D
    (200, entry 48 216)
    ∷ (216, context 48 264 1 0 1)
    ∷ (240, context 0 0 4 0 1)
    ∷ (264, context 0 0 id_c 1 0)
    ∷ (288, context 0 0 3 2 0)
    -- Modules, Files, Functions
    ∷ (312, empty 16)
    ∷ (326, padding 2)
    ∷ (328, empty 16)
    ∷ (342, padding 2)
    ∷ (344, empty 40)
    ∷ (358, ascii "_meta.db")
    ∷ [])

-- the bytes of some parts
unfoldable pub built : List (ℕ × List ℕ) → List ℕ
unfolding join
built ps = join (map (λ p. p.1) ps)

unfoldable pub w : List ℕ
unfolding parts built
w = built (parts 2)

-- where each part starts, by the lengths of those before it
abbrev pub places_from : ℕ → List (ℕ × List ℕ) → List ℕ
places_from at [] = []
places_from at (p ∷ rest) = at ∷ places_from (at + length p.1) rest
