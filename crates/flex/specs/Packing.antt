-- The packing rule of a context's flex words: which fields its flags bring, and where each stands.
use Rattle.std.specs.Prelude.{ℕ, suc, ◌*◌, ◌/◌, ◌%◌, ◌^◌, Bool, true, false, List, [], ◌∷◌, map, eqb, get_or, take}

-- "Bit 0 brings the function, bit 1 file and line, bit 2 module and offset": the bit that brings each field, in packing order
-- (`Names.antt`)
abbrev pub packing : List ℕ
packing = 0 ∷ 1 ∷ 1 ∷ 2 ∷ 2 ∷ []

-- whether a bit is set
unfoldable pub bit : (flags b : ℕ) → Bool
bit flags b = eqb (flags / 2 ^ b % 2) 1

-- whether each field is present
unfoldable pub presence : (flags : ℕ) → List Bool
presence flags = map (bit flags) packing

-- whether field j is; there is none behind the last
unfoldable pub is_present : (flags j : ℕ) → Bool
is_present flags j = get_or (presence flags) j false

-- how many of some fields are present
unfoldable pub how_many : List Bool → ℕ
how_many [] = 0
how_many (true ∷ rest) = suc (how_many rest)
how_many (false ∷ rest) = how_many rest

-- "the number of present fields before it"
unfoldable pub before : (flags j : ℕ) → ℕ
before flags j = how_many (take j (presence flags))

-- "a present field's place is 8 times" that: in bytes, from the start of flex
unfoldable pub place : (flags j : ℕ) → ℕ
place flags j = 8 * before flags j

-- "the words needed are the number present"
unfoldable pub words : (flags : ℕ) → ℕ
words flags = how_many (presence flags)
