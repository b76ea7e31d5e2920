-- Document 01's table of byte places in flex, and what the packing rule says in its form.
use Rattle.std.specs.Prelude.{ℕ, ◌%◌, Bool, true, false, List, [], ◌∷◌, map, get_or}
use Rattle.flex.specs.Names as Flex
use Rattle.flex.specs.Packing.{is_present, place, words}

-- a field's place; or blank, where it is not present
abbrev pub FlexCell : Type 0
FlexCell = List ℕ

abbrev pub blank_cell : FlexCell
blank_cell = []

abbrev at : ℕ → FlexCell
at n = n ∷ []

-- the cells of function, file, line, module and offset; the words
abbrev pub FlexRow : Type 0
FlexRow = List FlexCell × ℕ

abbrev pub flex_table : List FlexRow
flex_table =
    (blank_cell ∷ blank_cell ∷ blank_cell ∷ blank_cell ∷ blank_cell ∷ [], 0)
    ∷ (at 0 ∷ blank_cell ∷ blank_cell ∷ blank_cell ∷ blank_cell ∷ [], 1)
    ∷ (blank_cell ∷ at 0 ∷ at 8 ∷ blank_cell ∷ blank_cell ∷ [], 2)
    ∷ (at 0 ∷ at 8 ∷ at 16 ∷ blank_cell ∷ blank_cell ∷ [], 3)
    ∷ (blank_cell ∷ blank_cell ∷ blank_cell ∷ at 0 ∷ at 8 ∷ [], 2)
    ∷ (at 0 ∷ blank_cell ∷ blank_cell ∷ at 8 ∷ at 16 ∷ [], 3)
    ∷ (blank_cell ∷ at 0 ∷ at 8 ∷ at 16 ∷ at 24 ∷ [], 4)
    ∷ (at 0 ∷ at 8 ∷ at 16 ∷ at 24 ∷ at 32 ∷ [], 5)
    ∷ []

-- the row headed by flags mod 8
unfoldable pub table_row : (flags : ℕ) → FlexRow
table_row flags = get_or flex_table (flags % 8) ([], 0)

-- by the packing rule
unfoldable pub cell_of : (present : Bool) → (place : ℕ) → FlexCell
cell_of true n = at n
cell_of false n = blank_cell

unfoldable pub rule_row : (flags : ℕ) → FlexRow
rule_row flags = (
  map (λ j. cell_of (is_present flags j) (place flags j)) (Flex.function ∷ Flex.file ∷ Flex.line ∷ Flex.load_module ∷ Flex.offset ∷ []),
  words flags,
)
