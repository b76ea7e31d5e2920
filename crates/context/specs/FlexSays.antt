-- A context by document 01's table of byte places in flex: which fields it has, what they hold, and when it keeps rule 10.
use Rattle.std.specs.Prelude.{ℕ, ◌+◌, ◌*◌, ◌≤◌, true, false, List, [], ◌∷◌, ◌↔◌, ◌≡◌, get_or}
use Rattle.le.specs.Number.{number}
use Rattle.open.specs.Opening.{field}
use Rattle.flex.specs.Packing.{is_present}
use Rattle.flex.specs.Table.{FlexCell, FlexRow, blank_cell, table_row}
use Rattle.context.specs.Context.{flags, flex_words, extent, widths, flex_at, context_rule}
use Rattle.context.specs.Entry.{entry_at}

-- what stands at a cell's place in the flex words from `start` on; 0 where it is blank
abbrev pub held_at : FlexCell → (width : ℕ) → List ℕ → (start : ℕ) → ℕ
held_at [] width file start = 0
held_at (place ∷ rest) width file start = number width file (start + place)

-- the row headed by its flags mod 8, and the cell of field j there
abbrev row_at : List ℕ → (p : ℕ) → FlexRow
row_at file p = table_row (field file p flags)

abbrev cell_at : List ℕ → (p j : ℕ) → FlexCell
cell_at file p j = get_or (row_at file p).0 j blank_cell

pub record FlexSays (file : List ℕ) (p : ℕ) : Type 0 where
  -- "Byte places in flex": a field is absent exactly if its cell is blank; otherwise it is what stands at the place there
  pub absent : (j : ℕ) → (is_present (field file p flags) j ≡ false) ↔ (cell_at file p j ≡ blank_cell)
  pub holds : (j : ℕ) → flex_at file p j ≡ held_at (cell_at file p j) (get_or widths j 0) file (p + 24)
  -- the flags that are handed out tell which fields are present
  pub tells : (parent : ℕ) (path : List ℕ) (j : ℕ) → is_present (entry_at file parent path p).flags j ≡ is_present (field file p flags) j
  -- "A context takes 24 + 8 × nFlexWords bytes"
  pub takes : extent file p ≡ 24 + 8 * field file p flex_words
  -- 10: "a context doesn't fit, or its flex is too small"; it "must end inside its array", which ends at `stop`, and "More words than
  -- needed are allowed"
  pub rule_10 : (stop : ℕ) → (context_rule file p stop ≡ true) ↔ ((p + extent file p ≤ stop) × ((row_at file p).1 ≤ field file p flex_words))
