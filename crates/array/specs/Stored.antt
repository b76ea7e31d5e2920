-- The arrays that section headers lead to.
use Rattle.std.specs.Prelude.{ℕ, List}
use Rattle.open.specs.Format.{u64, Content, nothing, array, roots, Format, section_at}
use Rattle.open.specs.Opening.{field, number_at, place_in}
use Rattle.array.specs.declared.Array.{Array}

abbrev pub no_array : Array
no_array = record { place = 0; count = 0; stride = 0 }

-- the array that a header at a place leads to: its place in u64 0, its count and stride in the fields that the table names
unfoldable pub array_of : List ℕ → (at : ℕ) → Content → Array
array_of file at nothing = no_array
array_of file at (array count stride) = record { place = field file at (u64 0); count = field file at count; stride = number_at file at stride }
array_of file at roots = no_array

-- that of section k
abbrev pub array_in : Format → List ℕ → List (List ℕ) → (k : ℕ) → Array
array_in f file ps k = array_of file (place_in ps k) (section_at f k).content
