-- The fields of flex by their numbers in document 004, which are their packing order.
use Rattle.std.specs.Prelude.{ℕ}

abbrev pub function : ℕ
function = 0

abbrev pub file : ℕ
file = 1

abbrev pub line : ℕ
line = 2

abbrev pub load_module : ℕ
load_module = 3

abbrev pub offset : ℕ
offset = 4
