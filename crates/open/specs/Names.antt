-- The sections' positions in the header, by the names that document 004 gives them there.
use Rattle.std.specs.Prelude.{ℕ}

-- of meta.db
abbrev pub general : ℕ
general = 0

abbrev pub id_names : ℕ
id_names = 1

abbrev pub metrics : ℕ
metrics = 2

abbrev pub context : ℕ
context = 3

abbrev pub strings : ℕ
strings = 4

abbrev pub modules : ℕ
modules = 5

abbrev pub files : ℕ
files = 6

abbrev pub functions : ℕ
functions = 7

-- of profile.db, cct.db and trace.db: the one with an array of profiles, contexts or traces
abbrev pub infos : ℕ
infos = 0

-- of profile.db
abbrev pub id_tuples : ℕ
id_tuples = 1
