-- How many elements the array of a file's first section has: profiles of profile.db, contexts of cct.db, lines of trace.db.
use Rattle.refusal.specs.Check.{Answer}
use Rattle.std.specs.Prelude.{ℕ, List, Err, Ok}
use Rattle.refusal.specs.Words.{number_words}
use Rattle.open.specs.Format.{Format}
use Rattle.open.specs.Names as Section
use Rattle.open.specs.Opening.{on_opened}
use Rattle.array.specs.Stored.{array_in}

unfoldable pub count_of : Format → List ℕ → Answer ℕ
count_of f file = on_opened Err f file (λ ps. Ok (array_in f file ps Section.infos).count)

-- an answer in words: its number, then the count
abbrev pub count_words : Answer ℕ → List ℕ
count_words a = number_words a
