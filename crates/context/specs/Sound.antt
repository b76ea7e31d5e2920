-- What the code relies on and hands on: what pointers may lead to, in words; a context whose bytes are there; its words.
use Rattle.std.specs.Prelude.{ℕ, ◌+◌, ◌*◌, ◌≤◌, List, ◌≡◌, length, get_or}
use Rattle.open.specs.Opening.{field}
use Rattle.array.specs.declared.Array.{Array}
use Rattle.flex.specs.Packing.{words}
use Rattle.context.specs.Context.{Targets, flags}
use Rattle.context.specs.Entry.{entry_at, entry_words}

-- an array in three words: place, count and stride
abbrev pub array_in_words : List ℕ → (k : ℕ) → Array
array_in_words ws k = record { place = get_or ws k 0; count = get_or ws (k + 1) 0; stride = get_or ws (k + 2) 0 }

-- place and size of the section, and the arrays
abbrev pub targets_in : List ℕ → Targets
targets_in ws = record {
  at = get_or ws 0 0;
  size = get_or ws 1 0;
  functions = array_in_words ws 2;
  files = array_in_words ws 5;
  modules = array_in_words ws 8;
}

-- the bytes of its fields and of the flex words that its flags need are there
pub record Readable (file : List ℕ) (p : ℕ) : Type 0 where
  pub ends : p + 24 + 8 * words (field file p flags) ≤ length file

-- words that are those of the context at p, wherever at this depth below its parent it stands
abbrev pub WordsOf : List ℕ → (p depth parent : ℕ) → List ℕ → Type 0
WordsOf f p depth parent ws = (path : List ℕ) → length path ≡ depth → ws ≡ entry_words (entry_at f parent path p)
