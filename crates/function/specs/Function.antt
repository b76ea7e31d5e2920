-- Functions: their links to a module and a file, and their name, which may be missing.
-- `ps` are the pairs of place and size of meta.db's sections.
use Rattle.text.specs.declared.Text.{Text}
use Rattle.function.specs.declared.Function.{Function}
use Rattle.function.specs.declared.Name.{Name}
use Rattle.function.specs.declared.Name.TheVariants.{Stored, Placeholder}
use Rattle.std.specs.Prelude.{ℕ, ◌+◌, Bool, not, ◌&&◌, ◌||◌, List, [], ◌∷◌, eqb, take, drop, Err, Ok}
use Rattle.le.specs.Number.{number}
use Rattle.refusal.specs.declared.Refusal.TheVariants as No
use Rattle.refusal.specs.Number.{number_of}
use Rattle.refusal.specs.Check.{either, rule, if_passed, Answer, on_answer}
use Rattle.refusal.specs.Words.{refused_words}
use Rattle.open.specs.Format.{meta}
use Rattle.open.specs.Names as Section
use Rattle.open.specs.Opening.{pair_in, on_opened}
use Rattle.text.specs.String.{string_at, given_text}
use Rattle.array.specs.declared.Array.{Array}
use Rattle.array.specs.Element.{element_at, linked}
use Rattle.array.specs.Stored.{array_in}

-- an answer with these fields
abbrev pub given_function : (name length p_module offset p_file line : ℕ) → Answer Function
given_function name n p_module offset p_file line =
    Ok (record { name = record { place = name; length = n }; load_module = p_module; offset = offset; file = p_file; line = line })

-- 9: name, module and file are not all 0, and a module or file that is not 0 is the place of an element
unfoldable pub links_kept : Array → Array → (p_name p_module p_file : ℕ) → Bool
links_kept modules files p_name p_module p_file =
    not (eqb p_name 0 && (eqb p_module 0 && eqb p_file 0))
    && ((eqb p_module 0 || linked modules p_module) && (eqb p_file 0 || linked files p_file))

-- 8, then 19: a name that is there is a string in Strings; place and length 0 where none is
unfoldable pub name_text : List ℕ → (strings : List ℕ) (name : ℕ) → Answer Text
name_text file strings name = either (eqb name 0) (given_text 0 0) (string_at file strings name)

-- the function at a place: its links, then its name. Fields: name 0, module 8, offset 16, file 24, line 32
unfoldable pub function_of : List ℕ → (strings : List ℕ) → Array → Array → (at : ℕ) → Answer Function
function_of file strings modules files at =
    if_passed Err
    (rule (links_kept modules files (number 8 file (at + 0)) (number 8 file (at + 8)) (number 8 file (at + 24))) No.Link)
    (on_answer Err (name_text file strings (number 8 file (at + 0)))
    (λ t.
    given_function t.place t.length (number 8 file (at + 8)) (number 8 file (at + 16)) (number 8 file (at + 24)) (number 4 file (at + 32))))

abbrev pub function_in : List ℕ → List (List ℕ) → (i : ℕ) → Answer Function
function_in file ps i =
    on_answer Err (element_at (array_in meta file ps Section.functions) i)
    (λ at. function_of file (pair_in ps Section.strings) (array_in meta file ps Section.modules) (array_in meta file ps Section.files) at)

unfoldable pub function_at : List ℕ → (i : ℕ) → Answer Function
function_at file i = on_opened Err meta file (λ ps. function_in file ps i)

-- an answer in words: its number, 1 if there is no name, then its values
abbrev pub function_words : Answer Function → List ℕ
function_words (Ok it) =
    0 ∷ either (eqb it.name.place 0) 1 0 ∷ it.name.place ∷ it.name.length ∷ it.load_module ∷ it.offset ∷ it.file ∷ it.line ∷ []
function_words (Err r) = refused_words r

-- ---- the name as bytes: a part of the file, or the placeholder, whole, exactly if there is no name; and which of them:
-- 0 the file's, 100 the placeholder, else the refusal's number, without bytes

unfoldable pub name_bytes : List ℕ → (placeholder : List ℕ) → Answer Function → List ℕ
name_bytes file placeholder (Ok it) = either (eqb it.name.place 0) placeholder (take it.name.length (drop it.name.place file))
name_bytes file placeholder (Err r) = []

unfoldable pub name_which : Answer Function → ℕ
name_which (Ok it) = either (eqb it.name.place 0) 100 0
name_which (Err r) = number_of r

-- the bytes that a name hands back, and the number of an answer
abbrev pub bytes_of : Name → List ℕ
bytes_of (Stored part) = part.now
bytes_of (Placeholder whole) = whole.now

abbrev pub which_of : Answer Name → ℕ
which_of (Ok (Stored part)) = 0
which_of (Ok (Placeholder whole)) = 100
which_of (Err r) = number_of r
