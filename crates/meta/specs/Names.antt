-- meta.db's title and description, the names of identifier kinds, modules and source files; and how many there are of each.
-- `ps` are the pairs of place and size of its sections.
use Rattle.text.specs.declared.Text.{Text}
use Rattle.meta.specs.declared.SourceFile.{SourceFile}
use Rattle.std.specs.Prelude.{ℕ, ◌+◌, ◌%◌, Bool, List, [], ◌∷◌, eqb, Err, Ok}
use Rattle.le.specs.Number.{number}
use Rattle.refusal.specs.Check.{either, Answer, on_answer}
use Rattle.refusal.specs.Words.{refused_words}
use Rattle.open.specs.Format.{meta}
use Rattle.open.specs.Names as Section
use Rattle.open.specs.Opening.{pair_in, place_in, on_opened}
use Rattle.text.specs.String.{string_at, given_text}
use Rattle.array.specs.declared.Array.{Array}
use Rattle.array.specs.Element.{element_at}
use Rattle.array.specs.Stored.{array_in}

-- ---- strings

-- the string whose place stands at an offset of a structure, inside a section
unfoldable pub string_of : List ℕ → (section : List ℕ) (at offset : ℕ) → Answer Text
string_of file section at offset = string_at file section (number 8 file (at + offset))

-- of element i: 15, then 8, then 19
unfoldable pub element_text : List ℕ → (section : List ℕ) → Array → (i offset : ℕ) → Answer Text
element_text file section a i offset = on_answer Err (element_at a i) (λ p. string_of file section p offset)

-- ---- title and description

abbrev pub general_in : List ℕ → List (List ℕ) → (offset : ℕ) → Answer Text
general_in file ps offset = string_of file (pair_in ps Section.general) (place_in ps Section.general) offset

unfoldable pub general_text : List ℕ → (offset : ℕ) → Answer Text
general_text file offset = on_opened Err meta file (λ ps. general_in file ps offset)

abbrev pub title_at : List ℕ → Answer Text
title_at file = general_text file 0

abbrev pub description_at : List ℕ → Answer Text
description_at file = general_text file 8

-- ---- identifier kinds and modules

abbrev pub kind_in : List ℕ → List (List ℕ) → (kind : ℕ) → Answer Text
kind_in file ps kind = element_text file (pair_in ps Section.id_names) (array_in meta file ps Section.id_names) kind 0

unfoldable pub kind_at : List ℕ → (kind : ℕ) → Answer Text
kind_at file kind = on_opened Err meta file (λ ps. kind_in file ps kind)

abbrev pub module_in : List ℕ → List (List ℕ) → (i : ℕ) → Answer Text
module_in file ps i = element_text file (pair_in ps Section.strings) (array_in meta file ps Section.modules) i 8

unfoldable pub module_at : List ℕ → (i : ℕ) → Answer Text
module_at file i = on_opened Err meta file (λ ps. module_in file ps i)

-- ---- source files: bit 0 of the flags tells that one was copied

-- an answer that gives a path's place and length, and whether the file was copied
abbrev pub given_source : (place length : ℕ) (copied : Bool) → Answer SourceFile
given_source place n copied = Ok (record { path = record { place = place; length = n }; copied = copied })

unfoldable pub is_copied : List ℕ → (at : ℕ) → Bool
is_copied file at = eqb (number 4 file at % 2) 1

unfoldable pub source_of : List ℕ → (section : List ℕ) (at : ℕ) → Answer SourceFile
source_of file section at = on_answer Err (string_of file section at 8) (λ t. given_source t.place t.length (is_copied file at))

abbrev pub source_in : List ℕ → List (List ℕ) → (i : ℕ) → Answer SourceFile
source_in file ps i = on_answer Err (element_at (array_in meta file ps Section.files) i) (λ p. source_of file (pair_in ps Section.strings) p)

unfoldable pub source_at : List ℕ → (i : ℕ) → Answer SourceFile
source_at file i = on_opened Err meta file (λ ps. source_in file ps i)

-- an answer in words: its number, then place and length of the path, and 1 if copied
abbrev pub source_words : Answer SourceFile → List ℕ
source_words (Ok it) = 0 ∷ it.path.place ∷ it.path.length ∷ either it.copied 1 0 ∷ []
source_words (Err r) = refused_words r

-- its path
unfoldable pub source_text : Answer SourceFile → Answer Text
source_text (Ok it) = given_text it.path.place it.path.length
source_text (Err r) = Err r

-- ---- counts: identifier kinds, metrics, modules, files, functions

abbrev pub counts_in : List ℕ → List (List ℕ) → List ℕ
counts_in file ps =
    (array_in meta file ps Section.id_names).count
    ∷ (array_in meta file ps Section.metrics).count
    ∷ (array_in meta file ps Section.modules).count
    ∷ (array_in meta file ps Section.files).count
    ∷ (array_in meta file ps Section.functions).count
    ∷ []

unfoldable pub counts : List ℕ → Answer (List ℕ)
counts file = on_opened Err meta file (λ ps. Ok (counts_in file ps))
