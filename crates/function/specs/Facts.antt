-- A function's name as facts: when it is read, handed back, refused, or missing.
use Rattle.std.specs.Prelude.{ℕ, ◌+◌, ◌<◌, List, [], ◌↔◌, ◌⊎◌, ◌≡◌, Err}
use Rattle.le.specs.Number.{number}
use Rattle.refusal.specs.declared.Refusal.TheVariants as No
use Rattle.open.specs.Format.{meta}
use Rattle.open.specs.Names as Section
use Rattle.open.specs.Kept.{Opens}
use Rattle.utf8.specs.Encoding.{Encoded}
use Rattle.text.specs.Facts.{Sited, string_bytes, HasText, NoString, NotEncoded, CodeSays}
use Rattle.array.specs.declared.Array.{Array}
use Rattle.meta.specs.Facts.{section_of, array_at, element_place}
use Rattle.function.specs.Function.{function_at, name_bytes, name_which, given_function}

-- a link is 0, or the place of an element
abbrev pub LinkKept : Array → (place : ℕ) → Type 0
LinkKept a place = (place ≡ 0 → ⊥) → (i : ℕ) × ((i < a.count) × (place ≡ element_place a i))

module _ (file : List ℕ) (i : ℕ) where
  abbrev pub function_place : ℕ
  function_place = element_place (array_at file Section.functions) i

  abbrev pub p_name : ℕ
  p_name = number 8 file (function_place + 0)

  abbrev pub p_module : ℕ
  p_module = number 8 file (function_place + 8)

  abbrev pub p_file : ℕ
  p_file = number 8 file (function_place + 24)

  -- 15, then 9
  pub record FunctionThere : Type 0 where
    pub opens : Opens meta file
    pub element : i < (array_at file Section.functions).count
    pub one_of_three : p_name ≡ 0 → p_module ≡ 0 → p_file ≡ 0 → ⊥
    pub module_kept : LinkKept (array_at file Section.modules) p_module
    pub file_kept : LinkKept (array_at file Section.files) p_file

  abbrev pub name_string : Sited
  name_string = record { section = section_of file Section.strings; place = p_name; Read = FunctionThere × (p_name ≡ 0 → ⊥) }

  -- an answer: every field as it stands there, and the name's length, which is 0 without a name
  pub record FoundSays (name n module-link offset file-link line : ℕ) : Type 0 where
    pub there : FunctionThere
    pub its-name : name ≡ p_name
    pub its_length : ((p_name ≡ 0) × (n ≡ 0)) ⊎ ((p_name ≡ 0 → ⊥) × HasText file name_string n)
    pub its_module : module-link ≡ p_module
    pub its_offset : offset ≡ number 8 file (function_place + 16)
    pub its_file : file-link ≡ p_file
    pub its_line : line ≡ number 4 file (function_place + 32)

  pub record FunctionSays : Type 0 where
    pub found : (name n module-link offset file-link line : ℕ)
        → (function_at file i ≡ given_function name n module-link offset file-link line) ↔ FoundSays name n module-link offset file-link line
    pub is_8 : (function_at file i ≡ Err No.String) ↔ NoString file name_string
    pub is_19 : (function_at file i ≡ Err No.Spelling) ↔ NotEncoded file name_string

  -- the name as bytes, with the placeholder that is given, and which of them
  module _ (placeholder : List ℕ) where
    abbrev which : ℕ
    which = name_which (function_at file i)

    abbrev handed_back : List ℕ
    handed_back = name_bytes file placeholder (function_at file i)

    pub record NameSays : Type 0 where
      -- a part of the file, which is UTF-8; or 8 or 19, without bytes
      pub codes : CodeSays file name_string which
      pub bytes : (n : ℕ) → name_string.Read → HasText file name_string n → handed_back ≡ string_bytes file name_string n
      pub encoded : (which ≡ 100 → ⊥) → Encoded handed_back
      pub no_bytes : (which ≡ 0 → ⊥) → (which ≡ 100 → ⊥) → handed_back ≡ []
      -- "The caller's placeholder is not looked at.": whole, whatever its bytes
      pub no_name : (which ≡ 100) ↔ (FunctionThere × (p_name ≡ 0))
      pub whole : which ≡ 100 → handed_back ≡ placeholder
