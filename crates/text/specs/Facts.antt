-- Strings as facts: a string starts in its section, the first NUL from there on ends it, and the NUL is in the section too; and what an
-- answer says of one.
use Rattle.refusal.specs.Check.{Answer}
use Rattle.text.specs.declared.Text.{Text}
use Rattle.std.specs.Prelude.{ℕ, ◌+◌, ◌≤◌, ◌<◌, List, [], ◌↔◌, ◌≡◌, length, get_or, take, drop, Err}
use Rattle.refusal.specs.declared.Refusal.TheVariants as No
use Rattle.utf8.specs.Encoding.{Encoded}
use Rattle.text.specs.String.{text_code, text_bytes, given_text}

pub record IsString (file section : List ℕ) (place n : ℕ) : Type 0 where
  pub starts : get_or section 0 0 ≤ place
  pub ends : place + n < get_or section 0 0 + get_or section 1 0
  pub in_file : place + n < length file
  pub nul : get_or file (place + n) 0 ≡ 0
  pub none_before : (j : ℕ) → j < n → get_or file (place + j) 0 ≡ 0 → ⊥

-- a string of a file: the section that it lies in, its place, and when it is read
pub record Sited : Type 1 where
  pub section : List ℕ
  pub place : ℕ
  pub Read : Type 0

module _ (file : List ℕ) (s : Sited) where
  -- n bytes stand there before a NUL of the section
  abbrev pub HasString : (n : ℕ) → Type 0
  HasString n = IsString file s.section s.place n

  abbrev pub string_bytes : (n : ℕ) → List ℕ
  string_bytes n = take n (drop s.place file)

  -- and they are UTF-8
  abbrev pub HasText : (n : ℕ) → Type 0
  HasText n = HasString n × Encoded (string_bytes n)

  -- when it is refused. "Refusals: 19 Spelling, right after 8 for the same string."
  abbrev pub NoString : Type 0
  NoString = s.Read × ((n : ℕ) → HasString n → ⊥)

  abbrev pub NotEncoded : Type 0
  NotEncoded = s.Read × ((n : ℕ) × (HasString n × (Encoded (string_bytes n) → ⊥)))

  -- what an answer says of it, as place and length. "A string of any file is now handed back only if its bytes are UTF-8 by RFC 3629."
  pub record PlaceSays (answer : Answer Text) : Type 0 where
    pub handed-back : (p n : ℕ) → (answer ≡ given_text p n) ↔ (s.Read × ((p ≡ s.place) × HasText n))
    pub is_8 : (answer ≡ Err No.String) ↔ NoString
    pub is_19 : (answer ≡ Err No.Spelling) ↔ NotEncoded

  -- by the number that goes with it
  pub record CodeSays (code : ℕ) : Type 0 where
    pub code_0 : (code ≡ 0) ↔ (s.Read × ((n : ℕ) × HasText n))
    pub code_8 : (code ≡ 8) ↔ NoString
    pub code_19 : (code ≡ 19) ↔ NotEncoded

  -- as a part of the file, with a number: whatever is handed back is UTF-8
  pub record PartSays (part : List ℕ) (code : ℕ) : Type 0 where
    pub codes : CodeSays code
    pub bytes : (n : ℕ) → s.Read → HasText n → part ≡ string_bytes n
    pub no_bytes : (code ≡ 0 → ⊥) → part ≡ []
    pub encoded : Encoded part

  -- in both forms
  pub record StringSays (answer : Answer Text) : Type 0 where
    pub place : PlaceSays answer
    pub part : PartSays (text_bytes file answer) (text_code answer)
