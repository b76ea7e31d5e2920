-- Strings: the bytes from a place to just before the first NUL, inside a section, in UTF-8.
use Rattle.utf8.specs.declared.Fault.{Fault}
use Rattle.text.specs.declared.Text.{Text}
use Rattle.std.specs.Prelude.{ℕ, ◌+◌, ◌-◌, List, [], ◌∷◌, leb, get_or, take, drop, Err, Ok, Result}
use Rattle.refusal.specs.declared.Refusal.TheVariants as No
use Rattle.refusal.specs.Check.{either, Answer}
use Rattle.refusal.specs.Words.{refused_words, code_in}
use Rattle.utf8.specs.Terminated.{terminated}
use Rattle.utf8.specs.declared.Fault.TheVariants.{Invalid, Unterminated}

-- an answer that gives a place and a length
abbrev pub given_text : (place length : ℕ) → Answer Text
given_text place n = Ok (record { place = place; length = n })

-- the bytes of a section from a place on, the section as its place and size; outside of it there are none
unfoldable pub bytes_from : List ℕ → (section : List ℕ) (place : ℕ) → List ℕ
bytes_from file section place =
    either (leb (get_or section 0 0) place) (take (get_or section 0 0 + get_or section 1 0 - place) (drop place file)) []

-- 8 where no NUL ends such bytes, then 19 where those before it are not UTF-8
unfoldable pub text_of : (place : ℕ) → Result ℕ Fault → Answer Text
text_of place (Ok n) = given_text place n
text_of place (Err Invalid) = Err No.Spelling
text_of place (Err Unterminated) = Err No.String

unfoldable pub string_at : List ℕ → (section : List ℕ) (place : ℕ) → Answer Text
string_at file section place = text_of place (terminated (bytes_from file section place))

-- an answer in words: its number, then place and length; its number alone; its bytes
abbrev pub text_words : Answer Text → List ℕ
text_words (Ok it) = 0 ∷ it.place ∷ it.length ∷ []
text_words (Err r) = refused_words r

abbrev pub text_code : Answer Text → ℕ
text_code t = code_in (text_words t)

unfoldable pub text_bytes : List ℕ → Answer Text → List ℕ
text_bytes file (Ok it) = take it.length (drop it.place file)
text_bytes file (Err r) = []
