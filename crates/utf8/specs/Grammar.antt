-- UTF-8 by the grammar of RFC 3629, section 4: a table of what the bytes of a character may be.
use Rattle.std.specs.Prelude.{ℕ, zero, suc, ◌-◌, Bool, true, false, ◌&&◌, List, [], ◌∷◌, leb, ltb, eqb, length}
use Rattle.refusal.specs.Check.{either}

infix 80 ◌to◌
infix 50 ◌then◌
-- the bytes from one to another, both included
pub data ByteRange : Type 0 where
  ◌to◌ : (low high : ℕ) → ByteRange

-- a row of the table: what the first byte may be, and each that follows
pub data CharForm : Type 0 where
  ◌then◌ : (lead : ByteRange) (rest : List ByteRange) → CharForm

-- the RFC's UTF8-tail
abbrev pub continuation : ByteRange
continuation = 0x80 to 0xBF

abbrev pub one_byte : CharForm
one_byte = 0x00 to 0x7F then []

abbrev pub multibyte : List CharForm
multibyte =
    (0xC2 to 0xDF then continuation ∷ [])
    ∷ (0xE0 to 0xE0 then 0xA0 to 0xBF ∷ continuation ∷ [])
    ∷ (0xE1 to 0xEC then continuation ∷ continuation ∷ [])
    ∷ (0xED to 0xED then 0x80 to 0x9F ∷ continuation ∷ [])
    ∷ (0xEE to 0xEF then continuation ∷ continuation ∷ [])
    ∷ (0xF0 to 0xF0 then 0x90 to 0xBF ∷ continuation ∷ continuation ∷ [])
    ∷ (0xF1 to 0xF3 then continuation ∷ continuation ∷ continuation ∷ [])
    ∷ (0xF4 to 0xF4 then 0x80 to 0x8F ∷ continuation ∷ continuation ∷ [])
    ∷ []

abbrev pub forms : List CharForm
forms = one_byte ∷ multibyte

unfoldable pub in_range : ByteRange → ℕ → Bool
in_range (low to high) b = leb low b && leb b high

-- the bytes begin with one of each range
unfoldable pub in_ranges : List ByteRange → List ℕ → Bool
in_ranges [] bytes = true
in_ranges (r ∷ ranges) [] = false
in_ranges (r ∷ ranges) (b ∷ bytes) = in_range r b && in_ranges ranges bytes

-- the size of a character whose bytes after the first are in their ranges; 0 if they are not
unfoldable pub size_if : List ByteRange → List ℕ → ℕ
size_if rest bytes = either (in_ranges rest bytes) (suc (length rest)) 0

-- how many bytes the character has that the bytes begin with; 0 if they begin with none
unfoldable pub char_size : List CharForm → List ℕ → ℕ
char_size [] bytes = 0
char_size (row ∷ rows) [] = 0
char_size ((lead then rest) ∷ rows) (b ∷ bytes) = either (in_range lead b) (size_if rest bytes) (char_size rows (b ∷ bytes))

-- after `skip` more bytes of a character, nothing but characters
unfoldable pub only_chars : (skip : ℕ) → List ℕ → Bool
only_chars skip [] = eqb skip 0
only_chars zero (b ∷ bytes) = ltb 0 (char_size forms (b ∷ bytes)) && only_chars (char_size forms (b ∷ bytes) - 1) bytes
only_chars (suc skip) (b ∷ bytes) = only_chars skip bytes

-- the RFC's UTF8-octets
unfoldable pub is_utf8 : List ℕ → Bool
is_utf8 bytes = only_chars 0 bytes
