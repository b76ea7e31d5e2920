-- UTF-8 by arithmetic, as RFC 3629, section 3, has it: the bytes of a code point, in the shortest form, and the code point of bytes. The
-- grammar's table is not used.
use Rattle.std.specs.Prelude.{ℕ, ◌+◌, ◌-◌, ◌*◌, ◌/◌, ◌%◌, ◌≤◌, ◌<◌, List, [], ◌∷◌, ◌++◌, ◌≡◌, ltb, get_or}
use Rattle.refusal.specs.Check.{either}

-- not above 10FFFF, and no surrogate
pub record ScalarValue (code : ℕ) : Type 0 where
  pub most : code ≤ 0x10FFFF
  pub no_surrogate : 0xD800 ≤ code → 0xDFFF < code

abbrev pub ScalarValues : List ℕ → Type 0
ScalarValues [] = Unit {0}
ScalarValues (code ∷ codes) = ScalarValue code × ScalarValues codes

unfoldable pub encoding : (code : ℕ) → List ℕ
encoding c =
    either (ltb c 0x80) (c ∷ [])
    (either (ltb c 0x800) ((0xC0 + c / 64) ∷ (0x80 + c % 64) ∷ [])
    (either (ltb c 0x10000) ((0xE0 + c / 4096) ∷ (0x80 + c / 64 % 64) ∷ (0x80 + c % 64) ∷ [])
    ((0xF0 + c / 262144) ∷ (0x80 + c / 4096 % 64) ∷ (0x80 + c / 64 % 64) ∷ (0x80 + c % 64) ∷ [])))

-- one after the other
unfoldable pub encodings : (codes : List ℕ) → List ℕ
encodings [] = []
encodings (code ∷ codes) = encoding code ++ encodings codes

-- bytes that are the encodings of code points
pub record Encoded (bytes : List ℕ) : Type 0 where
  pub codes : List ℕ
  pub scalars : ScalarValues codes
  pub same : encodings codes ≡ bytes

-- the code point whose encoding stands first
unfoldable pub code_point : List ℕ → ℕ
code_point bytes =
    let a = get_or bytes 0 0 in
    let b = get_or bytes 1 0 - 0x80 in
    let c = get_or bytes 2 0 - 0x80 in
    let d = get_or bytes 3 0 - 0x80 in
    either (ltb a 0x80) a
    (either (ltb a 0xE0) ((a - 0xC0) * 64 + b)
    (either (ltb a 0xF0) ((a - 0xE0) * 4096 + b * 64 + c)
    ((a - 0xF0) * 262144 + b * 4096 + c * 64 + d)))
