-- What is printed of a number, of a byte and of a line.
use Rattle.std.specs.Prelude.{ℕ, ◌/◌, ◌%◌, List, [], ◌∷◌, ◌++◌, false}
use Rattle.std.specs.Fmt.{decimal, digit_glyph}

-- a space, and the number in decimal
abbrev pub spaced : ℕ → List ℕ
spaced n = 32 ∷ decimal n

-- a byte's upper and lower half, in hexadecimal
abbrev pub hexadecimal : ℕ → List ℕ
hexadecimal b = digit_glyph false (b / 16) ∷ digit_glyph false (b % 16) ∷ []

-- two equals signs and a space, the line, and a newline
abbrev pub heading : List ℕ → List ℕ
heading line = 61 ∷ 61 ∷ 32 ∷ line ++ 10 ∷ []
