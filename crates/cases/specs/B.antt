-- Block B of document 01 in a profile.db of one profile, with the starts of its two sub-arrays.
use Rattle.std.specs.Prelude.{ℕ, List, [], ◌∷◌, ◌++◌, pos}
use Rattle.std.specs.Float.{binary64}
use Rattle.std.specs.Float.Ieee.{of_int, to_bits}
use Rattle.layout.specs.Bytes.{ascii, bytes, ◌is◌, fields}
use Rattle.cases.specs.W.{entry, padding, built}

-- the bits of a whole number as an f64
unfoldable pub f64 : ℕ → ℕ
unfolding to_bits of_int
f64 n = to_bits binary64 (of_int binary64 (pos n))

abbrev pub two : ℕ
two = f64 2

abbrev pub three : ℕ
three = f64 3

abbrev pub five : ℕ
five = f64 5

unfoldable pub b_parts : (start next : ℕ) → List (ℕ × List ℕ)
unfolding fields bytes f64
b_parts start next =
    (0, ascii "HPCTOOLKITprof" ++ fields (1 is 4 ∷ 1 is 0 ∷ []))
    ∷ (16, entry 56 48)
    ∷ (32, entry 0 0)
    -- one profile: its block, and the place of its tuple
    ∷ (48, fields (8 is 64 ∷ 4 is 1 ∷ 1 is 40 ∷ []))
    ∷ (61, padding 3)
    ∷ (64, fields (8 is 3 ∷ 8 is 104 ∷ 4 is 2 ∷ 4 is 0 ∷ 8 is 136 ∷ 8 is 0 ∷ []))
    -- values: metric, bits. Indices: context, start
    ∷ (104, fields (2 is 1 ∷ 8 is two ∷ 2 is 4 ∷ 8 is three ∷ 2 is 1 ∷ 8 is five ∷ []))
    ∷ (134, padding 2)
    ∷ (136, fields (4 is 5 ∷ 8 is start ∷ 4 is 9 ∷ 8 is next ∷ []))
    ∷ (160, ascii "_prof.db")
    ∷ []

unfoldable pub b : (start next : ℕ) → List ℕ
unfolding b_parts built f64
b start next = built (b_parts start next)
