-- Request 2026-08 on file W, computed through the definitions that the promises cite. The roots A (at 216, ctxId 1) and B (240, 4); below A
-- its children C (264, 2) and D (288, 3).
use Prim.Native.Nat.{ℕ}
use mathlib.Core.List.{[], ◌∷◌}
use mathlib.Core.Path.{◌≡◌, refl}
use Rattle.cases.specs.HotPaths.{values_file, hot_in_w}

abbrev one : ℕ
one = 0x3ff0_0000_0000_0000

abbrev two : ℕ
two = 0x4000_0000_0000_0000

abbrev minus_one : ℕ
minus_one = 0xbff0_0000_0000_0000

abbrev minus_zero : ℕ
minus_zero = 0x8000_0000_0000_0000

abbrev not_a_number : ℕ
not_a_number = 0x7ff8_0000_0000_0000

pub cases_hot_path :
    -- the first of equal roots, and a child below 0
    (hot_in_w (values_file 1 one 3 minus_one 4 one) 7 4 3 ≡ (0 ∷ 2 ∷ []) ∷ (216 ∷ 288 ∷ 9 ∷ []) ∷ [])
    -- zeros of either sign are equal
    × (hot_in_w (values_file 1 minus_zero 4 0 9 one) 7 4 2 ≡ (0 ∷ 1 ∷ []) ∷ (216 ∷ 9 ∷ []) ∷ [])
    -- NaN of a root; of a child on the way, although there is no room; and off the way
    × (hot_in_w (values_file 1 minus_zero 4 not_a_number 9 one) 7 4 2 ≡ (16 ∷ []) ∷ (9 ∷ 9 ∷ []) ∷ [])
    × (hot_in_w (values_file 1 two 2 not_a_number 4 one) 7 4 0 ≡ (16 ∷ []) ∷ [] ∷ [])
    × (hot_in_w (values_file 1 one 2 not_a_number 4 two) 7 4 1 ≡ (0 ∷ 1 ∷ []) ∷ (240 ∷ []) ∷ [])
    -- too few words; a walk that is cut, before profile.db is looked at; and that one's refusal
    × (hot_in_w (values_file 1 one 3 two 9 one) 7 4 1 ≡ (17 ∷ []) ∷ (9 ∷ []) ∷ [])
    × (hot_in_w [] 7 3 1 ≡ (17 ∷ []) ∷ (9 ∷ []) ∷ [])
    × (hot_in_w [] 7 4 1 ≡ (1 ∷ []) ∷ (9 ∷ []) ∷ [])
    -- no root has a value; and no value is of the metric
    × (hot_in_w (values_file 2 one 3 two 9 one) 7 4 0 ≡ (0 ∷ 0 ∷ []) ∷ [] ∷ [])
    × (hot_in_w (values_file 1 one 3 two 4 one) 70000 4 1 ≡ (0 ∷ 0 ∷ []) ∷ (9 ∷ []) ∷ [])
unfolding values_file hot_in_w
cases_hot_path = (refl, refl, refl, refl, refl, refl, refl, refl, refl, refl)
