-- Small sequences, computed: their answers in words.
use Prim.Native.Nat.{ℕ}
use mathlib.Core.List.{List, [], ◌∷◌}
use mathlib.Core.Path.{◌≡◌, refl}
use lib.Ieee.{add, lt, of_bits, to_bits}
use lib.ListN.{length, get_or}
use Rattle.refusal.specs.Check.{either}
use Rattle.seq.specs.Sequence.{every}
use Rattle.float.specs.Float.{finite, less}
use Rattle.total.specs.Totals.{start_of, step_of, tally_to, finish, totals_of, totals_words}

answer : (ids bits : List ℕ) → List ℕ
unfolding add lt of_bits to_bits finite less start_of either step_of tally_to every finish totals_of
answer ids bits = totals_words (totals_of (λ i. get_or ids i 0) (λ i. get_or bits i 0) (length bits))

abbrev one : ℕ
one = 0x3ff0_0000_0000_0000

abbrev two : ℕ
two = 0x4000_0000_0000_0000

abbrev three : ℕ
three = 0x4008_0000_0000_0000

abbrev four : ℕ
four = 0x4010_0000_0000_0000

abbrev infinity : ℕ
infinity = 0x7ff0_0000_0000_0000

none : answer [] [] ≡ 100 ∷ []
unfolding answer
none = refl

alone : answer (7 ∷ []) (two ∷ []) ≡ 0 ∷ 1 ∷ 7 ∷ two ∷ 7 ∷ two ∷ two ∷ []
unfolding answer
alone = refl

added : answer (7 ∷ 9 ∷ []) (one ∷ two ∷ []) ≡ 0 ∷ 2 ∷ 7 ∷ one ∷ 9 ∷ two ∷ three ∷ []
unfolding answer
added = refl

-- of equal ones the first
first_least : answer (3 ∷ 5 ∷ 7 ∷ []) (two ∷ one ∷ one ∷ []) ≡ 0 ∷ 3 ∷ 5 ∷ one ∷ 3 ∷ two ∷ four ∷ []
unfolding answer
first_least = refl

first_greatest : answer (3 ∷ 5 ∷ []) (two ∷ two ∷ []) ≡ 0 ∷ 2 ∷ 3 ∷ two ∷ 3 ∷ two ∷ four ∷ []
unfolding answer
first_greatest = refl

-- zeros of both signs are equal
zeros : answer (3 ∷ 5 ∷ []) (0x8000_0000_0000_0000 ∷ 0 ∷ []) ≡ 0 ∷ 2 ∷ 3 ∷ 0x8000_0000_0000_0000 ∷ 3 ∷ 0x8000_0000_0000_0000 ∷ 0 ∷ []
unfolding answer
zeros = refl

-- 2 ^ 53 and twice 1: the sum is rounded at each addition
in_order : answer (3 ∷ 5 ∷ 7 ∷ []) (0x4340_0000_0000_0000 ∷ one ∷ one ∷ [])
    ≡ 0 ∷ 3 ∷ 5 ∷ one ∷ 3 ∷ 0x4340_0000_0000_0000 ∷ 0x4340_0000_0000_0000 ∷ []
unfolding answer
in_order = refl

-- a value is refused that is infinite or a NaN, and not a sum that is infinite
not_finite : answer (3 ∷ 5 ∷ []) (one ∷ infinity ∷ []) ≡ 16 ∷ []
unfolding answer
not_finite = refl

not_number : answer (3 ∷ 5 ∷ []) (0xfff8_0000_0000_0001 ∷ one ∷ []) ≡ 16 ∷ []
unfolding answer
not_number = refl

past_largest : answer (3 ∷ 5 ∷ []) (0x7fef_ffff_ffff_ffff ∷ 0x7fef_ffff_ffff_ffff ∷ [])
    ≡ 0 ∷ 2 ∷ 3 ∷ 0x7fef_ffff_ffff_ffff ∷ 3 ∷ 0x7fef_ffff_ffff_ffff ∷ infinity ∷ []
unfolding answer
past_largest = refl
