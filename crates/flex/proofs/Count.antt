-- A bit counts as its own number, so that the fields before one are a sum of bits; and a present field stands inside the words.
use Prim.Native.Nat.{ℕ, zero, suc, ◌+◌, ◌*◌, ◌/◌, ◌%◌, ◌^◌, ◌≤◌, ◌<◌}
use mathlib.Core.Bool.{Bool, true, false, true≢false}
use mathlib.Core.List.{List, [], ◌∷◌, map}
use mathlib.Core.Path.{◌≡◌, refl, sym, ap, ◌∙◌}
use native.Mathlib.Omega.{arith}
use lib.Dec.{eqb}
use lib.ListN.{length, take, get_or, length-take}
use lib.Seq.{take_all}
use Rattle.flex.specs.Packing.{bit, presence, is_present, how_many, before, place, words}

one_more : (x : ℕ) (rest : List Bool) → x < 2 → how_many (eqb x 1 ∷ rest) ≡ x + how_many rest
unfolding how_many
one_more zero rest h = omega arith
one_more (suc zero) rest h = omega arith
one_more (suc (suc x)) rest h = absurd (omega arith)

below_2 : (x : ℕ) → x % 2 < 2
below_2 x = omega arith

module _ (flags : ℕ) where
  abbrev bit_sum : List ℕ → ℕ
  bit_sum [] = 0
  bit_sum (b ∷ rest) = flags / 2 ^ b % 2 + bit_sum rest

  counted : (bits : List ℕ) → how_many (map (bit flags) bits) ≡ bit_sum bits
  unfolding bit how_many
  counted [] = refl
  counted (b ∷ rest) =
      one_more (flags / 2 ^ b % 2) (map (bit flags) rest) (below_2 (flags / 2 ^ b)) ∙ ap (λ n. flags / 2 ^ b % 2 + n) (counted rest)

  pub before0 : before flags 0 ≡ 0
  unfolding before
  before0 = counted []

  pub before1 : before flags 1 ≡ flags % 2
  unfolding before presence
  before1 = omega (arith, counted (0 ∷ []))

  pub before2 : before flags 2 ≡ flags % 2 + flags / 2 % 2
  unfolding before presence
  before2 = omega (arith, counted (0 ∷ 1 ∷ []))

  pub before3 : before flags 3 ≡ flags % 2 + 2 * (flags / 2 % 2)
  unfolding before presence
  before3 = omega (arith, counted (0 ∷ 1 ∷ 1 ∷ []))

  pub before4 : before flags 4 ≡ flags % 2 + 2 * (flags / 2 % 2) + flags / 4 % 2
  unfolding before presence
  before4 = omega (arith, counted (0 ∷ 1 ∷ 1 ∷ 2 ∷ []))

  pub all : words flags ≡ flags % 2 + 2 * (flags / 2 % 2) + 2 * (flags / 4 % 2)
  unfolding words presence
  all = omega (arith, counted (0 ∷ 1 ∷ 1 ∷ 2 ∷ 2 ∷ []))

  pub before_all : (j : ℕ) → 5 ≤ j → before flags j ≡ words flags
  unfolding before words presence
  before_all j h = ap how_many (take_all j (presence flags) h)

at_most : (ps : List Bool) → how_many ps ≤ length ps
unfolding how_many
at_most [] = omega arith
at_most (true ∷ rest) = omega (arith, at_most rest)
at_most (false ∷ rest) = omega (arith, at_most rest)

pub before_at_most_5 : (flags j : ℕ) → before flags j ≤ 5
unfolding before presence
before_at_most_5 flags j = omega (arith, at_most (take j (presence flags)), length-take j (presence flags))

stands_inside : (ps : List Bool) (j : ℕ) → get_or ps j false ≡ true → how_many (take j ps) < how_many ps
unfolding how_many
stands_inside [] j h = absurd (true≢false (sym h))
stands_inside (true ∷ rest) zero h = omega arith
stands_inside (false ∷ rest) zero h = absurd (true≢false (sym h))
stands_inside (true ∷ rest) (suc j) h = omega (arith, stands_inside rest j h)
stands_inside (false ∷ rest) (suc j) h = stands_inside rest j h

-- a present field ends inside the words that all present fields take
pub inside : (flags j : ℕ) → is_present flags j ≡ true → place flags j + 8 ≤ 8 * words flags
unfolding is_present before place words
inside flags j h = omega (arith, stands_inside (presence flags) j h)
