-- The rows of document 01's table, for every flags byte: the rule looks at the lowest three bits alone, and the eight rows are computed.
use Prim.Native.Nat.{ℕ, zero, suc, ◌+◌, ◌/◌, ◌%◌, ◌^◌, ◌<◌}
use mathlib.Core.List.{List, [], ◌∷◌, map}
use mathlib.Core.Path.{◌≡◌, refl, sym, ap, ◌∙◌}
use native.Mathlib.Omega.{arith}
use lib.Dec.{eqb}
use lib.ListN.{get_or}
use Rattle.flex.specs.Packing.{bit, presence, is_present, how_many, before, place, words}
use Rattle.flex.specs.Table.{blank_cell, flex_table, cell_of, rule_row, table_row}

module _ (flags : ℕ) where
  digit_mod_8 : (b : ℕ) → b < 3 → flags / 2 ^ b % 2 ≡ flags % 8 / 2 ^ b % 2
  digit_mod_8 zero h = omega arith
  digit_mod_8 (suc zero) h = omega arith
  digit_mod_8 (suc (suc zero)) h = omega arith
  digit_mod_8 (suc (suc (suc b))) h = absurd (omega arith)

  pub bit_mod_8 : (b : ℕ) → b < 3 → bit flags b ≡ bit (flags % 8) b
  unfolding bit
  bit_mod_8 b h = ap (λ n. eqb n 1) (digit_mod_8 b h)

  -- bits 3 to 7 bring nothing
  pub presence_mod_8 : presence flags ≡ presence (flags % 8)
  unfolding presence
  presence_mod_8 = rw (bit_mod_8 0 (omega arith), bit_mod_8 1 (omega arith), bit_mod_8 2 (omega arith))

  pub is_present_mod_8 : (j : ℕ) → is_present flags j ≡ is_present (flags % 8) j
  unfolding is_present
  is_present_mod_8 j = rw presence_mod_8

  pub place_mod_8 : (j : ℕ) → place flags j ≡ place (flags % 8) j
  unfolding place before
  place_mod_8 j = rw presence_mod_8

  pub words_mod_8 : words flags ≡ words (flags % 8)
  unfolding words
  words_mod_8 = rw presence_mod_8

  row_mod_8 : rule_row flags ≡ rule_row (flags % 8)
  unfolding rule_row is_present place before words
  row_mod_8 = rw presence_mod_8

computed : map rule_row (0 ∷ 1 ∷ 2 ∷ 3 ∷ 4 ∷ 5 ∷ 6 ∷ 7 ∷ []) ≡ flex_table
unfolding rule_row cell_of bit presence is_present how_many before place words
computed = refl

abbrev numbers_from : (k n : ℕ) → List ℕ
numbers_from k zero = []
numbers_from k (suc n) = k ∷ numbers_from (suc k) n

headed : (k n i j : ℕ) → i < n → k + i ≡ j → get_or (map rule_row (numbers_from k n)) i ([], 0) ≡ rule_row j
headed k zero i j h e = absurd (omega arith)
headed k (suc n) zero j h e = let first : k ≡ j = omega arith in ap rule_row first
headed k (suc n) (suc i) j h e = headed (suc k) n i j (omega arith) (omega arith)

-- "Byte places in flex": for every flags byte the rule says what stands in the table's row
pub rows : (flags : ℕ) → rule_row flags ≡ table_row flags
unfolding table_row
rows flags =
    row_mod_8 flags
    ∙ sym (headed 0 8 (flags % 8) (flags % 8) (omega arith) (omega arith))
    ∙ ap (λ t. get_or t (flags % 8) ([], 0)) computed

-- a cell and the words of a row of the table, by the rule
pub table_cell : (flags j : ℕ) → get_or (table_row flags).0 j blank_cell ≡ cell_of (is_present flags j) (place flags j)
unfolding rule_row is_present presence cell_of
table_cell flags j = ap (λ r. get_or r.0 j blank_cell) (sym (rows flags)) ∙ each j
  where
    each : (k : ℕ) → get_or (rule_row flags).0 k blank_cell ≡ cell_of (is_present flags k) (place flags k)
    each zero = refl
    each (suc zero) = refl
    each (suc (suc zero)) = refl
    each (suc (suc (suc zero))) = refl
    each (suc (suc (suc (suc zero)))) = refl
    each (suc (suc (suc (suc (suc k))))) = refl

pub table_words : (flags : ℕ) → (table_row flags).1 ≡ words flags
unfolding rule_row
table_words flags = ap (λ r. r.1) (sym (rows flags))
