-- What the code tests of a character's bytes is what the table says: too few match nothing, and each row is one pair of bounds for the
-- first byte, with the second's bounds as numbers.
use Prim.Native.Nat.{ℕ, suc, ◌≤◌, ◌<◌}
use mathlib.Core.Bool.{true, false, ◌&&◌, and-true, and-false}
use mathlib.Core.List.{List, [], ◌∷◌}
use mathlib.Core.Path.{◌≡◌, refl}
use native.Mathlib.Omega.{arith}
use native.Mathlib.Decide.{dec_le}
use borrow.Author.Tests.{eq-eqb, ne_eqb}
use lib.ListN.{length, drop, get_or, length-drop}
use lib.Seq.{drop-cons}
use Rattle.refusal.specs.Check.{either}
use Rattle.utf8.specs.Grammar.{ByteRange, ◌to◌, CharForm, ◌then◌, continuation, multibyte, in_range, in_ranges, size_if, char_size}
use Rattle.utf8.specs.Progress.{second_low, second_high}
use Rattle.utf8.proofs.Forms.{below_range, rows_passed, its_row}

-- ---- the bytes after the first

too_few : (ranges : List ByteRange) (s : List ℕ) → length s < length ranges → in_ranges ranges s ≡ false
unfolding in_ranges
too_few [] s h = absurd (omega arith)
too_few (r ∷ ranges) [] h = refl
too_few (r ∷ ranges) (b ∷ s) h = rw (too_few ranges s (omega arith)) (and-false (in_range r b))

pub size_too_few : (rest : List ByteRange) (s : List ℕ) → 0 < length rest → length s ≤ length rest → 0 ≡ size_if rest (drop 1 s)
unfolding size_if either
size_too_few rest s p h = rw (too_few rest (drop 1 s) (simp length-drop (omega arith)))

-- the size by the test
module _ (rest : List ByteRange) (bytes : List ℕ) where
  pub size_yes : in_ranges rest bytes ≡ true → suc (length rest) ≡ size_if rest bytes
  unfolding size_if either
  size_yes e = rw e

  pub size_no : in_ranges rest bytes ≡ false → 0 ≡ size_if rest bytes
  unfolding size_if either
  size_no e = rw e

module _ (s : List ℕ) where
  match_at : (r : ByteRange) (ranges : List ByteRange) (i : ℕ) → i < length s
      → in_ranges (r ∷ ranges) (drop i s) ≡ (in_range r (get_or s i 0) && in_ranges ranges (drop (suc i) s))
  unfolding in_ranges
  match_at r ranges i h = rw (drop-cons s i 0 h)

  match_last : (r : ByteRange) (i : ℕ) → i < length s → in_ranges (r ∷ []) (drop i s) ≡ in_range r (get_or s i 0)
  unfolding in_ranges
  match_last r i h = rw (drop-cons s i 0 h) (and-true (in_range r (get_or s i 0)))

  pub two_match : 2 ≤ length s → in_ranges (continuation ∷ []) (drop 1 s) ≡ in_range continuation (get_or s 1 0)
  two_match h = match_last continuation 1 (omega arith)

  pub three_match : (r : ByteRange) → 3 ≤ length s
      → in_ranges (r ∷ continuation ∷ []) (drop 1 s) ≡ (in_range r (get_or s 1 0) && in_range continuation (get_or s 2 0))
  three_match r h = rw (match_at r (continuation ∷ []) 1 (omega arith), match_last continuation 2 (omega arith))

  pub four_match : (r : ByteRange) → 4 ≤ length s
      → in_ranges (r ∷ continuation ∷ continuation ∷ []) (drop 1 s)
      ≡ (in_range r (get_or s 1 0) && (in_range continuation (get_or s 2 0) && in_range continuation (get_or s 3 0)))
  four_match r h =
      rw (
        match_at r (continuation ∷ continuation ∷ []) 1 (omega arith),
        match_at continuation (continuation ∷ []) 2 (omega arith),
        match_last continuation 3 (omega arith),
      )

-- ---- the first byte

pub size_cons : (rows : List CharForm) (s : List ℕ) → 0 < length s → char_size rows s ≡ char_size rows (get_or s 0 0 ∷ drop 1 s)
unfolding char_size
size_cons rows [] h = absurd (omega arith)
size_cons rows (b ∷ s) h = refl

pub size_nil : (rows : List CharForm) (s : List ℕ) → length s ≡ 0 → 0 ≡ char_size rows s
unfolding char_size
size_nil [] s h = refl
size_nil (row ∷ rows) [] h = refl
size_nil (row ∷ rows) (b ∷ s) h = absurd (omega arith)

abbrev Under : List CharForm → ℕ → Type 0
Under [] b = Unit {0}
Under ((low to high then rest) ∷ rows) b = (b < low) × Under rows b

under : (rows : List CharForm) (b : ℕ) (bytes : List ℕ) → Under rows b → char_size rows (b ∷ bytes) ≡ 0
unfolding char_size either
under [] b bytes h = refl
under ((low to high then rest) ∷ rows) b bytes h = rw (below_range low high b h.0) (under rows b bytes h.1)

module _ (b : ℕ) (bytes : List ℕ) where
  pub lead_low : b < 0xC2 → char_size multibyte (b ∷ bytes) ≡ 0
  lead_low h = under multibyte b bytes (omega arith)

  pub lead_high : 0xF5 ≤ b → char_size multibyte (b ∷ bytes) ≡ 0
  unfolding char_size either
  lead_high h = rows_passed 8 multibyte b bytes (omega arith)

  pub lead_two : 0xC2 ≤ b → b < 0xE0 → char_size multibyte (b ∷ bytes) ≡ size_if (continuation ∷ []) bytes
  lead_two l h = its_row multibyte 0 b bytes refl (omega arith) l (omega arith)

  second_is : (rest : List ByteRange) (low high : ℕ) → char_size multibyte (b ∷ bytes) ≡ size_if (low to high ∷ rest) bytes
      → second_low b ≡ low → second_high b ≡ high
      → char_size multibyte (b ∷ bytes) ≡ size_if (second_low b to second_high b ∷ rest) bytes
  second_is rest low high e l h = rw (l, h) e

  other_low : (b ≡ 0xE0 → ⊥) → (b ≡ 0xF0 → ⊥) → second_low b ≡ 0x80
  unfolding second_low either
  other_low m n = rw (ne_eqb b 0xE0 m, ne_eqb b 0xF0 n)

  other_high : (b ≡ 0xED → ⊥) → (b ≡ 0xF4 → ⊥) → second_high b ≡ 0xBF
  unfolding second_high either
  other_high m n = rw (ne_eqb b 0xED m, ne_eqb b 0xF4 n)

  pub lead_three : 0xE0 ≤ b → b < 0xF0 → char_size multibyte (b ∷ bytes) ≡ size_if (second_low b to second_high b ∷ continuation ∷ []) bytes
  unfolding second_low second_high either
  lead_three l h =
      elim (dec_le 0xE1 b) [
        | no m ↦ second_is (continuation ∷ []) 0xA0 0xBF (its_row multibyte 1 b bytes refl (omega arith) l (omega arith))
            (rw (eq-eqb b 0xE0 (omega arith))) (other_high (omega arith) (omega arith))
        | yes m ↦ elim (dec_le 0xED b) [
          | no n ↦ second_is (continuation ∷ []) 0x80 0xBF (its_row multibyte 2 b bytes refl (omega arith) m (omega arith))
              (other_low (omega arith) (omega arith)) (other_high (omega arith) (omega arith))
          | yes n ↦ elim (dec_le 0xEE b) [
            | no o ↦ second_is (continuation ∷ []) 0x80 0x9F (its_row multibyte 3 b bytes refl (omega arith) n (omega arith))
                (other_low (omega arith) (omega arith)) (rw (eq-eqb b 0xED (omega arith)))
            | yes o ↦ second_is (continuation ∷ []) 0x80 0xBF (its_row multibyte 4 b bytes refl (omega arith) o (omega arith))
                (other_low (omega arith) (omega arith)) (other_high (omega arith) (omega arith))
          ]
        ]
      ]

  pub lead_four : 0xF0 ≤ b → b < 0xF5 → char_size multibyte (b ∷ bytes) ≡ size_if (second_low b to second_high b ∷ continuation ∷ continuation ∷ []) bytes
  unfolding second_low second_high either
  lead_four l h =
      elim (dec_le 0xF1 b) [
        | no m ↦ second_is (continuation ∷ continuation ∷ []) 0x90 0xBF (its_row multibyte 5 b bytes refl (omega arith) l (omega arith))
            (rw (ne_eqb b 0xE0 (omega arith), eq-eqb b 0xF0 (omega arith))) (other_high (omega arith) (omega arith))
        | yes m ↦ elim (dec_le 0xF4 b) [
          | no n ↦ second_is (continuation ∷ continuation ∷ []) 0x80 0xBF (its_row multibyte 6 b bytes refl (omega arith) m (omega arith))
              (other_low (omega arith) (omega arith)) (other_high (omega arith) (omega arith))
          | yes n ↦ second_is (continuation ∷ continuation ∷ []) 0x80 0x8F (its_row multibyte 7 b bytes refl (omega arith) n (omega arith))
              (other_low (omega arith) (omega arith)) (rw (ne_eqb b 0xED (omega arith), eq-eqb b 0xF4 (omega arith)))
        ]
      ]
