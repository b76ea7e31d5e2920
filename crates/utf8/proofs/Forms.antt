-- A character by its row: the rows before it are passed by one comparison, and what holds of every row's characters holds of a character.
use Prim.Native.Nat.{ℕ, zero, suc, ◌≤◌, ◌<◌, max}
use mathlib.Core.Bool.{Bool, true, false, ◌&&◌, true≢false}
use mathlib.Core.List.{List, [], ◌∷◌}
use mathlib.Core.Path.{◌≡◌, refl, sym, ◌∙◌}
use native.Mathlib.Omega.{arith}
use native.Mathlib.Decide.{dec_le}
use borrow.Author.Tests.{le-leb, lt-leb, leb-true}
use lib.Dec.{leb}
use lib.ListN.{length, drop}
use Rattle.range.proofs.Tests.{both}
use Rattle.refusal.specs.Check.{either}
use Rattle.utf8.specs.Grammar.{ByteRange, ◌to◌, CharForm, ◌then◌, in_range, in_ranges, size_if, char_size}

-- ---- ranges

module _ (low high b : ℕ) where
  pub in-range : low ≤ b → b ≤ high → in_range (low to high) b ≡ true
  unfolding in_range
  in-range l h = rw (le-leb low b l, le-leb b high h)

  pub above_range : high < b → in_range (low to high) b ≡ false
  unfolding in_range
  above_range h = go (leb low b)
    where
      go : (t : Bool) → (t && leb b high) ≡ false
      go true = lt-leb b high h
      go false = refl

  pub below_range : b < low → in_range (low to high) b ≡ false
  unfolding in_range
  below_range h = rw (lt-leb low b h)

  pub range_bounds : in_range (low to high) b ≡ true → (low ≤ b) × (b ≤ high)
  unfolding in_range
  range_bounds e = let p = (both (leb low b) (leb b high)).0 e in (leb-true low b p.0, leb-true b high p.1)

  pub under_bounds : in_range (low to high) b ≡ false → b ≤ high → b < low
  under_bounds e h =
      elim (dec_le low b) [
        | yes l ↦ absurd (true≢false (sym (in-range l h) ∙ e))
        | no m ↦ omega arith
      ]

-- ---- the row of a first byte

-- the least byte above the first n rows
abbrev pub after_rows : ℕ → List CharForm → ℕ
after_rows zero rows = 0
after_rows (suc n) [] = 0
after_rows (suc n) ((low to high then rest) ∷ rows) = max (suc high) (after_rows n rows)

pub rows_passed : (n : ℕ) (rows : List CharForm) (b : ℕ) (bytes : List ℕ) → after_rows n rows ≤ b → char_size rows (b ∷ bytes) ≡ char_size (drop n rows) (b ∷ bytes)
unfolding char_size either
rows_passed zero rows b bytes h = refl
rows_passed (suc n) [] b bytes h = refl
rows_passed (suc n) ((low to high then rest) ∷ rows) b bytes h = rw (above_range low high b (omega arith)) (rows_passed n rows b bytes (omega arith))

module _ {low high : ℕ} {rest : List ByteRange} where
  pub its_row : (rows : List CharForm) (n b : ℕ) (bytes : List ℕ)
      → drop n rows ≡ (low to high then rest) ∷ drop (suc n) rows → after_rows n rows ≤ low → low ≤ b → b ≤ high
      → char_size rows (b ∷ bytes) ≡ size_if rest bytes
  unfolding char_size either
  its_row rows n b bytes e p l h = rows_passed n rows b bytes (omega arith) ∙ rw (e, in-range low high b l h)

-- ---- bytes of ranges

pub in_ranges_cons : {low high x : ℕ} (ranges : List ByteRange) (bytes : List ℕ) → low ≤ x → x ≤ high → in_ranges ranges bytes ≡ true
    → in_ranges (low to high ∷ ranges) (x ∷ bytes) ≡ true
unfolding in_ranges
in_ranges_cons {low} {high} {x} ranges bytes l h f = rw (in-range low high x l h) f

pub in_ranges_nil : (bytes : List ℕ) → in_ranges [] bytes ≡ true
unfolding in_ranges
in_ranges_nil bytes = refl

-- bytes in their ranges are a byte of the first and bytes in the others
pub uncons : (P : List ℕ → Type 0) (low high : ℕ) (ranges : List ByteRange) (bytes : List ℕ) → in_ranges (low to high ∷ ranges) bytes ≡ true
    → ((x : ℕ) (rest : List ℕ) → low ≤ x → x ≤ high → in_ranges ranges rest ≡ true → P (x ∷ rest)) → P bytes
unfolding in_ranges
uncons P low high ranges [] e f = absurd (true≢false (sym e))
uncons P low high ranges (x ∷ rest) e f =
    let t = (both (in_range (low to high) x) (in_ranges ranges rest)).0 e in
    let i = range_bounds low high x t.0 in
    f x rest i.0 i.1 t.1

pub in_ranges_length : (ranges : List ByteRange) (bytes : List ℕ) → in_ranges ranges bytes ≡ true → length ranges ≤ length bytes
unfolding in_ranges
in_ranges_length [] bytes e = omega arith
in_ranges_length (r ∷ ranges) [] e = absurd (true≢false (sym e))
in_ranges_length (r ∷ ranges) (b ∷ bytes) e = omega (arith, in_ranges_length ranges bytes ((both (in_range r b) (in_ranges ranges bytes)).0 e).1)

-- what holds of every row's characters holds of a character
abbrev pub Each : List CharForm → ℕ → List ℕ → (ℕ → Type 0) → Type 0
Each [] b bytes Q = Unit {0}
Each ((low to high then rest) ∷ rows) b bytes Q = (low ≤ b → b ≤ high → in_ranges rest bytes ≡ true → Q (length rest)) × Each rows b bytes Q

pub by_rows : (rows : List CharForm) (b : ℕ) (bytes : List ℕ) (Q : ℕ → Type 0) → Each rows b bytes Q → (k : ℕ) → char_size rows (b ∷ bytes) ≡ suc k → Q k
unfolding char_size size_if either
by_rows [] b bytes Q each k e = absurd (omega arith)
by_rows ((low to high then rest) ∷ rows) b bytes Q each k e =
    go (in_range (low to high) b) refl (in_ranges rest bytes) refl (λ e. by_rows rows b bytes Q each.1 k e) e
  where
    go : (t : Bool) → in_range (low to high) b ≡ t → (u : Bool) → in_ranges rest bytes ≡ u → (char_size rows (b ∷ bytes) ≡ suc k → Q k)
        → either t (either u (suc (length rest)) 0) (char_size rows (b ∷ bytes)) ≡ suc k → Q k
    go true p true q later e =
        let i = range_bounds low high b p in
        let z : length rest ≡ k = omega arith in
        rw z at (each.0 i.0 i.1 q)
    go true p false q later e = absurd (omega arith)
    go false p u q later e = later e
