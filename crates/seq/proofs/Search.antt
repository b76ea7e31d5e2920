-- The search by halving in a sequence that does not fall; in a sorted one it finds the key's position.
use Rattle.std.specs.Prelude.{None, Option, Some}
use Prim.Native.Nat.{ℕ, zero, suc, ◌+◌, ◌-◌, ◌/◌, ◌≤◌, ◌<◌}
use mathlib.Core.Bool.{Bool, true, false, true≢false}
use mathlib.Core.Logic.{◌⊎◌, inl, inr, ◌↔◌}
use mathlib.Core.Path.{◌≡◌, refl, sym, ap, ◌∙◌}
use native.Mathlib.Nat.{eq-or-lt_of_le, le_of_suc-le-suc, not-suc-le-zero}
use native.Mathlib.Numerals.{add-one}
use native.Mathlib.Decide.{dec_le}
use native.Mathlib.Omega.{arith}
use borrow.Author.Tests.{leb-true, leb-false, le-leb, lt-leb, eqb-true, eqb-false, eq-eqb, ne_eqb}
use lib.Dec.{leb, eqb}
use Rattle.refusal.specs.Check.{either}
use Rattle.seq.specs.Sequence.{position, last_up_to, Sorted, NonDecreasing, Window}

-- the search by halving: all before `lo` is below the key, and all from `hi` on is at least the key
pub record Bracket (f : ℕ → ℕ) (n key lo hi : ℕ) : Type 0 where
  pub lo_le : lo ≤ hi
  pub hi_le : hi ≤ n
  pub below : (k : ℕ) → k < lo → f k < key
  pub above : (k : ℕ) → hi ≤ k → k < n → key ≤ f k

pub bracket_start : (f : ℕ → ℕ) (n key : ℕ) → Bracket f n key 0 n
bracket_start f n key = record { lo_le = omega arith; hi_le = omega arith; below = λ k l. omega arith; above = λ k l m. omega arith }

module _ {f : ℕ → ℕ} {n key lo hi : ℕ} (s : NonDecreasing f n) (b : Bracket f n key lo hi) (m : ℕ) (lm : lo ≤ m) (mh : m < hi) where
  pub bracket_up : f m < key → Bracket f n key (m + 1) hi
  bracket_up c = record {
    lo_le = omega arith;
    hi_le = b.hi_le;
    below = λ k l. up k (eq-or-lt_of_le (le_of_suc-le-suc (rw (add-one m) at l)));
    above = b.above;
  }
    where
      up : (k : ℕ) → (k ≡ m) ⊎ (k < m) → f k < key
      up k (inl e) = rw e c
      up k (inr l) = omega (arith, s k m l (omega (arith, b.hi_le)))

  pub bracket_down : key ≤ f m → Bracket f n key lo m
  bracket_down c = record {
    lo_le = lm;
    hi_le = omega (arith, b.hi_le);
    below = b.below;
    above = λ k l q. down k q (eq-or-lt_of_le l);
  }
    where
      down : (k : ℕ) → k < n → (m ≡ k) ⊎ (m < k) → key ≤ f k
      down k q (inl e) = rw (← e) c
      down k q (inr l) = omega (arith, s m k l q)

-- ---- what the positions are

-- of the numbers below n, a test holds of k and of none after it; it holds of none
abbrev LastIs : (t : ℕ → Bool) (n k : ℕ) → Type 0
LastIs t n k = (k < n) × (t k ≡ true) × ((j : ℕ) → k < j → j < n → t j ≡ false)

abbrev NoneIs : (t : ℕ → Bool) (n : ℕ) → Type 0
NoneIs t n = (k : ℕ) → k < n → t k ≡ false

-- a search that takes n where the test holds of it, and else goes on below n
record TakesLast (t : ℕ → Bool) (s : ℕ → Option ℕ) : Type 0 where
  at : (n k : ℕ) → (s n ≡ Some k) ↔ LastIs t n k
  nowhere : (n : ℕ) → (s n ≡ None) ↔ NoneIs t n

takes_last : (t : ℕ → Bool) (s : ℕ → Option ℕ) → s 0 ≡ None → ((n : ℕ) → s (suc n) ≡ either (t n) (Some n) (s n)) → TakesLast t s
unfolding either
takes_last t s start more = record { at = at_iff; nowhere = nowhere_at }
  where
    -- the numbers below n + 1 are those below n, and n
    split : {k n : ℕ} → k < suc n → (k ≡ n) ⊎ (k < n)
    split l = eq-or-lt_of_le (le_of_suc-le-suc l)

    at_iff : (n k : ℕ) → (s n ≡ Some k) ↔ LastIs t n k
    at_iff zero k = (λ e. absurd (let z : ◌≡◌ {A = ℕ} 0 1 = cc in omega arith), λ h. absurd (not-suc-le-zero h.0))
    at_iff (suc n) k = rw (more n) (by (t n) refl (at_iff n k))
      where
        by : (b : Bool) → t n ≡ b → (s n ≡ Some k) ↔ LastIs t n k → (either b (Some n) (s n) ≡ Some k) ↔ LastIs t (suc n) k
        by true h r = (
          λ e. let z : n ≡ k = cc in (omega arith, rw (← z) h, λ j l m. absurd (omega arith)),
          λ l. elim (split l.0) [ inl x ↦ ap Some (sym x) | inr x ↦ absurd (true≢false (sym h ∙ l.2 n x (omega arith))) ],
        )
        by false h r = (
          λ e. let l = r.0 e in (omega (arith, l.0), l.1, λ j p q. elim (split q) [ inl x ↦ rw x h | inr x ↦ l.2 j p x ]),
          λ l. elim (split l.0) [
            | inl x ↦ absurd (true≢false (sym l.1 ∙ ap t x ∙ h))
            | inr x ↦ r.1 (x, l.1, λ j p q. l.2 j p (omega arith))
          ],
        )

    nowhere_at : (n : ℕ) → (s n ≡ None) ↔ NoneIs t n
    nowhere_at zero = (λ e k l. absurd (not-suc-le-zero l), λ h. start)
    nowhere_at (suc n) = rw (more n) (by (t n) refl (nowhere_at n))
      where
        by : (b : Bool) → t n ≡ b → (s n ≡ None) ↔ NoneIs t n → (either b (Some n) (s n) ≡ None) ↔ NoneIs t (suc n)
        by true h r = (λ e. absurd (let z : ◌≡◌ {A = ℕ} 0 1 = cc in omega arith), λ f. absurd (true≢false (sym h ∙ f n (omega arith))))
        by false h r = (λ e k l. elim (split l) [ inl x ↦ rw x h | inr x ↦ r.0 e k x ], λ f. r.1 (λ k l. f k (omega arith)))

module _ (f : ℕ → ℕ) (key : ℕ) where
  equals : TakesLast (λ k. eqb (f k) key) (position f key)
  unfolding position
  equals = takes_last (λ k. eqb (f k) key) (position f key) refl (λ n. refl)

  up_to : TakesLast (λ k. leb (f k) key) (last_up_to f key)
  unfolding last_up_to
  up_to = takes_last (λ k. leb (f k) key) (last_up_to f key) refl (λ n. refl)

-- in a sorted sequence a key's position is k exactly if it stands at k
pub position_iff : (f : ℕ → ℕ) (key n k : ℕ) → Sorted f n → (position f key n ≡ Some k) ↔ ((k < n) × (f k ≡ key))
position_iff f key n k s = (
  λ e. let l = ((equals f key).at n k).0 e in (l.0, eqb-true (f k) key l.1),
  λ h. ((equals f key).at n k).1 (h.0, eq-eqb (f k) key h.1, λ j l m. ne_eqb (f j) key (λ e. omega (arith, h.1, s k j l m))),
)

-- it is nowhere exactly if none of them is the key
pub nowhere_iff : (f : ℕ → ℕ) (key n : ℕ) → (position f key n ≡ None) ↔ ((k : ℕ) → k < n → f k ≡ key → ⊥)
nowhere_iff f key n = (
  λ e k l. eqb-false (f k) key (((equals f key).nowhere n).0 e k l),
  λ h. ((equals f key).nowhere n).1 (λ k l. ne_eqb (f k) key (h k l)),
)

-- the last that is not above a key is k exactly if k's is not, and all behind it are
pub last_iff : (f : ℕ → ℕ) (key n k : ℕ) → (last_up_to f key n ≡ Some k) ↔ ((k < n) × (f k ≤ key) × ((j : ℕ) → k < j → j < n → key < f j))
last_iff f key n k = (
  λ e. let l = ((up_to f key).at n k).0 e in (l.0, leb-true (f k) key l.1, λ j p q. leb-false (f j) key (l.2 j p q)),
  λ h. ((up_to f key).at n k).1 (h.0, le-leb (f k) key h.1, λ j p q. lt-leb (f j) key (h.2 j p q)),
)

-- it is nowhere exactly if all are above the key
pub last_nowhere_iff : (f : ℕ → ℕ) (key n : ℕ) → (last_up_to f key n ≡ None) ↔ ((k : ℕ) → k < n → key < f k)
last_nowhere_iff f key n = (
  λ e k l. leb-false (f k) key (((up_to f key).nowhere n).0 e k l),
  λ h. ((up_to f key).nowhere n).1 (λ k l. lt-leb (f k) key (h k l)),
)

-- by one direction of these
pub position_none : (f : ℕ → ℕ) (key n : ℕ) → ((k : ℕ) → k < n → f k ≡ key → ⊥) → position f key n ≡ None
position_none f key n = (nowhere_iff f key n).1

pub position_at : (f : ℕ → ℕ) (key n : ℕ) → Sorted f n → (k : ℕ) → k < n → f k ≡ key → position f key n ≡ Some k
position_at f key n s k l e = (position_iff f key n k s).1 (l, e)

-- a position is below the number searched
pub position_below : (f : ℕ → ℕ) (key n k : ℕ) → position f key n ≡ Some k → k < n
position_below f key n k e = (((equals f key).at n k).0 e).0

-- and the key stands there
pub position_key : (f : ℕ → ℕ) (key n k : ℕ) → position f key n ≡ Some k → f k ≡ key
position_key f key n k e = eqb-true (f k) key (((equals f key).at n k).0 e).1

pub last_below : (f : ℕ → ℕ) (key n k : ℕ) → last_up_to f key n ≡ Some k → k < n
last_below f key n k e = ((last_iff f key n k).0 e).0

-- the last that is not above a key, where the ends have met on the way to the first above it
module _ (key : ℕ) {f : ℕ → ℕ} {n lo hi : ℕ} (b : Bracket f n (key + 1) lo hi) (m : hi ≤ lo) where
  pub bracket_before : lo ≡ 0 → last_up_to f key n ≡ None
  bracket_before e = (last_nowhere_iff f key n).1 (λ k l. omega (arith, b.above k (omega (arith, b.lo_le)) l))

  pub bracket_last : 0 < lo → last_up_to f key n ≡ Some (lo - 1)
  bracket_last l = (last_iff f key n (lo - 1)).1 (
    omega (arith, b.lo_le, b.hi_le),
    omega (arith, b.below (lo - 1) (omega arith)),
    λ j p q. omega (arith, b.above j (omega arith) q),
  )

-- ---- narrowing down without a choice of sides

pub window_all : (f : ℕ → ℕ) (n key : ℕ) → 0 < n → Window f n key 0 n
window_all f n key h = record { some = h; fits = omega arith; after = λ k l e. omega arith; before = λ k l e. omega arith }

-- between two of them
pub window_between : (f : ℕ → ℕ) (n key low left : ℕ) → Sorted f n → 1 ≤ left → low + left < n → f low ≤ key → key < f (low + left)
    → Window f n key low left
window_between f n key low left s h l from to = record {
  some = h;
  fits = omega arith;
  after = λ k m e. elim (dec_le low k) [
    | yes x ↦ x
    | no x ↦ absurd (omega (arith, s k low (omega arith) (omega arith)))
  ];
  before = λ k m e. elim (dec_le (low + left) k) [
    | yes x ↦ absurd (not_from k m e x)
    | no x ↦ omega arith
  ];
}
  where
    not_from : (k : ℕ) → k < n → f k ≡ key → low + left ≤ k → ⊥
    not_from k m e x = last (eq-or-lt_of_le x)
      where
        last : (low + left ≡ k) ⊎ (low + left < k) → ⊥
        last (inl y) = let z : f (low + left) ≡ f k = ap f y in omega arith
        last (inr y) = omega (arith, s (low + left) k y m)

module _ {f : ℕ → ℕ} {n key low left : ℕ} (s : Sorted f n) (w : Window f n key low left) (h : 1 < left) where
  pub window_step : (half skip : ℕ) → half ≡ left / 2 → (f (low + half - 1) < key → skip ≡ half) → (key ≤ f (low + half - 1) → skip ≡ 0)
      → Window f n key (low + skip) (left - half)
  window_step half skip e up down = by (dec_le key (f (low + half - 1)))
    where
      l : low + left ≤ n
      l = w.fits

      by : Dec (key ≤ f (low + half - 1)) → Window f n key (low + skip) (left - half)
      by (yes k) =
          let z : skip ≡ 0 = down k in
          record {
            some = omega arith;
            fits = omega arith;
            after = λ j m q. omega (arith, w.after j m q);
            before = λ j m q. elim (dec_le j (low + half - 1)) [
              | yes x ↦ omega arith
              | no x ↦ absurd (omega (arith, s (low + half - 1) j (omega arith) m))
            ];
          }
      by (no k) =
          let z : skip ≡ half = up (omega arith) in
          record {
            some = omega arith;
            fits = omega arith;
            after = λ j m q. elim (dec_le (low + half) j) [
              | yes x ↦ omega arith
              | no x ↦ absurd (not_above j m q (omega arith))
            ];
            before = λ j m q. omega (arith, w.before j m q);
          }
        where
          not_above : (j : ℕ) → j < n → f j ≡ key → j ≤ low + half - 1 → ⊥
          not_above j m q x = last (eq-or-lt_of_le x)
            where
              last : (j ≡ low + half - 1) ⊎ (j < low + half - 1) → ⊥
              last (inl y) = let z : f j ≡ f (low + half - 1) = ap f y in omega arith
              last (inr y) = omega (arith, s j (low + half - 1) y (omega arith))

pub window_end : {f : ℕ → ℕ} {n key low left : ℕ} → Window f n key low left → left ≤ 1 → (f low ≡ key → ⊥)
    → (j : ℕ) → j < n → f j ≡ key → ⊥
window_end {f} {n} {key} {low} w h other j l e =
    let q : j ≡ low = omega (arith, w.after j l e, w.before j l e) in
    other (sym (ap f q) ∙ e)
