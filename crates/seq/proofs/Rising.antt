-- The loop that tests whether a sequence rises; in one that does, any two are a gap apart, and the other way round.
use Prim.Native.Nat.{ℕ, zero, suc, ◌+◌, ◌≤◌, ◌<◌}
use mathlib.Core.Bool.{Bool, true, false, ◌&&◌, true≢false}
use mathlib.Core.Logic.{◌⊎◌, inl, inr}
use mathlib.Core.Path.{◌≡◌, refl, sym, ◌∙◌}
use native.Mathlib.Nat.{eq-or-lt_of_le, le_of_suc-le-suc, not-suc-le-zero}
use native.Mathlib.Numerals.{add-one}
use native.Mathlib.Omega.{arith}
use borrow.Author.Tests.{le-leb, lt-leb, leb-true, leb-false}
use lib.Dec.{leb}
use Rattle.seq.specs.Sequence.{floor, rises, Sorted, NonDecreasing}
use Rattle.seq.proofs.Every.{every_none, every_next, every_more, every_at, every_of, every_not, every_broken}

and_assoc : (a b c : Bool) → (a && (b && c)) ≡ ((a && b) && c)
and_assoc true b c = refl
and_assoc false b c = refl

all_four : (a b c d : Bool) → ((a && b) && (c && d)) ≡ true → (a ≡ true) × (b ≡ true) × (c ≡ true) × (d ≡ true)
all_four true true true d e = (refl, refl, refl, e)
all_four true true false d e = absurd (true≢false (sym e))
all_four true false c d e = absurd (true≢false (sym e))
all_four false b c d e = absurd (true≢false (sym e))

module _ (least gap : ℕ) (f : ℕ → ℕ) where
  abbrev test : ℕ → Bool
  test k = leb (floor least gap f k) (f k)

  floor_first : floor least gap f 0 ≡ least
  unfolding floor
  floor_first = refl

  floor_next : (k : ℕ) → floor least gap f (suc k) ≡ f k + gap
  unfolding floor
  floor_next k = refl

  pub rises_none : rises least gap f 0 ≡ true
  unfolding rises
  rises_none = every_none test

  pub rises_at : (n : ℕ) → rises least gap f n ≡ true → (k : ℕ) → k < n → floor least gap f k ≤ f k
  unfolding rises
  rises_at n h k l = leb-true (floor least gap f k) (f k) (every_at test n h k l)

  pub rises_first : (n : ℕ) → rises least gap f n ≡ true → 0 < n → least ≤ f 0
  rises_first n h l = rw floor_first at (rises_at n h 0 l)

  pub rises_next : (n : ℕ) → rises least gap f n ≡ true → (k : ℕ) → suc k < n → f k + gap ≤ f (suc k)
  rises_next n h k l = rw (floor_next k) at (rises_at n h (suc k) l)

  pub rises_of : (n : ℕ) → (0 < n → least ≤ f 0) → ((k : ℕ) → suc k < n → f k + gap ≤ f (suc k)) → rises least gap f n ≡ true
  unfolding rises
  rises_of n first next = every_of test n at
    where
      at : (k : ℕ) → k < n → test k ≡ true
      at zero l = le-leb (floor least gap f 0) (f 0) (rw floor_first (first l))
      at (suc k) l = le-leb (floor least gap f (suc k)) (f (suc k)) (rw (floor_next k) (next k l))

  -- where they do not rise, the first is too low, or one is less than a gap above the one before it
  pub rises_broken : (n : ℕ) → rises least gap f n ≡ false
      → ((0 < n) × (f 0 < least)) ⊎ ((k : ℕ) × ((suc k < n) × (f (suc k) < f k + gap)))
  unfolding rises
  rises_broken n h = at (every_broken test n h)
    where
      at : (k : ℕ) × ((k < n) × (test k ≡ false)) → ((0 < n) × (f 0 < least)) ⊎ ((k : ℕ) × ((suc k < n) × (f (suc k) < f k + gap)))
      at (zero, (l, e)) = inl (l, rw floor_first at (leb-false (floor least gap f 0) (f 0) e))
      at (suc k, (l, e)) = inr (k, (l, rw (floor_next k) at (leb-false (floor least gap f (suc k)) (f (suc k)) e)))

  -- where some do not rise, nor do more
  pub rises_longer : (m n : ℕ) → m ≤ n → rises least gap f m ≡ false → rises least gap f n ≡ false
  unfolding rises
  rises_longer m n l h = let k = every_broken test m h in every_not test n k.0 (omega (arith, k.1.0)) k.1.1

  -- one more, and four more, by a test of what stands there
  rises_step : (k m n : ℕ) → m ≡ k + 1 → n ≡ m + 1 → rises least gap f n ≡ (rises least gap f m && leb (f k + gap) (f m))
  unfolding rises
  rises_step k m n e g =
      let low : floor least gap f m ≡ f k + gap = rw (e, add-one) (floor_next k) in
      rw (g, every_next test m, low)

  pub rises_four : (k : ℕ) {before one two three four : ℕ}
      → before ≡ f k → one ≡ f (k + 1) → two ≡ f (k + 2) → three ≡ f (k + 3) → four ≡ f (k + 4)
      → rises least gap f (k + 1) ≡ true
      → ((leb (before + gap) one && leb (one + gap) two) && (leb (two + gap) three && leb (three + gap) four)) ≡ rises least gap f (k + 5)
  rises_four k e0 e1 e2 e3 e4 h =
      rw (
        rises_step (k + 3) (k + 4) (k + 5) (omega arith) (omega arith),
        rises_step (k + 2) (k + 3) (k + 4) (omega arith) (omega arith),
        rises_step (k + 1) (k + 2) (k + 3) (omega arith) (omega arith),
        rises_step k (k + 1) (k + 2) refl (omega arith),
        h,
        e0,
        e1,
        e2,
        e3,
        e4,
      )
      (and_assoc _ (leb (f (k + 2) + gap) (f (k + 3))) (leb (f (k + 3) + gap) (f (k + 4))))

  -- the same by any test that says so of two
  pub four_tested : (test : ℕ → ℕ → Bool) → ((a b : ℕ) → test a b ≡ true → a + gap ≤ b) → (k : ℕ) {before one two three four : ℕ}
      → before ≡ f k → one ≡ f (k + 1) → two ≡ f (k + 2) → three ≡ f (k + 3) → four ≡ f (k + 4)
      → ((test before one && test one two) && (test two three && test three four)) ≡ true
      → rises least gap f (k + 1) ≡ true → rises least gap f (k + 5) ≡ true
  four_tested test says k {before} {one} {two} {three} {four} e0 e1 e2 e3 e4 t h =
      let so = all_four (test before one) (test one two) (test two three) (test three four) t in
      sym (rises_four k e0 e1 e2 e3 e4 h)
      ∙ rw (
        le-leb (before + gap) one (says before one so.0),
        le-leb (one + gap) two (says one two so.1),
        le-leb (two + gap) three (says two three so.2),
        le-leb (three + gap) four (says three four so.3),
      )

-- the loop: k passed, all of them right, and the next is to be at least `low`
pub record Rising (least gap : ℕ) (f : ℕ → ℕ) (n low k : ℕ) : Type 0 where
  pub within : k ≤ n
  pub low_is : low ≡ floor least gap f k
  pub so_far : rises least gap f k ≡ true

pub rising_start : (least gap : ℕ) (f : ℕ → ℕ) (n : ℕ) → Rising least gap f n least 0
unfolding floor
rising_start least gap f n = record { within = omega arith; low_is = refl; so_far = rises_none least gap f }

module _ {least gap : ℕ} {f : ℕ → ℕ} {n low k : ℕ} (r : Rising least gap f n low k) where
  pub rising_not : k < n → f k < low → rises least gap f n ≡ false
  unfolding rises
  rising_not l h = every_not (test least gap f) n k l (lt-leb _ _ (rw r.low_is at h))

  pub rising_more : k < n → low ≤ f k → Rising least gap f n (f k + gap) (k + 1)
  unfolding rises floor
  rising_more l h = record {
    within = omega arith;
    low_is = rw (add-one k);
    so_far = every_more (test least gap f) k r.so_far (le-leb _ _ (rw r.low_is at h));
  }

  pub rising_all : n ≤ k → rises least gap f n ≡ true
  rising_all h = let e : n ≡ k = omega (arith, r.within) in rw e r.so_far

-- ---- any two of them

-- what holds of neighbours holds of any two: they are a gap apart
apart : (gap : ℕ) (f : ℕ → ℕ) (n : ℕ) → ((k : ℕ) → suc k < n → f k + gap ≤ f (suc k)) → (p q : ℕ) → p < q → q < n → f p + gap ≤ f q
apart gap f n h p zero l m = absurd (not-suc-le-zero l)
apart gap f n h p (suc q) l m = last (eq-or-lt_of_le (le_of_suc-le-suc l)) (h q m) (apart gap f n h p q)
  where
    last : (p ≡ q) ⊎ (p < q) → f q + gap ≤ f (suc q) → (p < q → q < n → f p + gap ≤ f q) → f p + gap ≤ f (suc q)
    last (inl e) s r = rw e s
    last (inr k) s r = omega (arith, r k (omega arith))

pub rises_apart : (least gap : ℕ) (f : ℕ → ℕ) (n : ℕ) → rises least gap f n ≡ true → (p q : ℕ) → p < q → q < n → f p + gap ≤ f q
rises_apart least gap f n h = apart gap f n (rises_next least gap f n h)

pub rises_nondecreasing : (least gap : ℕ) (f : ℕ → ℕ) (n : ℕ) → rises least gap f n ≡ true → NonDecreasing f n
rises_nondecreasing least gap f n h p q l m = omega (arith, rises_apart least gap f n h p q l m)

-- with a gap of 1
pub next_sorted : (f : ℕ → ℕ) (n : ℕ) → ((k : ℕ) → suc k < n → f k < f (suc k)) → Sorted f n
next_sorted f n h p q l m = omega (arith, apart 1 f n (λ k l. omega (arith, h k l)) p q l m)

pub rises_sorted : (least : ℕ) (f : ℕ → ℕ) (n : ℕ) → rises least 1 f n ≡ true → Sorted f n
rises_sorted least f n h p q l m = omega (arith, rises_apart least 1 f n h p q l m)

pub sorted_rises : (least : ℕ) (f : ℕ → ℕ) (n : ℕ) → Sorted f n → (0 < n → least ≤ f 0) → rises least 1 f n ≡ true
sorted_rises least f n s m = rises_of least 1 f n m (λ k l. omega (arith, s k (suc k) (omega arith) l))

pub all_least : (least : ℕ) (f : ℕ → ℕ) (n : ℕ) → rises least 1 f n ≡ true → (k : ℕ) → k < n → least ≤ f k
all_least least f n h zero l = rises_first least 1 f n h l
all_least least f n h (suc k) l = omega (arith, all_least least f n h k (omega arith), rises_next least 1 f n h k l)
