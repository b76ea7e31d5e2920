-- Sequences of numbers: f 0, .., f (n - 1).
use Rattle.std.specs.Prelude.{ℕ, zero, suc, ◌+◌, ◌≤◌, ◌<◌, Bool, true, ◌&&◌, ◌≡◌, leb, eqb, None, Option, Some}
use Rattle.refusal.specs.Check.{either}

-- a test holds of every number below n
unfoldable pub every : (ℕ → Bool) → (n : ℕ) → Bool
every test zero = true
every test (suc n) = every test n && test n

-- f 0 + .. + f (n - 1)
unfoldable pub sum : (ℕ → ℕ) → (n : ℕ) → ℕ
sum f zero = 0
sum f (suc n) = sum f n + f n

-- the least that f k may be: `least` at first, and then `gap` more than the one before it
unfoldable pub floor : (least gap : ℕ) → (ℕ → ℕ) → (k : ℕ) → ℕ
floor least gap f zero = least
floor least gap f (suc k) = f k + gap

-- with a gap of 1 they increase strictly; with 0 they do not fall
unfoldable pub rises : (least gap : ℕ) → (ℕ → ℕ) → (n : ℕ) → Bool
rises least gap f n = every (λ k. leb (floor least gap f k) (f k)) n

-- where a key is among them
unfoldable pub position : (ℕ → ℕ) → (key n : ℕ) → Option ℕ
position f key zero = None
position f key (suc n) = either (eqb (f n) key) (Some n) (position f key n)

-- where the last of them is that is not above a key
unfoldable pub last_up_to : (ℕ → ℕ) → (key n : ℕ) → Option ℕ
last_up_to f key zero = None
last_up_to f key (suc n) = either (leb (f n) key) (Some n) (last_up_to f key n)

-- as facts: they increase strictly; they do not fall
abbrev pub Sorted : (ℕ → ℕ) → (n : ℕ) → Type 0
Sorted f n = (p q : ℕ) → p < q → q < n → f p < f q

abbrev pub NonDecreasing : (ℕ → ℕ) → (n : ℕ) → Type 0
NonDecreasing f n = (p q : ℕ) → p < q → q < n → f p ≤ f q

-- what a search has narrowed down to: where a key is, if anywhere, is among the `left` from `low` on
pub record Window (f : ℕ → ℕ) (n key low left : ℕ) : Type 0 where
  pub some : 1 ≤ left
  pub fits : low + left ≤ n
  pub after : (k : ℕ) → k < n → f k ≡ key → low ≤ k
  pub before : (k : ℕ) → k < n → f k ≡ key → k < low + left

-- what is read of number k, where calls of a function are what `reads` says, is f k
abbrev pub Gives : (reads : ℕ → ℕ → Type 0) → (ℕ → ℕ) → (n : ℕ) → Type 0
Gives reads f n = (k x : ℕ) → k < n → reads k x → x ≡ f k
