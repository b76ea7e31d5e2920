-- Laws of `number`: by its first byte, by its first m bytes, past the end, and byte by byte. All else about reads follows from `split`, `past`
-- and `clamped`.
use Prim.Native.Nat.{ℕ, zero, suc, ◌+◌, ◌-◌, ◌*◌, ◌^◌, ◌≤◌, ◌<◌, min}
use mathlib.Core.List.{List, [], ◌∷◌}
use mathlib.Core.Path.{◌≡◌, refl, ap, sym, ◌∙◌}
use native.Mathlib.Numerals.{add-one}
use native.Mathlib.Nat.{zero-add, add-zero, suc-add, pow-succ', mul_assoc, mul_comm}
use native.Mathlib.Decide.{dec_le}
use native.Mathlib.Omega.{arith}
use Rattle.std.proofs.Common.{◌++◌, slice_index}
use Rattle.std.proofs.lemmas.List.{take-take, take_min, drop-replicate, length-drop}
use Rattle.std.specs.Int.{sum_through, byte_worth, from_le_bytes, w16, w32, w64}
use lib.ListN.{length, get_or, take, drop, replicate, drop_of_length-le}
use lib.Seq.{take-nil}
use Rattle.le.specs.Number.{value, number}

first_and_rest : (n : ℕ) (s : List ℕ) (at : ℕ) → value (take (suc n) (drop at s)) ≡ get_or s at 0 + 256 * value (take n (drop (suc at) s))
first_and_rest n [] zero = simp take-nil
first_and_rest n [] (suc at) = simp take-nil
first_and_rest n (x ∷ s) zero = refl
first_and_rest n (x ∷ s) (suc at) = first_and_rest n s at

-- the first byte, and the rest
pub step : (n : ℕ) (s : List ℕ) (at : ℕ) → number (suc n) s at ≡ get_or s at 0 + 256 * number n s (at + 1)
unfolding number
step n s at = rw add-one (first_and_rest n s at)

pub none : (s : List ℕ) (at : ℕ) → number 0 s at ≡ 0
unfolding number
none s at = refl

pub past : (n : ℕ) (s : List ℕ) (at : ℕ) → length s ≤ at → number n s at ≡ 0
unfolding number
past n s at h = rw (drop_of_length-le s h, take-nil)

pub one : (s : List ℕ) (at : ℕ) → number 1 s at ≡ get_or s at 0
one s at = omega (arith, step 0 s at, none s (at + 1))

-- the first m bytes, and the n after them
pub split : (m n : ℕ) (s : List ℕ) (at : ℕ) → number (m + n) s at ≡ number m s at + 256 ^ m * number n s (at + m)
split zero n s at = rw (zero-add, add-zero, none) (omega arith)
split (suc m) n s at =
    let e : 256 ^ suc m * number n s (at + suc m) ≡ 256 * (256 ^ m * number n s (at + suc m)) =
    rw (pow-succ', mul_assoc) in
    let f : 256 ^ m * number n s (at + 1 + m) ≡ 256 ^ m * number n s (at + suc m) =
    ap (λ (k : ℕ). 256 ^ m * number n s k) (omega arith) in
    rw suc-add (omega (arith, step (m + n) s at, step m s at, split m n s (at + 1), e, f))

-- where every element is a byte, w of them hold a number below 256 ^ w
pub number_small : (s : List ℕ) → ((i : ℕ) → get_or s i 0 < 256) → (w at : ℕ) → number w s at < 256 ^ w
number_small s octets zero at = omega (arith, none s at)
number_small s octets (suc w) at = rw pow-succ' (omega (arith, step w s at, octets at, number_small s octets w (at + 1)))

-- every place past the end reads as the end does
pub clamped : (n : ℕ) (s : List ℕ) (at i : ℕ) → i ≡ min at (length s) → number n s i ≡ number n s at
clamped n s at i e =
    elim (dec_le at (length s)) [
      | yes h ↦ ap (number n s) (omega arith)
      | no h ↦ past n s i (omega arith) ∙ sym (past n s at (omega arith))
    ]

-- what stands at a place, taken out
pub taken : (n : ℕ) (s : List ℕ) (at : ℕ) {bytes : List ℕ} → bytes ≡ take (at + n - at) (drop at s) → number n bytes 0 ≡ number n s at
unfolding number
taken n s at e =
    let same : n ≤ n = omega arith in
    let size : at + n - at ≡ n = omega arith in
    rw (e, size) (simp take-take)

-- zeros behind the bytes
padded : (n k : ℕ) (s : List ℕ) → value (take n (s ++ replicate k 0)) ≡ value (take n s)
padded zero k s = refl
padded (suc n) zero [] = refl
padded (suc n) (suc k) [] =
    let rest : value (take n (replicate k 0)) ≡ 0 = padded n k [] ∙ ap value (take-nil n) in omega arith
padded (suc n) k (x ∷ s) = ap (λ (r : ℕ). x + 256 * r) (padded n k s)

-- what stands there of the file, and zeros
pub filled : (n m : ℕ) (s : List ℕ) (at : ℕ) {i : ℕ} {bytes : List ℕ} → bytes ≡ take (i + m - i) (drop i s) → m ≡ min n (length s - i) → i ≡ min at (length s)
    → number n (bytes ++ drop m (replicate n 0)) 0 ≡ number n s at
unfolding number
filled n m s at {i} {bytes} e f g =
    let same : n ≤ n = omega arith in
    let size : i + m - i ≡ m = omega arith in
    let all : take m (drop i s) ≡ take n (drop i s) = rw (f, ← length-drop i s) (take_min _ _) in
    let here : value (take n bytes) ≡ number n s i = rw (e, size, all) (simp take-take) in
    rw drop-replicate (padded n (n - m) bytes ∙ (here ∙ clamped n s at i g))

-- the sum over bytes
pub summed : (w : ℕ) (s : List ℕ) → number (suc w) s 0 ≡ sum_through (λ i. byte_worth i (slice_index s i)) w
summed zero s = one s 0
summed (suc w) s =
    let e : 0 + suc w ≡ suc w = omega arith in
    rw (← add-one, split (suc w) 1 s 0, e, one s (suc w), summed w s, mul_comm (256 ^ suc w))

-- at each width, as std's `from_le_bytes` has it
pub word_2 : (s : List ℕ) → number 2 s 0 ≡ from_le_bytes w16 s
word_2 = summed 1

pub word_4 : (s : List ℕ) → number 4 s 0 ≡ from_le_bytes w32 s
word_4 = summed 3

pub word_8 : (s : List ℕ) → number 8 s 0 ≡ from_le_bytes w64 s
word_8 = summed 7

pub ruleset words = (one, word_2, word_4, word_8)

-- a number of eight bytes by its halves
pub halves : (s : List ℕ) (at : ℕ) → number 8 s at ≡ number 4 s at + 0x100000000 * number 4 s (at + 4)
halves = split 4 4
