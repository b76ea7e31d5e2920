-- Where one of many things stands, how long all are, and what padding comes to. The place of thing k is the length of those before it.
use Prim.Native.Nat.{ℕ, zero, suc, ◌+◌, ◌*◌, ◌%◌, ◌≤◌, ◌<◌}
use mathlib.Core.Path.{◌≡◌, refl}
use mathlib.Core.Logic.{◌⊎◌, inl, inr}
use mathlib.Core.List.{List, [], ◌++◌}
use native.Mathlib.Nat.{suc-mul, zero-mul, zero-mod, add-mod, eq-or-lt_of_le, le_of_suc-le-suc, not-suc-le-zero}
use native.Mathlib.Omega.{arith}
use lib.ListN.{length, length-append, length-replicate}
use Rattle.layout.specs.Many.{many, to_four, zeros}
use Rattle.layout.specs.Stands.{Stands}
use Rattle.layout.proofs.Laws.{left, right}

pub many_none : (e : ℕ → List ℕ) → many e 0 ≡ []
unfolding many
many_none e = refl

pub many_suc : (e : ℕ → List ℕ) (n : ℕ) → many e (suc n) ≡ many e n ++ e n
unfolding many
many_suc e n = refl

-- thing k stands behind those before it
pub many_at : {file : List ℕ} {at : ℕ} → (e : ℕ → List ℕ) (n : ℕ) → Stands file at (many e n) → (k : ℕ) → k < n
    → Stands file (at + length (many e k)) (e k)
many_at e zero h k l = absurd (not-suc-le-zero l)
many_at {file} {at} e (suc n) h k l = last (eq-or-lt_of_le (le_of_suc-le-suc l)) (many_at e n (left file at (many e n) (e n) g) k)
  where
    g : Stands file at (many e n ++ e n)
    g = rw many_suc at h

    last : (k ≡ n) ⊎ (k < n) → (k < n → Stands file (at + length (many e k)) (e k)) → Stands file (at + length (many e k)) (e k)
    last (inl q) r = rw q (right file at (many e n) (e n) g)
    last (inr m) r = r m

-- ---- lengths

-- one more
pub length_next : (e : ℕ → List ℕ) (n : ℕ) → length (many e (suc n)) ≡ length (many e n) + length (e n)
unfolding many
length_next e n = length-append (many e n) (e n)

-- things of one length
pub length_many : (e : ℕ → List ℕ) (z n : ℕ) → ((k : ℕ) → k < n → length (e k) ≡ z) → length (many e n) ≡ n * z
unfolding many
length_many e z zero h = rw zero-mul
length_many e z (suc n) h = rw (length-append, length_many e z n (λ k l. h k (omega arith)), h n (omega arith), suc-mul)

-- things whose lengths are multiples of z
pub length_multiple : (e : ℕ → List ℕ) (z : ℕ) → ((k : ℕ) → length (e k) % z ≡ 0) → (n : ℕ) → length (many e n) % z ≡ 0
unfolding many
length_multiple e z h zero = zero-mod z
length_multiple e z h (suc n) = rw (length-append, add-mod, length_multiple e z h n, h n) (zero-mod z)

-- some of them are no longer than all
many_below : (e : ℕ → List ℕ) (k n : ℕ) → k ≤ n → length (many e k) ≤ length (many e n)
many_below e k zero h = let z : k ≡ 0 = omega arith in rw z (omega arith)
many_below e k (suc n) h = last (eq-or-lt_of_le h) (many_below e k n)
  where
    last : (k ≡ suc n) ⊎ (k < suc n) → (k ≤ n → length (many e k) ≤ length (many e n)) → length (many e k) ≤ length (many e (suc n))
    last (inl q) r = rw q (omega arith)
    last (inr m) r = omega (arith, r (le_of_suc-le-suc m), length_next e n)

-- thing k ends where all end at the latest
pub many_ends : (e : ℕ → List ℕ) (k n : ℕ) → k < n → length (many e k) + length (e k) ≤ length (many e n)
many_ends e k n h = omega (arith, many_below e (suc k) n h, length_next e k)

-- ---- padding

pub to-four : (n : ℕ) → (n + to_four n) % 4 ≡ 0
unfolding to_four
to-four n = omega arith

pub length_zeros : (n : ℕ) → length (zeros n) ≡ n
unfolding zeros
length_zeros n = length-replicate n 0
