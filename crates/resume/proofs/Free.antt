-- Each visit fills a free slot of the table: with the depth, the number that falls.
use Prim.Native.Nat.{ℕ, zero, suc, ◌+◌, ◌<◌}
use mathlib.Core.List.{List, [], ◌∷◌}
use mathlib.Core.Path.{◌≡◌, refl}
use native.Mathlib.Omega.{arith}
use lib.ListN.{length, get_or, set}

abbrev one : ℕ → ℕ
one zero = 1
one (suc x) = 0

-- how many slots are 0
unfoldable pub free_slots : (table : List ℕ) → ℕ
free_slots [] = 0
free_slots (x ∷ t) = one x + free_slots t

one_free : (x : ℕ) → x ≡ 0 → one x ≡ 1
one_free zero h = refl
one_free (suc x) h = absurd (omega arith)

one_taken : (x : ℕ) → 0 < x → one x ≡ 0
one_taken zero h = absurd (omega arith)
one_taken (suc x) h = refl

pub fills : (t : List ℕ) (i v : ℕ) → i < length t → get_or t i 0 ≡ 0 → 0 < v → free_slots (set t i v) + 1 ≡ free_slots t
unfolding free_slots
fills [] i v k h p = absurd (omega arith)
fills (x ∷ t) zero v k h p = let a = one_free x h in let b = one_taken v p in omega arith
fills (x ∷ t) (suc i) v k h p = let r = fills t i v (omega arith) h p in omega arith
