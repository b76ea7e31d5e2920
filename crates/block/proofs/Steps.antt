-- One step of the search, which takes no branch; keys that no id can be.
use Prim.Native.Nat.{ℕ, ◌+◌, ◌-◌, ◌*◌, ◌/◌, ◌^◌, ◌≤◌, ◌<◌}
use mathlib.Core.Bool.{Bool, true, false, ◌||◌, true≢false}
use mathlib.Core.List.{List}
use mathlib.Core.Logic.{inl, inr}
use mathlib.Core.Path.{◌≡◌, refl}
use native.Mathlib.Nat.{mul-one, mul-zero}
use native.Mathlib.Decide.{dec_le}
use native.Mathlib.Omega.{arith}
use borrow.Author.Tests.{ltb-true, ltb-false, eqb-true, eqb-false}
use lib.Dec.{ltb, eqb}
use lib.ListN.{get_or}
use Rattle.le.specs.Number.{number}
use Rattle.le.proofs.Laws.{number_small}
use Rattle.range.proofs.Tests.{unless}
use Rattle.block.specs.Block.{id_at}
use Rattle.block.specs.Sound.{IdWidth}

-- by whether the id is below the key
pub quotient_takes : (id key half : ℕ) → id < 4294967296 → key < 4294967296
    → (id < key → half * ((key + 4294967295 - id) / 4294967296) ≡ half) × (key ≤ id → half * ((key + 4294967295 - id) / 4294967296) ≡ 0)
quotient_takes id key half h k = (
  λ l. let e : (key + 4294967295 - id) / 4294967296 ≡ 1 = omega arith in rw (e, mul-one),
  λ l. let e : (key + 4294967295 - id) / 4294967296 ≡ 0 = omega arith in rw (e, mul-zero),
)

pub at_most : {id key half r : ℕ} → (id < key → r ≡ half) × (key ≤ id → r ≡ 0) → r ≤ half
at_most {id} {key} {half} {r} h = elim (dec_le key id) [
  | yes l ↦ let e : r ≡ 0 = h.1 l in omega arith
  | no l ↦ let e : r ≡ half = h.0 (omega arith) in omega arith
]

-- an id has at most four bytes
pub id_small : (s : List ℕ) → ((i : ℕ) → get_or s i 0 < 256) → {w : ℕ} → IdWidth w → (at k : ℕ) → id_at w s at k < 4294967296
unfolding id_at
id_small s octets {w} (inl e) at k = let n : number w s (at + k * (w + 8)) < 256 ^ 2 = rw e (number_small s octets 2 (at + k * (2 + 8))) in omega arith
id_small s octets {w} (inr e) at k = rw e (number_small s octets 4 (at + k * (4 + 8)))

-- where there are none, or the key is larger than any id, it is nowhere; else they are all to be searched
module _ (f : ℕ → ℕ) (n key : ℕ) where
  pub none_there : ((k : ℕ) → f k < 4294967296) → (eqb n 0 || ltb 4294967295 key) ≡ true → (k : ℕ) → k < n → f k ≡ key → ⊥
  none_there small t k l e = by (eqb n 0) refl
    where
      by : (b : Bool) → eqb n 0 ≡ b → ⊥
      by true z = omega (arith, eqb-true n 0 z, l)
      by false z = omega (arith, ltb-true 4294967295 key ((unless (eqb n 0) (ltb 4294967295 key)).0 t z), small k, e)

  pub some_there : (eqb n 0 || ltb 4294967295 key) ≡ false → (0 < n) × (key < 4294967296)
  some_there t = by (eqb n 0) (ltb 4294967295 key) refl refl t
    where
      by : (a b : Bool) → eqb n 0 ≡ a → ltb 4294967295 key ≡ b → (a || b) ≡ false → (0 < n) × (key < 4294967296)
      by true b p q r = absurd (true≢false r)
      by false true p q r = absurd (true≢false r)
      by false false p q r = (omega (arith, eqb-false n 0 p), omega (arith, ltb-false 4294967295 key q))
