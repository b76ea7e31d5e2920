-- Contexts of an array passed one after the other up to a place: as many as its number among them says. What a context takes is bounded,
-- so that the place behind one that can be read is a number of the code.
use Prim.Native.Nat.{ℕ, ◌+◌, ◌≤◌, ◌<◌}
use mathlib.Core.List.{List}
use mathlib.Core.Path.{◌≡◌, sym, ap}
use native.Mathlib.Decide.{dec_le}
use native.Mathlib.Numerals.{add-one}
use native.Mathlib.Omega.{arith}
use lib.ListN.{length}
use Rattle.le.proofs.Laws.{number_small}
use Rattle.layout.specs.Octets.{Octets}
use Rattle.open.specs.Opening.{field}
use Rattle.context.specs.Context.{extent, sibling_place}
use Rattle.resume.specs.Way.{NumberOf, Lies}
use Rattle.context.proofs.Siblings.{sibling_first, sibling_next, sibling_small, sibling_number}

-- ---- the bytes that a context takes

pub extent_most : (file : List ℕ) → Octets file → (p : ℕ) → extent file p ≤ 2064
unfolding extent field
extent_most file octets p = omega (arith, number_small file octets 1 (p + 23))

pub lies_fields : {file : List ℕ} {q : ℕ} → Lies file q → q + 24 ≤ length file
unfolding extent
lies_fields h = omega (arith, h.itself)

-- ---- up to a place

-- n contexts are passed, and no more than stand before p
pub record CountedTo (file : List ℕ) (start p q n : ℕ) : Type 0 where
  pub stands_at : q ≡ sibling_place file start n
  pub before_it : (i : ℕ) → sibling_place file start i ≡ p → n ≤ i

pub numbered_start : (file : List ℕ) (start p : ℕ) → CountedTo file start p start 0
numbered_start file start p = record { stands_at = sym (sibling_first file start); before_it = λ i e. omega arith }

module _ {file : List ℕ} {start p q n : ℕ} (h : CountedTo file start p q n) where
  pub numbered_small : n ≤ q
  numbered_small = omega (arith, h.stands_at, sibling_small file start n)

  pub numbered_more : (bytes : ℕ) → bytes ≡ extent file q → q < p → CountedTo file start p (q + bytes) (n + 1)
  numbered_more bytes e l = record {
    stands_at = rw (add-one n, sibling_next file start n, ← h.stands_at, e);
    before_it = λ i z. elim (dec_le (n + 1) i) [
      | yes k ↦ k
      | no k ↦ absurd (let s : i ≡ n = omega (arith, h.before_it i z) in omega (arith, ap (sibling_place file start) s, h.stands_at))
    ];
  }

  pub numbered_end : p ≤ q → NumberOf file start p n
  numbered_end l i e = omega (arith, h.before_it i e, sibling_number file start i n (omega (arith, h.stands_at, e)))
