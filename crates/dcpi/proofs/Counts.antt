-- The counts of a chunk, one at a time, and of chunks one after the other: how many are not zero, and their sum.
use Prim.Native.Nat.{ℕ, suc, ◌+◌, ◌-◌, ◌*◌, ◌≤◌, ◌<◌}
use mathlib.Core.Bool.{Bool, true, false}
use mathlib.Core.List.{List, [], ◌∷◌, ◌++◌}
use mathlib.Core.Path.{◌≡◌, refl}
use native.Mathlib.Omega.{arith}
use borrow.Author.Tests.{eq-eqb, ne_eqb}
use lib.Dec.{eqb}
use lib.ListN.{length, length-append}
use Rattle.le.specs.Number.{number}
use Rattle.refusal.specs.Check.{either}
use Rattle.dcpi.specs.Samples.{spacing, Chunk, OffsetCount, counts_from, counts_of, counts_of_all, non_zero, sum_of}

-- ---- not zero, and the sum

pub nonzero_skip : (x : OffsetCount) (xs : List OffsetCount) → x.count ≡ 0 → non_zero (x ∷ xs) ≡ non_zero xs
unfolding non_zero either
nonzero_skip x xs h = rw (eq-eqb x.count 0 h)

pub nonzero_take : (x : OffsetCount) (xs : List OffsetCount) → (x.count ≡ 0 → ⊥) → non_zero (x ∷ xs) ≡ x ∷ non_zero xs
unfolding non_zero either
nonzero_take x xs h = rw (ne_eqb x.count 0 h)

taken : (t : Bool) (a b : List OffsetCount) (x : OffsetCount) → either t (a ++ b) (x ∷ (a ++ b)) ≡ either t a (x ∷ a) ++ b
unfolding either
taken true a b x = refl
taken false a b x = refl

pub nonzero_append : (a b : List OffsetCount) → non_zero (a ++ b) ≡ non_zero a ++ non_zero b
unfolding non_zero
nonzero_append [] b = refl
nonzero_append (x ∷ a) b = rw (nonzero_append a b) (taken (eqb x.count 0) (non_zero a) (non_zero b) x)

pub sum_append : (a b : List OffsetCount) → sum_of (a ++ b) ≡ sum_of a + sum_of b
unfolding sum_of
sum_append [] b = omega arith
sum_append (x ∷ a) b = let e = sum_append a b in omega arith

-- ---- one more count

module _ (s : List ℕ) where
  pub counts_none : (place offset : ℕ) → counts_from s place offset 0 ≡ []
  unfolding counts_from
  counts_none place offset = refl

  -- those from number i on
  abbrev pub counts_after : (place offset n i : ℕ) → List OffsetCount
  counts_after place offset n i = counts_from s (place + i * 4) (offset + i * spacing) (n - i)

  abbrev pub count_at : (place offset i : ℕ) → OffsetCount
  count_at place offset i = record { offset = offset + i * spacing; count = number 4 s (place + i * 4) }

  pub after_none : (place offset n : ℕ) → counts_after place offset n 0 ≡ counts_from s place offset n
  after_none place offset n =
      let a : place + 0 * 4 ≡ place = omega arith in
      let b : offset + 0 * spacing ≡ offset = omega arith in
      let d : n - 0 ≡ n = omega arith in
      rw (a, b, d)

  pub after_more : (place offset n i : ℕ) → i < n → counts_after place offset n i ≡ count_at place offset i ∷ counts_after place offset n (i + 1)
  unfolding counts_from
  after_more place offset n i l =
      let e : n - i ≡ suc (n - (i + 1)) = omega arith in
      let a : place + (i + 1) * 4 ≡ place + i * 4 + 4 = omega arith in
      let b : offset + (i + 1) * spacing ≡ offset + i * spacing + spacing = omega arith in
      rw (a, b, e)

  pub after_all : (place offset n i : ℕ) → n ≤ i → counts_after place offset n i ≡ []
  after_all place offset n i l = let e : n - i ≡ 0 = omega arith in rw e (counts_none (place + i * 4) (offset + i * spacing))

  -- ---- one more chunk

  pub nonzero_chunk : (c : Chunk) (cs : List Chunk)
      → length (non_zero (counts_of_all s (c ∷ cs))) ≡ length (non_zero (counts_of s c)) + length (non_zero (counts_of_all s cs))
  unfolding counts_of_all
  nonzero_chunk c cs = rw (nonzero_append (counts_of s c) (counts_of_all s cs)) (length-append (non_zero (counts_of s c)) (non_zero (counts_of_all s cs)))

  pub sum_chunk : (c : Chunk) (cs : List Chunk) → sum_of (counts_of_all s (c ∷ cs)) ≡ sum_of (counts_of s c) + sum_of (counts_of_all s cs)
  unfolding counts_of_all
  sum_chunk c cs = sum_append (counts_of s c) (counts_of_all s cs)
