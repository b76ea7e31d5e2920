-- The chunks from a place on: none at the totals, and before them the chunk that stands there with those behind it.
use Prim.Native.Nat.{ℕ, zero, suc, ◌+◌, ◌≤◌, ◌<◌}
use mathlib.Core.List.{List, [], ◌∷◌}
use mathlib.Core.Path.{◌≡◌, refl, ap}
use native.Mathlib.Omega.{arith}
use borrow.Author.Tests.{lt-ltb, le-ltb}
use lib.Dec.{ltb}
use lib.ListN.{length}
use Rattle.refusal.specs.Check.{either}
use Rattle.dcpi.specs.Samples.{totals_at, Chunk, chunk_at, chunk_end, chunks_from, chunks}

module _ (s : List ℕ) where
  abbrev pub chunks_on : (p : ℕ) → List Chunk
  chunks_on p = chunks_from s (length s) p

  pub chunks_all : chunks s ≡ chunks_on 0
  unfolding chunks
  chunks_all = refl

  at_totals : (most p : ℕ) → totals_at s ≤ p → chunks_from s most p ≡ []
  unfolding chunks_from either
  at_totals zero p h = refl
  at_totals (suc most) p h = rw (le-ltb p (totals_at s) h)

  -- more than the bytes that are left make no difference
  enough : (m n p : ℕ) → totals_at s ≤ m + p → totals_at s ≤ n + p → chunks_from s m p ≡ chunks_from s n p
  unfolding chunks_from
  enough zero n p h k = let e = at_totals n p (omega arith) in rw e
  enough (suc m) zero p h k = at_totals (suc m) p (omega arith)
  enough (suc m) (suc n) p h k =
      ap (λ (cs : List Chunk). either (ltb p (totals_at s)) (chunk_at s p ∷ cs) [])
      (enough m n (chunk_end (chunk_at s p)) (omega arith) (omega arith))

  next : (most p : ℕ) → p < totals_at s → totals_at s ≤ most + p → chunks_from s most p ≡ chunk_at s p ∷ chunks_from s most (chunk_end (chunk_at s p))
  unfolding chunks_from either
  next zero p l h = absurd (omega arith)
  next (suc most) p l h =
      rw (lt-ltb p (totals_at s) l)
      (ap (λ (cs : List Chunk). chunk_at s p ∷ cs) (enough most (suc most) (chunk_end (chunk_at s p)) (omega arith) (omega arith)))

  pub chunks_none : (p : ℕ) → totals_at s ≤ p → chunks_on p ≡ []
  chunks_none p h = at_totals (length s) p h

  pub chunks_more : (p : ℕ) → p < totals_at s → chunks_on p ≡ chunk_at s p ∷ chunks_on (chunk_end (chunk_at s p))
  chunks_more p l = next (length s) p l (omega arith)
