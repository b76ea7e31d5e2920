-- A pass over the chunks: the check of what is left, and what is counted with what is left, are the same at every turn. Ranges do not
-- overlap, so that there are at most as many counts as offsets below the next, and their sum is a u64.
use Rattle.std.specs.Prelude.{Err}
use Rattle.refusal.specs.Check.{Passed}
use Prim.Native.Nat.{ℕ, ◌+◌, ◌-◌, ◌*◌, ◌^◌, ◌≤◌, ◌<◌}
use mathlib.Core.Bool.{true, false}
use mathlib.Core.List.{List, [], ◌∷◌}
use mathlib.Core.Path.{◌≡◌, sym, ◌∙◌}
use native.Mathlib.Omega.{arith}
use lib.ListN.{length}
use Rattle.le.specs.Number.{number}
use Rattle.refusal.specs.declared.Refusal.TheVariants as No
use Rattle.dcpi.specs.Samples.{spacing, totals_at, Chunk, chunk_at, chunk_end, last_offset, chunks, counts_from, counts_of, counts_of_all, sample_counts, non_zero, sum_of}
use Rattle.dcpi.specs.Check.{chunk_rule, chunks_check}
use Rattle.dcpi.proofs.Chunks.{chunks_on, chunks_all, chunks_none, chunks_more}
use Rattle.dcpi.proofs.Counts.{nonzero_chunk, sum_chunk}
use Rattle.dcpi.proofs.Rules.{chunk_iff, check_none, check_7, check_11, check_more}

module _ (s : List ℕ) where
  pub record PassOver (p least nonzero sum : ℕ) : Type 0 where
    pub check_left : chunks_check s least (chunks_on s p) ≡ chunks_check s 0 (chunks s)
    pub nonzero_left : nonzero + length (non_zero (counts_of_all s (chunks_on s p))) ≡ length (non_zero (sample_counts s))
    pub sum_left : sum + sum_of (counts_of_all s (chunks_on s p)) ≡ sum_of (sample_counts s)
    pub few : nonzero ≤ least
    pub small : sum ≤ least * 0xffff_ffff
    pub least_small : least ≤ 2 ^ 32

  pub pass_none : PassOver 0 0 0 0
  unfolding sample_counts
  pass_none = record {
    check_left = rw (chunks_all s);
    nonzero_left = rw (chunks_all s) (omega arith);
    sum_left = rw (chunks_all s) (omega arith);
    few = omega arith;
    small = omega arith;
    least_small = omega arith;
  }

  module _ {p least nonzero sum : ℕ} (h : PassOver p least nonzero sum) where
    pub pass_all : totals_at s ≤ p → (Passed ≡ chunks_check s 0 (chunks s)) × ((nonzero ≡ length (non_zero (sample_counts s))) × (sum ≡ sum_of (sample_counts s)))
    unfolding counts_of_all non_zero sum_of
    pass_all l =
        let a : nonzero + length (non_zero (counts_of_all s [])) ≡ length (non_zero (sample_counts s)) = rw (chunks_none s p l) at h.nonzero_left in
        let b : sum + sum_of (counts_of_all s []) ≡ sum_of (sample_counts s) = rw (chunks_none s p l) at h.sum_left in
        let d : chunks_check s least [] ≡ chunks_check s 0 (chunks s) = rw (chunks_none s p l) at h.check_left in
        (sym (check_none s least) ∙ d, (omega arith, omega arith))

    -- at a chunk
    module _ (l : p < totals_at s) where
      abbrev c : Chunk
      c = chunk_at s p

      abbrev cs : List Chunk
      cs = chunks_on s (chunk_end (chunk_at s p))

      here : chunks_check s least (c ∷ cs) ≡ chunks_check s 0 (chunks s)
      here = rw (chunks_more s p l) at h.check_left

      pub pass_7 : chunk_rule s c ≡ false → Err No.Array ≡ chunks_check s 0 (chunks s)
      pass_7 e = sym (check_7 s least c cs e) ∙ here

      pub pass_11 : chunk_rule s c ≡ true → c.offset < least → Err No.Order ≡ chunks_check s 0 (chunks s)
      pass_11 e m = sym (check_11 s least c cs e m) ∙ here

      next : chunk_rule s c ≡ true → least ≤ c.offset → {n m : ℕ}
          → n ≡ length (non_zero (counts_of s c)) → m ≡ sum_of (counts_of s c) → n ≤ c.size → m ≤ c.size * 0xffff_ffff
          → PassOver (chunk_end c) (last_offset c + 1) (nonzero + n) (sum + m)
      next e k {n} {m} a b x y =
          let kept = (chunk_iff s c).0 e in
          let f : nonzero + length (non_zero (counts_of_all s (c ∷ cs))) ≡ length (non_zero (sample_counts s)) = rw (chunks_more s p l) at h.nonzero_left in
          let g : sum + sum_of (counts_of_all s (c ∷ cs)) ≡ sum_of (sample_counts s) = rw (chunks_more s p l) at h.sum_left in
          record {
            check_left = sym (check_more s least c cs e k) ∙ here;
            nonzero_left = omega (arith, nonzero_chunk s c cs);
            sum_left = omega (arith, sum_chunk s c cs);
            few = omega (arith, h.few, kept.has_one);
            small = omega (arith, h.small, kept.has_one);
            least_small = omega (arith, kept.reaches);
          }

      -- by what was read of the chunk, and what its counts come to
      pub pass_more : {offset size n m : ℕ} → offset ≡ number 4 s p → size ≡ number 4 s (p + 4) → chunk_rule s c ≡ true → least ≤ offset
          → ((o : ℕ) → n ≡ length (non_zero (counts_from s (p + 8) o size))) → ((o : ℕ) → m ≡ sum_of (counts_from s (p + 8) o size))
          → n ≤ size → m ≤ size * 0xffff_ffff → PassOver (p + 8 + size * 4) (offset + (size - 1) * spacing + 1) (nonzero + n) (sum + m)
      pass_more {offset} {size} o z e k a b x y =
          rw (o, z) (next e (rw o at k) (rw z at (a c.offset)) (rw z at (b c.offset)) (rw z at x) (rw z at y))
