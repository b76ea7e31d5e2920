-- A search over the chunks: the count for an offset is that among the chunks which are left, at every turn.
use Rattle.std.specs.Prelude.{Some, None}
use Rattle.refusal.specs.Check.{Passed}
use Prim.Native.Nat.{ℕ, ◌+◌, ◌-◌, ◌*◌, ◌/◌, ◌%◌, ◌≤◌, ◌<◌}
use mathlib.Core.Bool.{Bool, true, false, ◌&&◌, true≢false}
use mathlib.Core.List.{List, ◌∷◌}
use mathlib.Core.Path.{◌≡◌, sym, ap, ◌∙◌}
use native.Mathlib.Omega.{arith}
use borrow.Author.Tests.{ltb-true, lt-ltb, eqb-true, eq-eqb}
use lib.Dec.{ltb, eqb}
use Rattle.le.specs.Number.{number}
use Rattle.range.proofs.Tests.{both}
use Rattle.seq.specs.Lists.{Ordered}
use Rattle.seq.proofs.Lists.{all_imp, in_left}
use Rattle.dcpi.specs.Samples.{spacing, totals_at, Chunk, chunk_at, chunk_end, last_offset, chunks, OffsetCount, counts_of, counts_of_all, sample_counts}
use Rattle.dcpi.specs.Check.{chunks_check}
use Rattle.dcpi.specs.Answers.{count_for}
use Rattle.dcpi.specs.Facts.{ChunkKept}
use Rattle.dcpi.proofs.Chunks.{chunks_on, chunks_all, chunks_none, chunks_more}
use Rattle.dcpi.proofs.Rules.{chunk_iff, check_kept, check_more}
use Rattle.dcpi.proofs.Offsets.{RisingOffsets, counts_are, counts_at, from_least, counts_rise, for_none, for_skip, in_for}

module _ (s : List ℕ) where
  -- the chunks from p on keep the rules, with some least offset
  pub record KeptOn (p : ℕ) : Type 0 where
    pub least : ℕ
    pub passed : chunks_check s least (chunks_on s p) ≡ Passed

  pub kept_start : chunks_check s 0 (chunks s) ≡ Passed → KeptOn 0
  kept_start e = record { least = 0; passed = rw (← chunks_all s) e }

  module _ {p : ℕ} (h : KeptOn p) (l : p < totals_at s) where
    abbrev parts : ChunkKept s (chunk_at s p)
        × ((h.least ≤ (chunk_at s p).offset) × (chunks_check s (last_offset (chunk_at s p) + 1) (chunks_on s (chunk_end (chunk_at s p))) ≡ Passed))
    parts = check_kept s h.least (chunk_at s p) (chunks_on s (chunk_end (chunk_at s p))) (rw (chunks_more s p l) at h.passed)

    pub kept_here : ChunkKept s (chunk_at s p)
    kept_here = parts.0

    pub kept_next : KeptOn (chunk_end (chunk_at s p))
    kept_next = record { least = last_offset (chunk_at s p) + 1; passed = parts.1.1 }

    -- with the offset of the next chunk for the least
    from_here : chunks_check s (chunk_at s p).offset (chunks_on s p) ≡ Passed
    from_here =
        rw (chunks_more s p l)
        (check_more s (chunk_at s p).offset (chunk_at s p) (chunks_on s (chunk_end (chunk_at s p))) ((chunk_iff s (chunk_at s p)).1 kept_here) (omega arith) ∙ parts.1.1)

  module _ (offset : ℕ) where
    pub record Finding (p : ℕ) : Type 0 where
      pub kept : KeptOn p
      pub left : count_for offset (counts_of_all s (chunks_on s p)) ≡ count_for offset (sample_counts s)

    pub finding_none : chunks_check s 0 (chunks s) ≡ Passed → Finding 0
    unfolding sample_counts
    finding_none e = record { kept = kept_start e; left = rw (chunks_all s) }

    module _ {p : ℕ} (h : Finding p) where
      pub finding_all : totals_at s ≤ p → None ≡ count_for offset (sample_counts s)
      unfolding counts_of_all count_for
      finding_all l = rw (chunks_none s p l) at h.left

      module _ (l : p < totals_at s) where
        abbrev c : Chunk
        c = chunk_at s p

        abbrev cs : List Chunk
        cs = chunks_on s (chunk_end (chunk_at s p))

        here : count_for offset (counts_of_all s (c ∷ cs)) ≡ count_for offset (sample_counts s)
        here = rw (chunks_more s p l) at h.left

        pub finding_before : offset < c.offset → None ≡ count_for offset (sample_counts s)
        finding_before b =
            sym (for_none offset (counts_of_all s (chunks_on s p))
            (all_imp (λ x m q. omega arith) (counts_of_all s (chunks_on s p)) (from_least s c.offset (chunks_on s p) (from_here h.kept l))))
            ∙ h.left

        here_is : (i : ℕ) → i < c.size → offset ≡ c.offset + i * spacing → Some (number 4 s (p + 8 + i * 4)) ≡ count_for offset (sample_counts s)
        unfolding counts_of_all
        here_is i b e =
            let o : Ordered RisingOffsets (counts_of_all s (c ∷ cs)) = rw (chunks_more s p l) at (counts_rise s h.kept.least (chunks_on s p) h.kept.passed) in
            let m = in_left (counts_of s c) (counts_of_all s cs) (counts_at s (p + 8) c.offset c.size i b) in
            sym (in_for offset (number 4 s (p + 8 + i * 4)) (counts_of_all s (c ∷ cs)) o (rw e m)) ∙ here

        next : ((i : ℕ) → i < c.size → offset ≡ c.offset + i * spacing → ⊥) → Finding (chunk_end c)
        unfolding counts_of_all
        next never = record {
          kept = kept_next h.kept l;
          left =
              sym (for_skip offset (counts_of s c) (counts_of_all s cs)
              (all_imp (λ x m q. never m.0 m.1.0 (sym q ∙ ap (λ (y : OffsetCount). y.offset) m.1.1)) (counts_of s c) (counts_are s (p + 8) c.offset c.size)))
              ∙ here;
        }

        -- by what was read of the chunk
        module _ {first size : ℕ} (o : first ≡ number 4 s p) (z : size ≡ number 4 s (p + 4)) (b : first ≤ offset) where
          abbrev below : Bool
          below = ltb ((offset - first) / spacing) size

          abbrev aligned : Bool
          aligned = eqb ((offset - first) % spacing) 0

          abbrev pub hit : Bool
          hit = below && aligned

          below_size : hit ≡ true → (offset - first) / spacing < size
          below_size e = ltb-true ((offset - first) / spacing) size ((both below aligned).0 e).0

          -- the count lies before the totals
          pub hit_inside : hit ≡ true → p + 8 + (offset - first) / spacing * 4 + 4 ≤ totals_at s
          hit_inside e = omega (arith, below_size e, (kept_here h.kept l).fits)

          pub finding_here : hit ≡ true → Some (number 4 s (p + 8 + (offset - first) / spacing * 4)) ≡ count_for offset (sample_counts s)
          finding_here e =
              let r : (offset - first) % spacing ≡ 0 = eqb-true ((offset - first) % spacing) 0 ((both below aligned).0 e).1 in
              here_is ((offset - first) / spacing) (omega (arith, below_size e)) (omega arith)

          pub finding_more : hit ≡ false → Finding (p + 8 + size * 4)
          finding_more e =
              rw z
              (next (λ i l q.
              true≢false
              (sym ((both below aligned).1 (lt-ltb ((offset - first) / spacing) size (omega arith), eq-eqb ((offset - first) % spacing) 0 (omega arith))) ∙ e)))
