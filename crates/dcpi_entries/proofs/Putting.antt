-- Loops that write entries: what is left to write, written over, gives the same at every turn. An entry that is written for a zero leaves
-- no trace, since another is left to be written over it.
use Rattle.refusal.specs.Check.{Passed}
use Prim.Native.Nat.{ℕ, suc, ◌+◌, ◌-◌, ◌*◌, ◌%◌, ◌^◌, ◌≤◌, ◌<◌}
use mathlib.Core.List.{List, [], ◌∷◌, ◌++◌, append_assoc}
use mathlib.Core.Logic.{◌⊎◌, inl, inr}
use mathlib.Core.Path.{◌≡◌, refl, sym, ap, ◌∙◌}
use native.Mathlib.Omega.{arith}
use lib.ListN.{length, length-append}
use Rattle.le.specs.Number.{number}
use Rattle.buffer.specs.Over.{over}
use Rattle.buffer.proofs.Laws.{over_none, over_append, over_again, length_over}
use Rattle.dcpi.specs.Samples.{spacing, totals_at, Chunk, chunk_at, chunk_end, chunks, OffsetCount, counts_from, counts_of, counts_of_all, sample_counts, non_zero}
use Rattle.dcpi.specs.Check.{chunks_check}
use Rattle.dcpi.proofs.Chunks.{chunks_on, chunks_all, chunks_none, chunks_more}
use Rattle.dcpi.proofs.Counts.{counts_after, count_at, after_more, after_all, nonzero_skip, nonzero_take, nonzero_append}
use Rattle.dcpi.proofs.Finding.{KeptOn, kept_start, kept_here, kept_next}
use Rattle.dcpi_entries.specs.Entries.{entry_bytes, entries_of}
use Rattle.dcpi_entries.proofs.Bytes.{length_entry, length_entries, entries_append}

no_more : (xs : List OffsetCount) → length xs ≡ 0 → xs ≡ []
no_more [] e = refl
no_more (x ∷ xs) e = absurd (omega arith)

module _ (profile metric : ℕ) where
  abbrev entries : List OffsetCount → List ℕ
  entries = entries_of profile metric

  over_more : (out : List ℕ) (at : ℕ) (x : OffsetCount) (xs : List OffsetCount) (rest : List ℕ)
      → over out at (entries (x ∷ xs) ++ rest) ≡ over (over out at (entry_bytes profile metric x)) (at + 24) (entries xs ++ rest)
  unfolding entries_of
  over_more out at x xs rest =
      rw (append_assoc (entry_bytes profile metric x) (entries xs) rest, over_append (entry_bytes profile metric x) (entries xs ++ rest) out at, length_entry profile metric x)

  -- ---- the counts of a chunk

  module _ (s : List ℕ) (place offset n : ℕ) (was : List ℕ) (at end : ℕ) where
    abbrev left_from : ℕ → List OffsetCount
    left_from i = non_zero (counts_after s place offset n i)

    abbrev all : List OffsetCount
    all = non_zero (counts_from s place offset n)

    pub record Putting (out : List ℕ) (next i : ℕ) : Type 0 where
      pub within : i ≤ n
      pub same_length : length out ≡ length was
      pub next_is : next + length (left_from i) * 24 ≡ at + length all * 24
      pub left : (rest : List ℕ) → at + length all * 24 + length rest ≡ end → over out next (entries (left_from i) ++ rest) ≡ over was at (entries all ++ rest)

    module _ {out : List ℕ} {next i : ℕ} (h : Putting out next i) where
      -- at the end of the counts, or of the entries
      pub putting_all : at + length all * 24 ≤ end → (n ≤ i) ⊎ (end ≤ next)
          → (next ≡ at + length all * 24) × ((rest : List ℕ) → next + length rest ≡ end → over out next rest ≡ over was at (entries all ++ rest))
      unfolding entries_of non_zero
      putting_all r d =
          let e : left_from i ≡ [] = none_left d in
          let a : next + length {A = OffsetCount} [] * 24 ≡ at + length all * 24 = rw e at h.next_is in
          (omega arith, λ rest l. let b : over out next (entries [] ++ rest) ≡ over was at (entries all ++ rest) = rw e at (h.left rest (omega arith)) in b)
        where
          none_left : (n ≤ i) ⊎ (end ≤ next) → left_from i ≡ []
          none_left (inl l) = ap non_zero (after_all s place offset n i l)
          none_left (inr l) = no_more (left_from i) (omega (arith, h.next_is))

      module _ (l : i < n) (m : next < end) (r : at + length all * 24 ≤ end) (q : (end - at) % 24 ≡ 0) where
        pub putting_room : next + 24 ≤ end
        putting_room = omega (arith, h.next_is)

        module _ {count : ℕ} (e : count ≡ number 4 s (place + i * 4)) {now : List ℕ}
            (w : now ≡ over out next (entry_bytes profile metric (record { offset = offset + i * spacing; count = count }))) where
          written : now ≡ over out next (entry_bytes profile metric (count_at s place offset i))
          written = rw e at w

          as_long : length now ≡ length was
          as_long = ap length written ∙ length_over out next (entry_bytes profile metric (count_at s place offset i)) ∙ h.same_length

          pub putting_skip : count ≡ 0 → Putting now next (i + 1)
          putting_skip z =
              let f : left_from i ≡ left_from (i + 1) =
              ap non_zero (after_more s place offset n i l) ∙ nonzero_skip (count_at s place offset i) (counts_after s place offset n (i + 1)) (sym e ∙ z) in
              record {
                within = omega arith;
                same_length = as_long;
                next_is = rw (← f) h.next_is;
                left = λ rest k.
                    let long : length (entry_bytes profile metric (count_at s place offset i)) ≤ length (entries (left_from i) ++ rest) =
                    rw length-append (omega (arith, length_entry profile metric (count_at s place offset i), length_entries profile metric (left_from i), h.next_is, putting_room)) in
                    rw (← f, written) (over_again out next (entry_bytes profile metric (count_at s place offset i)) (entries (left_from i) ++ rest) long ∙ h.left rest k);
              }

          pub putting_more : (count ≡ 0 → ⊥) → Putting now (next + 24) (i + 1)
          putting_more z =
              let f : left_from i ≡ count_at s place offset i ∷ left_from (i + 1) =
              ap non_zero (after_more s place offset n i l) ∙ nonzero_take (count_at s place offset i) (counts_after s place offset n (i + 1)) (λ k. z (e ∙ k)) in
              let g : next + suc (length (left_from (i + 1))) * 24 ≡ at + length all * 24 = rw f at h.next_is in
              record {
                within = omega arith;
                same_length = as_long;
                next_is = omega arith;
                left = λ rest k.
                    let b : over out next (entries (count_at s place offset i ∷ left_from (i + 1)) ++ rest) ≡ over was at (entries all ++ rest) = rw f at (h.left rest k) in
                    rw written (sym (over_more out next (count_at s place offset i) (left_from (i + 1)) rest) ∙ b);
              }

  -- ---- chunks

  module _ (s was : List ℕ) where
    abbrev on : ℕ → List OffsetCount
    on p = non_zero (counts_of_all s (chunks_on s p))

    pub record PuttingChunks (out : List ℕ) (p next : ℕ) : Type 0 where
      pub kept : KeptOn s p
      pub same_length : length out ≡ length was
      pub next_is : next + length (on p) * 24 ≡ length (non_zero (sample_counts s)) * 24
      pub left : over out next (entries (on p)) ≡ over was 0 (entries (non_zero (sample_counts s)))

    pub chunks_start : chunks_check s 0 (chunks s) ≡ Passed → PuttingChunks was 0 0
    unfolding sample_counts
    chunks_start e = record {
      kept = kept_start s e;
      same_length = refl;
      next_is = rw (chunks_all s) (omega arith);
      left = rw (chunks_all s);
    }

    module _ {out : List ℕ} {p next : ℕ} (h : PuttingChunks out p next) where
      pub chunks_end : totals_at s ≤ p → out ≡ over was 0 (entries (non_zero (sample_counts s)))
      unfolding counts_of_all non_zero entries_of
      chunks_end l =
          let b : over out next (entries (non_zero (counts_of_all s []))) ≡ over was 0 (entries (non_zero (sample_counts s))) = rw (chunks_none s p l) at h.left in
          sym (over_none out next) ∙ b

      module _ (l : p < totals_at s) where
        abbrev c : Chunk
        c = chunk_at s p

        abbrev here : List OffsetCount
        here = non_zero (counts_of s (chunk_at s p))

        abbrev behind : List OffsetCount
        behind = on (chunk_end (chunk_at s p))

        parts : on p ≡ here ++ behind
        unfolding counts_of_all
        parts = rw (chunks_more s p l) (nonzero_append (counts_of s c) (counts_of_all s (chunks_on s (chunk_end c))))

        chunks_left : next + (length here + length behind) * 24 ≡ length (non_zero (sample_counts s)) * 24
        chunks_left =
            let a : next + length (here ++ behind) * 24 ≡ length (non_zero (sample_counts s)) * 24 = rw parts at h.next_is in
            rw (length-append here behind) at a

        step : {now : List ℕ} {to : ℕ} → to ≡ next + length here * 24
            → ((rest : List ℕ) → to + length rest ≡ length (non_zero (sample_counts s)) * 24 → over now to rest ≡ over out next (entries here ++ rest))
            → length now ≡ length out → PuttingChunks now (chunk_end c) to
        step {now} {to} t w e =
            let g : over out next (entries (here ++ behind)) ≡ over was 0 (entries (non_zero (sample_counts s))) = rw parts at h.left in
            record {
              kept = kept_next s h.kept l;
              same_length = e ∙ h.same_length;
              next_is = omega (arith, chunks_left);
              left = w (entries behind) (omega (arith, chunks_left, length_entries profile metric behind)) ∙ ap (over out next) (sym (entries_append profile metric here behind)) ∙ g;
            }

        -- by what was read of the chunk
        module _ {offset size : ℕ} (o : offset ≡ number 4 s p) (z : size ≡ number 4 s (p + 4)) where
          pub chunks_inside : p + 8 + size * 4 ≤ totals_at s
          chunks_inside = omega (arith, (kept_here s h.kept l).fits)

          pub chunks_reach : offset + size * spacing < 2 ^ 32 + spacing
          chunks_reach = omega (arith, (kept_here s h.kept l).reaches, (kept_here s h.kept l).has_one)

          pub chunks_room : next + length (non_zero (counts_from s (p + 8) offset size)) * 24 ≤ length (non_zero (sample_counts s)) * 24
          chunks_room = rw (o, z) (omega (arith, chunks_left))

          pub chunks_step : {now : List ℕ} {to : ℕ} → to ≡ next + length (non_zero (counts_from s (p + 8) offset size)) * 24
              → ((rest : List ℕ) → to + length rest ≡ length (non_zero (sample_counts s)) * 24
              → over now to rest ≡ over out next (entries (non_zero (counts_from s (p + 8) offset size)) ++ rest))
              → length now ≡ length out → PuttingChunks now (p + 8 + size * 4) to
          chunks_step t w e = rw z (step (rw (o, z) at t) (rw (o, z) at w) e)

      -- the entries that are left are whole
      pub chunks_whole : (length (non_zero (sample_counts s)) * 24 - next) % 24 ≡ 0
      chunks_whole = omega (arith, h.next_is)
