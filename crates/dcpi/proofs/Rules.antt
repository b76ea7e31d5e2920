-- The rules of chunks as tests and as facts; a check of chunks, chunk by chunk.
use Rattle.std.specs.Prelude.{Err}
use Prim.Native.Nat.{ℕ, ◌+◌, ◌-◌, ◌*◌, ◌^◌, ◌≤◌, ◌<◌}
use mathlib.Core.Bool.{true, false, ◌&&◌}
use mathlib.Core.List.{List, [], ◌∷◌}
use mathlib.Core.Logic.{◌↔◌}
use mathlib.Core.Path.{◌≡◌, refl}
use native.Mathlib.Omega.{arith}
use borrow.Author.Tests.{leb-true, le-leb, ltb-true, lt-ltb, lt-leb}
use lib.Dec.{leb, ltb, eqb}
use lib.ListN.{length}
use Rattle.le.specs.Number.{number}
use Rattle.refusal.specs.declared.Refusal.{Refusal}
use Rattle.refusal.specs.declared.Refusal.TheVariants as No
use Rattle.refusal.specs.Check.{rule, first, Passed}
use Rattle.refusal.proofs.Checks.{rule_passes, first_passes}
use Rattle.range.proofs.Tests.{same_truth, both}
use Rattle.dcpi.specs.Samples.{spacing, totals_at, Chunk, chunk_at, chunk_end, last_offset, chunks, sample_counts, non_zero, sum_of}
use Rattle.dcpi.specs.Check.{chunk_rule, chunks_check, totals_rule, samples_check}
use Rattle.dcpi.specs.Facts.{ChunkKept}

module _ (s : List ℕ) where
  pub chunk_iff : (c : Chunk) → (chunk_rule s c ≡ true) ↔ ChunkKept s c
  unfolding chunk_rule
  chunk_iff c =
      let inner = both (leb (chunk_end c) (totals_at s)) (leb 1 c.size) in
      let outer = both (leb (chunk_end c) (totals_at s) && leb 1 c.size) (ltb (last_offset c) (2 ^ 32)) in (
        λ e. let h = outer.0 e in let k = inner.0 h.0 in record {
          fits = leb-true (chunk_end c) (totals_at s) k.0;
          has_one = leb-true 1 c.size k.1;
          reaches = ltb-true (last_offset c) (2 ^ 32) h.1;
        },
        λ k. outer.1
            (inner.1 (le-leb (chunk_end c) (totals_at s) k.fits, le-leb 1 c.size k.has_one), lt-ltb (last_offset c) (2 ^ 32) k.reaches),
      )

  -- by the room that is left, and without a difference that could be below zero
  pub chunk_rule_is : (p offset size : ℕ) → p + 8 < length s → offset ≡ number 4 s p → size ≡ number 4 s (p + 4)
      → ((leb (8 + size * 4) (length s - 8 - p) && leb 1 size) && ltb (offset + size * spacing) (2 ^ 32 + spacing)) ≡ chunk_rule s (chunk_at s p)
  chunk_rule_is p offset size l o z =
      let inner = both (leb (8 + size * 4) (length s - 8 - p)) (leb 1 size) in
      let outer = both (leb (8 + size * 4) (length s - 8 - p) && leb 1 size) (ltb (offset + size * spacing) (2 ^ 32 + spacing)) in
      same_truth _ _
      (λ e.
      let h = outer.0 e in
      let k = inner.0 h.0 in
      let a = leb-true (8 + size * 4) (length s - 8 - p) k.0 in
      let b = leb-true 1 size k.1 in
      let d = ltb-true (offset + size * spacing) (2 ^ 32 + spacing) h.1 in
      (chunk_iff (chunk_at s p)).1 (record { fits = omega arith; has_one = omega arith; reaches = omega arith }))
      (λ e.
      let k = (chunk_iff (chunk_at s p)).0 e in
      outer.1 (
        inner.1 (le-leb (8 + size * 4) (length s - 8 - p) (omega (arith, k.fits)), le-leb 1 size (omega (arith, k.has_one))),
        lt-ltb (offset + size * spacing) (2 ^ 32 + spacing) (omega (arith, k.reaches, k.has_one)),
      ))

  pub check_none : (least : ℕ) → chunks_check s least [] ≡ Passed
  unfolding chunks_check
  check_none least = refl

  module _ (least : ℕ) (c : Chunk) (cs : List Chunk) where
    pub check_7 : chunk_rule s c ≡ false → chunks_check s least (c ∷ cs) ≡ Err No.Array
    unfolding chunks_check rule
    check_7 e = rw e

    pub check_11 : chunk_rule s c ≡ true → c.offset < least → chunks_check s least (c ∷ cs) ≡ Err No.Order
    unfolding chunks_check rule
    check_11 e l = rw (e, lt-leb least c.offset l)

    pub check_more : chunk_rule s c ≡ true → least ≤ c.offset → chunks_check s least (c ∷ cs) ≡ chunks_check s (last_offset c + 1) cs
    unfolding chunks_check rule
    check_more e l = rw (e, le-leb least c.offset l)

    -- a check that passes has passed here
    pub check_kept : chunks_check s least (c ∷ cs) ≡ Passed
        → ChunkKept s c × ((least ≤ c.offset) × (chunks_check s (last_offset c + 1) cs ≡ Passed))
    unfolding chunks_check
    check_kept e =
        let x = (first_passes (rule (chunk_rule s c) No.Array) (first (rule (leb least c.offset) No.Order) (chunks_check s (last_offset c + 1) cs))).0 e in
        let y = (first_passes (rule (leb least c.offset) No.Order) (chunks_check s (last_offset c + 1) cs)).0 x.1 in (
          (chunk_iff c).0 ((rule_passes (chunk_rule s c) No.Array).0 x.0),
          (leb-true least c.offset ((rule_passes (leb least c.offset) No.Order).0 y.0), y.1),
        )

  -- ---- the whole check

  pub passed_parts : samples_check s ≡ Passed → (8 ≤ length s) × ((chunks_check s 0 (chunks s) ≡ Passed) × (totals_rule s ≡ true))
  unfolding samples_check
  passed_parts e =
      let x = (first_passes (rule (leb 8 (length s)) No.Short) (first (chunks_check s 0 (chunks s)) (rule (totals_rule s) No.Total))).0 e in
      let y = (first_passes (chunks_check s 0 (chunks s)) (rule (totals_rule s) No.Total)).0 x.1 in
      (leb-true 8 (length s) ((rule_passes (leb 8 (length s)) No.Short).0 x.0), (y.0, (rule_passes (totals_rule s) No.Total).0 y.1))

  pub check_1 : length s < 8 → Err No.Short ≡ samples_check s
  unfolding samples_check rule
  check_1 l = rw (lt-leb 8 (length s) l)

  -- by what a pass over the chunks says
  pub check_20 : 8 ≤ length s → {a b nonzero sum : ℕ} → chunks_check s 0 (chunks s) ≡ Passed
      → a ≡ number 4 s (totals_at s) → b ≡ number 4 s (totals_at s + 4)
      → nonzero ≡ length (non_zero (sample_counts s)) → sum ≡ sum_of (sample_counts s)
      → rule (eqb a nonzero && eqb b sum) No.Total ≡ samples_check s
  unfolding samples_check totals_rule rule
  check_20 l e p q n m = rw (le-leb 8 (length s) l, e, p, q, n, m)

  -- what the chunks are refused by
  pub check_chunks : 8 ≤ length s → {r : Refusal} → chunks_check s 0 (chunks s) ≡ Err r → Err r ≡ samples_check s
  unfolding samples_check rule
  check_chunks l e = rw (le-leb 8 (length s) l, e)
