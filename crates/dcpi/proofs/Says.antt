-- What is said of a section, in facts: which refusal is given exactly when, and what is found, absent and in the totals.
use Rattle.refusal.proofs.Checks.{ok_same, err_same}
use Rattle.dcpi.specs.declared.SampleTotals.{SampleTotals}
use Rattle.std.specs.Prelude.{Err, Ok, Some, None}
use Prim.Native.Nat.{ℕ, zero, suc, ◌+◌, ◌^◌, ◌≤◌, ◌<◌}
use mathlib.Core.Bool.{Bool, true, false, true≢false}
use mathlib.Core.List.{List, [], ◌∷◌, ◌++◌}
use mathlib.Core.Logic.{◌↔◌, ◌⊎◌, inl, inr, ⊎_elim}
use mathlib.Core.Path.{◌≡◌, refl, sym, ap, ◌∙◌, subst}
use native.Mathlib.Omega.{arith}
use borrow.Author.Tests.{leb-true, leb-false, le-leb, ltb-false, eqb-true, eq-eqb}
use lib.Dec.{leb, ltb, eqb}
use lib.ListN.{length}
use Rattle.le.specs.Number.{number}
use Rattle.refusal.specs.declared.Refusal.{Refusal}
use Rattle.refusal.specs.declared.Refusal.TheVariants as No
use Rattle.refusal.specs.Number.{number_of}
use Rattle.refusal.specs.Check.{either, Passed, Absent, Found}
use Rattle.refusal.proofs.Checks.{not_both, Decides, rule_decides, first_decides, if_passed_answers, if_passed_refuses}
use Rattle.range.proofs.Tests.{both}
use Rattle.seq.specs.Lists.{All, In, Ordered}
use Rattle.seq.proofs.Lists.{all_imp, in_cases, in_none, in_rest, in_first, in_left, in_right, in_append, all_in, all_of}
use Rattle.dcpi.specs.Samples.{totals_at, Chunk, chunk_at, chunk_end, last_offset, chunks_from, chunks, OffsetCount, counts_of, counts_of_all, sample_counts, non_zero, sum_of}
use Rattle.dcpi.specs.Check.{chunk_rule, chunks_check, totals_rule, samples_check}
use Rattle.dcpi.specs.Answers.{count_for, sample_lookup, sample_totals, given_sample_totals}
use Rattle.dcpi.specs.Facts.{ChunkKept, RangeBefore, TotalsKept, ChunksKept, FollowFrom, SamplesKept, Reached, Breaks7, Breaks11, HasCount, CheckSays, SamplesSay}
use Rattle.dcpi.proofs.Rules.{chunk_iff, check_none, check_7, check_11, check_more, check_kept}
use Rattle.dcpi.proofs.Counts.{count_at}
use Rattle.dcpi.proofs.Offsets.{RisingOffsets, NotFor, NumberedCount, counts_are, counts_at, counts_rise, in_for, for_in, for_none, absent_none}

module _ (s : List ℕ) where
  -- ---- chunks with a least offset for the first

  record KeptFrom (least : ℕ) (cs : List Chunk) : Type 0 where
    kept : All (ChunkKept s) cs
    in_order : Ordered RangeBefore cs
    from : All (λ c. least ≤ c.offset) cs

  from_none : (least : ℕ) → KeptFrom least []
  from_none least = record { kept = tt; in_order = tt; from = tt }

  from_more : (least : ℕ) (c : Chunk) (cs : List Chunk) → ChunkKept s c → least ≤ c.offset → KeptFrom (last_offset c + 1) cs → KeptFrom least (c ∷ cs)
  from_more least c cs k l h = record {
    kept = (k, h.kept);
    in_order = (all_imp (λ d m. omega arith) cs h.from, h.in_order);
    from = (l, all_imp (λ d m. omega arith) cs h.from);
  }

  from_next : (least : ℕ) (c : Chunk) (cs : List Chunk) → KeptFrom least (c ∷ cs)
      → ChunkKept s c × ((least ≤ c.offset) × KeptFrom (last_offset c + 1) cs)
  from_next least c cs h =
      (h.kept.0, (h.from.0, record { kept = h.kept.1; in_order = h.in_order.1; from = all_imp (λ d m. omega arith) cs h.in_order.0 }))

  from_iff : (least : ℕ) (cs : List Chunk) → (chunks_check s least cs ≡ Passed) ↔ KeptFrom least cs
  from_iff least [] = (λ e. from_none least, λ h. check_none s least)
  from_iff least (c ∷ cs) =
      let r = from_iff (last_offset c + 1) cs in (
        λ e. let k = check_kept s least c cs e in from_more least c cs k.0 k.1.0 (r.0 k.1.1),
        λ h. let n = from_next least c cs h in check_more s least c cs ((chunk_iff s c).1 n.0) n.1.0 ∙ r.1 n.1.1,
      )

  -- ---- the first chunk that breaks a rule

  abbrev Broken : (least : ℕ) (before : List Chunk) (c : Chunk) (r : Refusal) → Type 0
  Broken least before c r =
      ((No.Array ≡ r) × (ChunkKept s c → ⊥))
      ⊎ ((No.Order ≡ r) × (ChunkKept s c × ((least ≤ c.offset) → All (λ b. RangeBefore b c) before → ⊥)))

  record Breaks (least : ℕ) (cs : List Chunk) (r : Refusal) : Type 0 where
    before : List Chunk
    chunk : Chunk
    after : List Chunk
    stands : cs ≡ before ++ (chunk ∷ after)
    kept_before : KeptFrom least before
    broken : Broken least before chunk r

  behind_more : (least : ℕ) (b : Chunk) (before : List Chunk) (c : Chunk) (r : Refusal) → least ≤ b.offset
      → Broken (last_offset b + 1) before c r → Broken least (b ∷ before) c r
  behind_more least b before c r l (inl x) = inl x
  behind_more least b before c r l (inr (e, (k, n))) = inr (e, (k, λ m a. n (omega (arith, a.0)) a.1))

  behind_next : (least : ℕ) (b : Chunk) (before : List Chunk) (c : Chunk) (r : Refusal) → least ≤ b.offset
      → Broken least (b ∷ before) c r → Broken (last_offset b + 1) before c r
  behind_next least b before c r l (inl x) = inl x
  behind_next least b before c r l (inr (e, (k, n))) = inr (e, (k, λ m a. n (omega arith) (omega arith, a)))

  breaks : (least : ℕ) (cs : List Chunk) (r : Refusal) → chunks_check s least cs ≡ Err r → Breaks least cs r
  breaks least [] r e = absurd (not_both (sym (check_none s least) ∙ e))
  breaks least (c ∷ cs) r e = go (chunk_rule s c) (leb least c.offset) refl refl (breaks (last_offset c + 1) cs r)
    where
      go : (t u : Bool) → chunk_rule s c ≡ t → leb least c.offset ≡ u
          → (chunks_check s (last_offset c + 1) cs ≡ Err r → Breaks (last_offset c + 1) cs r) → Breaks least (c ∷ cs) r
      go false u p q rec = record {
        before = [];
        chunk = c;
        after = cs;
        stands = refl;
        kept_before = from_none least;
        broken = inl (let z = sym (check_7 s least c cs p) ∙ e in (cc), λ k. true≢false (sym ((chunk_iff s c).1 k) ∙ p));
      }
      go true false p q rec = record {
        before = [];
        chunk = c;
        after = cs;
        stands = refl;
        kept_before = from_none least;
        broken = inr (
          let z = sym (check_11 s least c cs p (leb-false least c.offset q)) ∙ e in (cc),
          ((chunk_iff s c).0 p, λ m a. omega (arith, leb-false least c.offset q)),
        );
      }
      go true true p q rec =
          let l = leb-true least c.offset q in
          let h = rec (sym (check_more s least c cs p l) ∙ e) in
          record {
            before = c ∷ h.before;
            chunk = h.chunk;
            after = h.after;
            stands = ap (λ (ds : List Chunk). c ∷ ds) h.stands;
            kept_before = from_more least c h.before ((chunk_iff s c).0 p) l h.kept_before;
            broken = behind_more least c h.before h.chunk r l h.broken;
          }

  broken_refuses : (least : ℕ) (c : Chunk) (after : List Chunk) (r : Refusal) → Broken least [] c r → chunks_check s least (c ∷ after) ≡ Err r
  broken_refuses least c after r (inl (e, n)) = check_7 s least c after (go (chunk_rule s c) refl) ∙ ap Err e
    where
      go : (t : Bool) → chunk_rule s c ≡ t → t ≡ false
      go false p = refl
      go true p = absurd (n ((chunk_iff s c).0 p))
  broken_refuses least c after r (inr (e, (k, n))) =
      check_11 s least c after ((chunk_iff s c).1 k) (go (leb least c.offset) refl) ∙ ap Err e
    where
      go : (t : Bool) → leb least c.offset ≡ t → c.offset < least
      go false p = leb-false least c.offset p
      go true p = absurd (n (leb-true least c.offset p) tt)

  refuses : (least : ℕ) (before : List Chunk) (c : Chunk) (after : List Chunk) (r : Refusal) → KeptFrom least before → Broken least before c r
      → chunks_check s least (before ++ (c ∷ after)) ≡ Err r
  refuses least [] c after r h b = broken_refuses least c after r b
  refuses least (d ∷ before) c after r h b =
      let n = from_next least d before h in
      check_more s least d (before ++ (c ∷ after)) ((chunk_iff s d).1 n.0) n.1.0
      ∙ refuses (last_offset d + 1) before c after r n.1.1 (behind_next least d before c r n.1.0 b)

  -- ---- the whole check

  all_from : (cs : List Chunk) → All (λ (c : Chunk). 0 ≤ c.offset) cs
  all_from [] = tt
  all_from (c ∷ cs) = (omega arith, all_from cs)

  chunks_decide : Decides (chunks_check s 0 (chunks s)) (ChunksKept s (chunks s)) (Breaks 0 (chunks s))
  chunks_decide = record {
    passes = (
      λ e. let h = (from_iff 0 (chunks s)).0 e in (h.kept, h.in_order),
      λ k. (from_iff 0 (chunks s)).1 (record { kept = k.0; in_order = k.1; from = all_from (chunks s) }),
    );
    refuses = λ r. (breaks 0 (chunks s) r, λ b. ap (chunks_check s 0) b.stands ∙ refuses 0 b.before b.chunk b.after r b.kept_before b.broken);
  }

  -- chunks that fit end where the totals stand
  follow_from : (most p : ℕ) → totals_at s ≤ most + p → p ≤ totals_at s → All (ChunkKept s) (chunks_from s most p) → FollowFrom s p (chunks_from s most p)
  unfolding chunks_from either
  follow_from zero p m l h = omega arith
  follow_from (suc most) p m l h = go (ltb p (totals_at s)) refl h (follow_from most (chunk_end (chunk_at s p)) (omega arith))
    where
      go : (t : Bool) → ltb p (totals_at s) ≡ t → All (ChunkKept s) (either t (chunk_at s p ∷ chunks_from s most (chunk_end (chunk_at s p))) [])
          → (chunk_end (chunk_at s p) ≤ totals_at s → All (ChunkKept s) (chunks_from s most (chunk_end (chunk_at s p)))
          → FollowFrom s (chunk_end (chunk_at s p)) (chunks_from s most (chunk_end (chunk_at s p))))
          → FollowFrom s p (either t (chunk_at s p ∷ chunks_from s most (chunk_end (chunk_at s p))) [])
      go true e k r = (refl, r k.0.fits k.1)
      go false e k r = let g = ltb-false p (totals_at s) e in omega arith

  chunks_follow : ChunksKept s (chunks s) → FollowFrom s 0 (chunks s)
  unfolding chunks
  chunks_follow k = follow_from (length s) 0 (omega arith) (omega arith) k.0

  totals_iff : (totals_rule s ≡ true) ↔ TotalsKept s
  unfolding totals_rule
  totals_iff =
      let a = eqb (number 4 s (totals_at s)) (length (non_zero (sample_counts s))) in
      let b = eqb (number 4 s (totals_at s + 4)) (sum_of (sample_counts s)) in (
        λ e. let h = (both a b).0 e in record {
          first_total = eqb-true (number 4 s (totals_at s)) (length (non_zero (sample_counts s))) h.0;
          second_total = eqb-true (number 4 s (totals_at s + 4)) (sum_of (sample_counts s)) h.1;
        },
        λ k. (both a b).1 (eq-eqb _ _ k.first_total, eq-eqb _ _ k.second_total),
      )

  abbrev L : Type 0
  L = 8 ≤ length s

  abbrev GivenFor : Refusal → Type 0
  GivenFor r = ((No.Short ≡ r) × (L → ⊥)) ⊎ (L × (Breaks 0 (chunks s) r ⊎ (ChunksKept s (chunks s) × ((No.Total ≡ r) × (TotalsKept s → ⊥)))))

  decided : Decides (samples_check s) (L × (ChunksKept s (chunks s) × TotalsKept s)) GivenFor
  unfolding samples_check
  decided =
      first_decides _ (rule_decides (leb 8 (length s)) (leb-true 8 (length s), le-leb 8 (length s)))
      (first_decides _ chunks_decide (rule_decides (totals_rule s) totals_iff))

  -- ---- which refusal, exactly when

  by_chunk : (r : Refusal) → Breaks 0 (chunks s) r → (number_of r ≡ 7) ⊎ (number_of r ≡ 11)
  by_chunk r b = go b.broken
    where
      go : Broken 0 b.before b.chunk r → (number_of r ≡ 7) ⊎ (number_of r ≡ 11)
      go (inl x) = inl (sym (ap number_of x.0))
      go (inr x) = inr (sym (ap number_of x.0))

  not_by_chunk : (r : Refusal) → (number_of r ≡ 7 → ⊥) → (number_of r ≡ 11 → ⊥) → Breaks 0 (chunks s) r → ⊥
  not_by_chunk r n m b = ⊎_elim n m (by_chunk r b)

  given_1 : GivenFor No.Short → L → ⊥
  given_1 (inl x) = x.1
  given_1 (inr (l, inl b)) = absurd (not_by_chunk No.Short (λ e. omega arith) (λ e. omega arith) b)
  given_1 (inr (l, inr (k, x))) = absurd (omega (arith, ap number_of x.0))

  given_20 : GivenFor No.Total → L × (ChunksKept s (chunks s) × (TotalsKept s → ⊥))
  given_20 (inl x) = absurd (omega (arith, ap number_of x.0))
  given_20 (inr (l, inl b)) = absurd (not_by_chunk No.Total (λ e. omega arith) (λ e. omega arith) b)
  given_20 (inr (l, inr (k, x))) = (l, (k, x.1))

  reached : (r : Refusal) → L → (b : Breaks 0 (chunks s) r) → Reached s b.before b.chunk
  reached r l b = record { has_totals = l; after = b.after; stands = b.stands; kept_before = (b.kept_before.kept, b.kept_before.in_order) }

  reaches : (r : Refusal) (before : List Chunk) (c : Chunk) → Reached s before c → Broken 0 before c r → GivenFor r
  reaches r before c h b =
      inr (
        h.has_totals,
        inl (record {
          before = before;
          chunk = c;
          after = h.after;
          stands = h.stands;
          kept_before = record { kept = h.kept_before.0; in_order = h.kept_before.1; from = all_from before };
          broken = b;
        }),
      )

  given_7 : GivenFor No.Array → Breaks7 s
  given_7 (inl x) = absurd (omega (arith, ap number_of x.0))
  given_7 (inr (l, inl b)) = go b.broken
    where
      go : Broken 0 b.before b.chunk No.Array → Breaks7 s
      go (inl x) = record { before = b.before; chunk = b.chunk; reached = reached No.Array l b; broken = x.1 }
      go (inr x) = absurd (omega (arith, ap number_of x.0))
  given_7 (inr (l, inr (k, x))) = absurd (omega (arith, ap number_of x.0))

  given_11 : GivenFor No.Order → Breaks11 s
  given_11 (inl x) = absurd (omega (arith, ap number_of x.0))
  given_11 (inr (l, inl b)) = go b.broken
    where
      go : Broken 0 b.before b.chunk No.Order → Breaks11 s
      go (inl x) = absurd (omega (arith, ap number_of x.0))
      go (inr x) = record {
        before = b.before;
        chunk = b.chunk;
        reached = reached No.Order l b;
        kept = x.1.0;
        broken = λ a. x.1.1 (omega arith) a;
      }
  given_11 (inr (l, inr (k, x))) = absurd (omega (arith, ap number_of x.0))

  one_of_four : (r : Refusal) → GivenFor r → (number_of r ≡ 1) ⊎ ((number_of r ≡ 7) ⊎ ((number_of r ≡ 11) ⊎ (number_of r ≡ 20)))
  one_of_four r (inl x) = inl (sym (ap number_of x.0))
  one_of_four r (inr (l, inl b)) = ⊎_elim (λ e. inr (inl e)) (λ e. inr (inr (inl e))) (by_chunk r b)
  one_of_four r (inr (l, inr (k, x))) = inr (inr (inr (sym (ap number_of x.0))))

  pub sound_iff : (samples_check s ≡ Passed) ↔ SamplesKept s
  sound_iff = (
    λ e. let h = decided.passes.0 e in record {
      has_totals = h.0;
      follow = chunks_follow h.1.0;
      chunks_kept = h.1.0;
      totals_kept = h.1.1;
    },
    λ h. decided.passes.1 (h.has_totals, (h.chunks_kept, h.totals_kept)),
  )

  pub check_says : CheckSays s
  check_says = record {
    passes = sound_iff;
    is_1 = (
      λ e. let n = given_1 ((decided.refuses No.Short).0 e) in omega arith,
      λ l. (decided.refuses No.Short).1 (inl (refl, λ m. omega arith)),
    );
    is_7 = (
      λ e. given_7 ((decided.refuses No.Array).0 e),
      λ h. (decided.refuses No.Array).1 (reaches No.Array h.before h.chunk h.reached (inl (refl, h.broken))),
    );
    is_11 = (
      λ e. given_11 ((decided.refuses No.Order).0 e),
      λ h. (decided.refuses No.Order).1
          (reaches No.Order h.before h.chunk h.reached (inr (refl, (h.kept, λ z a. h.broken a)))),
    );
    is_20 = (
      λ e. given_20 ((decided.refuses No.Total).0 e),
      λ h. (decided.refuses No.Total).1 (inr (h.0, inr (h.1.0, (refl, h.1.1)))),
    );
    no_other = λ r e. one_of_four r ((decided.refuses r).0 e);
  }

  -- ---- the counts of the chunks, each by its chunk and its number

  abbrev CountOf : List Chunk → OffsetCount → Type 0
  CountOf cs x = (c : Chunk) × (In c cs × NumberedCount s (c.place + 8) c.offset c.size x)

  in_counts : (x : OffsetCount) (cs : List Chunk) → In x (counts_of_all s cs) → CountOf cs x
  unfolding counts_of_all
  in_counts x [] i = absurd (in_none i)
  in_counts x (c ∷ cs) i = go (in_append (counts_of s c) (counts_of_all s cs) i) (in_counts x cs)
    where
      go : In x (counts_of s c) ⊎ In x (counts_of_all s cs) → (In x (counts_of_all s cs) → CountOf cs x) → CountOf (c ∷ cs) x
      go (inl j) r = (c, (in_first c cs, all_in (NumberedCount s (c.place + 8) c.offset c.size) (counts_of s c) (counts_are s (c.place + 8) c.offset c.size) j))
      go (inr j) r = let h = r j in (h.0, (in_rest c h.1.0, h.1.1))

  counts-in : (x : OffsetCount) (c : Chunk) (cs : List Chunk) → In c cs → In x (counts_of s c) → In x (counts_of_all s cs)
  unfolding counts_of_all
  counts-in x c [] i j = absurd (in_none i)
  counts-in x c (d ∷ cs) i j = go (in_cases i) (λ k. counts-in x c cs k j)
    where
      go : (c ≡ d) ⊎ In c cs → (In c cs → In x (counts_of_all s cs)) → In x (counts_of s d ++ counts_of_all s cs)
      go (inl e) r = in_left (counts_of s d) (counts_of_all s cs) (subst (λ (k : Chunk). In x (counts_of s k)) e j)
      go (inr k) r = in_right (counts_of s d) (counts_of_all s cs) (r k)

  pub has_count : (offset n : ℕ) → In (record { offset = offset; count = n }) (sample_counts s) ↔ HasCount s offset n
  unfolding sample_counts
  has_count offset n = (
    λ i. let h = in_counts (record { offset = offset; count = n }) (chunks s) i in record {
      chunk = h.0;
      is_chunk = h.1.0;
      i = h.1.1.0;
      within = h.1.1.1.0;
      offset_is = ap (λ (x : OffsetCount). x.offset) h.1.1.1.1;
      count_is = ap (λ (x : OffsetCount). x.count) h.1.1.1.1;
    },
    λ h. let x = counts_at s (h.chunk.place + 8) h.chunk.offset h.chunk.size h.i h.within in
        rw (h.offset_is, h.count_is) (counts-in (count_at s (h.chunk.place + 8) h.chunk.offset h.i) h.chunk (chunks s) h.is_chunk x),
  )

  pub sound_rises : SamplesKept s → Ordered RisingOffsets (sample_counts s)
  unfolding sample_counts
  sound_rises h = counts_rise s 0 (chunks s) (chunks_decide.passes.1 h.chunks_kept)

  -- an offset that a count is for has 32 bits
  pub offset_small : SamplesKept s → {offset n : ℕ} → HasCount s offset n → offset < 2 ^ 32
  offset_small h k =
      let c = all_in (ChunkKept s) (chunks s) h.chunks_kept.0 k.is_chunk in
      omega (arith, c.reaches, k.within, k.offset_is)

  -- ---- what is answered

  found_iff : SamplesKept s → (offset n : ℕ) → (count_for offset (sample_counts s) ≡ Some n) ↔ HasCount s offset n
  found_iff h offset n = (
    λ e. (has_count offset n).0 (for_in offset n (sample_counts s) e),
    λ k. in_for offset n (sample_counts s) (sound_rises h) ((has_count offset n).1 k),
  )

  absent_iff : (offset : ℕ) → (count_for offset (sample_counts s) ≡ None) ↔ ((n : ℕ) → HasCount s offset n → ⊥)
  absent_iff offset = (
    λ e n k. all_in (NotFor offset) (sample_counts s) (absent_none offset (sample_counts s) e) ((has_count offset n).1 k) refl,
    λ h. for_none offset (sample_counts s) (all_of (NotFor offset) (sample_counts s) (λ x i q. h x.count ((has_count offset x.count).0 (rw (← q) i)))),
  )

  pub samples_say : SamplesSay s
  unfolding sample_lookup sample_totals
  samples_say =
      let stored = given_sample_totals (number 4 s (totals_at s)) (number 4 s (totals_at s + 4)) in
      record {
        check = check_says;
        found = λ offset n.
            let a = if_passed_answers Err (samples_check s) (Ok (count_for offset (sample_counts s))) (Found n) (λ r e z. let q : ◌≡◌ {A = ℕ} 0 1 = cc in omega arith) in (
              λ e. let h = a.0 e in let k = sound_iff.0 h.0 in (k, (found_iff k offset n).0 (ok_same h.1)),
              λ h. a.1 (sound_iff.1 h.0, ap Ok ((found_iff h.0 offset n).1 h.1)),
            );
        absent = λ offset.
            let a = if_passed_answers Err (samples_check s) (Ok (count_for offset (sample_counts s))) Absent (λ r e z. let q : ◌≡◌ {A = ℕ} 0 1 = cc in omega arith) in (
              λ e. let h = a.0 e in (sound_iff.0 h.0, (absent_iff offset).0 (ok_same h.1)),
              λ h. a.1 (sound_iff.1 h.0, ap Ok ((absent_iff offset).1 h.1)),
            );
        lookup_refused = λ offset r. if_passed_refuses Err (samples_check s) (Ok (count_for offset (sample_counts s))) r (λ z. let q : ◌≡◌ {A = ℕ} 0 1 = cc in omega arith) (λ t z. err_same z);
        totals = λ offsets samples.
            let a = if_passed_answers Err (samples_check s) stored (given_sample_totals offsets samples) (λ r e z. let q : ◌≡◌ {A = ℕ} 0 1 = cc in omega arith) in (
              λ e.
                  let h = a.0 e in
                  let k = sound_iff.0 h.0 in
                  let x : number 4 s (totals_at s) ≡ offsets = ap (λ (t : SampleTotals). t.offsets) (ok_same h.1) in
                  let y : number 4 s (totals_at s + 4) ≡ samples = ap (λ (t : SampleTotals). t.samples) (ok_same h.1) in
                  (k, (sym x ∙ k.totals_kept.first_total, sym y ∙ k.totals_kept.second_total)),
              λ h. a.1 (sound_iff.1 h.0, rw (h.0.totals_kept.first_total, h.0.totals_kept.second_total, h.1.0, h.1.1)),
            );
        totals_refused = λ r. if_passed_refuses Err (samples_check s) stored r (λ z. let q : ◌≡◌ {A = ℕ} 0 1 = cc in omega arith) (λ t z. err_same z);
      }

-- "Offsets increase and ranges do not overlap", the two in one: of chunks that have counts
pub range_before_iff : (c d : Chunk) → 1 ≤ d.size
    → RangeBefore c d
    ↔ ((c.offset < d.offset) × ((offset : ℕ) → c.offset ≤ offset → offset ≤ last_offset c → d.offset ≤ offset → offset ≤ last_offset d → ⊥))
range_before_iff c d l = (
  λ h. (omega arith, λ offset a b e f. omega arith),
  λ h. go (leb d.offset (last_offset c)) refl h.0 (h.1 d.offset),
)
  where
    go : (t : Bool) → leb d.offset (last_offset c) ≡ t → c.offset < d.offset
        → (c.offset ≤ d.offset → d.offset ≤ last_offset c → d.offset ≤ d.offset → d.offset ≤ last_offset d → ⊥) → last_offset c < d.offset
    go true e a n = absurd (n (omega arith) (leb-true d.offset (last_offset c) e) (omega arith) (omega arith))
    go false e a n = leb-false d.offset (last_offset c) e
