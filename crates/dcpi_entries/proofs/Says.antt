-- What is listed, in facts, and what comes of it through the writer: entries that were laid out are read as they were.
use Rattle.std.specs.Prelude.{Err, Ok}
use Prim.Native.Nat.{ℕ, ◌+◌, ◌*◌, ◌/◌, ◌^◌, ◌≤◌, ◌<◌}
use mathlib.Core.Bool.{true}
use mathlib.Core.List.{List, ◌++◌}
use mathlib.Core.Logic.Iff
use mathlib.Core.Logic.{◌↔◌, ◌⊎◌, inl, inr}
use mathlib.Core.Path.{◌≡◌, refl, sym, ap, ◌∙◌}
use native.Mathlib.Nat.{zero-add}
use native.Mathlib.Omega.{arith}
use borrow.Author.Tests.{leb-true, le-leb}
use lib.Dec.{leb}
use lib.ListN.{length, drop}
use lib.Seq.{take-append_seam, drop-append_seam}
use Rattle.le.specs.Number.{number}
use Rattle.le.proofs.Laws.{number_small}
use Rattle.refusal.specs.declared.Refusal.{Refusal}
use Rattle.refusal.specs.declared.Refusal.TheVariants as No
use Rattle.refusal.specs.Number.{number_of}
use Rattle.refusal.specs.Check.{rule, Check, Answer, on_answer, Passed}
use Rattle.refusal.proofs.Checks.{rule_decides, first_decides, if_passed_answers, if_passed_refuses, first_passes}
use Rattle.layout.specs.Octets.{Octets}
use Rattle.buffer.proofs.Laws.{over_eq}
use Rattle.float.specs.Float.{integer_bits}
use Rattle.float.proofs.Integers.{integer_value}
use Rattle.seq.specs.Lists.{All, In}
use Rattle.seq.proofs.Lists.{all_of}
use Rattle.block_file.proofs.Groups.{groups_most}
use Rattle.profile_file.specs.Survey.{Ascending, HasEntry, pairs_of}
use Rattle.profile_file.proofs.Runs.{run_le, run_next}
use Rattle.profile_lists.specs.Lists.{entries_in}
use Rattle.profile_writer.specs.Sent.{WriteSays}
use Rattle.profile_writer.specs.Write.{write_answer, write_file}
use Rattle.profile_writer.proofs.Says.{write_says}
use Rattle.dcpi.specs.Samples.{totals_at, OffsetCount, sample_counts, non_zero}
use Rattle.dcpi.specs.Check.{samples_check}
use Rattle.dcpi.specs.Facts.{SamplesKept}
use Rattle.dcpi.proofs.Offsets.{nonzero_in, in_nonzero, nonzero_rises}
use Rattle.dcpi.proofs.Says.{sound_iff, check_says, has_count, sound_rises, offset_small}
use Rattle.dcpi_entries.specs.Entries.{entries_of, list_check, list_answer, list_entries}
use Rattle.dcpi_entries.specs.Facts.{CountedAs, first_entries, EntriesSay, SentOn}
use Rattle.dcpi_entries.proofs.Bytes.{length_entries}
use Rattle.dcpi_entries.proofs.Readback.{octets_entries, many_entries, ignored_is, entry_iff, entries_ascend}

module _ (s : List ℕ) (octets : Octets s) (profile metric : ℕ) (p-fits : profile < 2 ^ 32) (m-fits : metric < 2 ^ 16) where
  abbrev xs : List OffsetCount
  xs = non_zero (sample_counts s)

  -- ---- the counts that are listed

  counted_iff : (context bits : ℕ)
      → ((count : ℕ) × (In (record { offset = context; count = count }) xs × (bits ≡ integer_bits count))) ↔ CountedAs s context bits
  counted_iff context bits = (
    λ h.
        let i = nonzero_in (record { offset = context; count = h.0 }) (sample_counts s) h.1.0 in
        let k = (has_count s context h.0).0 i.0 in
        record {
          count = h.0;
          has_count = k;
          not_zero = i.1;
          bits_are = h.1.1;
          value_is = rw h.1.1 (integer_value h.0 (omega (arith, k.count_is, number_small s octets 4 (k.chunk.place + 8 + k.i * 4))));
        },
    λ h. (h.count, (in_nonzero (record { offset = context; count = h.count }) (sample_counts s) ((has_count s context h.count).1 h.has_count) h.not_zero, h.bits_are)),
  )

  offsets_small : SamplesKept s → All (λ x. x.offset < 2 ^ 32) xs
  offsets_small h = all_of (λ x. x.offset < 2 ^ 32) xs (λ x i. offset_small s h ((has_count s x.offset x.count).0 (nonzero_in x (sample_counts s) i).0))

  -- ---- one call

  module _ (lent : List ℕ) where
    abbrev check : Check
    check = list_check s (length lent)

    abbrev answer : Answer ℕ
    answer = list_answer s (length lent)

    abbrev after : List ℕ
    after = list_entries s profile metric lent

    abbrev Room : Type 0
    Room = length xs * 24 ≤ length lent

    room_iff : (leb (length xs) (length lent / 24) ≡ true) ↔ Room
    room_iff = (
      λ e. let l = leb-true (length xs) (length lent / 24) e in omega arith,
      λ l. le-leb (length xs) (length lent / 24) (omega arith),
    )

    passed_iff : (check ≡ Passed) ↔ (SamplesKept s × Room)
    unfolding list_check
    passed_iff =
        let d = rule_decides (leb (length xs) (length lent / 24)) {own = No.Room} room_iff in
        let f = first_passes (samples_check s) (rule (leb (length xs) (length lent / 24)) No.Room) in (
          λ e. let h = f.0 e in ((sound_iff s).0 h.0, d.passes.0 h.1),
          λ h. f.1 ((sound_iff s).1 h.0, d.passes.1 h.1),
        )

    refused_iff : (r : Refusal) → (check ≡ Err r) ↔ ((samples_check s ≡ Err r) ⊎ (SamplesKept s × ((No.Room ≡ r) × (Room → ⊥))))
    unfolding list_check
    refused_iff r =
        (first_decides (samples_check s)
        (record { passes = sound_iff s; refuses = λ q. (λ e. e, λ e. e) })
        (rule_decides (leb (length xs) (length lent / 24)) room_iff)).refuses r

    answered : (n : ℕ) → (answer ≡ Ok n) ↔ ((check ≡ Passed) × (◌≡◌ {A = Answer ℕ} (Ok (length xs)) (Ok n)))
    unfolding list_answer
    answered n = if_passed_answers Err check (Ok (length xs)) (Ok n) (λ r e z. let q : ◌≡◌ {A = ℕ} 0 1 = cc in omega arith)

    not_answered : (r : Refusal) → (answer ≡ Err r) ↔ (check ≡ Err r)
    unfolding list_answer
    not_answered r = if_passed_refuses Err check (Ok (length xs)) r (λ z. let q : ◌≡◌ {A = ℕ} 0 1 = cc in omega arith) (λ t z. (cc))

    -- ---- where it is answered

    module _ (n : ℕ) (e : answer ≡ Ok n) where
      passed : check ≡ Passed
      passed = ((answered n).0 e).0

      kept : SamplesKept s × Room
      kept = passed_iff.0 passed

      n_is : length xs ≡ n
      n_is = let z = ((answered n).0 e).1 in (cc)

      after_is : after ≡ entries_of profile metric xs ++ drop (length (entries_of profile metric xs)) lent
      unfolding list_entries on_answer
      after_is =
          let l : length (entries_of profile metric xs) ≤ length lent = omega (arith, length_entries profile metric xs, kept.1) in
          rw passed (rw (zero-add (length (entries_of profile metric xs))) at (over_eq lent 0 (entries_of profile metric xs) (rw (zero-add (length (entries_of profile metric xs))) l)))

      size_is : n * 24 ≡ length (entries_of profile metric xs)
      size_is = omega (arith, length_entries profile metric xs, n_is)

      first_is : first_entries n after ≡ entries_of profile metric xs
      first_is = rw (size_is, after_is) (take-append_seam (entries_of profile metric xs) (drop (length (entries_of profile metric xs)) lent))

      rest_is : drop (n * 24) after ≡ drop (n * 24) lent
      rest_is = rw (size_is, after_is) (drop-append_seam (entries_of profile metric xs) (drop (length (entries_of profile metric xs)) lent))

      has_is : (p context m bits : ℕ) → HasEntry (entries_in (first_entries n after)) p context m bits ↔ ((p ≡ profile) × ((m ≡ metric) × CountedAs s context bits))
      has_is p context m bits =
          let f = entry_iff profile metric p-fits m-fits xs (offsets_small kept.0) p context m bits in
          let g = counted_iff context bits in
          rw first_is (
            λ h. let k = f.0 h in (k.0, (k.1.0, g.0 k.1.1)),
            λ h. f.1 (h.0, (h.1.0, g.1 h.1.1)),
          )

      ascending_is : Ascending (entries_in (first_entries n after))
      ascending_is = rw first_is (entries_ascend profile metric p-fits m-fits xs (offsets_small kept.0) (nonzero_rises (sample_counts s) (sound_rises s kept.0)))

      many_is : (entries_in (first_entries n after)).count ≡ n
      many_is = rw first_is (many_entries profile metric p-fits m-fits xs (offsets_small kept.0) ∙ n_is)

      ignored_are : (k : ℕ) → k < n → number 6 (first_entries n after) (k * 24 + 10) ≡ 0
      ignored_are k l = rw first_is (ignored_is profile metric p-fits m-fits xs (offsets_small kept.0) k (omega (arith, n_is)))

      octets_are : Octets (first_entries n after)
      octets_are = rw first_is (octets_entries profile metric xs)

    untouched_is : (r : Refusal) → answer ≡ Err r → after ≡ lent
    unfolding list_entries on_answer
    untouched_is r e = rw ((not_answered r).0 e)

    not_room : (r : Refusal) → (r ≡ No.Room → ⊥) → (samples_check s ≡ Err r) ⊎ (SamplesKept s × ((No.Room ≡ r) × (Room → ⊥))) → samples_check s ≡ Err r
    not_room r n (inl e) = e
    not_room r n (inr h) = absurd (n (sym h.1.0))

    -- 17 is none of the refusals of a section
    only_room : (samples_check s ≡ Err No.Room) ⊎ (SamplesKept s × ((No.Room ≡ No.Room) × (Room → ⊥))) → SamplesKept s × (Room → ⊥)
    only_room (inl e) = absurd (never_17 ((check_says s).no_other No.Room e))
      where
        never_17 : (number_of No.Room ≡ 1) ⊎ ((number_of No.Room ≡ 7) ⊎ ((number_of No.Room ≡ 11) ⊎ (number_of No.Room ≡ 20))) → ⊥
        never_17 (inl z) = omega arith
        never_17 (inr (inl z)) = omega arith
        never_17 (inr (inr (inl z))) = omega arith
        never_17 (inr (inr (inr z))) = omega arith
    only_room (inr h) = (h.0, h.1.1)

    pub entries_say : EntriesSay s profile metric lent (list_answer s (length lent)) (list_entries s profile metric lent)
    entries_say = record {
      is-listed = λ n. (
        λ e. let k = kept n e in (k.0, (sym (n_is n e), omega (arith, k.1, n_is n e))),
        λ h. (answered n).1 (passed_iff.1 (h.0, omega (arith, h.1.0, h.1.1)), ap Ok (sym h.1.0)),
      );
      has_entry = has_is;
      ascending = ascending_is;
      as_many = many_is;
      ignored = λ n k e l. ignored_are n e k l;
      rest = rest_is;
      is_17 = (
        λ e. let h = only_room ((refused_iff No.Room).0 ((not_answered No.Room).0 e)) in (h.0, omega (arith, h.1)),
        λ h. (not_answered No.Room).1 ((refused_iff No.Room).1 (inr (h.0, (refl, λ l. omega (arith, h.1))))),
      );
      refused = λ r n. (λ e. not_room r n ((refused_iff r).0 ((not_answered r).0 e)), λ e. (not_answered r).1 ((refused_iff r).1 (inl e)));
      untouched = untouched_is;
    }

    -- ---- through the writer

    module _ (n : ℕ) (e : list_answer s (length lent) ≡ Ok n) (profiles tuples identifiers file : List ℕ) (octets-i : Octets identifiers) (small : length file < 2 ^ 64) where
      abbrev entries : List ℕ
      entries = first_entries n after

      says : WriteSays profiles tuples identifiers entries file (write_answer profiles tuples identifiers entries (length file)) (write_file profiles tuples identifiers entries file)
      says = write_says profiles tuples identifiers entries file octets-i (octets_are n e) small

      pub sent_on : SentOn s profile metric profiles tuples identifiers (first_entries n (list_entries s profile metric lent)) file
      sent_on = record {
        contexts-fit = λ p.
            let many = groups_most (pairs_of (entries_in entries) p).outer (pairs_of (entries_in entries) p).count in
            omega (arith, many, run_next (entries_in entries) (ascending_is n e) p, run_le (entries_in entries) (ascending_is n e) (p + 1), many_is n e, n_is n e, (kept n e).0.totals_kept.first_total, number_small s octets 4 (totals_at s));
        never_11 = λ r. (says.refuses_11.0 r).1 (ascending_is n e);
        found = λ k w p context m bits l. Iff.trans ((says.reads_back k w).found p context m bits l) (has_is n e p context m bits);
        absent = λ k w p context m l.
            let a = (says.reads_back k w).absent p context m l in (
              λ z bits h. a.0 z bits ((has_is n e p context m bits).1 h),
              λ z. a.1 (λ bits h. z bits ((has_is n e p context m bits).0 h)),
            );
      }
