-- What writing says, told from its check: each refusal is given exactly if its rule is the first that is broken, and what was written is what
-- is read.
use Rattle.std.specs.Prelude.{Err, Ok}
use Prim.Native.Nat.{ℕ, ◌+◌, ◌*◌, ◌^◌, ◌≤◌, ◌<◌}
use mathlib.Core.Bool.{true}
use mathlib.Core.List.{List, ◌++◌}
use mathlib.Core.Logic.Iff
use mathlib.Core.Logic.{◌↔◌, ◌⊎◌, inl, inr}
use mathlib.Core.Path.{◌≡◌, refl, sym, ap}
use native.Mathlib.Nat.{zero-add}
use native.Mathlib.Omega.{arith}
use borrow.Author.Tests.{leb-true, le-leb}
use lib.ListN.{length, take, drop}
use lib.Seq.{take-append_seam, drop-append_seam}
use Rattle.le.proofs.Laws.{number_small}
use Rattle.refusal.specs.declared.Refusal.{Refusal}
use Rattle.refusal.specs.declared.Refusal.TheVariants as No
use Rattle.refusal.specs.Number.{number_of}
use Rattle.refusal.specs.Check.{Check, Answer, on_answer, Passed}
use Rattle.refusal.proofs.Checks.{Decides, if_passed_answers, if_passed_refuses}
use Rattle.layout.specs.Octets.{Octets}
use Rattle.buffer.specs.Over.{over}
use Rattle.buffer.proofs.Laws.{over_eq}
use Rattle.seq.specs.Sequence.{sum}
use Rattle.profile_file.specs.Survey.{Survey, Ascending}
use Rattle.profile_file.specs.File.{profile_file}
use Rattle.profile_file.specs.Facts.{AllListed, CountsFit, FieldsFit, Writable}
use Rattle.profile_file.specs.ReadsBack.{ReadsBack}
use Rattle.profile_file.proofs.Checks.{check_decides}
use Rattle.profile_file.proofs.Most.{file_most}
use Rattle.profile_file.proofs.Promise.{reads_back}
use Rattle.profile_lists.specs.Lists.{word_of, entries_in, survey_of, all_there, lists_check}
use Rattle.profile_writer.specs.Write.{write_answer, write_file}
use Rattle.profile_writer.specs.Sent.{Listed, WriteSays}

-- ---- a check of four rules: what it says of each, told from what it decides

module _ (A B C D : Type 0) where
  abbrev Broken : Refusal → Type 0
  Broken r =
      ((No.Index ≡ r) × (A → ⊥)) ⊎ (A × (((No.Order ≡ r) × (B → ⊥)) ⊎ (B × (((No.Array ≡ r) × (C → ⊥)) ⊎ (C × ((No.Room ≡ r) × (D → ⊥)))))))

  index_broken : Broken No.Index → A → ⊥
  index_broken (inl x) = x.1
  index_broken (inr (a, inl y)) = absurd (omega (arith, ap number_of y.0))
  index_broken (inr (a, inr (b, inl y))) = absurd (omega (arith, ap number_of y.0))
  index_broken (inr (a, inr (b, inr (c, y)))) = absurd (omega (arith, ap number_of y.0))

  order_broken : Broken No.Order → A × (B → ⊥)
  order_broken (inl x) = absurd (omega (arith, ap number_of x.0))
  order_broken (inr (a, inl y)) = (a, y.1)
  order_broken (inr (a, inr (b, inl y))) = absurd (omega (arith, ap number_of y.0))
  order_broken (inr (a, inr (b, inr (c, y)))) = absurd (omega (arith, ap number_of y.0))

  array_broken : Broken No.Array → A × (B × (C → ⊥))
  array_broken (inl x) = absurd (omega (arith, ap number_of x.0))
  array_broken (inr (a, inl y)) = absurd (omega (arith, ap number_of y.0))
  array_broken (inr (a, inr (b, inl y))) = (a, (b, y.1))
  array_broken (inr (a, inr (b, inr (c, y)))) = absurd (omega (arith, ap number_of y.0))

  room_broken : Broken No.Room → A × (B × (C × (D → ⊥)))
  room_broken (inl x) = absurd (omega (arith, ap number_of x.0))
  room_broken (inr (a, inl y)) = absurd (omega (arith, ap number_of y.0))
  room_broken (inr (a, inr (b, inl y))) = absurd (omega (arith, ap number_of y.0))
  room_broken (inr (a, inr (b, inr (c, y)))) = (a, (b, (c, y.1)))

  one_of_four : (r : Refusal) → Broken r → (number_of r ≡ 15) ⊎ ((number_of r ≡ 11) ⊎ ((number_of r ≡ 7) ⊎ (number_of r ≡ 17)))
  one_of_four r (inl x) = inl (sym (ap number_of x.0))
  one_of_four r (inr (a, inl y)) = inr (inl (sym (ap number_of y.0)))
  one_of_four r (inr (a, inr (b, inl y))) = inr (inr (inl (sym (ap number_of y.0))))
  one_of_four r (inr (a, inr (b, inr (c, y)))) = inr (inr (inr (sym (ap number_of y.0))))

-- ---- what writing says

over_start : (out x : List ℕ) → length x ≤ length out → over out 0 x ≡ x ++ drop (length x) out
over_start out x l = rw (zero-add (length x)) at (over_eq out 0 x (rw (zero-add (length x)) l))

module _ (profiles tuples identifiers entries file : List ℕ) (octets : Octets identifiers) (octets-e : Octets entries) (small : length file < 2 ^ 64) where
  abbrev survey : Survey
  survey = survey_of profiles tuples identifiers entries

  abbrev check : Check
  check = lists_check profiles tuples identifiers entries (length file)

  abbrev L : Type 0
  L = Listed profiles tuples identifiers entries

  abbrev A : Type 0
  A = AllListed survey × (all_there tuples identifiers ≡ true)

  abbrev U : Type 0
  U = Ascending (entries_in entries)

  abbrev C : Type 0
  C = CountsFit survey

  abbrev R : Type 0
  R = length (profile_file survey) ≤ length file

  there_iff : A ↔ L
  unfolding all_there
  there_iff = (
    λ a. (a.0, leb-true (sum (word_of tuples) (length tuples) * 16) (length identifiers) a.1),
    λ l. (l.0, le-leb (sum (word_of tuples) (length tuples) * 16) (length identifiers) l.1),
  )

  decided : Decides check (A × (U × (C × R))) (Broken A U C R)
  unfolding lists_check
  decided = check_decides survey (all_there tuples identifiers) (length file)

  abbrev answer : Answer ℕ
  answer = write_answer profiles tuples identifiers entries (length file)

  abbrev after : List ℕ
  after = write_file profiles tuples identifiers entries file

  answered_iff : (n : ℕ) → (answer ≡ Ok n) ↔ ((check ≡ Passed) × (◌≡◌ {A = Answer ℕ} (Ok (length (profile_file survey))) (Ok n)))
  unfolding write_answer
  answered_iff n = if_passed_answers Err check (Ok (length (profile_file survey))) (Ok n) (λ r e z. let q : ◌≡◌ {A = ℕ} 0 1 = cc in omega arith)

  refused_iff : (r : Refusal) → (answer ≡ Err r) ↔ (check ≡ Err r)
  unfolding write_answer
  refused_iff r =
      if_passed_refuses Err check (Ok (length (profile_file survey))) r (λ z. let q : ◌≡◌ {A = ℕ} 0 1 = cc in omega arith) (λ s z. (cc))

  fields_fit : FieldsFit survey
  fields_fit = record {
    context_fits = λ k l. number_small entries octets-e 4 (k * 24 + 4);
    metric_fits = λ k l. number_small entries octets-e 2 (k * 24 + 8);
    bits_fit = λ k l. number_small entries octets-e 8 (k * 24 + 16);
    kind_fits = λ t j l m. number_small identifiers octets 1 _;
    flags_fit = λ t j l m. number_small identifiers octets 2 _;
    logical_fits = λ t j l m. number_small identifiers octets 4 _;
    physical_fits = λ t j l m. number_small identifiers octets 8 _;
  }

  module _ (n : ℕ) (e : answer ≡ Ok n) where
    passed : check ≡ Passed
    passed = ((answered_iff n).0 e).0

    kept : A × (U × (C × R))
    kept = decided.passes.0 passed

    n_is : length (profile_file survey) ≡ n
    n_is = let z = ((answered_iff n).0 e).1 in (cc)

    writable : Writable survey
    writable = record {
      listed = kept.0.0;
      sorted = kept.1.0;
      counted = kept.1.1.0;
      fields_fit = fields_fit;
      length_fits = omega (arith, kept.1.1.1);
    }

    after_is : after ≡ profile_file survey ++ drop (length (profile_file survey)) file
    unfolding write_file on_answer
    after_is = rw passed (over_start file (profile_file survey) kept.1.1.1)

    first_is : take n after ≡ profile_file survey
    first_is = rw (← n_is, after_is) (take-append_seam (profile_file survey) (drop (length (profile_file survey)) file))

    rest_is : drop n after ≡ drop n file
    rest_is = rw (← n_is, after_is) (drop-append_seam (profile_file survey) (drop (length (profile_file survey)) file))

    read : ReadsBack survey (take n after)
    read = rw first_is (reads_back survey writable)

  untouched_is : (r : Refusal) → answer ≡ Err r → after ≡ file
  unfolding write_file on_answer
  untouched_is r e = rw ((refused_iff r).0 e)

  broken : (r : Refusal) → (answer ≡ Err r) ↔ Broken A U C R r
  broken r = Iff.trans (refused_iff r) (decided.refuses r)

  -- what was written is what is read
  pub write_says : WriteSays profiles tuples identifiers entries file (write_answer profiles tuples identifiers entries (length file))
      (write_file profiles tuples identifiers entries file)
  write_says = record {
    is_written = λ n. (
      λ e. let k = kept n e in (there_iff.0 k.0, (k.1.0, (k.1.1.0, (k.1.1.1, sym (n_is n e))))),
      λ h. (answered_iff n).1 (decided.passes.1 (there_iff.1 h.0, (h.1.0, (h.1.1.0, h.1.1.1.0))), ap Ok (sym h.1.1.1.1)),
    );
    is_file = first_is;
    reads_back = read;
    rest = rest_is;
    refuses_15 = (
      λ e l. index_broken A U C R ((broken No.Index).0 e) (there_iff.1 l),
      λ n. (broken No.Index).1 (inl (refl, λ a. n (there_iff.0 a))),
    );
    refuses_11 = (
      λ e. let b = order_broken A U C R ((broken No.Order).0 e) in (there_iff.0 b.0, b.1),
      λ h. (broken No.Order).1 (inr (there_iff.1 h.0, inl (refl, h.1))),
    );
    refuses_7 = (
      λ e. let b = array_broken A U C R ((broken No.Array).0 e) in (there_iff.0 b.0, b.1),
      λ h. (broken No.Array).1 (inr (there_iff.1 h.0, inr (h.1.0, inl (refl, h.1.1)))),
    );
    refuses_17 = (
      λ e. let b = room_broken A U C R ((broken No.Room).0 e) in (there_iff.0 b.0, (b.1.0, (b.1.1.0, omega (arith, b.1.1.1)))),
      λ h. (broken No.Room).1 (inr (there_iff.1 h.0, inr (h.1.0, inr (h.1.1.0, (refl, λ l. omega (arith, h.1.1.1)))))),
    );
    no_other = λ r e. one_of_four A U C R r ((broken r).0 e);
    untouched = untouched_is;
  }

  -- so many bytes are enough for any lists of these lengths
  pub always_enough : 72 + length profiles * 40 + length tuples * 8 + length identifiers + length entries ≤ length file
      → write_answer profiles tuples identifiers entries (length file) ≡ Err No.Room → ⊥
  always_enough l e =
      let h = write_says.refuses_17.0 e in
      omega (arith, file_most survey h.1.0, h.0.1, h.1.1.1)
