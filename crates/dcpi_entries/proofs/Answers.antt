-- What is answered and left, by the totals of the section.
use Rattle.std.specs.Prelude.{Err, Ok}
use Prim.Native.Nat.{ℕ, ◌/◌, ◌≤◌, ◌<◌}
use mathlib.Core.Bool.{true, false}
use mathlib.Core.List.{List}
use mathlib.Core.Path.{◌≡◌, refl, ap}
use native.Mathlib.Omega.{arith}
use borrow.Author.Tests.{le-leb, lt-leb}
use lib.Dec.{leb}
use lib.ListN.{length}
use Rattle.refusal.specs.declared.Refusal.{Refusal}
use Rattle.refusal.specs.declared.Refusal.TheVariants as No
use Rattle.refusal.specs.Check.{rule, on_answer, Passed}
use Rattle.buffer.specs.Over.{over}
use Rattle.dcpi.specs.Samples.{sample_counts, non_zero}
use Rattle.dcpi.specs.Check.{samples_check}
use Rattle.dcpi.specs.Answers.{sample_totals, given_sample_totals}
use Rattle.dcpi.proofs.Says.{sound_iff, samples_say}
use Rattle.dcpi_entries.specs.Entries.{entries_of, list_check, list_answer, list_entries}

module _ (s : List ℕ) where
  module _ {offsets samples : ℕ} (e : sample_totals s ≡ given_sample_totals offsets samples) where
    pub totals_passed : samples_check s ≡ Passed
    totals_passed = (sound_iff s).1 (((samples_say s).totals offsets samples).0 e).0

    pub totals_count : offsets ≡ length (non_zero (sample_counts s))
    totals_count = (((samples_say s).totals offsets samples).0 e).1.0

    module _ (profile metric : ℕ) (entries : List ℕ) where
      pub too_few : length entries / 24 < offsets
          → (Err No.Room ≡ list_answer s (length entries)) × (entries ≡ list_entries s profile metric entries)
      unfolding list_answer list_entries list_check rule on_answer
      too_few l =
          let f : leb (length (non_zero (sample_counts s))) (length entries / 24) ≡ false = lt-leb (length (non_zero (sample_counts s))) (length entries / 24) (omega (arith, totals_count)) in
          rw (totals_passed, f) (refl, refl)

      pub enough : offsets ≤ length entries / 24
          → (Ok offsets ≡ list_answer s (length entries))
          × (over entries 0 (entries_of profile metric (non_zero (sample_counts s))) ≡ list_entries s profile metric entries)
      unfolding list_answer list_entries list_check rule on_answer
      enough l =
          let f : leb (length (non_zero (sample_counts s))) (length entries / 24) ≡ true = le-leb (length (non_zero (sample_counts s))) (length entries / 24) (omega (arith, totals_count)) in
          rw (totals_passed, f) (ap Ok totals_count, refl)

  pub not_listed : {r : Refusal} → sample_totals s ≡ Err r → (profile metric : ℕ) (entries : List ℕ)
      → (Err r ≡ list_answer s (length entries)) × (entries ≡ list_entries s profile metric entries)
  unfolding list_answer list_entries list_check on_answer
  not_listed {r} e profile metric entries = rw (((samples_say s).totals_refused r).0 e) (refl, refl)
