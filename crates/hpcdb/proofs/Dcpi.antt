-- What a C program learns from hpcdb_dcpi_lookup, hpcdb_dcpi_totals and hpcdb_dcpi_entries, by code and `out`.
use Rattle.std.specs.Prelude.{Err, Ok, Option}
use Rattle.refusal.specs.Check.{Answer, Absent, Found}
use Rattle.dcpi.specs.declared.SampleTotals.{SampleTotals}
use Prim.Native.Nat.{ℕ, ◌*◌, ◌^◌, ◌≤◌, ◌<◌}
use mathlib.Core.List.{List, [], ◌∷◌}
use mathlib.Core.Logic.Iff
use mathlib.Core.Logic.{◌↔◌, ◌⊎◌, inl, inr}
use mathlib.Core.Path.{◌≡◌, refl, sym, ap}
use native.Mathlib.Omega.{arith}
use lib.ListN.{length, drop}
use Rattle.refusal.specs.declared.Refusal.{Refusal}
use Rattle.refusal.specs.declared.Refusal.TheVariants as No
use Rattle.refusal.specs.Number.{number_of}
use Rattle.refusal.specs.Words.{code_in}
use Rattle.refusal.proofs.Numbers.{positive, small, same_number}
use Rattle.layout.specs.Octets.{Octets}
use Rattle.profile_file.specs.Survey.{Ascending, HasEntry}
use Rattle.profile_lists.specs.Lists.{entries_in}
use Rattle.dcpi.specs.Samples.{sample_counts, non_zero, sum_of}
use Rattle.dcpi.specs.Check.{samples_check}
use Rattle.dcpi.specs.Answers.{sample_lookup, sample_totals, sample_count_words, sample_totals_words, given_sample_totals}
use Rattle.dcpi.specs.Facts.{SamplesKept, HasCount}
use Rattle.dcpi.proofs.Says.{samples_say}
use Rattle.dcpi_entries.specs.Entries.{list_answer, list_entries, entry_count_words}
use Rattle.dcpi_entries.specs.Facts.{CountedAs, first_entries, EntriesSay}
use Rattle.dcpi_entries.proofs.Says.{entries_say}
use Rattle.words.specs.Convention.{words_in}
use Rattle.words.proofs.Laws.{refused}

-- ---- codes and words tell answers apart

-- one word, or two, and then the answer they are of
module _ (was : List ℕ) where
  count_0 : (a : Answer (Option ℕ)) (n : ℕ) → ((code_in (sample_count_words a) ≡ 0) × (words_in was (sample_count_words a) ≡ n ∷ [])) ↔ (a ≡ Found n)
  unfolding code_in words_in
  count_0 (Found m) n = (λ h. let e = h.1 in let q : m ≡ n = cc in ap Found q, λ e. let q : m ≡ n = cc in (refl, ap (λ (k : ℕ). k ∷ []) q))
  count_0 Absent n = (λ h. absurd (omega (arith, h.0)), λ e. absurd (let z : ◌≡◌ {A = ℕ} 0 1 = cc in omega arith))
  count_0 (Err r) n = (λ h. absurd (omega (arith, h.0, positive r)), λ e. absurd (let z : ◌≡◌ {A = ℕ} 0 1 = cc in omega arith))

  count_left : (a : Answer (Option ℕ)) → (code_in (sample_count_words a) ≡ 0 → ⊥) → words_in was (sample_count_words a) ≡ was
  unfolding code_in words_in
  count_left (Found m) n = absurd (n refl)
  count_left Absent n = refl
  count_left (Err r) n = sym (refused was r [] refl refl).1

  totals_0 : (a : Answer SampleTotals) (x y : ℕ)
      → ((code_in (sample_totals_words a) ≡ 0) × (words_in was (sample_totals_words a) ≡ x ∷ y ∷ [])) ↔ (a ≡ given_sample_totals x y)
  unfolding code_in words_in
  totals_0 (Ok it) x y = (
    λ h. let e = h.1 in let p : it.offsets ≡ x = cc in let q : it.samples ≡ y = cc in rw (p, q),
    λ e. let p : it.offsets ≡ x = cc in let q : it.samples ≡ y = cc in (refl, rw (p, q)),
  )
  totals_0 (Err r) x y = (λ h. absurd (omega (arith, h.0, positive r)), λ e. absurd (let z : ◌≡◌ {A = ℕ} 0 1 = cc in omega arith))

  totals_left : (a : Answer SampleTotals) → (code_in (sample_totals_words a) ≡ 0 → ⊥) → words_in was (sample_totals_words a) ≡ was
  unfolding code_in
  totals_left (Ok it) n = absurd (n refl)
  totals_left (Err r) n = sym (refused was r [] refl refl).1

  entries_0 : (a : Answer ℕ) (n : ℕ) → ((code_in (entry_count_words a) ≡ 0) × (words_in was (entry_count_words a) ≡ n ∷ [])) ↔ (a ≡ Ok n)
  unfolding code_in words_in
  entries_0 (Ok m) n = (λ h. let e = h.1 in let q : m ≡ n = cc in ap Ok q, λ e. let q : m ≡ n = cc in (refl, ap (λ (k : ℕ). k ∷ []) q))
  entries_0 (Err r) n = (λ h. absurd (omega (arith, h.0, positive r)), λ e. absurd (let z : ◌≡◌ {A = ℕ} 0 1 = cc in omega arith))

  entries_code : (a : Answer ℕ) → code_in (entry_count_words a) ≡ 0 → (n : ℕ) × ((a ≡ Ok n) × (words_in was (entry_count_words a) ≡ n ∷ []))
  unfolding code_in words_in
  entries_code (Ok m) e = (m, (refl, refl))
  entries_code (Err r) e = absurd (omega (arith, positive r))

  entries_left : (a : Answer ℕ) → (code_in (entry_count_words a) ≡ 0 → ⊥) → (r : Refusal) × ((a ≡ Err r) × (words_in was (entry_count_words a) ≡ was))
  unfolding code_in
  entries_left (Ok m) n = absurd (n refl)
  entries_left (Err r) n = (r, (refl, sym (refused was r [] refl refl).1))

count_100 : (a : Answer (Option ℕ)) → (code_in (sample_count_words a) ≡ 100) ↔ (a ≡ Absent)
unfolding code_in
count_100 (Found m) = (λ e. absurd (omega arith), λ e. absurd (let z : ◌≡◌ {A = ℕ} 0 1 = cc in omega arith))
count_100 Absent = (λ e. refl, λ e. refl)
count_100 (Err r) = (λ e. absurd (omega (arith, small r)), λ e. absurd (let z : ◌≡◌ {A = ℕ} 0 1 = cc in omega arith))

count_refused : (a : Answer (Option ℕ)) (r : Refusal) → (code_in (sample_count_words a) ≡ number_of r) ↔ (a ≡ Err r)
unfolding code_in
count_refused (Found m) r = (λ e. absurd (omega (arith, positive r)), λ e. absurd (let z : ◌≡◌ {A = ℕ} 0 1 = cc in omega arith))
count_refused Absent r = (λ e. absurd (omega (arith, small r)), λ e. absurd (let z : ◌≡◌ {A = ℕ} 0 1 = cc in omega arith))
count_refused (Err t) r = (λ e. ap Err (same_number t r e), λ e. let q : t ≡ r = cc in ap number_of q)

totals_refused : (a : Answer SampleTotals) (r : Refusal) → (code_in (sample_totals_words a) ≡ number_of r) ↔ (a ≡ Err r)
unfolding code_in
totals_refused (Ok it) r = (λ e. absurd (omega (arith, positive r)), λ e. absurd (let z : ◌≡◌ {A = ℕ} 0 1 = cc in omega arith))
totals_refused (Err t) r = (λ e. ap Err (same_number t r e), λ e. let q : t ≡ r = cc in ap number_of q)

entries_refused : (a : Answer ℕ) (r : Refusal) → (code_in (entry_count_words a) ≡ number_of r) ↔ (a ≡ Err r)
unfolding code_in
entries_refused (Ok m) r = (λ e. absurd (omega (arith, positive r)), λ e. absurd (let z : ◌≡◌ {A = ℕ} 0 1 = cc in omega arith))
entries_refused (Err t) r = (λ e. ap Err (same_number t r e), λ e. let q : t ≡ r = cc in ap number_of q)

-- ---- of the three functions, with any words in `out` before

module _ (samples : List ℕ) (was : List ℕ) where
  -- 0 and n in out[0] exactly if the section keeps the rules and has n as the count for the offset
  pub dcpi_lookup_0 : (offset n : ℕ)
      → ((code_in (sample_count_words (sample_lookup samples offset)) ≡ 0) × (words_in was (sample_count_words (sample_lookup samples offset)) ≡ n ∷ []))
      ↔ (SamplesKept samples × HasCount samples offset n)
  dcpi_lookup_0 offset n = Iff.trans (count_0 was (sample_lookup samples offset) n) ((samples_say samples).found offset n)

  -- 100 exactly if it has none
  pub dcpi_lookup_100 : (offset : ℕ) → (code_in (sample_count_words (sample_lookup samples offset)) ≡ 100)
      ↔ (SamplesKept samples × ((n : ℕ) → HasCount samples offset n → ⊥))
  dcpi_lookup_100 offset = Iff.trans (count_100 (sample_lookup samples offset)) ((samples_say samples).absent offset)

  -- else the number by which the section is refused; `out` is written only with 0
  pub dcpi_lookup_refused : (offset : ℕ) (r : Refusal) → (code_in (sample_count_words (sample_lookup samples offset)) ≡ number_of r)
      ↔ (samples_check samples ≡ Err r)
  dcpi_lookup_refused offset r = Iff.trans (count_refused (sample_lookup samples offset) r) ((samples_say samples).lookup_refused offset r)

  pub dcpi_lookup_left : (offset : ℕ) → (code_in (sample_count_words (sample_lookup samples offset)) ≡ 0 → ⊥)
      → words_in was (sample_count_words (sample_lookup samples offset)) ≡ was
  dcpi_lookup_left offset = count_left was (sample_lookup samples offset)

  pub dcpi_totals_0 : (x y : ℕ)
      → ((code_in (sample_totals_words (sample_totals samples)) ≡ 0) × (words_in was (sample_totals_words (sample_totals samples)) ≡ x ∷ y ∷ []))
      ↔ (SamplesKept samples × ((x ≡ length (non_zero (sample_counts samples))) × (y ≡ sum_of (sample_counts samples))))
  dcpi_totals_0 x y = Iff.trans (totals_0 was (sample_totals samples) x y) ((samples_say samples).totals x y)

  pub dcpi_totals_refused : (r : Refusal) → (code_in (sample_totals_words (sample_totals samples)) ≡ number_of r) ↔ (samples_check samples ≡ Err r)
  dcpi_totals_refused r = Iff.trans (totals_refused (sample_totals samples) r) ((samples_say samples).totals_refused r)

  pub dcpi_totals_left : (code_in (sample_totals_words (sample_totals samples)) ≡ 0 → ⊥) → words_in was (sample_totals_words (sample_totals samples)) ≡ was
  dcpi_totals_left = totals_left was (sample_totals samples)

  module _ (octets : Octets samples) (profile metric : ℕ) (p-fits : profile < 2 ^ 32) (m-fits : metric < 2 ^ 16) (lent : List ℕ) where
    says : EntriesSay samples profile metric lent (list_answer samples (length lent)) (list_entries samples profile metric lent)
    says = entries_say samples octets profile metric p-fits m-fits lent

    -- 0 and n in out[0] exactly if the section keeps the rules, n counts are not zero, and there is room
    pub dcpi_entries_0 : (n : ℕ)
        → ((code_in (entry_count_words (list_answer samples (length lent))) ≡ 0) × (words_in was (entry_count_words (list_answer samples (length lent))) ≡ n ∷ []))
        ↔ (SamplesKept samples × ((n ≡ length (non_zero (sample_counts samples))) × (n * 24 ≤ length lent)))
    dcpi_entries_0 n = Iff.trans (entries_0 was (list_answer samples (length lent)) n) (says.is-listed n)

    pub dcpi_entries_17 : (code_in (entry_count_words (list_answer samples (length lent))) ≡ 17)
        ↔ (SamplesKept samples × (length lent < length (non_zero (sample_counts samples)) * 24))
    dcpi_entries_17 = Iff.trans (entries_refused (list_answer samples (length lent)) No.Room) says.is_17

    -- then the first n entries are as EntriesSay has it, in one: exactly the counts that are not zero, sorted, and the bytes behind them stay
    pub dcpi_listed : code_in (entry_count_words (list_answer samples (length lent))) ≡ 0
        → (n : ℕ)
        × ((words_in was (entry_count_words (list_answer samples (length lent))) ≡ n ∷ [])
        × (((p context m bits : ℕ) → HasEntry (entries_in (first_entries n (list_entries samples profile metric lent))) p context m bits
        ↔ ((p ≡ profile) × ((m ≡ metric) × CountedAs samples context bits)))
        × (Ascending (entries_in (first_entries n (list_entries samples profile metric lent)))
        × (drop (n * 24) (list_entries samples profile metric lent) ≡ drop (n * 24) lent))))
    dcpi_listed e =
        let h = entries_code was (list_answer samples (length lent)) e in
        (h.0, (h.1.1, (says.has_entry h.0 h.1.0, (says.ascending h.0 h.1.0, says.rest h.0 h.1.0))))

    -- any other code than 17 is the section's; with none of them a byte or a word has changed
    pub dcpi_entries_refused : (r : Refusal) → (r ≡ No.Room → ⊥)
        → (code_in (entry_count_words (list_answer samples (length lent))) ≡ number_of r) ↔ (samples_check samples ≡ Err r)
    dcpi_entries_refused r n = Iff.trans (entries_refused (list_answer samples (length lent)) r) (says.refused r n)

    pub dcpi_entries_left : (code_in (entry_count_words (list_answer samples (length lent))) ≡ 0 → ⊥)
        → (words_in was (entry_count_words (list_answer samples (length lent))) ≡ was) × (list_entries samples profile metric lent ≡ lent)
    dcpi_entries_left n =
        let h = entries_left was (list_answer samples (length lent)) n in
        (h.1.1, says.untouched h.0 h.1.0)

  -- ---- no other codes

  -- the number of a section's refusal
  abbrev OfSection : ℕ → Type 0
  OfSection code = (code ≡ 1) ⊎ ((code ≡ 7) ⊎ ((code ≡ 11) ⊎ (code ≡ 20)))

  of_section : (r : Refusal) → samples_check samples ≡ Err r → OfSection (number_of r)
  of_section = (samples_say samples).check.no_other

  pub dcpi_lookup_codes : (offset : ℕ) → let code = code_in (sample_count_words (sample_lookup samples offset)) in
      (code ≡ 0) ⊎ ((code ≡ 100) ⊎ OfSection code)
  dcpi_lookup_codes offset = go (sample_lookup samples offset) refl
    where
      go : (a : Answer (Option ℕ)) → sample_lookup samples offset ≡ a
          → let code = code_in (sample_count_words (sample_lookup samples offset)) in (code ≡ 0) ⊎ ((code ≡ 100) ⊎ OfSection code)
      go (Found n) e = inl ((count_0 [] (sample_lookup samples offset) n).1 e).0
      go Absent e = inr (inl ((count_100 (sample_lookup samples offset)).1 e))
      go (Err r) e =
          inr (inr (rw ((count_refused (sample_lookup samples offset) r).1 e) (of_section r (((samples_say samples).lookup_refused offset r).0 e))))

  pub dcpi_totals_codes : let code = code_in (sample_totals_words (sample_totals samples)) in (code ≡ 0) ⊎ OfSection code
  dcpi_totals_codes = go (sample_totals samples) refl
    where
      go : (a : Answer SampleTotals) → sample_totals samples ≡ a → let code = code_in (sample_totals_words (sample_totals samples)) in (code ≡ 0) ⊎ OfSection code
      go (Ok it) e = inl ((totals_0 [] (sample_totals samples) it.offsets it.samples).1 e).0
      go (Err r) e = inr (rw ((totals_refused (sample_totals samples) r).1 e) (of_section r (((samples_say samples).totals_refused r).0 e)))
