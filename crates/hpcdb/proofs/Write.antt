-- What a C program learns from hpcdb_profile_write, by its code and `out`: 0 says that the first out[0] bytes are the file of the lists, and
-- that it reads back as they are; 15, 11, 7 and 17 which rule is the first that is broken. No other code is given.
use Rattle.std.specs.Prelude.{Err, Ok}
use Rattle.refusal.specs.Check.{Answer}
use Prim.Native.Nat.{ℕ, ◌^◌, ◌≤◌, ◌<◌}
use mathlib.Core.List.{List, [], ◌∷◌}
use mathlib.Core.Logic.Iff
use mathlib.Core.Logic.{◌↔◌, ◌⊎◌, inl, inr}
use mathlib.Core.Path.{◌≡◌, refl, sym, ap}
use native.Mathlib.Omega.{arith}
use lib.ListN.{length, take, drop}
use Rattle.refusal.specs.declared.Refusal.{Refusal}
use Rattle.refusal.specs.declared.Refusal.TheVariants as No
use Rattle.refusal.specs.Number.{number_of}
use Rattle.refusal.specs.Words.{code_in}
use Rattle.refusal.proofs.Numbers.{positive, same_number}
use Rattle.layout.specs.Octets.{Octets}
use Rattle.profile_file.specs.Survey.{Ascending}
use Rattle.profile_file.specs.File.{profile_file}
use Rattle.profile_file.specs.Facts.{CountsFit}
use Rattle.profile_file.specs.ReadsBack.{ReadsBack}
use Rattle.profile_lists.specs.Lists.{entries_in, survey_of}
use Rattle.profile_writer.specs.Write.{write_answer, write_file, written_words}
use Rattle.profile_writer.specs.Sent.{Listed, WriteSays}
use Rattle.profile_writer.proofs.Says.{write_says}
use Rattle.words.specs.Convention.{words_in}
use Rattle.words.proofs.Laws.{refused}

-- ---- codes tell answers apart

write_refused_code : (a : Answer ℕ) (r : Refusal) → (code_in (written_words a) ≡ number_of r) ↔ (a ≡ Err r)
unfolding code_in
write_refused_code (Ok n) r = (λ e. absurd (omega (arith, positive r)), λ e. absurd (let z : ◌≡◌ {A = ℕ} 0 1 = cc in omega arith))
write_refused_code (Err s) r = (λ e. ap Err (same_number s r e), λ e. let q : s ≡ r = cc in ap number_of q)

written_code : (a : Answer ℕ) (was : List ℕ) → code_in (written_words a) ≡ 0 → (n : ℕ) × ((a ≡ Ok n) × (words_in was (written_words a) ≡ n ∷ []))
unfolding code_in words_in
written_code (Ok n) was e = (n, (refl, refl))
written_code (Err s) was e = absurd (omega (arith, positive s))

code_of : (a : Answer ℕ) (n : ℕ) → a ≡ Ok n → code_in (written_words a) ≡ 0
unfolding code_in
code_of a n e = rw e

-- what is not written is refused, and leaves the words
other_code : (a : Answer ℕ) (was : List ℕ) → (code_in (written_words a) ≡ 0 → ⊥)
    → (r : Refusal) × ((a ≡ Err r) × (words_in was (written_words a) ≡ was))
unfolding code_in
other_code (Ok n) was e = absurd (e refl)
other_code (Err s) was e = (s, (refl, sym (refused was s [] refl refl).1))

-- ---- of a call

module _ (profiles tuples identifiers entries file : List ℕ) (octets : Octets identifiers) (octets-e : Octets entries) (small : length file < 2 ^ 64) where
  abbrev pub words : List ℕ
  words = written_words (write_answer profiles tuples identifiers entries (length file))

  says : WriteSays profiles tuples identifiers entries file (write_answer profiles tuples identifiers entries (length file))
      (write_file profiles tuples identifiers entries file)
  says = write_says profiles tuples identifiers entries file octets octets-e small

  -- 0 exactly if every rule holds
  pub write_code_0 : (code_in (written_words (write_answer profiles tuples identifiers entries (length file))) ≡ 0)
      ↔ (Listed profiles tuples identifiers entries × (Ascending (entries_in entries) × (CountsFit (survey_of profiles tuples identifiers entries)
      × (length (profile_file (survey_of profiles tuples identifiers entries)) ≤ length file))))
  write_code_0 =
      let n = length (profile_file (survey_of profiles tuples identifiers entries)) in
      let a = write_answer profiles tuples identifiers entries (length file) in (
        λ e. let k = written_code a [] e in let h = (says.is_written k.0).0 k.1.0 in (h.0, (h.1.0, (h.1.1.0, h.1.1.1.0))),
        λ h. code_of a n ((says.is_written n).1 (h.0, (h.1.0, (h.1.1.0, (h.1.1.1, refl))))),
      )

  -- then out[0] is the length of the file that the first bytes are; it reads back as the lists, and the bytes behind it are as they were
  pub sent : (was : List ℕ) → code_in (written_words (write_answer profiles tuples identifiers entries (length file))) ≡ 0
      → (n : ℕ)
      × ((words_in was (written_words (write_answer profiles tuples identifiers entries (length file))) ≡ n ∷ [])
      × ((take n (write_file profiles tuples identifiers entries file) ≡ profile_file (survey_of profiles tuples identifiers entries))
      × (ReadsBack (survey_of profiles tuples identifiers entries) (take n (write_file profiles tuples identifiers entries file))
      × (drop n (write_file profiles tuples identifiers entries file) ≡ drop n file))))
  sent was e =
      let h = written_code (write_answer profiles tuples identifiers entries (length file)) was e in
      (h.0, (h.1.1, (says.is_file h.0 h.1.0, (says.reads_back h.0 h.1.0, says.rest h.0 h.1.0))))

  told_by : (r : Refusal) → (code_in words ≡ number_of r) ↔ (write_answer profiles tuples identifiers entries (length file) ≡ Err r)
  told_by = write_refused_code (write_answer profiles tuples identifiers entries (length file))

  -- any other code: the first rule that is broken, and no byte has changed
  pub write_code_15 : (code_in (written_words (write_answer profiles tuples identifiers entries (length file))) ≡ 15)
      ↔ (Listed profiles tuples identifiers entries → ⊥)
  write_code_15 = Iff.trans (told_by No.Index) says.refuses_15

  pub write_code_11 : (code_in (written_words (write_answer profiles tuples identifiers entries (length file))) ≡ 11)
      ↔ (Listed profiles tuples identifiers entries × (Ascending (entries_in entries) → ⊥))
  write_code_11 = Iff.trans (told_by No.Order) says.refuses_11

  pub write_code_7 : (code_in (written_words (write_answer profiles tuples identifiers entries (length file))) ≡ 7)
      ↔ (Listed profiles tuples identifiers entries
      × (Ascending (entries_in entries) × (CountsFit (survey_of profiles tuples identifiers entries) → ⊥)))
  write_code_7 = Iff.trans (told_by No.Array) says.refuses_7

  pub write_code_17 : (code_in (written_words (write_answer profiles tuples identifiers entries (length file))) ≡ 17)
      ↔ (Listed profiles tuples identifiers entries × (Ascending (entries_in entries) × (CountsFit (survey_of profiles tuples identifiers entries)
      × (length file < length (profile_file (survey_of profiles tuples identifiers entries))))))
  write_code_17 = Iff.trans (told_by No.Room) says.refuses_17

  -- no other code is given
  pub write_codes : (code_in words ≡ 0) ⊎ ((code_in words ≡ 15) ⊎ ((code_in words ≡ 11) ⊎ ((code_in words ≡ 7) ⊎ (code_in words ≡ 17))))
  write_codes = go (write_answer profiles tuples identifiers entries (length file)) refl
    where
      go : (a : Answer ℕ) → write_answer profiles tuples identifiers entries (length file) ≡ a
          → (code_in words ≡ 0) ⊎ ((code_in words ≡ 15) ⊎ ((code_in words ≡ 11) ⊎ ((code_in words ≡ 7) ⊎ (code_in words ≡ 17))))
      go (Ok n) e = inl (code_of (write_answer profiles tuples identifiers entries (length file)) n e)
      go (Err r) e = inr (rw ((told_by r).1 e) (says.no_other r e))

  pub not_sent : (was : List ℕ) → (code_in (written_words (write_answer profiles tuples identifiers entries (length file))) ≡ 0 → ⊥)
      → (words_in was (written_words (write_answer profiles tuples identifiers entries (length file))) ≡ was)
      × (write_file profiles tuples identifiers entries file ≡ file)
  not_sent was n =
      let h = other_code (write_answer profiles tuples identifiers entries (length file)) was n in
      (h.1.1, says.untouched h.0 h.1.0)
