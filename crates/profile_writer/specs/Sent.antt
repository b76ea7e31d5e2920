-- Request 2026-02 in facts, about any lent lists and any lent bytes: "write a complete version 4.0 file with the least strides and hand back
-- its length .. It opens with exactly the profiles given, each with its tuple as given, and its lookups find exactly the entries given, bit
-- for bit .. Refusals, in this order: 15 for a profile or tuple not listed, 11 if the entries are not strictly sorted, 7 if a list or a
-- profile's set of contexts is too long for its count field, 17 if the lent file is too short; nothing is written then. Bytes after the
-- file are not touched."
use Rattle.refusal.specs.Check.{Answer}
use Rattle.std.specs.Prelude.{ℕ, ◌*◌, ◌≤◌, ◌<◌, List, ◌↔◌, ◌⊎◌, ◌≡◌, length, take, drop, Err, Ok}
use Rattle.refusal.specs.declared.Refusal.{Refusal}
use Rattle.refusal.specs.declared.Refusal.TheVariants as No
use Rattle.refusal.specs.Number.{number_of}
use Rattle.seq.specs.Sequence.{sum}
use Rattle.profile_file.specs.Survey.{Survey, Ascending}
use Rattle.profile_file.specs.File.{profile_file}
use Rattle.profile_file.specs.Facts.{AllListed, CountsFit}
use Rattle.profile_file.specs.ReadsBack.{ReadsBack}
use Rattle.profile_lists.specs.Lists.{word_of, entries_in, survey_of}

module _ (profiles tuples identifiers entries : List ℕ) where
  abbrev given : Survey
  given = survey_of profiles tuples identifiers entries

  -- 15: everything named is listed, and the identifications that the tuples claim together are there
  abbrev pub Listed : Type 0
  Listed = AllListed given × (sum (word_of tuples) (length tuples) * 16 ≤ length identifiers)

  -- what is answered, and what the lent bytes are afterwards
  pub record WriteSays (file : List ℕ) (answer : Answer ℕ) (after : List ℕ) : Type 0 where
    -- the file's length exactly if every rule holds
    pub is_written : (n : ℕ)
        → (answer ≡ Ok n)
        ↔ (Listed × (Ascending (entries_in entries) × (CountsFit given × ((length (profile_file given) ≤ length file) × (n ≡ length (profile_file given))))))
    -- then the first bytes are the file, which reads back as the lists, and the others are as they were
    pub is_file : (n : ℕ) → answer ≡ Ok n → take n after ≡ profile_file given
    pub reads_back : (n : ℕ) → answer ≡ Ok n → ReadsBack given (take n after)
    pub rest : (n : ℕ) → answer ≡ Ok n → drop n after ≡ drop n file
    -- a refusal exactly if its rule is the first that is broken, and none but these four; nothing is written then
    pub refuses_15 : (answer ≡ Err No.Index) ↔ (Listed → ⊥)
    pub refuses_11 : (answer ≡ Err No.Order) ↔ (Listed × (Ascending (entries_in entries) → ⊥))
    pub refuses_7 : (answer ≡ Err No.Array) ↔ (Listed × (Ascending (entries_in entries) × (CountsFit given → ⊥)))
    pub refuses_17 : (answer ≡ Err No.Room)
        ↔ (Listed × (Ascending (entries_in entries) × (CountsFit given × (length file < length (profile_file given)))))
    pub no_other : (r : Refusal) → answer ≡ Err r → (number_of r ≡ 15) ⊎ ((number_of r ≡ 11) ⊎ ((number_of r ≡ 7) ⊎ (number_of r ≡ 17)))
    pub untouched : (r : Refusal) → answer ≡ Err r → after ≡ file
