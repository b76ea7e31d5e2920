-- Request 2026-06 of the entries in facts, about any bytes: what is listed, and what comes of it through the writer of 2026-02.
use Rattle.refusal.specs.Check.{Answer, Absent, Found}
use Rattle.std.specs.Prelude.{ℕ, ◌+◌, ◌*◌, ◌^◌, ◌≤◌, ◌<◌, List, ◌↔◌, ◌≡◌, length, take, drop, Err, Ok}
use Rattle.le.specs.Number.{number}
use Rattle.refusal.specs.declared.Refusal.{Refusal}
use Rattle.refusal.specs.declared.Refusal.TheVariants as No
use Rattle.float.specs.Float.{integer_bits, HasIntegerValue}
use Rattle.lookup.specs.Lookup.{profile_lookup}
use Rattle.block_file.specs.Pairs.{groups_of}
use Rattle.profile_file.specs.Survey.{Ascending, HasEntry, pairs_of}
use Rattle.profile_lists.specs.Lists.{entries_in}
use Rattle.profile_writer.specs.Write.{write_answer, write_file}
use Rattle.dcpi.specs.Samples.{sample_counts, non_zero}
use Rattle.dcpi.specs.Check.{samples_check}
use Rattle.dcpi.specs.Facts.{SamplesKept, HasCount}

-- a chunk has a count for the offset that is not zero, and the bits are those of the float whose value is the count, exactly: "A count
-- becomes a float without loss."
pub record CountedAs (s : List ℕ) (offset bits : ℕ) : Type 0 where
  pub count : ℕ
  pub has_count : HasCount s offset count
  pub not_zero : count ≡ 0 → ⊥
  pub bits_are : bits ≡ integer_bits count
  pub value_is : HasIntegerValue bits count

-- the lent bytes of the first n entries
abbrev pub first_entries : (n : ℕ) (lent : List ℕ) → List ℕ
first_entries n lent = take (n * 24) lent

-- "list the non-zero ones as entries for the writer of 2026-02, with profile and metric given and the offset as context; their number is
-- the answer, later entries stay": what is answered, and what the lent bytes are afterwards
pub record EntriesSay (s : List ℕ) (profile metric : ℕ) (lent : List ℕ) (answer : Answer ℕ) (after : List ℕ) : Type 0 where
  -- their number, exactly if the section keeps the rules and there is room for all
  pub is-listed : (n : ℕ)
      → (answer ≡ Ok n) ↔ (SamplesKept s × ((n ≡ length (non_zero (sample_counts s))) × (n * 24 ≤ length lent)))
  -- then there is an entry exactly for each count that is not zero, strictly sorted, with the ignored bytes 0
  pub has_entry : (n : ℕ) → answer ≡ Ok n → (p context m bits : ℕ)
      → HasEntry (entries_in (first_entries n after)) p context m bits ↔ ((p ≡ profile) × ((m ≡ metric) × CountedAs s context bits))
  pub ascending : (n : ℕ) → answer ≡ Ok n → Ascending (entries_in (first_entries n after))
  pub as_many : (n : ℕ) → answer ≡ Ok n → (entries_in (first_entries n after)).count ≡ n
  pub ignored : (n k : ℕ) → answer ≡ Ok n → k < n → number 6 (first_entries n after) (k * 24 + 10) ≡ 0
  pub rest : (n : ℕ) → answer ≡ Ok n → drop (n * 24) after ≡ drop (n * 24) lent
  -- "and 17 if the lent entries are too few, with none written", after all others
  pub is_17 : (answer ≡ Err No.Room) ↔ (SamplesKept s × (length lent < length (non_zero (sample_counts s)) * 24))
  pub refused : (r : Refusal) → (r ≡ No.Room → ⊥) → (answer ≡ Err r) ↔ (samples_check s ≡ Err r)
  pub untouched : (r : Refusal) → answer ≡ Err r → after ≡ lent

-- what was listed is written, among any profiles and tuples, and looked up
pub record SentOn (s : List ℕ) (profile metric : ℕ) (profiles tuples identifiers entries file : List ℕ) : Type 0 where
  -- the writer never refuses the entries by 11, and no profile has too many contexts of them for its count (7)
  pub contexts-fit : (p : ℕ) → groups_of (pairs_of (entries_in entries) p) < 2 ^ 32
  pub never_11 : write_answer profiles tuples identifiers entries (length file) ≡ Err No.Order → ⊥
  -- and what it writes has a value exactly for each count that is not zero, in the profile and metric given: the float of the count
  pub found : (n : ℕ) → write_answer profiles tuples identifiers entries (length file) ≡ Ok n → (p context m bits : ℕ) → p < length profiles
      → (profile_lookup (take n (write_file profiles tuples identifiers entries file)) p context m ≡ Found bits)
      ↔ ((p ≡ profile) × ((m ≡ metric) × CountedAs s context bits))
  pub absent : (n : ℕ) → write_answer profiles tuples identifiers entries (length file) ≡ Ok n → (p context m : ℕ) → p < length profiles
      → (profile_lookup (take n (write_file profiles tuples identifiers entries file)) p context m ≡ Absent)
      ↔ ((bits : ℕ) → (p ≡ profile) × ((m ≡ metric) × CountedAs s context bits) → ⊥)
