-- The lists as they are lent, as a survey. Ids are as wide as their fields, so that none can be too large.
use Rattle.refusal.specs.Check.{Check}
use Rattle.std.specs.Prelude.{ℕ, ◌+◌, ◌*◌, ◌/◌, Bool, List, leb, length, get_or}
use Rattle.le.specs.Number.{number}
use Rattle.seq.specs.Sequence.{sum}
use Rattle.profile_file.specs.Survey.{Tuples, Entries, Survey}
use Rattle.profile_file.specs.Check.{write_check}

-- word k of a slice
abbrev pub word_of : List ℕ → (k : ℕ) → ℕ
word_of words k = get_or words k 0

-- an entry has 24 bytes: u32 profile, u32 context, u16 metric, six ignored, u64 bits; a last piece that is shorter is none
abbrev pub entries_in : (entries : List ℕ) → Entries
entries_in entries = record {
  count = length entries / 24;
  profile = λ k. number 4 entries (k * 24);
  context = λ k. number 4 entries (k * 24 + 4);
  metric = λ k. number 2 entries (k * 24 + 8);
  bits = λ k. number 8 entries (k * 24 + 16);
}

-- word t of `tuples` is how many identifications tuple t has; those of all tuples stand one after the other, 16 bytes each:
-- u8 kind, one ignored, u16 flags, u32 logical id, u64 physical id
abbrev pub identification_at : (tuples : List ℕ) (t j : ℕ) → ℕ
identification_at tuples t j = (sum (word_of tuples) t + j) * 16

abbrev pub tuples_in : (tuples identifiers : List ℕ) → Tuples
tuples_in tuples identifiers = record {
  count = length tuples;
  size = word_of tuples;
  kind = λ t j. number 1 identifiers (identification_at tuples t j);
  flags = λ t j. number 2 identifiers (identification_at tuples t j + 2);
  logical = λ t j. number 4 identifiers (identification_at tuples t j + 4);
  physical = λ t j. number 8 identifiers (identification_at tuples t j + 8);
}

-- word p of `profiles` is the number of profile p's tuple
abbrev pub survey_of : (profiles tuples identifiers entries : List ℕ) → Survey
survey_of profiles tuples identifiers entries = record {
  profiles = length profiles;
  named = word_of profiles;
  tuples = tuples_in tuples identifiers;
  entries = entries_in entries;
}

-- the identifications that the tuples claim are all there
unfoldable pub all_there : (tuples identifiers : List ℕ) → Bool
all_there tuples identifiers = leb (sum (word_of tuples) (length tuples) * 16) (length identifiers)

unfoldable pub lists_check : (profiles tuples identifiers entries : List ℕ) (room : ℕ) → Check
lists_check profiles tuples identifiers entries room = write_check (survey_of profiles tuples identifiers entries) (all_there tuples identifiers) room
