-- What was written is what is read: of a profile.db written from a survey, through the readers' own definitions.
use Rattle.refusal.specs.Check.{Passed, Answer, Absent, Found}
use Rattle.tuple.specs.declared.Identifier.{Identifier}
use Rattle.std.specs.Prelude.{ℕ, ◌≤◌, ◌<◌, List, ◌↔◌, ◌≡◌, Err, Ok}
use Rattle.le.specs.Number.{number}
use Rattle.refusal.specs.declared.Refusal.TheVariants as No
use Rattle.open.specs.Format as Format
use Rattle.open.specs.Opening.{pairs, opening}
use Rattle.array.specs.declared.Array.{Array}
use Rattle.lookup.specs.Lookup.{profile_lookup}
use Rattle.count.specs.Count.{count_of}
use Rattle.tuple.specs.Tuple.{tuple_at, identifier_at, given_identifier}
use Rattle.profile_file.specs.Survey.{Tuples, Survey, HasEntry}
use Rattle.profile_file.specs.File.{section_pairs}

-- identification j of tuple t, as it is handed back
abbrev pub identification_of : Tuples → (t j : ℕ) → Answer Identifier
identification_of ts t j = given_identifier (ts.kind t j) (ts.flags t j) (ts.logical t j) (ts.physical t j)

pub record ReadsBack (s : Survey) (file : List ℕ) : Type 0 where
  pub opens : opening Format.profile file ≡ Passed
  -- version 4.0, and the least stride
  pub major : number 1 file 14 ≡ 4
  pub minor : number 1 file 15 ≡ 0
  pub least_stride : number 1 file 60 ≡ 40
  -- place and size of its sections
  pub sections : pairs Format.profile file ≡ section_pairs s
  -- exactly the profiles given
  pub profiles : count_of Format.profile file ≡ Ok s.profiles
  -- a value is found exactly if it was given; any other pair of a listed profile is absent; 15 in a profile that is not listed. A batch of
  -- pairs is answered by the same definition, `lookup_in`, in the same block
  pub found : (p context metric bits : ℕ) → p < s.profiles
      → (profile_lookup file p context metric ≡ Found bits) ↔ HasEntry s.entries p context metric bits
  pub absent : (p context metric : ℕ) → p < s.profiles
      → (profile_lookup file p context metric ≡ Absent) ↔ ((bits : ℕ) → HasEntry s.entries p context metric bits → ⊥)
  pub no_profile : (p context metric : ℕ) → s.profiles ≤ p → profile_lookup file p context metric ≡ Err No.Index
  -- each with its tuple as given: as many identifications, and each of them; 15 past the last, and in a profile that is not listed
  pub tuple : (p : ℕ) → p < s.profiles → (a : Array) × ((tuple_at file p ≡ Ok a) × (a.count ≡ s.tuples.size (s.named p)))
  pub no_tuple : (p : ℕ) → s.profiles ≤ p → tuple_at file p ≡ Err No.Index
  pub identifier : (p j : ℕ) → p < s.profiles → j < s.tuples.size (s.named p)
      → identifier_at file p j ≡ identification_of s.tuples (s.named p) j
  pub no_identifier : (p j : ℕ) → p < s.profiles → s.tuples.size (s.named p) ≤ j → identifier_at file p j ≡ Err No.Index
  pub unlisted : (p j : ℕ) → s.profiles ≤ p → identifier_at file p j ≡ Err No.Index
