-- What is written, as facts: everything named is listed, entries are sorted, and each number fits its field.
use Rattle.std.specs.Prelude.{ℕ, ◌^◌, ◌<◌, length}
use Rattle.block_file.specs.Pairs.{groups_of}
use Rattle.profile_file.specs.Survey.{Survey, Ascending, pairs_of}
use Rattle.profile_file.specs.File.{profile_file}

-- 15
pub record AllListed (s : Survey) : Type 0 where
  pub profile_listed : (k : ℕ) → k < s.entries.count → s.entries.profile k < s.profiles
  pub tuple_listed : (p : ℕ) → p < s.profiles → s.named p < s.tuples.count

-- 7: profiles, identifications and a profile's contexts can be counted in their fields
pub record CountsFit (s : Survey) : Type 0 where
  pub profiles_fit : s.profiles < 2 ^ 32
  pub sizes-fit : (t : ℕ) → t < s.tuples.count → s.tuples.size t < 2 ^ 16
  pub contexts-fit : (p : ℕ) → p < s.profiles → groups_of (pairs_of s.entries p) < 2 ^ 32

-- what the form in which the lists are lent cannot break
pub record FieldsFit (s : Survey) : Type 0 where
  pub context_fits : (k : ℕ) → k < s.entries.count → s.entries.context k < 2 ^ 32
  pub metric_fits : (k : ℕ) → k < s.entries.count → s.entries.metric k < 2 ^ 16
  pub bits_fit : (k : ℕ) → k < s.entries.count → s.entries.bits k < 2 ^ 64
  pub kind_fits : (t j : ℕ) → t < s.tuples.count → j < s.tuples.size t → s.tuples.kind t j < 2 ^ 8
  pub flags_fit : (t j : ℕ) → t < s.tuples.count → j < s.tuples.size t → s.tuples.flags t j < 2 ^ 16
  pub logical_fits : (t j : ℕ) → t < s.tuples.count → j < s.tuples.size t → s.tuples.logical t j < 2 ^ 32
  pub physical_fits : (t j : ℕ) → t < s.tuples.count → j < s.tuples.size t → s.tuples.physical t j < 2 ^ 64

-- all of these, in a file whose length is a u64
pub record Writable (s : Survey) : Type 0 where
  pub listed : AllListed s
  pub sorted : Ascending s.entries
  pub counted : CountsFit s
  pub fields_fit : FieldsFit s
  pub length_fits : length (profile_file s) < 2 ^ 64
