-- A small survey, written and read back by computation: two profiles share a tuple, the other tuple is unused and has no identifications,
-- one profile has no entries, and one value is zero. It is writable, and so is the survey with nothing in it: the promise is not empty.
use Prim.Native.Nat.{◌^◌}
use mathlib.Core.Bool.{true}
use mathlib.Core.List.{[], ◌∷◌}
use mathlib.Core.Path.{◌≡◌, refl}
use native.Mathlib.Nat.{not-suc-le-zero}
use native.Mathlib.Omega.{arith}
use lib.ListN.{length, get_or}
use Rattle.layout.specs.Bytes.{bytes, fields, join}
use Rattle.layout.specs.Many.{many, to_four, zeros}
use Rattle.refusal.specs.Check.{either}
use Rattle.open.specs.Opening.{place_for}
use Rattle.seq.specs.Sequence.{every}
use Rattle.block_file.specs.Pairs.{leads, groups, value_element, index_element, written, indices_from, block_of, header_bytes}
use Rattle.profile_file.specs.Survey.{Survey, count_below, run_start, run_length}
use Rattle.profile_file.specs.File.{identification_bytes, tuple_bytes, block_bytes, tuples_from, tuples_size, tuple_from, block_from, block_header, info_bytes, file_header, infos_header, profile_file}
use Rattle.profile_file.specs.Facts.{Writable}
use Rattle.profile_file.specs.Check.{entries_listed, profiles_listed, before_rule, sorted_rule, sizes_fit, contexts_fit, counts_rule}
use Rattle.profile_file.specs.ReadsBack.{ReadsBack}
use Rattle.profile_file.proofs.Checks.{every_iff, sorted_iff, listed_iff, counts_iff}
use Rattle.profile_file.proofs.Promise.{reads_back}

abbrev pub two_profiles : Survey
two_profiles = record {
  profiles = 2;
  named = λ p. 1;
  tuples = record {
    count = 2;
    size = λ t. t;
    kind = λ t j. 7;
    flags = λ t j. 65535;
    logical = λ t j. 3;
    physical = λ t j. 9;
  };
  entries = record {
    count = 4;
    profile = λ k. 0;
    context = λ k. get_or (5 ∷ 5 ∷ 9 ∷ 9 ∷ []) k 0;
    metric = λ k. get_or (1 ∷ 4 ∷ 1 ∷ 2 ∷ []) k 0;
    bits = λ k. get_or (0x4000000000000000 ∷ 0x4008000000000000 ∷ 0x4014000000000000 ∷ 0 ∷ []) k 0;
  };
}

abbrev pub no_profiles : Survey
no_profiles = record {
  profiles = 0;
  named = λ p. 0;
  tuples = record {
    count = 0;
    size = λ t. 0;
    kind = λ t j. 0;
    flags = λ t j. 0;
    logical = λ t j. 0;
    physical = λ t j. 0;
  };
  entries = record {
    count = 0;
    profile = λ k. 0;
    context = λ k. 0;
    metric = λ k. 0;
    bits = λ k. 0;
  };
}

-- ---- computed

pub lengths : (length (profile_file two_profiles) ≡ 248) × (length (profile_file no_profiles) ≡ 72)
unfolding profile_file file_header infos_header tuples_from tuples_size tuple_from block_from block_header info_bytes identification_bytes tuple_bytes block_bytes run_length run_start count_below many fields bytes join written value_element index_element zeros to_four leads groups either header_bytes block_of indices_from place_for
lengths = (refl, refl)

-- ---- writable

pub two_writable : Writable two_profiles
unfolding entries_listed profiles_listed before_rule sorted_rule sizes_fit contexts_fit counts_rule every groups leads run_length run_start count_below either
two_writable = record {
  listed = ((listed_iff two_profiles true).0 refl).0;
  sorted = (sorted_iff two_profiles.entries).0 refl;
  counted = (counts_iff two_profiles).0 refl;
  fields_fit = record {
    context_fits = (every_iff two_profiles.entries.context (λ k. 2 ^ 32) 4).0 refl;
    metric_fits = (every_iff two_profiles.entries.metric (λ k. 2 ^ 16) 4).0 refl;
    bits_fit = (every_iff two_profiles.entries.bits (λ k. 2 ^ 64) 4).0 refl;
    kind_fits = λ t j l m. omega arith;
    flags_fit = λ t j l m. omega arith;
    logical_fits = λ t j l m. omega arith;
    physical_fits = λ t j l m. omega arith;
  };
  length_fits = omega (arith, lengths.0);
}

pub none_writable : Writable no_profiles
none_writable = record {
  listed = record { profile_listed = λ k l. absurd (not-suc-le-zero l); tuple_listed = λ p l. absurd (not-suc-le-zero l) };
  sorted = λ j k l m. absurd (not-suc-le-zero m);
  counted = record { profiles_fit = omega arith; sizes-fit = λ t l. omega arith; contexts-fit = λ p l. absurd (not-suc-le-zero l) };
  fields_fit = record {
    context_fits = λ k l. omega arith;
    metric_fits = λ k l. omega arith;
    bits_fit = λ k l. omega arith;
    kind_fits = λ t j l m. omega arith;
    flags_fit = λ t j l m. omega arith;
    logical_fits = λ t j l m. omega arith;
    physical_fits = λ t j l m. omega arith;
  };
  length_fits = omega (arith, lengths.1);
}

pub two_read_back : ReadsBack two_profiles (profile_file two_profiles)
two_read_back = reads_back two_profiles two_writable

pub none_read_back : ReadsBack no_profiles (profile_file no_profiles)
none_read_back = reads_back no_profiles none_writable
