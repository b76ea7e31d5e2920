-- What was written is what is read: the file of a writable survey reads back as the survey.
use Rattle.profile_file.specs.Survey.{Survey}
use Rattle.profile_file.specs.File.{profile_file}
use Rattle.profile_file.specs.Facts.{Writable}
use Rattle.profile_file.specs.ReadsBack.{ReadsBack}
use Rattle.profile_file.proofs.Opens.{sections_are, opening_passes, major_is, minor_is, stride_is, count_is}
use Rattle.profile_file.proofs.Finds.{found_entry, absent_entry, lookup_unlisted}
use Rattle.profile_file.proofs.Tuples.{tuple_given, tuple_unlisted, identifier_is, no_more_identifiers, identifier_unlisted}

pub reads_back : (s : Survey) → Writable s → ReadsBack s (profile_file s)
reads_back s a = record {
  opens = opening_passes s a;
  major = major_is s a;
  minor = minor_is s a;
  least_stride = stride_is s a;
  sections = sections_are s a;
  profiles = count_is s a;
  found = λ p context metric bits l. found_entry s a p l context metric bits;
  absent = λ p context metric l. absent_entry s a p l context metric;
  no_profile = lookup_unlisted s a;
  tuple = tuple_given s a;
  no_tuple = tuple_unlisted s a;
  identifier = identifier_is s a;
  no_identifier = no_more_identifiers s a;
  unlisted = identifier_unlisted s a;
}
