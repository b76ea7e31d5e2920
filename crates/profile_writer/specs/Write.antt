-- Request 2026-02: what writing answers, and what it leaves. A file is written exactly if its check passes, from the first lent byte on.
use Rattle.std.specs.Prelude.{ℕ, List, length, Err, Ok}
use Rattle.refusal.specs.Check.{if_passed, Answer}
use Rattle.refusal.specs.Words.{number_words}
use Rattle.buffer.specs.Over.{over}
use Rattle.profile_file.specs.File.{profile_file}
use Rattle.profile_lists.specs.Lists.{survey_of, lists_check}

module _ (profiles tuples identifiers entries : List ℕ) where
  -- the file's length, or the refusal
  unfoldable pub write_answer : (room : ℕ) → Answer ℕ
  write_answer room =
      if_passed Err (lists_check profiles tuples identifiers entries room) (Ok (length (profile_file (survey_of profiles tuples identifiers entries))))

  -- the lent bytes afterwards: as they were where writing is refused, else with the file over them
  unfoldable pub write_file : (file : List ℕ) → List ℕ
  write_file file =
      if_passed (λ r. file) (lists_check profiles tuples identifiers entries (length file))
      (over file 0 (profile_file (survey_of profiles tuples identifiers entries)))

-- an answer in words: its number, then the length
abbrev pub written_words : Answer ℕ → List ℕ
written_words a = number_words a
