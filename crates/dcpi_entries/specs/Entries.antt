-- "list the non-zero ones as entries for the writer of 2026-02, with profile and metric given and the offset as context; their number is
-- the answer, later entries stay .. 17 if the lent entries are too few, with none written" (2026-06).
use Rattle.std.specs.Prelude.{ℕ, ◌/◌, List, [], ◌∷◌, ◌++◌, leb, length, Err, Ok}
use Rattle.refusal.specs.declared.Refusal.TheVariants as No
use Rattle.refusal.specs.Check.{rule, first, if_passed, Check, Answer}
use Rattle.refusal.specs.Words.{number_words}
use Rattle.layout.specs.Bytes.{◌is◌, fields}
use Rattle.buffer.specs.Over.{over}
use Rattle.float.specs.Float.{integer_bits}
use Rattle.dcpi.specs.Samples.{OffsetCount, sample_counts, non_zero}
use Rattle.dcpi.specs.Check.{samples_check}

-- an entry has 24 bytes: profile, context, metric, six of 0, and the bits of the count as a float
unfoldable pub entry_bytes : (profile metric : ℕ) → OffsetCount → List ℕ
entry_bytes profile metric x =
    fields (4 is profile ∷ 4 is x.offset ∷ 2 is metric ∷ 6 is 0 ∷ 8 is integer_bits x.count ∷ [])

unfoldable pub entries_of : (profile metric : ℕ) → List OffsetCount → List ℕ
entries_of profile metric [] = []
entries_of profile metric (x ∷ xs) = entry_bytes profile metric x ++ entries_of profile metric xs

-- 17 comes last; `room` is how many bytes are lent, of which a last piece under 24 is no entry
unfoldable pub list_check : List ℕ → (room : ℕ) → Check
list_check s room = first (samples_check s) (rule (leb (length (non_zero (sample_counts s))) (room / 24)) No.Room)

-- how many entries there are, or the refusal
unfoldable pub list_answer : List ℕ → (room : ℕ) → Answer ℕ
list_answer s room = if_passed Err (list_check s room) (Ok (length (non_zero (sample_counts s))))

-- the lent bytes afterwards
unfoldable pub list_entries : List ℕ → (profile metric : ℕ) (entries : List ℕ) → List ℕ
list_entries s profile metric entries =
    if_passed (λ r. entries) (list_check s (length entries)) (over entries 0 (entries_of profile metric (non_zero (sample_counts s))))

-- an answer in words: its number, then how many entries there are
abbrev pub entry_count_words : Answer ℕ → List ℕ
entry_count_words a = number_words a
