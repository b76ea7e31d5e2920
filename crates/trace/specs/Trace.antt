-- Trace lines of trace.db: samples of 12 bytes, each a u64 timestamp and a u32 context.
use Rattle.trace.specs.declared.Line.{Line}
use Rattle.trace.specs.declared.Sample.{Sample}
use Rattle.std.specs.Prelude.{ℕ, ◌+◌, ◌-◌, ◌*◌, ◌/◌, Bool, ◌&&◌, List, [], ◌∷◌, ltb, leb, Err, None, Option, Some, Ok}
use Rattle.le.specs.Number.{number}
use Rattle.range.specs.Range.{multiple}
use Rattle.refusal.specs.declared.Refusal.TheVariants as No
use Rattle.refusal.specs.Check.{rule, first, if_passed, Check, Answer, on_answer, Found, Absent}
use Rattle.refusal.specs.Words.{refused_words}
use Rattle.open.specs.Format as Format
use Rattle.open.specs.Names as Section
use Rattle.open.specs.Opening.{on_opened}
use Rattle.array.specs.Element.{element_at}
use Rattle.array.specs.Stored.{array_in}
use Rattle.seq.specs.Sequence.{rises, last_up_to}
use Rattle.outside.specs.Outside.{lies}

-- sample k of those at a place
unfoldable pub time_at : List ℕ → (place k : ℕ) → ℕ
time_at file place k = number 8 file (place + k * 12)

unfoldable pub context_at : List ℕ → (place k : ℕ) → ℕ
context_at file place k = number 4 file (place + k * 12 + 8)

-- ---- a line, from start to end

-- 7
unfoldable pub line_rule : List ℕ → (sections : List (List ℕ)) → (start end : ℕ) → Bool
line_rule file sections start end =
    (multiple start 8 && multiple end 4)
    && ((leb start end && multiple (end - start) 12) && lies file (Format.trace).header sections start (end - start))

abbrev pub samples_of : (start end : ℕ) → ℕ
samples_of start end = (end - start) / 12

-- 11: a timestamp is at least this much above the one before it (2026-01: it may repeat, and it may not fall)
abbrev pub least_gap : ℕ
least_gap = 0

unfoldable pub line_check : List ℕ → (sections : List (List ℕ)) → (start end : ℕ) → Check
line_check file sections start end =
    first (rule (line_rule file sections start end) No.Array) (rule (rises 0 least_gap (time_at file start) (samples_of start end)) No.Order)

-- answers that give a line, a sample, and one that may be missing
abbrev pub given_line : (profile place samples : ℕ) → Answer Line
given_line profile place samples = Ok (record { profile = profile; place = place; samples = samples })

abbrev pub given_sample : (position time context : ℕ) → Answer Sample
given_sample position time context = Ok (record { position = position; time = time; context = context })

abbrev pub found_sample : (position time context : ℕ) → Answer (Option Sample)
found_sample position time context = Found (record { position = position; time = time; context = context })

unfoldable pub line_of : List ℕ → (sections : List (List ℕ)) → (profile start end : ℕ) → Answer Line
line_of file sections profile start end = if_passed Err (line_check file sections start end) (given_line profile start (samples_of start end))

-- by position: 15, then 7, then 11
unfoldable pub line_in : List ℕ → (sections : List (List ℕ)) → (i : ℕ) → Answer Line
line_in file sections i =
    on_answer Err (element_at (array_in Format.trace file sections Section.infos) i)
    (λ at. line_of file sections (number 4 file at) (number 8 file (at + 8)) (number 8 file (at + 16)))

unfoldable pub line_at : List ℕ → (i : ℕ) → Answer Line
line_at file i = on_opened Err Format.trace file (λ ps. line_in file ps i)

-- ---- its samples

unfoldable pub sample_of : List ℕ → (place k : ℕ) → Answer Sample
sample_of file place k = given_sample k (time_at file place k) (context_at file place k)

-- sample k: 15 after the line's own rules
unfoldable pub sample_in : List ℕ → (place samples k : ℕ) → Answer Sample
sample_in file place samples k = if_passed Err (rule (ltb k samples) No.Index) (sample_of file place k)

unfoldable pub sample_at : List ℕ → (i k : ℕ) → Answer Sample
sample_at file i k = on_answer Err (line_at file i) (λ l. sample_in file l.place l.samples k)

-- the last sample not later than a time
unfoldable pub sample_position : List ℕ → (place : ℕ) → Option ℕ → Answer (Option Sample)
sample_position file place (Some k) = found_sample k (time_at file place k) (context_at file place k)
sample_position file place None = Absent

unfoldable pub last_in : List ℕ → (place samples time : ℕ) → Answer (Option Sample)
last_in file place samples time = sample_position file place (last_up_to (time_at file place) time samples)

unfoldable pub last_at : List ℕ → (i time : ℕ) → Answer (Option Sample)
last_at file i time = on_answer Err (line_at file i) (λ l. last_in file l.place l.samples time)

-- ---- answers in words: the number; then profile and number of samples; timestamp and context; the same with the position before them

abbrev pub line_words : Answer Line → List ℕ
line_words (Ok it) = 0 ∷ it.profile ∷ it.samples ∷ []
line_words (Err r) = refused_words r

abbrev pub sample_words : Answer Sample → List ℕ
sample_words (Ok it) = 0 ∷ it.time ∷ it.context ∷ []
sample_words (Err r) = refused_words r

abbrev pub last_words : Answer (Option Sample) → List ℕ
last_words (Ok (Some it)) = 0 ∷ it.position ∷ it.time ∷ it.context ∷ []
last_words Absent = 100 ∷ []
last_words (Err r) = refused_words r
