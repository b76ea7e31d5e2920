-- The rules of a trace line, and what its readers say of it, in facts.
use Rattle.refusal.specs.Check.{Absent}
use Rattle.std.specs.Prelude.{ℕ, suc, ◌+◌, ◌-◌, ◌*◌, ◌%◌, ◌≤◌, ◌<◌, List, ◌↔◌, ◌≡◌, Err}
use Rattle.le.specs.Number.{number}
use Rattle.refusal.specs.declared.Refusal.{Refusal}
use Rattle.refusal.specs.declared.Refusal.TheVariants as No
use Rattle.open.specs.Format as Format
use Rattle.open.specs.Names as Section
use Rattle.open.specs.Opening.{pairs, opening}
use Rattle.open.specs.Kept.{Opens}
use Rattle.array.specs.declared.Array.{Array}
use Rattle.array.specs.Stored.{array_in}
use Rattle.outside.specs.Facts.{LiesOutside}
use Rattle.trace.specs.Trace.{time_at, context_at, samples_of, line_at, sample_at, last_at, given_line, given_sample, found_sample}

-- ---- the rules of a line from start to end

-- 7
pub record RangeKept (file : List ℕ) (sections : List (List ℕ)) (start end : ℕ) : Type 0 where
  pub start_aligned : start % 8 ≡ 0
  pub end_aligned : end % 4 ≡ 0
  pub in_order : start ≤ end
  pub whole_samples : (end - start) % 12 ≡ 0
  pub lies_outside : LiesOutside file (Format.trace).header sections start (end - start)

-- 11: "Timestamps may now repeat; they may not fall."
abbrev pub TimesKept : List ℕ → (start end : ℕ) → Type 0
TimesKept file start end = (k : ℕ) → suc k < samples_of start end → time_at file start k ≤ time_at file start (suc k)

-- a timestamp that falls
pub record TimeFalls (file : List ℕ) (start end : ℕ) : Type 0 where
  pub k : ℕ
  pub next : suc k < samples_of start end
  pub falls : time_at file start (suc k) < time_at file start k

-- ---- line i of a file

-- the trace headers {TH}, and where that of line i stands
abbrev pub trace_headers : List ℕ → Array
trace_headers file = array_in Format.trace file (pairs Format.trace file) Section.infos

abbrev pub trace_header_at : List ℕ → (i : ℕ) → ℕ
trace_header_at file i = (trace_headers file).place + i * (trace_headers file).stride

-- the file opens, and line i has a header, with this start and end
pub record HeaderThere (file : List ℕ) (i start end : ℕ) : Type 0 where
  pub opens : Opens Format.trace file
  pub element : i < (trace_headers file).count
  pub its-start : start ≡ number 8 file (trace_header_at file i + 8)
  pub its-end : end ≡ number 8 file (trace_header_at file i + 16)

-- line i is there and keeps 7 and 11: a line of this profile, with so many samples from a place on
pub record LineThere (file : List ℕ) (i profile place samples : ℕ) : Type 0 where
  pub end : ℕ
  pub header : HeaderThere file i place end
  pub range : RangeKept file (pairs Format.trace file) place end
  pub times : TimesKept file place end
  pub its_profile : profile ≡ number 4 file (trace_header_at file i)
  pub counted : samples ≡ samples_of place end

-- line i is there and keeps 7, and a timestamp falls
pub record LineFalls (file : List ℕ) (i : ℕ) : Type 0 where
  pub start : ℕ
  pub end : ℕ
  pub header : HeaderThere file i start end
  pub range : RangeKept file (pairs Format.trace file) start end
  pub falls : TimeFalls file start end

-- ---- its samples

-- line i is there and keeps its rules, and has a sample at this position, with this timestamp and context
pub record SampleThere (file : List ℕ) (i position timestamp context : ℕ) : Type 0 where
  pub profile : ℕ
  pub place : ℕ
  pub samples : ℕ
  pub line : LineThere file i profile place samples
  pub within : position < samples
  pub its_timestamp : timestamp ≡ time_at file place position
  pub its_context : context ≡ context_at file place position

-- and it is the last that is not later than a time: every sample behind it is later, so that of equal timestamps it is the one at the
-- highest position
pub record LastNotLater (file : List ℕ) (i time position timestamp context : ℕ) : Type 0 where
  pub sample : SampleThere file i position timestamp context
  pub not_later : timestamp ≤ time
  pub later_behind : (j : ℕ) → position < j → j < sample.samples → time < time_at file sample.place j

-- line i is there and keeps its rules, and every sample is later than a time
pub record AllLater (file : List ℕ) (i time : ℕ) : Type 0 where
  pub profile : ℕ
  pub place : ℕ
  pub samples : ℕ
  pub line : LineThere file i profile place samples
  pub later : (j : ℕ) → j < samples → time < time_at file place j

-- ---- what the three readers say of line i

-- "11 in a trace line is now given only for a timestamp that falls", whatever is asked of the line; "Asked for a time, answer the last
-- sample not later, else absent."
pub record LineSays (file : List ℕ) (i : ℕ) : Type 0 where
  pub line : (profile place samples : ℕ) → (line_at file i ≡ given_line profile place samples) ↔ LineThere file i profile place samples
  pub line_not_opened : (r : Refusal) → opening Format.trace file ≡ Err r → line_at file i ≡ Err r
  pub line_15 : (line_at file i ≡ Err No.Index) ↔ (Opens Format.trace file × ((trace_headers file).count ≤ i))
  pub line_7 : (start end : ℕ) → HeaderThere file i start end → (RangeKept file (pairs Format.trace file) start end → ⊥)
      → line_at file i ≡ Err No.Array
  pub line_11 : (line_at file i ≡ Err No.Order) ↔ LineFalls file i
  -- a sample is refused as its line is
  pub sample_refused : (k : ℕ) (r : Refusal) → line_at file i ≡ Err r → sample_at file i k ≡ Err r
  pub sample : (k position timestamp context : ℕ)
      → (sample_at file i k ≡ given_sample position timestamp context) ↔ ((position ≡ k) × SampleThere file i position timestamp context)
  pub sample_15 : (k profile place samples : ℕ) → LineThere file i profile place samples → samples ≤ k → sample_at file i k ≡ Err No.Index
  pub sample_11 : (k : ℕ) → (sample_at file i k ≡ Err No.Order) ↔ LineFalls file i
  -- so is the last one not later
  pub last_refused : (time : ℕ) (r : Refusal) → line_at file i ≡ Err r → last_at file i time ≡ Err r
  pub last : (time position timestamp context : ℕ)
      → (last_at file i time ≡ found_sample position timestamp context) ↔ LastNotLater file i time position timestamp context
  pub absent : (time : ℕ) → (last_at file i time ≡ Absent) ↔ AllLater file i time
  pub last_11 : (time : ℕ) → (last_at file i time ≡ Err No.Order) ↔ LineFalls file i
