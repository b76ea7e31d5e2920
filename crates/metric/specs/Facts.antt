-- The strings of metrics, scopes and summaries as facts: when each is read, and where its place stands. An outer element is there, and its
-- array lies in the section; its string is not read.
use Rattle.std.specs.Prelude.{ℕ, ◌+◌, ◌<◌, List}
use Rattle.le.specs.Number.{number}
use Rattle.open.specs.Format.{meta, metrics_section}
use Rattle.open.specs.Names as Section
use Rattle.open.specs.Opening.{pairs, place_in, size_in}
use Rattle.open.specs.Kept.{ArrayKept, Opens}
use Rattle.text.specs.Facts.{Sited, StringSays}
use Rattle.array.specs.declared.Array.{Array}
use Rattle.meta.specs.Facts.{section_of, array_at, element_place}
use Rattle.metric.specs.Levels.{inner_array, scope_stride, summary_stride, metric_at, scope_at, summary_at, metric_text, scope_text, summary_text}

module _ (file : List ℕ) where
  -- 7 of an array that stands in the Metrics section
  abbrev pub KeptInMetrics : Array → Type 0
  KeptInMetrics a =
      ArrayKept (place_in (pairs meta file) Section.metrics) metrics_section.end (size_in (pairs meta file) Section.metrics) a.place a.count a.stride

  -- where each stands, and the array that it leads to
  abbrev pub metric_place : (m : ℕ) → ℕ
  metric_place m = element_place (array_at file Section.metrics) m

  abbrev pub scopes_of : (m : ℕ) → Array
  scopes_of m = inner_array file (metric_place m) (scope_stride file (pairs meta file))

  abbrev pub scope_place : (m s : ℕ) → ℕ
  scope_place m s = element_place (scopes_of m) s

  abbrev pub summaries_of : (m s : ℕ) → Array
  summaries_of m s = inner_array file (scope_place m s) (summary_stride file (pairs meta file))

  abbrev pub summary_place : (m s k : ℕ) → ℕ
  summary_place m s k = element_place (summaries_of m s) k

  -- each is there, and its own array is kept
  abbrev pub HasMetric : (m : ℕ) → Type 0
  HasMetric m = (m < (array_at file Section.metrics).count) × KeptInMetrics (scopes_of m)

  abbrev pub HasScope : (m s : ℕ) → Type 0
  HasScope m s = HasMetric m × ((s < (scopes_of m).count) × KeptInMetrics (summaries_of m s))

  abbrev pub HasSummary : (m s k : ℕ) → Type 0
  HasSummary m s k = HasScope m s × (k < (summaries_of m s).count)

  -- the string whose place stands first in it
  abbrev pub level_string : (at : ℕ) (There : Type 0) → Sited
  level_string at There = record { section = section_of file Section.metrics; place = number 8 file (at + 0); Read = Opens meta file × There }

  abbrev pub metric_string : (m : ℕ) → Sited
  metric_string m = level_string (metric_place m) (HasMetric m)

  abbrev pub scope_string : (m s : ℕ) → Sited
  scope_string m s = level_string (scope_place m s) (HasScope m s)

  abbrev pub summary_string : (m s k : ℕ) → Sited
  summary_string m s k = level_string (summary_place m s k) (HasSummary m s k)

  pub record LevelsSay : Type 0 where
    pub metric : (m : ℕ) → StringSays file (metric_string m) (metric_text (metric_at file m))
    pub scope : (m s : ℕ) → StringSays file (scope_string m s) (scope_text (scope_at file m s))
    pub summary : (m s k : ℕ) → StringSays file (summary_string m s k) (summary_text (summary_at file m s k))
