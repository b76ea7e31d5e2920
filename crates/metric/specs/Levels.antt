-- Metrics, their scopes, and the scopes' summaries: arrays in arrays, all in the Metrics section.
use Rattle.text.specs.declared.Text.{Text}
use Rattle.metric.specs.declared.Nested.{Nested}
use Rattle.metric.specs.declared.Metric.{Metric}
use Rattle.metric.specs.declared.Scope.{Scope}
use Rattle.metric.specs.declared.Summary.{Summary}
use Rattle.std.specs.Prelude.{ℕ, ◌+◌, List, [], ◌∷◌, get_or, Err, Ok}
use Rattle.le.specs.Number.{number}
use Rattle.refusal.specs.declared.Refusal.TheVariants as No
use Rattle.refusal.specs.Check.{either, Answer, on_answer}
use Rattle.refusal.specs.Words.{refused_words}
use Rattle.open.specs.Format.{meta, metrics_section, stride_at}
use Rattle.open.specs.Names as Section
use Rattle.open.specs.Opening.{field, array_rule, pair_in, place_in, on_opened}
use Rattle.text.specs.String.{given_text}
use Rattle.array.specs.declared.Array.{Array}
use Rattle.array.specs.Element.{element_at, Bounded}
use Rattle.array.specs.Stored.{array_in}
use Rattle.meta.specs.Names.{string_of}

-- answers with these fields
abbrev pub given_nested : (at : ℕ) (inner : Array) → Answer Nested
given_nested at inner = Ok (record { at = at; inner = inner })

abbrev pub given_metric : (name length scopes : ℕ) → Answer Metric
given_metric name n scopes = Ok (record { name = record { place = name; length = n }; scopes = scopes })

abbrev pub given_scope : (name length summaries prop_metric_id : ℕ) → Answer Scope
given_scope name n summaries prop = Ok (record { name = record { place = name; length = n }; summaries = summaries; prop_metric_id = prop })

abbrev pub given_summary : (formula length combine stat_metric_id : ℕ) → Answer Summary
given_summary formula n combine stat = Ok (record { formula = record { place = formula; length = n }; combine = combine; stat_metric_id = stat })

-- ---- one level: a metric leads to its scopes as a scope to its summaries

-- the inner array of an element: its count in u16 8, its place in u64 16; 7 unless it lies in the section
abbrev pub inner_array : List ℕ → (at stride : ℕ) → Array
inner_array file at stride = record { place = number 8 file (at + 16); count = number 2 file (at + 8); stride = stride }

unfoldable pub nested_of : List ℕ → (section : List ℕ) (at stride : ℕ) → Answer Nested
nested_of file section at stride =
    either
    (array_rule (get_or section 0 0) metrics_section.end (get_or section 1 0) (number 8 file (at + 16)) (number 2 file (at + 8)) stride)
    (given_nested at (inner_array file at stride)) (Err No.Array)

-- element i of an array, with its inner array: 15, then 7
unfoldable pub nested_at : List ℕ → (section : List ℕ) → Array → (i stride : ℕ) → Answer Nested
nested_at file section outer i stride = on_answer Err (element_at outer i) (λ p. nested_of file section p stride)

-- ---- the three levels. The strides of scopes and summaries are the second and third of the section's header

abbrev pub scope_stride : List ℕ → List (List ℕ) → ℕ
scope_stride file ps = field file (place_in ps Section.metrics) (stride_at metrics_section 1)

abbrev pub summary_stride : List ℕ → List (List ℕ) → ℕ
summary_stride file ps = field file (place_in ps Section.metrics) (stride_at metrics_section 2)

abbrev pub metric_nested : List ℕ → List (List ℕ) → (m : ℕ) → Answer Nested
metric_nested file ps m = nested_at file (pair_in ps Section.metrics) (array_in meta file ps Section.metrics) m (scope_stride file ps)

abbrev pub scope_nested : List ℕ → List (List ℕ) → (m s : ℕ) → Answer Nested
scope_nested file ps m s =
    on_answer Err (metric_nested file ps m)
    (λ n. nested_at file (pair_in ps Section.metrics) n.inner s (summary_stride file ps))

-- what is answered of each: its own array before its own string
unfoldable pub metric_found : List ℕ → (section : List ℕ) (at scopes : ℕ) → Answer Metric
metric_found file section at scopes =
    on_answer Err (string_of file section at 0) (λ t. given_metric t.place t.length scopes)

unfoldable pub scope_found : List ℕ → (section : List ℕ) (at summaries : ℕ) → Answer Scope
scope_found file section at summaries =
    on_answer Err (string_of file section at 0)
    (λ t. given_scope t.place t.length summaries (number 2 file (at + 10)))

unfoldable pub summary_found : List ℕ → (section : List ℕ) (at : ℕ) → Answer Summary
summary_found file section at =
    on_answer Err (string_of file section at 0)
    (λ t. given_summary t.place t.length (number 1 file (at + 8)) (number 2 file (at + 10)))

unfoldable pub metric_of : List ℕ → (section : List ℕ) → Answer Nested → Answer Metric
metric_of file section n = on_answer Err n (λ n. metric_found file section n.at n.inner.count)

unfoldable pub scope_of : List ℕ → (section : List ℕ) → Answer Nested → Answer Scope
scope_of file section n = on_answer Err n (λ n. scope_found file section n.at n.inner.count)

unfoldable pub summary_in : List ℕ → (section : List ℕ) → Array → (k : ℕ) → Answer Summary
summary_in file section summaries k = on_answer Err (element_at summaries k) (λ p. summary_found file section p)

unfoldable pub summary_of : List ℕ → (section : List ℕ) → Answer Nested → (k : ℕ) → Answer Summary
summary_of file section n k = on_answer Err n (λ n. summary_in file section n.inner k)

-- ---- in a file

unfoldable pub metric_at : List ℕ → (m : ℕ) → Answer Metric
metric_at file m = on_opened Err meta file (λ ps. metric_of file (pair_in ps Section.metrics) (metric_nested file ps m))

unfoldable pub scope_at : List ℕ → (m s : ℕ) → Answer Scope
scope_at file m s = on_opened Err meta file (λ ps. scope_of file (pair_in ps Section.metrics) (scope_nested file ps m s))

unfoldable pub summary_at : List ℕ → (m s k : ℕ) → Answer Summary
summary_at file m s k = on_opened Err meta file (λ ps. summary_of file (pair_in ps Section.metrics) (scope_nested file ps m s) k)

-- each answer in words: its number, then its values
abbrev pub metric_words : Answer Metric → List ℕ
metric_words (Ok it) = 0 ∷ it.name.place ∷ it.name.length ∷ it.scopes ∷ []
metric_words (Err r) = refused_words r

abbrev pub scope_words : Answer Scope → List ℕ
scope_words (Ok it) = 0 ∷ it.name.place ∷ it.name.length ∷ it.summaries ∷ it.prop_metric_id ∷ []
scope_words (Err r) = refused_words r

abbrev pub summary_words : Answer Summary → List ℕ
summary_words (Ok it) = 0 ∷ it.formula.place ∷ it.formula.length ∷ it.combine ∷ it.stat_metric_id ∷ []
summary_words (Err r) = refused_words r

-- the string of each answer
unfoldable pub metric_text : Answer Metric → Answer Text
metric_text (Ok it) = given_text it.name.place it.name.length
metric_text (Err r) = Err r

unfoldable pub scope_text : Answer Scope → Answer Text
scope_text (Ok it) = given_text it.name.place it.name.length
scope_text (Err r) = Err r

unfoldable pub summary_text : Answer Summary → Answer Text
summary_text (Ok it) = given_text it.formula.place it.formula.length
summary_text (Err r) = Err r

-- the inner array of an answer has places that are u64
abbrev pub BoundedIn : Answer Nested → Type 0
BoundedIn (Ok it) = Bounded it.inner
BoundedIn (Err r) = Unit
