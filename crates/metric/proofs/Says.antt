-- What the strings of metrics, scopes and summaries say, in facts: level by level, the element is there and its array is kept, and then its
-- string decides.
use Rattle.std.specs.Prelude.{Err, Ok}
use Rattle.text.specs.declared.Text.{Text}
use Rattle.metric.specs.declared.Nested.{Nested}
use Prim.Native.Nat.{ℕ, ◌+◌, ◌<◌}
use mathlib.Core.Bool.{Bool, true, false, true≢false}
use mathlib.Core.List.{List}
use mathlib.Core.Logic.{◌↔◌}
use mathlib.Core.Path.{◌≡◌, refl, sym, ◌∙◌}
use native.Mathlib.Omega.{arith}
use lib.ListN.{get_or}
use Rattle.le.specs.Number.{number}
use Rattle.refusal.specs.declared.Refusal.{Refusal}
use Rattle.refusal.specs.declared.Refusal.TheVariants as No
use Rattle.refusal.specs.Check.{either, Answer, on_answer}
use Rattle.open.specs.Format.{meta, metrics_section}
use Rattle.open.specs.Names as Section
use Rattle.open.specs.Opening.{array_rule, pairs, pair_in}
use Rattle.open.specs.Kept.{ArrayKept}
use Rattle.open.proofs.Keeps.{array_iff}
use Rattle.text.specs.Facts.{StringSays}
use Rattle.text.proofs.Says.{LeadsTo, leads_then, text_in, says_read}
use Rattle.array.specs.declared.Array.{Array}
use Rattle.array.specs.Element.{element_at}
use Rattle.meta.specs.Names.{string_of}
use Rattle.meta.specs.Facts.{section_of, array_at, element_place}
use Rattle.meta.proofs.Says.{opened_leads, element_leads}
use Rattle.metric.specs.Levels.{inner_array, nested_of, nested_at, scope_stride, summary_stride, metric_nested, scope_nested, metric_found, scope_found, summary_found, metric_of, scope_of, summary_in, summary_of, metric_at, scope_at, summary_at, metric_text, scope_text, summary_text, given_nested, given_metric, given_scope, given_summary}
use Rattle.metric.specs.Facts.{metric_place, scopes_of, scope_place, summaries_of, summary_place, HasMetric, HasScope, metric_string, scope_string, summary_string, LevelsSay}

-- ---- one after the other

abbrev with_inner : (at : ℕ) (inner : Array) → Nested
with_inner at inner = record { at = at; inner = inner }

module _ {A : Type 0} where
  element_then : (e : Answer ℕ) (f : ℕ → Answer Nested) (refused : Refusal → A) (answer : Nested → A)
      → on_answer refused (on_answer Err e f) answer ≡ on_answer refused e (λ p. on_answer refused (f p) answer)
  unfolding on_answer
  element_then (Ok p) f refused answer = refl
  element_then (Err r) f refused answer = refl

  nested_then : (n : Answer Nested) (f : Nested → Answer Nested) (refused : Refusal → A) (answer : Nested → A)
      → on_answer refused (on_answer Err n f) answer ≡ on_answer refused n (λ n. on_answer refused (f n) answer)
  unfolding on_answer
  nested_then (Ok it) f refused answer = refl
  nested_then (Err r) f refused answer = refl

-- ---- an element with its inner array

module _ {A : Type 0} (refused : Refusal → A) (textIn : A → Answer Text) (own : (r : Refusal) → textIn (refused r) ≡ Err r) where
  -- 7 of the inner array
  inner_leads : (file section : List ℕ) (at stride : ℕ) (answer : Nested → A)
      → let a = inner_array file at stride in
      LeadsTo (ArrayKept (get_or section 0 0) metrics_section.end (get_or section 1 0) a.place a.count a.stride)
      (textIn (answer (with_inner at a))) (textIn (on_answer refused (nested_of file section at stride) answer))
  unfolding nested_of on_answer either
  inner_leads file section at stride answer y o =
      let a = inner_array file at stride in
      let i = array_iff (get_or section 0 0) metrics_section.end (get_or section 1 0) a.place a.count a.stride in
      go a i (array_rule (get_or section 0 0) metrics_section.end (get_or section 1 0) a.place a.count a.stride) refl
    where
      go : (a : Array) {P : Type 0} {rule : Bool} → (rule ≡ true) ↔ P → (t : Bool) → rule ≡ t
          → (textIn (on_answer refused (either t (given_nested at a) (Err No.Array)) answer) ≡ y) ↔ (P × (textIn (answer (with_inner at a)) ≡ y))
      go a i true e = (λ h. (i.0 e, h), λ h. h.1)
      go a i false e = (
        λ h. absurd (o No.Array (λ z. omega arith) (λ z. omega arith) (sym (own No.Array) ∙ h)),
        λ h. absurd (true≢false (sym (i.1 h.0) ∙ e)),
      )

  -- after 15 of the element
  nested_leads : (file section : List ℕ) (outer : Array) (i stride : ℕ) (answer : Nested → A)
      → let at = element_place outer i in
      let a = inner_array file at stride in
      LeadsTo ((i < outer.count) × ArrayKept (get_or section 0 0) metrics_section.end (get_or section 1 0) a.place a.count a.stride)
      (textIn (answer (with_inner at a))) (textIn (on_answer refused (nested_at file section outer i stride) answer))
  unfolding nested_at
  nested_leads file section outer i stride answer =
      leads_then
      (λ y o.
      rw (element_then (element_at outer i) (λ p. nested_of file section p stride) refused answer)
      (element_leads refused textIn own outer i (λ p. on_answer refused (nested_of file section p stride) answer) y o))
      (inner_leads file section (element_place outer i) stride answer)

  -- the metric, then its scope
  metric_leads : (file : List ℕ) (m : ℕ) (answer : Nested → A)
      → LeadsTo (HasMetric file m) (textIn (answer (with_inner (metric_place file m) (scopes_of file m))))
      (textIn (on_answer refused (metric_nested file (pairs meta file) m) answer))
  metric_leads file m answer = nested_leads file (section_of file Section.metrics) (array_at file Section.metrics) m (scope_stride file (pairs meta file)) answer

  scope_leads : (file : List ℕ) (m s : ℕ) (answer : Nested → A)
      → LeadsTo (HasScope file m s)
      (textIn (answer (with_inner (scope_place file m s) (summaries_of file m s)))) (textIn (on_answer refused (scope_nested file (pairs meta file) m s) answer))
  scope_leads file m s answer =
      let inner : Nested → Answer Nested =
      λ n. nested_at file (section_of file Section.metrics) n.inner s (summary_stride file (pairs meta file)) in
      leads_then
      (λ y o.
      rw (nested_then (metric_nested file (pairs meta file) m) inner refused answer)
      (metric_leads file m (λ n. on_answer refused (inner n) answer) y o))
      (nested_leads file (section_of file Section.metrics) (scopes_of file m) s (summary_stride file (pairs meta file)) answer)

-- ---- the string itself, with the element's numbers beside it

module _ (file section : List ℕ) (at : ℕ) where
  abbrev own_string : Answer Text
  own_string = string_of file section at 0

  metric-found : (scopes : ℕ) → metric_text (metric_found file section at scopes) ≡ own_string
  unfolding metric_found metric_text
  metric-found scopes = text_in Err metric_text (λ t. given_metric t.place t.length scopes) (λ r. refl) (λ t. refl) own_string

  scope-found : (summaries : ℕ) → scope_text (scope_found file section at summaries) ≡ own_string
  unfolding scope_found scope_text
  scope-found summaries =
      text_in Err scope_text (λ t. given_scope t.place t.length summaries (number 2 file (at + 10))) (λ r. refl) (λ t. refl) own_string

  summary-found : summary_text (summary_found file section at) ≡ own_string
  unfolding summary_found summary_text
  summary-found =
      text_in Err summary_text (λ t. given_summary t.place t.length (number 1 file (at + 8)) (number 2 file (at + 10))) (λ r. refl)
      (λ t. refl) own_string

-- ---- all of them

module _ (file : List ℕ) where
  of_metric : (m : ℕ) → StringSays file (metric_string file m) (metric_text (metric_at file m))
  unfolding metric_at metric_of metric_text string_of
  of_metric m =
      let section = section_of file Section.metrics in
      says_read file (metric_string file m)
      (leads_then
      (opened_leads Err metric_text (λ r. refl) file (λ ps. metric_of file (pair_in ps Section.metrics) (metric_nested file ps m)))
      (λ y o.
      rw (metric-found file section (metric_place file m) (scopes_of file m).count) at
      (metric_leads Err metric_text (λ r. refl) file m (λ n. metric_found file section n.at n.inner.count) y o)))

  of_scope : (m s : ℕ) → StringSays file (scope_string file m s) (scope_text (scope_at file m s))
  unfolding scope_at scope_of scope_text string_of
  of_scope m s =
      let section = section_of file Section.metrics in
      says_read file (scope_string file m s)
      (leads_then
      (opened_leads Err scope_text (λ r. refl) file (λ ps. scope_of file (pair_in ps Section.metrics) (scope_nested file ps m s)))
      (λ y o.
      rw (scope-found file section (scope_place file m s) (summaries_of file m s).count) at
      (scope_leads Err scope_text (λ r. refl) file m s (λ n. scope_found file section n.at n.inner.count) y o)))

  of_summary : (m s k : ℕ) → StringSays file (summary_string file m s k) (summary_text (summary_at file m s k))
  unfolding summary_at summary_of summary_in summary_text string_of
  of_summary m s k =
      let section = section_of file Section.metrics in
      says_read file (summary_string file m s k)
      (leads_then
      (opened_leads Err summary_text (λ r. refl) file (λ ps. summary_of file (pair_in ps Section.metrics) (scope_nested file ps m s) k))
      (leads_then (scope_leads Err summary_text (λ r. refl) file m s (λ n. summary_in file section n.inner k))
      (λ y o.
      rw (summary-found file section (summary_place file m s k)) at
      (element_leads Err summary_text (λ r. refl) (summaries_of file m s) k (λ p. summary_found file section p) y o))))

  -- an outer element's string is not read
  pub levels_say : LevelsSay file
  levels_say = record { metric = of_metric; scope = of_scope; summary = of_summary }
