-- What the readers of a trace line say, in facts: its samples by the line, and the claim about all three.
use Rattle.refusal.specs.Check.{Found}
use Rattle.refusal.proofs.Checks.{ok_same, found_same}
use Rattle.std.specs.Prelude.{Err, None, Option, Some, Ok}
use Rattle.trace.specs.declared.Line.{Line}
use Rattle.trace.specs.declared.Sample.{Sample}
use Prim.Native.Nat.{ℕ, ◌≤◌, ◌<◌}
use mathlib.Core.Bool.{Bool, true, false}
use mathlib.Core.List.{List}
use mathlib.Core.Logic.Iff
use mathlib.Core.Logic.{◌↔◌}
use mathlib.Core.Path.{◌≡◌, refl, sym, ap}
use native.Mathlib.Decide.{dec_le}
use native.Mathlib.Omega.{arith}
use borrow.Author.Tests.{ltb-true, lt-ltb, le-ltb}
use lib.Dec.{ltb}
use Rattle.refusal.specs.declared.Refusal.{Refusal}
use Rattle.refusal.specs.declared.Refusal.TheVariants as No
use Rattle.refusal.specs.Number.{number_of}
use Rattle.refusal.specs.Check.{rule, if_passed, Answer, on_answer, Absent}
use Rattle.refusal.proofs.Checks.{rule_passes, if_passed_answers}
use Rattle.seq.specs.Sequence.{last_up_to}
use Rattle.seq.proofs.Search.{last_iff, last_nowhere_iff}
use Rattle.trace.specs.Trace.{time_at, context_at, line_at, sample_of, sample_in, sample_at, sample_position, last_in, last_at, given_sample, found_sample}
use Rattle.trace.specs.Facts.{LineThere, LineFalls, SampleThere, LastNotLater, AllLater, LineSays}
use Rattle.trace.proofs.Answered.{refused_not_of, line_iff, line_not_opened, line_15_iff, line_7_if, line_11_iff}

-- answers of different kinds differ
refused_not_at : {position timestamp context : ℕ} (r : Refusal) → Err r ≡ given_sample position timestamp context → ⊥
refused_not_at r e = let z : ◌≡◌ {A = ℕ} 0 1 = cc in omega arith

module _ (file : List ℕ) (i : ℕ) where
  -- what is answered of a line that keeps its rules
  record OfLine {A : Type 0} (answer : Line → Answer A) (y : Answer A) : Type 0 where
    profile : ℕ
    place : ℕ
    samples : ℕ
    line : LineThere file i profile place samples
    said : answer (record { profile = profile; place = place; samples = samples }) ≡ y

  module _ {A : Type 0} (answer : Line → Answer A) where
    -- an answer that is no refusal is found of a line that keeps its rules
    on-line : (y : Answer A) → ((r : Refusal) → Err r ≡ y → ⊥) → (on_answer Err (line_at file i) answer ≡ y) ↔ OfLine answer y
    unfolding on_answer
    on-line y other = (go (line_at file i) refl, λ h. rw ((line_iff file i h.profile h.place h.samples).1 h.line) h.said)
      where
        go : (l : Answer Line) → line_at file i ≡ l → on_answer Err l answer ≡ y → OfLine answer y
        go (Ok it) e a =
            record { profile = it.profile; place = it.place; samples = it.samples; line = (line_iff file i it.profile it.place it.samples).0 e; said = a }
        go (Err r) e a = absurd (other r a)

    -- where what is answered of a line is never 11, 11 is the line's own
    of_line_11 : ((l : Line) → answer l ≡ Err No.Order → ⊥)
        → (on_answer Err (line_at file i) answer ≡ Err No.Order) ↔ LineFalls file i
    unfolding on_answer
    of_line_11 never = Iff.trans (same (line_at file i)) (line_11_iff file i)
      where
        same : (l : Answer Line) → (on_answer Err l answer ≡ Err No.Order) ↔ (l ≡ Err No.Order)
        same (Ok it) = (λ e. absurd (never it e), λ e. absurd (refused_not_of No.Order (sym e)))
        same (Err r) = (
          λ e. let q : r ≡ No.Order = cc in ap Err q,
          λ e. let q : r ≡ No.Order = cc in ap Err q,
        )

  module _ (position timestamp context : ℕ) where
    abbrev found : Answer Sample
    found = given_sample position timestamp context

    abbrev last_found : Answer (Option Sample)
    last_found = found_sample position timestamp context

    -- a sample as it is handed out
    fields : (place k : ℕ)
        → (◌≡◌ {A = Sample} (record { position = k; time = time_at file place k; context = context_at file place k })
        (record { position = position; time = timestamp; context = context }))
        ↔ ((k ≡ position) × (timestamp ≡ time_at file place position) × (context ≡ context_at file place position))
    fields place k = (
      λ e.
          let q : k ≡ position = ap (λ (s : Sample). s.position) e in
          let t : time_at file place k ≡ timestamp = ap (λ (s : Sample). s.time) e in
          let c : context_at file place k ≡ context = ap (λ (s : Sample). s.context) e in
          (q, rw q at (sym t), rw q at (sym c)),
      λ h. rw (h.1, h.2, ← h.0),
    )

    sample_of_iff : (place k : ℕ) → (sample_of file place k ≡ found)
        ↔ ((k ≡ position) × (timestamp ≡ time_at file place position) × (context ≡ context_at file place position))
    unfolding sample_of
    sample_of_iff place k = (λ e. (fields place k).0 (ok_same e), λ h. ap Ok ((fields place k).1 h))

    -- sample k is answered exactly if it is there
    sample_in_iff : (place samples k : ℕ) → (sample_in file place samples k ≡ found)
        ↔ ((k < samples) × (sample_of file place k ≡ found))
    unfolding sample_in
    sample_in_iff place samples k =
        let p = if_passed_answers Err (rule (ltb k samples) No.Index) (sample_of file place k) found (λ r e. refused_not_at r) in
        let t = rule_passes (ltb k samples) No.Index in
        (λ e. (ltb-true k samples (t.0 (p.0 e).0), (p.0 e).1), λ h. p.1 (t.1 (lt-ltb k samples h.0), h.1))

    sample_iff : (k : ℕ) → (sample_at file i k ≡ found) ↔ ((position ≡ k) × SampleThere file i position timestamp context)
    unfolding sample_at
    sample_iff k = (to, from)
      where
        on : (sample_at file i k ≡ found) ↔ OfLine (λ l. sample_in file l.place l.samples k) found
        on = on-line (λ l. sample_in file l.place l.samples k) found refused_not_at

        to : sample_at file i k ≡ found → (position ≡ k) × SampleThere file i position timestamp context
        to e =
            let o = on.0 e in
            let h = (sample_in_iff o.place o.samples k).0 o.said in
            let s = (sample_of_iff o.place k).0 h.1 in (
              sym s.0,
              record {
                profile = o.profile;
                place = o.place;
                samples = o.samples;
                line = o.line;
                within = omega (arith, h.0, s.0);
                its_timestamp = s.1;
                its_context = s.2;
              },
            )

        from : (position ≡ k) × SampleThere file i position timestamp context → sample_at file i k ≡ found
        from (q, s) =
            let p = (sample_of_iff s.place k).1 (sym q, s.its_timestamp, s.its_context) in
            on.1 (record {
              profile = s.profile;
              place = s.place;
              samples = s.samples;
              line = s.line;
              said = (sample_in_iff s.place s.samples k).1 (rw q at s.within, p);
            })

    -- the search's position is handed out as a sample
    sample_position_iff : (place : ℕ) (p : Option ℕ) → (sample_position file place p ≡ last_found)
        ↔ ((p ≡ Some position) × (timestamp ≡ time_at file place position) × (context ≡ context_at file place position))
    unfolding sample_position
    sample_position_iff place (Some k) = (
      λ e. let s = (fields place k).0 (found_same e) in (ap Some s.0, s.1, s.2),
      λ h. let e = h.0 in let q : k ≡ position = cc in ap (λ (s : Sample). Found s) ((fields place k).1 (q, h.1, h.2)),
    )
    sample_position_iff place None = (
      λ e. let z : ◌≡◌ {A = ℕ} 0 1 = cc in absurd (omega arith),
      λ h. let e = h.0 in let z : ◌≡◌ {A = ℕ} 0 1 = cc in absurd (omega arith),
    )

    -- a sample is answered for a time exactly if it is the last that is not later
    last_sample_iff : (time : ℕ) → (last_at file i time ≡ last_found) ↔ LastNotLater file i time position timestamp context
    unfolding last_at last_in
    last_sample_iff time = (to, from)
      where
        on : (last_at file i time ≡ last_found) ↔ OfLine (λ l. last_in file l.place l.samples time) last_found
        on = on-line (λ l. last_in file l.place l.samples time) last_found (λ r e. let z : ◌≡◌ {A = ℕ} 0 1 = cc in omega arith)

        to : last_at file i time ≡ last_found → LastNotLater file i time position timestamp context
        to e =
            let o = on.0 e in
            let h = (sample_position_iff o.place (last_up_to (time_at file o.place) time o.samples)).0 o.said in
            let l = (last_iff (time_at file o.place) time o.samples position).0 h.0 in
            record {
              sample = record {
                profile = o.profile;
                place = o.place;
                samples = o.samples;
                line = o.line;
                within = l.0;
                its_timestamp = h.1;
                its_context = h.2;
              };
              not_later = rw h.1 l.1;
              later_behind = l.2;
            }

        from : LastNotLater file i time position timestamp context → last_at file i time ≡ last_found
        from l =
            let s = l.sample in
            let p = (last_iff (time_at file s.place) time s.samples position).1 (s.within, rw s.its_timestamp at l.not_later, l.later_behind) in
            on.1 (record {
              profile = s.profile;
              place = s.place;
              samples = s.samples;
              line = s.line;
              said = (sample_position_iff s.place (last_up_to (time_at file s.place) time s.samples)).1 (p, s.its_timestamp, s.its_context);
            })

  -- none is answered exactly if all are later
  absent_sample_iff : (time : ℕ) → (last_at file i time ≡ Absent) ↔ AllLater file i time
  unfolding last_at last_in sample_position
  absent_sample_iff time = (to, from)
    where
      on : (last_at file i time ≡ Absent) ↔ OfLine (λ l. last_in file l.place l.samples time) Absent
      on = on-line (λ l. last_in file l.place l.samples time) Absent (λ r e. let z : ◌≡◌ {A = ℕ} 0 1 = cc in omega arith)

      nowhere : (place : ℕ) (p : Option ℕ) → sample_position file place p ≡ Absent → p ≡ None
      nowhere place (Some k) e = let z : ◌≡◌ {A = ℕ} 0 1 = cc in absurd (omega arith)
      nowhere place None e = refl

      to : last_at file i time ≡ Absent → AllLater file i time
      to e =
          let o = on.0 e in
          record {
            profile = o.profile;
            place = o.place;
            samples = o.samples;
            line = o.line;
            later = (last_nowhere_iff (time_at file o.place) time o.samples).0 (nowhere o.place _ o.said);
          }

      from : AllLater file i time → last_at file i time ≡ Absent
      from a = on.1 (record {
        profile = a.profile;
        place = a.place;
        samples = a.samples;
        line = a.line;
        said = rw ((last_nowhere_iff (time_at file a.place) time a.samples).1 a.later);
      })

  -- neither a sample by its position nor the search gives 11
  sample_never_11 : (k : ℕ) (l : Line) → sample_in file l.place l.samples k ≡ Err No.Order → ⊥
  unfolding sample_in rule on_answer sample_of
  sample_never_11 k l = go (ltb k l.samples)
    where
      go : (b : Bool) → if_passed Err (rule b No.Index) (sample_of file l.place k) ≡ Err No.Order → ⊥
      go true e = refused_not_at No.Order (sym e)
      go false e = let z : No.Index ≡ No.Order = cc in omega (arith, ap number_of z)

  last_never_11 : (time : ℕ) (l : Line) → last_in file l.place l.samples time ≡ Err No.Order → ⊥
  unfolding last_in sample_position sample_of
  last_never_11 time l = go (last_up_to (time_at file l.place) time l.samples)
    where
      go : (p : Option ℕ) → sample_position file l.place p ≡ Err No.Order → ⊥
      go (Some k) e = let z : ◌≡◌ {A = ℕ} 0 1 = cc in omega arith
      go None e = let z : ◌≡◌ {A = ℕ} 0 1 = cc in omega arith

  -- a refused line, and a sample that is not there
  line_refused : {A : Type 0} (answer : Line → Answer A) (r : Refusal) → line_at file i ≡ Err r
      → on_answer Err (line_at file i) answer ≡ Err r
  unfolding on_answer
  line_refused answer r e = rw e

  sample_15_if : (k profile place samples : ℕ) → LineThere file i profile place samples → samples ≤ k → sample_at file i k ≡ Err No.Index
  unfolding sample_at sample_in rule on_answer
  sample_15_if k profile place samples t l = rw ((line_iff file i profile place samples).1 t, le-ltb k samples l)

  -- what the three readers say of line i
  pub line_says : LineSays file i
  unfolding sample_at last_at
  line_says = record {
    line = line_iff file i;
    line_not_opened = line_not_opened file i;
    line_15 = line_15_iff file i;
    line_7 = line_7_if file i;
    line_11 = line_11_iff file i;
    sample_refused = λ k. line_refused (λ l. sample_in file l.place l.samples k);
    last_refused = λ time. line_refused (λ l. last_in file l.place l.samples time);
    sample_15 = sample_15_if;
    sample = λ k position timestamp context. sample_iff position timestamp context k;
    sample_11 = λ k. of_line_11 (λ l. sample_in file l.place l.samples k) (sample_never_11 k);
    last = λ time position timestamp context. last_sample_iff position timestamp context time;
    absent = absent_sample_iff;
    last_11 = λ time. of_line_11 (λ l. last_in file l.place l.samples time) (last_never_11 time);
  }

-- of samples with the same timestamp, the last not later is the one at the highest position
pub highest_of_equals : {file : List ℕ} {i time position timestamp context : ℕ} (l : LastNotLater file i time position timestamp context)
    → (j : ℕ) → j < l.sample.samples → time_at file l.sample.place j ≡ timestamp → j ≤ position
highest_of_equals {position = position} l j m e = elim (dec_le j position) [
  | yes h ↦ h
  | no h ↦ absurd (omega (arith, l.later_behind j (omega arith) m, l.not_later))
]
