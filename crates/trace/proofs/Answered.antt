-- What is said of line i is what is said of the line that its header tells, in a file that opens. So it is answered exactly if it is there
-- and keeps its rules, and refused by 11 exactly if a timestamp falls.
use Rattle.refusal.proofs.Checks.{ok_same}
use Rattle.trace.specs.declared.Line.{Line}
use Rattle.std.specs.Prelude.{Err}
use Prim.Native.Nat.{ℕ, ◌+◌, ◌≤◌}
use mathlib.Core.Bool.{Bool, true, false}
use mathlib.Core.List.{List}
use mathlib.Core.Logic.{◌↔◌}
use mathlib.Core.Path.{◌≡◌, refl, sym, ap, ◌∙◌}
use native.Mathlib.Omega.{arith}
use Rattle.le.specs.Number.{number}
use Rattle.refusal.specs.declared.Refusal.{Refusal}
use Rattle.refusal.specs.declared.Refusal.TheVariants as No
use Rattle.refusal.specs.Number.{number_of}
use Rattle.refusal.specs.Check.{rule, first, Answer, on_answer, Passed}
use Rattle.refusal.proofs.Checks.{if_passed_answers, if_passed_refuses}
use Rattle.open.specs.Format as Format
use Rattle.open.specs.Opening.{pairs, opening, on_opened}
use Rattle.open.specs.Kept.{Opens}
use Rattle.open.proofs.Keeps.{opens_iff}
use Rattle.open.proofs.Given.{on_opened_answers}
use Rattle.array.proofs.Bounds.{is_there, on_element_answers, on_element_refuses}
use Rattle.trace.specs.Trace.{line_rule, samples_of, line_check, line_of, line_in, line_at, given_line}
use Rattle.trace.specs.Facts.{RangeKept, trace_headers, trace_header_at, HeaderThere, LineThere, LineFalls}
use Rattle.trace.proofs.Facts.{times_rule, check_passes, check_7, check_11}

-- a line is no refusal
pub refused_not_of : {profile place samples : ℕ} (r : Refusal) → Err r ≡ given_line profile place samples → ⊥
refused_not_of r e = let z : ◌≡◌ {A = ℕ} 0 1 = cc in omega arith

-- ---- a line from start to end

module _ (file : List ℕ) (sections : List (List ℕ)) (owner start end : ℕ) where
  line_of_refuses : (r : Refusal) → (line_of file sections owner start end ≡ Err r) ↔ (line_check file sections start end ≡ Err r)
  unfolding line_of
  line_of_refuses r = if_passed_refuses Err (line_check file sections start end) (given_line owner start (samples_of start end)) r
      (λ e. refused_not_of r (sym e)) (λ s e. cc)

  line_of_answers : (profile place samples : ℕ) → (line_of file sections owner start end ≡ given_line profile place samples)
      ↔ ((line_check file sections start end ≡ Passed) × (given_line owner start (samples_of start end) ≡ given_line profile place samples))
  unfolding line_of
  line_of_answers profile place samples = if_passed_answers Err (line_check file sections start end)
      (given_line owner start (samples_of start end)) (given_line profile place samples) (λ r e. refused_not_of r)

  never_15 : line_of file sections owner start end ≡ Err No.Index → ⊥
  unfolding line_check rule
  never_15 e = go (line_rule file sections start end) (times_rule file sections start end) ((line_of_refuses No.Index).0 e)
    where
      go : (s t : Bool) → first (rule s No.Array) (rule t No.Order) ≡ Err No.Index → ⊥
      go true true q = let z : ◌≡◌ {A = ℕ} 0 1 = cc in omega arith
      go true false q = let z : No.Order ≡ No.Index = cc in omega (arith, ap number_of z)
      go false t q = let z : No.Array ≡ No.Index = cc in omega (arith, ap number_of z)

-- ---- line i

module _ (file : List ℕ) (i : ℕ) where
  abbrev sections : List (List ℕ)
  sections = pairs Format.trace file

  abbrev owner : ℕ
  owner = number 4 file (trace_header_at file i)

  -- by its header
  at_header : {start end : ℕ} → HeaderThere file i start end → line_at file i ≡ line_of file sections owner start end
  unfolding line_at line_in on_opened on_answer
  at_header h = rw ((opens_iff Format.trace file).1 h.opens, ← is_there (trace_headers file) i h.element, h.its-start, h.its-end)

  abbrev its_start : ℕ
  its_start = number 8 file (trace_header_at file i + 8)

  abbrev its_end : ℕ
  its_end = number 8 file (trace_header_at file i + 16)

  abbrev line_by : (at : ℕ) → Answer Line
  line_by at = line_of file sections (number 4 file at) (number 8 file (at + 8)) (number 8 file (at + 16))

  -- an answer that neither opening nor 15 gives is that of the line from the header's start to its end
  from_header : (y : Answer Line) → ((r : Refusal) → number_of r ≤ 7 → Err r ≡ y → ⊥) → (Err No.Index ≡ y → ⊥)
      → line_at file i ≡ y → HeaderThere file i its_start its_end × (line_of file sections owner its_start its_end ≡ y)
  unfolding line_at line_in
  from_header y other listed e =
      let o = (on_opened_answers Err Format.trace file (λ ps. line_in file ps i) y other).0 e in
      let l = (on_element_answers (trace_headers file) i Err line_by y listed).0 o.1 in
      (record { opens = o.0; element = l.0; its-start = refl; its-end = refl }, l.1)

  -- it is answered exactly if it is there and keeps all its rules
  module _ (profile place samples : ℕ) where
    pub line_iff : (line_at file i ≡ given_line profile place samples) ↔ LineThere file i profile place samples
    line_iff = (to, from)
      where
        to : line_at file i ≡ given_line profile place samples → LineThere file i profile place samples
        to e =
            let h = from_header (given_line profile place samples) (λ r l. refused_not_of r) (refused_not_of No.Index) e in
            let p = (line_of_answers file sections owner its_start its_end profile place samples).0 h.1 in
            let k = (check_passes file sections its_start its_end).0 p.0 in
            let own : LineThere file i owner its_start (samples_of its_start its_end) = record {
              end = its_end;
              header = h.0;
              range = k.0;
              times = k.1;
              its_profile = refl;
              counted = refl;
            } in
            let q = p.1 in
            let same = ok_same q in
            let q0 : owner ≡ profile = ap (λ (l : Line). l.profile) same in
            let q1 : its_start ≡ place = ap (λ (l : Line). l.place) same in
            let q2 : samples_of its_start its_end ≡ samples = ap (λ (l : Line). l.samples) same in
            rw (q2, q1, q0) at own

        from : LineThere file i profile place samples → line_at file i ≡ given_line profile place samples
        from t =
            let passes = (check_passes file sections place t.end).1 (t.range, t.times) in
            at_header t.header
            ∙ (line_of_answers file sections owner place t.end profile place samples).1 (passes, rw (t.its_profile, t.counted))

  -- it is refused by 11 exactly if a timestamp falls
  pub line_11_iff : (line_at file i ≡ Err No.Order) ↔ LineFalls file i
  line_11_iff = (to, from)
    where
      to : line_at file i ≡ Err No.Order → LineFalls file i
      to e =
          let h = from_header (Err No.Order) (λ r l q. let z : r ≡ No.Order = cc in omega (arith, rw z at l))
          (λ q. let z : No.Index ≡ No.Order = cc in omega (arith, ap number_of z)) e in
          let f = (check_11 file sections its_start its_end).0 ((line_of_refuses file sections owner its_start its_end No.Order).0 h.1) in
          record { start = its_start; end = its_end; header = h.0; range = f.0; falls = f.1 }

      from : LineFalls file i → line_at file i ≡ Err No.Order
      from f =
          at_header f.header
          ∙ (line_of_refuses file sections owner f.start f.end No.Order).1 ((check_11 file sections f.start f.end).1 (f.range, f.falls))

  -- by 7, if it breaks that rule
  pub line_7_if : (start end : ℕ) → HeaderThere file i start end → (RangeKept file sections start end → ⊥) → line_at file i ≡ Err No.Array
  line_7_if start end h broken =
      at_header h ∙ (line_of_refuses file sections owner start end No.Array).1 ((check_7 file sections start end).1 broken)

  -- by 15 exactly if the file opens and has no such line
  pub line_15_iff : (line_at file i ≡ Err No.Index) ↔ (Opens Format.trace file × ((trace_headers file).count ≤ i))
  unfolding line_at line_in
  line_15_iff =
      let o = on_opened_answers Err Format.trace file (λ ps. line_in file ps i) (Err No.Index)
      (λ r l q. let z : r ≡ No.Index = cc in omega (arith, rw z at l)) in
      let l = on_element_refuses (trace_headers file) i Err line_by
      (λ at. never_15 file sections (number 4 file at) (number 8 file (at + 8)) (number 8 file (at + 16))) in
      (λ e. ((o.0 e).0, l.0 (o.0 e).1), λ h. o.1 (h.0, l.1 h.1))

  -- by opening's refusal, if that refuses
  pub line_not_opened : (r : Refusal) → opening Format.trace file ≡ Err r → line_at file i ≡ Err r
  unfolding line_at on_opened on_answer
  line_not_opened r e = rw e
