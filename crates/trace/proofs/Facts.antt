-- The check of a trace line by facts: what each of its answers says.
use Rattle.std.specs.Prelude.{Err}
use Rattle.refusal.specs.Check.{Passed}
use Prim.Native.Nat.{ℕ, suc, ◌+◌, ◌-◌, ◌<◌}
use mathlib.Core.Bool.{Bool, true, false, ◌&&◌}
use mathlib.Core.List.{List}
use mathlib.Core.Logic.{◌↔◌, ◌⊎◌, inl, inr}
use mathlib.Core.Path.{◌≡◌, refl}
use native.Mathlib.Omega.{arith}
use borrow.Author.Tests.{leb-true, le-leb}
use lib.Dec.{leb}
use Rattle.range.specs.Range.{multiple}
use Rattle.range.proofs.Tests.{both, multiple_iff}
use Rattle.refusal.specs.declared.Refusal.TheVariants as No
use Rattle.refusal.proofs.Numbers.{7-is-not-11}
use Rattle.refusal.proofs.Checks.{both_hold, first_broken, second_broken}
use Rattle.open.specs.Format as Format
use Rattle.outside.specs.Outside.{lies}
use Rattle.outside.proofs.Apart.{lies_iff}
use Rattle.seq.specs.Sequence.{rises}
use Rattle.seq.proofs.Rising.{rises_next, rises_of, rises_broken}
use Rattle.trace.specs.Trace.{time_at, line_rule, samples_of, least_gap, line_check}
use Rattle.trace.specs.Facts.{RangeKept, TimesKept, TimeFalls}

module _ (file : List ℕ) (sections : List (List ℕ)) (start end : ℕ) where
  -- rule 7 holds exactly if its clauses do
  pub range_iff : (line_rule file sections start end ≡ true) ↔ RangeKept file sections start end
  unfolding line_rule
  range_iff =
      let eights = multiple start 8 in
      let fours = multiple end 4 in
      let forwards = leb start end in
      let whole = multiple (end - start) 12 in
      let outside = lies file (Format.trace).header sections start (end - start) in
      let all = both (eights && fours) ((forwards && whole) && outside) in
      let rest = both (forwards && whole) outside in
      let l = lies_iff file (Format.trace).header sections start (end - start) in (
        λ e.
            let a = (both eights fours).0 (all.0 e).0 in
            let r = rest.0 (all.0 e).1 in
            let o = (both forwards whole).0 r.0 in
            record {
              start_aligned = (multiple_iff start 8).0 a.0;
              end_aligned = (multiple_iff end 4).0 a.1;
              in_order = leb-true start end o.0;
              whole_samples = (multiple_iff (end - start) 12).0 o.1;
              lies_outside = l.0 r.1;
            },
        λ k. all.1 (
          (both eights fours).1 ((multiple_iff start 8).1 k.start_aligned, (multiple_iff end 4).1 k.end_aligned),
          rest.1 (
            (both forwards whole).1 (le-leb start end k.in_order, (multiple_iff (end - start) 12).1 k.whole_samples),
            l.1 k.lies_outside,
          ),
        ),
      )

  abbrev pub times_rule : Bool
  times_rule = rises 0 least_gap (time_at file start) (samples_of start end)

  pub times_iff : (times_rule ≡ true) ↔ TimesKept file start end
  times_iff = (
    λ e k l. omega (arith, rises_next 0 least_gap (time_at file start) (samples_of start end) e k l),
    λ h. rises_of 0 least_gap (time_at file start) (samples_of start end) (λ l. omega arith) (λ k l. omega (arith, h k l)),
  )

  -- they are not kept exactly if one falls
  falls_iff : (TimesKept file start end → ⊥) ↔ TimeFalls file start end
  falls_iff = (λ broken. go times_rule refl broken, λ t h. omega (arith, t.falls, h t.k t.next))
    where
      at : ((0 < samples_of start end) × (time_at file start 0 < 0))
          ⊎ ((k : ℕ) × ((suc k < samples_of start end) × (time_at file start (suc k) < time_at file start k + least_gap)))
          → TimeFalls file start end
      at (inl (l, h)) = absurd (omega arith)
      at (inr (k, (l, h))) = record { k = k; next = l; falls = omega arith }

      go : (b : Bool) → times_rule ≡ b → (TimesKept file start end → ⊥) → TimeFalls file start end
      go true e broken = absurd (broken (times_iff.0 e))
      go false e broken = at (rises_broken 0 least_gap (time_at file start) (samples_of start end) e)

  -- a line passes exactly if it lies where it may and no timestamp falls
  pub check_passes : (line_check file sections start end ≡ Passed) ↔ (RangeKept file sections start end × TimesKept file start end)
  unfolding line_check
  check_passes = both_hold (line_rule file sections start end) times_rule range_iff times_iff 7-is-not-11

  -- 7 exactly if it does not lie there
  pub check_7 : (line_check file sections start end ≡ Err No.Array) ↔ (RangeKept file sections start end → ⊥)
  unfolding line_check
  check_7 = first_broken (line_rule file sections start end) times_rule range_iff times_iff 7-is-not-11

  -- 11 exactly if it lies there and a timestamp falls
  pub check_11 : (line_check file sections start end ≡ Err No.Order) ↔ (RangeKept file sections start end × TimeFalls file start end)
  unfolding line_check
  check_11 =
      let b = second_broken (line_rule file sections start end) times_rule range_iff times_iff 7-is-not-11 in
      (λ e. ((b.0 e).0, falls_iff.0 (b.0 e).1), λ h. b.1 (h.0, falls_iff.1 h.1))
