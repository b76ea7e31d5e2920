-- What the tests of a line say, and that a line which passed them has its samples in the file, in order.
use Rattle.std.specs.Prelude.{Err}
use Prim.Native.Nat.{ℕ, ◌-◌, ◌*◌, ◌≤◌, ◌<◌}
use mathlib.Core.Bool.{true, false, ◌&&◌, and-false}
use mathlib.Core.List.{List, [], ◌∷◌}
use mathlib.Core.Path.{◌≡◌}
use native.Mathlib.Nat.{mul-one}
use native.Mathlib.Omega.{arith}
use borrow.Author.Tests.{le-leb, lt-leb}
use Rattle.range.specs.Range.{multiple}
use Rattle.refusal.specs.declared.Refusal.TheVariants as No
use Rattle.refusal.specs.Check.{rule, on_answer}
use Rattle.open.specs.Format as Format
use Rattle.open.specs.Opening.{pairs}
use Rattle.outside.specs.Outside.{lies}
use Rattle.outside.proofs.Apart.{lies_one}
use Rattle.seq.specs.Sequence.{rises}
use Rattle.seq.proofs.Rising.{rises_nondecreasing}
use Rattle.trace.specs.Trace.{time_at, line_rule, samples_of, least_gap, line_check, line_of, line_at, given_line}
use Rattle.trace.specs.Sound.{SamplesInside, SoundSamples}
use Rattle.trace.specs.Facts.{RangeKept}
use Rattle.trace.proofs.Facts.{range_iff, times_iff}
use Rattle.trace.proofs.Answered.{line_iff}

module _ (file : List ℕ) (sections : List (List ℕ)) (start end : ℕ) where
  pub rule_backwards : end < start → line_rule file sections start end ≡ false
  unfolding line_rule
  rule_backwards l = rw (lt-leb start end l) (and-false (multiple start 8 && multiple end 4))

  pub rule_forwards : line_rule file sections start end ≡ true → start ≤ end
  rule_forwards e = ((range_iff file sections start end).0 e).in_order

  inside : RangeKept file sections start end → SamplesInside file start (samples_of start end)
  inside k = record { ends = omega (arith, k.lies_outside.before) }

  pub rule_ends : line_rule file sections start end ≡ true → SamplesInside file start (samples_of start end)
  rule_ends e = inside ((range_iff file sections start end).0 e)

  pub range_broken : line_rule file sections start end ≡ false → (profile : ℕ) → Err No.Array ≡ line_of file sections profile start end
  unfolding line_of line_check rule on_answer
  range_broken e profile = rw e

  module _ (e : line_rule file sections start end ≡ true) (profile : ℕ) where
    pub order_broken : rises 0 least_gap (time_at file start) (samples_of start end) ≡ false → Err No.Order ≡ line_of file sections profile start end
    unfolding line_of line_check rule on_answer
    order_broken f = rw (e, f)

    pub rules_kept : rises 0 least_gap (time_at file start) (samples_of start end) ≡ true
        → given_line profile start (samples_of start end) ≡ line_of file sections profile start end
    unfolding line_of line_check rule on_answer
    rules_kept f = rw (e, f)

pub rule_start : (file : List ℕ) (section : List ℕ) (start end : ℕ) → start ≤ end
    → ((multiple start 8 && multiple end 4) && (multiple (end - start) 12 && lies file 32 (section ∷ (0 ∷ 0 ∷ []) ∷ []) start ((end - start) * 1)))
    ≡ line_rule file (section ∷ []) start end
unfolding line_rule
rule_start file section start end l = rw (le-leb start end l, mul-one, lies_one)

-- a line that is answered has its samples in the file, in order
pub line_sound : (file : List ℕ) (i profile place samples : ℕ) → line_at file i ≡ given_line profile place samples → SoundSamples file place samples
line_sound file i profile place samples e =
    let sections = pairs Format.trace file in
    let k = (line_iff file i profile place samples).0 e in
    rw k.counted
    (record {
      samples = inside file sections place k.end k.range;
      times = rises_nondecreasing 0 least_gap (time_at file place) (samples_of place k.end) ((times_iff file sections place k.end).1 k.times);
    })
