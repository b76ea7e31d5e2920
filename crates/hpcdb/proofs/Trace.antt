-- What a C program learns of a trace line, by code and `out` of each function: 11 says that a timestamp falls; 0 that the line, sample k, or
-- a last sample not later than a time is there; 100 that all are later.
use Rattle.std.specs.Prelude.{Err, Option, Ok, Some}
use Rattle.refusal.specs.Check.{Answer, Absent}
use Rattle.trace.specs.declared.Line.{Line}
use Rattle.trace.specs.declared.Sample.{Sample}
use Prim.Native.Nat.{ℕ}
use mathlib.Core.List.{List, [], ◌∷◌}
use mathlib.Core.Logic.Iff
use mathlib.Core.Logic.{◌↔◌}
use mathlib.Core.Path.{◌≡◌, refl, ap, subst}
use native.Mathlib.Omega.{arith}
use Rattle.refusal.specs.declared.Refusal.{Refusal}
use Rattle.refusal.specs.declared.Refusal.TheVariants as No
use Rattle.refusal.specs.Number.{number_of}
use Rattle.refusal.specs.Words.{code_in}
use Rattle.refusal.proofs.Numbers.{positive, small, same_number}
use Rattle.trace.specs.Trace.{line_at, sample_at, last_at, line_words, sample_words, last_words}
use Rattle.trace.specs.Facts.{LineThere, LineFalls, SampleThere, LastNotLater, AllLater}
use Rattle.trace.proofs.Says.{line_says}
use Rattle.words.specs.Convention.{words_in}

-- ---- codes tell answers apart

line_refused_iff : (a : Answer Line) (r : Refusal) → (code_in (line_words a) ≡ number_of r) ↔ (a ≡ Err r)
unfolding code_in
line_refused_iff (Ok it) r = (
  λ e. absurd (omega (arith, positive r)),
  λ e. absurd (let z : ◌≡◌ {A = ℕ} 0 1 = cc in omega arith),
)
line_refused_iff (Err s) r = (λ e. ap Err (same_number s r e), λ e. let q : s ≡ r = cc in ap number_of q)

-- a sample by its position, and one that may be missing: 100 for none
sample_refused_iff : (a : Answer Sample) (r : Refusal) → (code_in (sample_words a) ≡ number_of r) ↔ (a ≡ Err r)
unfolding code_in
sample_refused_iff (Ok it) r = (
  λ e. absurd (omega (arith, positive r)),
  λ e. absurd (let z : ◌≡◌ {A = ℕ} 0 1 = cc in omega arith),
)
sample_refused_iff (Err s) r = (λ e. ap Err (same_number s r e), λ e. let q : s ≡ r = cc in ap number_of q)

last_refused_iff : (a : Answer (Option Sample)) (r : Refusal) → (code_in (last_words a) ≡ number_of r) ↔ (a ≡ Err r)
unfolding code_in
last_refused_iff (Ok (Some it)) r = (
  λ e. absurd (omega (arith, positive r)),
  λ e. absurd (let z : ◌≡◌ {A = ℕ} 0 1 = cc in omega arith),
)
last_refused_iff Absent r = (
  λ e. absurd (omega (arith, small r)),
  λ e. absurd (let z : ◌≡◌ {A = ℕ} 0 1 = cc in omega arith),
)
last_refused_iff (Err s) r = (λ e. ap Err (same_number s r e), λ e. let q : s ≡ r = cc in ap number_of q)

last_100_iff : (a : Answer (Option Sample)) → (code_in (last_words a) ≡ 100) ↔ (a ≡ Absent)
unfolding code_in
last_100_iff (Ok (Some it)) = (
  λ e. absurd (omega arith),
  λ e. absurd (let z : ◌≡◌ {A = ℕ} 0 1 = cc in omega arith),
)
last_100_iff Absent = (λ e. refl, λ e. refl)
last_100_iff (Err s) = (
  λ e. absurd (omega (arith, small s)),
  λ e. absurd (let z : ◌≡◌ {A = ℕ} 0 1 = cc in omega arith),
)

-- ---- of line i

module _ (file : List ℕ) (i : ℕ) where
  -- 11 exactly if a timestamp of the line falls, whatever is asked of it
  pub line_code_11 : (code_in (line_words (line_at file i)) ≡ 11) ↔ LineFalls file i
  line_code_11 = Iff.trans (line_refused_iff (line_at file i) No.Order) (line_says file i).line_11

  pub sample_code_11 : (k : ℕ) → (code_in (sample_words (sample_at file i k)) ≡ 11) ↔ LineFalls file i
  sample_code_11 k = Iff.trans (sample_refused_iff (sample_at file i k) No.Order) ((line_says file i).sample_11 k)

  -- 0 of a line exactly if it is there and keeps its rules; `out` then has its profile and the number of its samples
  pub line_code_0 : (was : List ℕ) → (code_in (line_words (line_at file i)) ≡ 0)
      ↔ ((profile : ℕ) × ((place : ℕ) × ((samples : ℕ) × (
      LineThere file i profile place samples × (words_in was (line_words (line_at file i)) ≡ profile ∷ samples ∷ [])))))
  unfolding code_in words_in
  line_code_0 was = (go (line_at file i) refl, λ h. rw (((line_says file i).line h.0 h.1.0 h.1.1.0).1 h.1.1.1.0))
    where
      go : (a : Answer Line) → line_at file i ≡ a → code_in (line_words a) ≡ 0
          → (profile : ℕ) × ((place : ℕ) × ((samples : ℕ) × (
          LineThere file i profile place samples × (words_in was (line_words (line_at file i)) ≡ profile ∷ samples ∷ []))))
      go (Ok it) q e = (it.profile, (it.place, (it.samples, (((line_says file i).line it.profile it.place it.samples).0 q, rw q))))
      go (Err r) q e = absurd (omega (arith, positive r))

  -- 0 of sample k exactly if such a line has it; `out` then has its timestamp and context
  pub sample_code_0 : (was : List ℕ) (k : ℕ) → (code_in (sample_words (sample_at file i k)) ≡ 0)
      ↔ ((timestamp : ℕ) × ((context : ℕ) × (
      SampleThere file i k timestamp context × (words_in was (sample_words (sample_at file i k)) ≡ timestamp ∷ context ∷ []))))
  unfolding code_in words_in
  sample_code_0 was k = (go (sample_at file i k) refl, λ h. rw (((line_says file i).sample k k h.0 h.1.0).1 (refl, h.1.1.0)))
    where
      go : (a : Answer Sample) → sample_at file i k ≡ a → code_in (sample_words a) ≡ 0
          → (timestamp : ℕ) × ((context : ℕ) × (
          SampleThere file i k timestamp context × (words_in was (sample_words (sample_at file i k)) ≡ timestamp ∷ context ∷ [])))
      go (Ok it) q e =
          let s = ((line_says file i).sample k it.position it.time it.context).0 q in
          (it.time, (it.context, (subst (λ p. SampleThere file i p it.time it.context) s.0 s.1, rw q)))
      go (Err r) q e = absurd (omega (arith, positive r))

  module _ (time : ℕ) where
    pub at_code_11 : (code_in (last_words (last_at file i time)) ≡ 11) ↔ LineFalls file i
    at_code_11 = Iff.trans (last_refused_iff (last_at file i time) No.Order) ((line_says file i).last_11 time)

    -- 100 exactly if all its samples are later
    pub at_code_100 : (code_in (last_words (last_at file i time)) ≡ 100) ↔ AllLater file i time
    at_code_100 = Iff.trans (last_100_iff (last_at file i time)) ((line_says file i).absent time)

    -- 0 exactly if there is a last sample that is not later; `out` then has its position, timestamp and context
    pub at_code_0 : (was : List ℕ) → (code_in (last_words (last_at file i time)) ≡ 0)
        ↔ ((position : ℕ) × ((timestamp : ℕ) × ((context : ℕ) × (
        LastNotLater file i time position timestamp context
        × (words_in was (last_words (last_at file i time)) ≡ position ∷ timestamp ∷ context ∷ [])))))
    unfolding code_in words_in
    at_code_0 was = (go (last_at file i time) refl, λ h. rw (((line_says file i).last time h.0 h.1.0 h.1.1.0).1 h.1.1.1.0))
      where
        go : (a : Answer (Option Sample)) → last_at file i time ≡ a → code_in (last_words a) ≡ 0
            → (position : ℕ) × ((timestamp : ℕ) × ((context : ℕ) × (
            LastNotLater file i time position timestamp context
            × (words_in was (last_words (last_at file i time)) ≡ position ∷ timestamp ∷ context ∷ []))))
        go (Ok (Some it)) q e =
            (it.position, (it.time, (it.context, (((line_says file i).last time it.position it.time it.context).0 q, rw q))))
        go Absent q e = absurd (omega arith)
        go (Err r) q e = absurd (omega (arith, positive r))
