-- The check stage by stage: each stage either refuses for the whole check, or leaves the rest of it.
use Rattle.std.specs.Prelude.{Ok, Err}
use Prim.Native.Nat.{ℕ, ◌+◌, ◌*◌, ◌/◌, ◌^◌, ◌≤◌, ◌<◌, min}
use mathlib.Core.Bool.{Bool, true, false, ◌&&◌, and-false}
use mathlib.Core.List.{List}
use mathlib.Core.Path.{◌≡◌, refl, sym, ap₂, ◌∙◌}
use native.Mathlib.Omega.{arith}
use borrow.Author.Tests.{lt-ltb, le-ltb, leb-true}
use lib.Dec.{leb, ltb}
use lib.ListN.{length}
use Rattle.layout.specs.Many.{many}
use Rattle.range.proofs.Tests.{both}
use Rattle.refusal.specs.declared.Refusal.{Refusal}
use Rattle.refusal.specs.declared.Refusal.TheVariants as No
use Rattle.refusal.specs.Check.{Answer, rule, first, Check, Passed}
use Rattle.refusal.proofs.Checks.{rule_passes, rule_holds, first_passes, rule_broken, after_refused, ok_same, err_same}
use Rattle.seq.specs.Sequence.{every, sum}
use Rattle.profile_file.specs.Survey.{Entries, Survey, Ascending}
use Rattle.profile_file.specs.File.{block_bytes, tuples_from, tuples_size, profile_file}
use Rattle.profile_file.specs.Check.{entries_listed, profiles_listed, sorted_rule, sizes_fit, contexts_fit, counts_rule, sizes_check, write_check}
use Rattle.profile_file.proofs.Lengths.{length_tuples, length_file}
use Rattle.profile_file.proofs.Checks.{sorted_iff}
use Rattle.profile_lists.specs.Lists.{word_of, entries_in, survey_of, all_there, lists_check}
use Rattle.profile_lists.proofs.Loops.{measure_of}
use Rattle.profile_lists.proofs.Tests.{leb_same}

-- ---- 7 and 17

-- a value or a refusal after a rule
no_value : {x : ℕ} {r : Refusal} → ◌≡◌ {A = Answer ℕ} (Ok x) (Err r) → ⊥
no_value e = let z : ◌≡◌ {A = ℕ} 0 1 = cc in omega arith

measured_as : (t : Bool) (own : Refusal) {x y : ℕ} → ◌≡◌ {A = Answer ℕ} (Ok x) (first (rule t own) (Ok y)) → (t ≡ true) × (x ≡ y)
unfolding rule
measured_as true own e = (refl, ok_same e)
measured_as false own e = absurd (no_value e)

measured_not : (t : Bool) (y : ℕ) {own r : Refusal} → ◌≡◌ {A = Answer ℕ} (Err r) (first (rule t own) (Ok y)) → (t ≡ false) × (r ≡ own)
unfolding rule
measured_not true y e = absurd (no_value (sym e))
measured_not false y e = (refl, err_same e)

module _ (s : Survey) (room : ℕ) where
  counts_broken : counts_rule s ≡ false → Err No.Array ≡ sizes_check s room
  unfolding sizes_check
  counts_broken e = after_refused (rule (leb (length (profile_file s)) room) No.Room) (rule_broken No.Array e)

  pub many_profiles : 2 ^ 32 ≤ s.profiles → Err No.Array ≡ sizes_check s room
  unfolding counts_rule
  many_profiles l = counts_broken (rw (le-ltb s.profiles (2 ^ 32) l))

  pub large_tuples : sizes_fit s.tuples ≡ false → Err No.Array ≡ sizes_check s room
  unfolding counts_rule
  large_tuples e = counts_broken (rw e (and-false (ltb s.profiles (2 ^ 32))))

  counts_left : s.profiles < 2 ^ 32 → sizes_fit s.tuples ≡ true → counts_rule s ≡ contexts_fit s.entries s.profiles
  unfolding counts_rule
  counts_left l e = rw (lt-ltb s.profiles (2 ^ 32) l, e)

  length_is : length (profile_file s)
      ≡ 72 + s.profiles * 40 + (s.tuples.count * 8 + sum s.tuples.size s.tuples.count * 16)
      + length (many (block_bytes s.entries) s.profiles)
  unfolding tuples_from tuples_size
  length_is = omega (arith, length_file s, length_tuples s.tuples s.tuples.count)

  -- what the code computes once the profiles and the tuples can be counted
  sizes_left : s.profiles < 2 ^ 32 → sizes_fit s.tuples ≡ true
      → sizes_check s room
      ≡ first (rule (contexts_fit s.entries s.profiles) No.Array)
      (rule
      (leb
      (72 + s.profiles * 40 + (s.tuples.count * 8 + sum s.tuples.size s.tuples.count * 16)
      + length (many (block_bytes s.entries) s.profiles)) room) No.Room)
  unfolding sizes_check
  sizes_left l e = rw (counts_left l e, length_is)

  -- by what the blocks come to
  pub sizes_measured : {bytes : ℕ} → s.profiles < 2 ^ 32 → sizes_fit s.tuples ≡ true → Ok bytes ≡ measure_of s.entries s.profiles
      → rule (leb (72 + s.profiles * 40 + (s.tuples.count * 8 + sum s.tuples.size s.tuples.count * 16) + bytes) room) No.Room ≡ sizes_check s room
  sizes_measured l e measured =
      let m = measured_as (contexts_fit s.entries s.profiles) No.Array measured in
      rw (m.1) (sym (sizes_left l e ∙ rw (m.0, rule_holds No.Array)))

  pub sizes_refused : {no : Refusal} → s.profiles < 2 ^ 32 → sizes_fit s.tuples ≡ true → Err no ≡ measure_of s.entries s.profiles
      → Err no ≡ sizes_check s room
  sizes_refused l e refused =
      let m = measured_not (contexts_fit s.entries s.profiles) (length (many (block_bytes s.entries) s.profiles)) refused in
      rw (m.1) (sym (sizes_left l e ∙ rw (rule_broken No.Array m.0)))

-- ---- 15 and 11

pub passed_sorted : (e : Entries) (profiles : ℕ)
    → first (rule (entries_listed e profiles) No.Index) (rule (sorted_rule e) No.Order) ≡ Passed → Ascending e
passed_sorted e profiles p =
    let order = rule (sorted_rule e) No.Order in
    (sorted_iff e).0 ((rule_passes (sorted_rule e) No.Order).0 ((first_passes (rule (entries_listed e profiles) No.Index) order).0 p).1)

-- a rule of three parts, of which the first two are tested first
kept_two : (a b c : Bool) → (a && b) ≡ true → (a && (b && c)) ≡ c
kept_two a b c e = rw (((both a b).0 e).0, ((both a b).0 e).1)

broken_two : (a b c : Bool) → (a && b) ≡ false → (a && (b && c)) ≡ false
broken_two true b c e = rw e
broken_two false b c e = refl

-- checks in their order
grouped : (a b c : Check) → first a (first b c) ≡ first (first a b) c
grouped Passed b c = refl
grouped (Err r) b c = refl

module _ (profiles tuples identifiers entries : List ℕ) (room : ℕ) where
  abbrev survey : Survey
  survey = survey_of profiles tuples identifiers entries

  abbrev there : Bool
  there = all_there tuples identifiers

  -- by what the code computes: the identifications are counted up to one more than there are
  module _ {listed : Bool} {claimed : ℕ} (listed_is : listed ≡ every (λ p. ltb (word_of profiles p) (length tuples)) (length profiles))
      (claimed-is : claimed ≡ min (sum (word_of tuples) (length tuples)) (length identifiers / 16 + 1)) where
    told : (listed && leb claimed (length identifiers / 16)) ≡ (profiles_listed survey && there)
    unfolding profiles_listed all_there
    told =
        let claims = sum (word_of tuples) (length tuples) in
        let most = length identifiers / 16 in
        ap₂ ◌&&◌ listed_is (leb_same claimed most (claims * 16) (length identifiers) (λ l. omega (arith, claimed-is)) (λ l. omega (arith, claimed-is)))

    pub lists_broken : (listed && leb claimed (length identifiers / 16)) ≡ false
        → Err No.Index ≡ lists_check profiles tuples identifiers entries room
    unfolding lists_check write_check
    lists_broken e =
        after_refused (first (rule (sorted_rule survey.entries) No.Order) (sizes_check survey room))
        (rule_broken No.Index (broken_two (profiles_listed survey) there (entries_listed survey.entries survey.profiles) (sym told ∙ e)))

    module _ (kept : (listed && leb claimed (length identifiers / 16)) ≡ true) where
      pub all_claimed : (claimed ≡ sum (word_of tuples) (length tuples)) × (claimed * 16 ≤ length identifiers)
      all_claimed =
          let l = leb-true claimed (length identifiers / 16) ((both listed (leb claimed (length identifiers / 16))).0 kept).1 in
          (omega (arith, claimed-is), omega arith)

      pub lists_kept : lists_check profiles tuples identifiers entries room
          ≡ first (first (rule (entries_listed (entries_in entries) (length profiles)) No.Index) (rule (sorted_rule (entries_in entries)) No.Order))
          (sizes_check (survey_of profiles tuples identifiers entries) room)
      unfolding lists_check write_check
      lists_kept =
          let all = entries_listed survey.entries survey.profiles in
          rw (kept_two (profiles_listed survey) there all (sym told ∙ kept))
          (grouped (rule all No.Index) (rule (sorted_rule survey.entries) No.Order) (sizes_check survey room))
