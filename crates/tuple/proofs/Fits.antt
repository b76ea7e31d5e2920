-- A tuple that keeps its rule ends in the file, so that the places of its identifications are u64.
use Rattle.std.specs.Prelude.{Err, Ok}
use Prim.Native.Nat.{ℕ, ◌+◌, ◌*◌, ◌^◌, ◌≤◌, ◌<◌}
use mathlib.Core.Bool.{Bool, true, false, not, ◌&&◌}
use mathlib.Core.List.{List}
use mathlib.Core.Path.{◌≡◌, refl, ◌∙◌}
use native.Mathlib.Nat.{add-zero, mul-one, mul_comm}
use native.Mathlib.Omega.{arith}
use borrow.Author.Tests.{not-true, not-false}
use lib.ListN.{length}
use Rattle.le.specs.Number.{number}
use Rattle.range.specs.Range.{within, multiple}
use Rattle.refusal.specs.declared.Refusal.{Refusal}
use Rattle.refusal.specs.declared.Refusal.TheVariants as No
use Rattle.refusal.specs.Check.{rule, Answer, on_answer}
use Rattle.refusal.proofs.Checks.{rule_passes, if_passed_answers}
use Rattle.open.specs.Format as Format
use Rattle.open.specs.Names as Section
use Rattle.open.specs.Opening.{pairs, pair_in, place_in, size_in}
use Rattle.open.specs.Kept.{Sections}
use Rattle.open.proofs.Keeps.{opens_iff}
use Rattle.open.proofs.Given.{on_opened_answers}
use Rattle.open.proofs.Inside.{section_inside}
use Rattle.array.specs.declared.Array.{Array}
use Rattle.array.specs.Element.{Bounded}
use Rattle.array.specs.Stored.{array_in}
use Rattle.array.proofs.Bounds.{on_element_answers}
use Rattle.tuple.specs.Tuple.{identifiers, tuple_rule, tuple_of, tuple_in, tuple_at}
use Rattle.tuple.specs.Sound.{SectionInside}
use Rattle.tuple.proofs.Facts.{tuple_iff}

-- a tuple is no refusal
refused_not_of : {a : Array} (r : Refusal) → Err r ≡ Ok a → ⊥
refused_not_of r e = let z : ◌≡◌ {A = ℕ} 0 1 = cc in omega arith

module _ (file : List ℕ) (place size at : ℕ) where
  pub rule_kept : tuple_rule file place size at ≡ true → Ok (identifiers file at) ≡ tuple_of file place size at
  unfolding tuple_of rule on_answer
  rule_kept e = rw e

  rule_broken : tuple_rule file place size at ≡ false → Err No.Array ≡ tuple_of file place size at
  unfolding tuple_of rule on_answer
  rule_broken e = rw e

  -- by what the code tests
  module _ {n : ℕ} {m f : Bool} (p : n ≡ number 2 file (at + 0)) (q : m ≡ multiple at 8)
      (r : f ≡ within (place + 0) (place + size) at ((8 + 16 * n) * 1)) where
    told : tuple_rule file place size at ≡ (m && f)
    unfolding tuple_rule
    told = rw (q, r, p, mul-one, add-zero place, add-zero at)

    pub told_kept : not (m && f) ≡ false → tuple_rule file place size at ≡ true
    told_kept t = told ∙ not-false (m && f) t

    pub told_broken : not (m && f) ≡ true → Err No.Array ≡ tuple_of file place size at
    told_broken t = rule_broken (told ∙ not-true (m && f) t)

  module _ (i : 0 < size → place + size ≤ length file) where
    pub fits : tuple_rule file place size at ≡ true → at + (8 + 16 * number 2 file at) ≤ length file
    fits e = let k = (tuple_iff file place size at).0 e in omega (arith, k.starts, k.fits, i (omega (arith, k.starts, k.fits)))

    of_bounded : length file < 2 ^ 64 → (a : Array) → tuple_of file place size at ≡ Ok a → Bounded a
    unfolding tuple_of identifiers
    of_bounded l a e =
        let check = rule (tuple_rule file place size at) No.Array in
        let p = (if_passed_answers Err check (Ok (identifiers file at)) (Ok a) (λ r q. refused_not_of r)).0 e in
        let kept = (rule_passes (tuple_rule file place size at) No.Array).0 p.0 in
        let same = p.1 in
        let q : identifiers file at ≡ a = cc in
        rw (← q) (record { ends = λ c. omega (arith, fits kept, mul_comm (number 2 file at) 16) })

module _ (file : List ℕ) where
  -- what opening tells of the section of tuples
  pub tuples_inside : {ps : List (List ℕ)} → Sections Format.profile file ps → SectionInside file (pair_in ps Section.id_tuples)
  tuples_inside o = rw o.same
      (λ h. omega (arith, section_inside Format.profile file ((opens_iff Format.profile file).0 o.passed) Section.id_tuples (omega arith) h))

  module _ (l : length file < 2 ^ 64) (i : ℕ) (a : Array) where
    abbrev sections : List (List ℕ)
    sections = pairs Format.profile file

    abbrev tuple_by : (at : ℕ) → Answer Array
    tuple_by at = tuple_of file (place_in sections Section.id_tuples) (size_in sections Section.id_tuples) (number 8 file (at + 32))

    pub tuple_bounded : tuple_at file i ≡ Ok a → Bounded a
    unfolding tuple_at tuple_in
    tuple_bounded e =
        let o = (on_opened_answers Err Format.profile file (λ ps. tuple_in file ps i) (Ok a) (λ r m. refused_not_of r)).0 e in
        let profiles = array_in Format.profile file sections Section.infos in
        let t = (on_element_answers profiles i Err tuple_by (Ok a) (refused_not_of No.Index)).0 o.1 in
        let s : Sections Format.profile file sections = record { same = refl; passed = (opens_iff Format.profile file).1 o.0 } in
        of_bounded file _ _ _ (tuples_inside s) l a t.1
