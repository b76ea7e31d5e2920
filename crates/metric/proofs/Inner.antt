-- An inner array that keeps its rule lies in the Metrics section, which lies in the file: its places are u64.
use Rattle.std.specs.Prelude.{Err, Ok}
use Rattle.metric.specs.declared.Nested.{Nested}
use Prim.Native.Nat.{ℕ, ◌+◌, ◌^◌, ◌≤◌, ◌<◌}
use mathlib.Core.Bool.{Bool, true, false}
use mathlib.Core.List.{List}
use mathlib.Core.Path.{◌≡◌, refl}
use native.Mathlib.Omega.{arith}
use lib.ListN.{length, get_or}
use Rattle.refusal.specs.declared.Refusal.TheVariants as No
use Rattle.refusal.specs.Check.{either, Answer, on_answer}
use Rattle.open.specs.Format.{meta, metrics_section}
use Rattle.open.specs.Names as Section
use Rattle.open.specs.Opening.{array_rule, pairs, pair_in, place_in, size_in}
use Rattle.open.specs.Kept.{Sections}
use Rattle.open.proofs.Keeps.{array_iff, opens_iff}
use Rattle.open.proofs.Inside.{section_inside}
use Rattle.array.specs.declared.Array.{Array}
use Rattle.array.specs.Element.{element_at}
use Rattle.metric.specs.Levels.{inner_array, nested_of, nested_at, BoundedIn, given_nested}

-- the section ends at a place that is a u64
section_fits : (file : List ℕ) → length file < 2 ^ 64 → {ps : List (List ℕ)} → Sections meta file ps
    → place_in ps Section.metrics + size_in ps Section.metrics < 2 ^ 64
section_fits file l o =
    rw o.same
    (let opens = (opens_iff meta file).0 o.passed in
    let large : metrics_section.end ≤ size_in (pairs meta file) Section.metrics = (opens.section Section.metrics (omega arith)).section.large in
    omega (arith, section_inside meta file opens Section.metrics (omega arith) (omega arith)))

module _ (file section : List ℕ) (l : get_or section 0 0 + get_or section 1 0 < 2 ^ 64) where
  inner_bounded : (at : ℕ) (a : Array) (t : Bool)
      → array_rule (get_or section 0 0) metrics_section.end (get_or section 1 0) a.place a.count a.stride ≡ t
      → BoundedIn (either t (given_nested at a) (Err No.Array))
  unfolding either
  inner_bounded at a true e = record { ends = λ c. omega (arith, ((array_iff _ _ _ _ _ _).0 e).inside c) }
  inner_bounded at a false e = tt

  element_bounded : (e : Answer ℕ) (stride : ℕ) → BoundedIn (on_answer Err e (λ p. nested_of file section p stride))
  unfolding on_answer nested_of
  element_bounded (Ok p) stride = inner_bounded p (inner_array file p stride) _ refl
  element_bounded (Err r) stride = tt

pub nested_bounded : (file : List ℕ) → length file < 2 ^ 64 → {ps : List (List ℕ)} → Sections meta file ps
    → (outer : Array) (i stride : ℕ) {n : Answer Nested} → n ≡ nested_at file (pair_in ps Section.metrics) outer i stride → BoundedIn n
unfolding nested_at
nested_bounded file l {ps} o outer i stride e =
    rw e (element_bounded file (pair_in ps Section.metrics) (section_fits file l o) (element_at outer i) stride)
