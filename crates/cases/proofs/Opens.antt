-- File W stands as document 01 has it, and opens with its eight pairs: computed.
use Rattle.std.specs.Prelude.{Ok}
use Prim.Native.Nat.{ℕ}
use mathlib.Core.List.{List, [], ◌∷◌, map}
use mathlib.Core.Path.{◌≡◌, refl}
use lib.ListN.{length}
use Rattle.le.specs.Number.{number}
use Rattle.layout.specs.Bytes.{bytes, fields, join}
use Rattle.layout.specs.Stands.{starts, stands}
use Rattle.refusal.specs.Check.{rule, Passed, on_answer}
use Rattle.open.specs.Format.{meta}
use Rattle.open.specs.Opening.{place_for, pair_at, pairs_from, pairs, section_rule, stride_rule, array_rule, contexts_rule, field, number_at, stride_rules, content_rule, header_rule, front_rules, in_order, section_check, header_check, opening_with, opening, on_opened, opened}
use Rattle.cases.specs.W.{parts, w, built, magic, common, places_from}
use Rattle.cases.specs.FlexFile.{flex_parts, a_module, a_file, a_function}
use Rattle.cases.specs.B.{f64, b_parts}
use Rattle.cases.specs.Opening.{w_sections}

abbrev Placed : List (ℕ × List ℕ) → Type 0
Placed ps = places_from 0 ps ≡ map (λ p. p.0) ps

pub placed : Placed (parts 2) × (length w ≡ 366) × Placed (flex_parts 3 (a_function ∷ a_file ∷ [])) × Placed (flex_parts 6 (a_file ∷ 7 ∷ a_module ∷ 5 ∷ []))
    × Placed (flex_parts 255 (a_function ∷ a_file ∷ 7 ∷ a_module ∷ 5 ∷ [])) × Placed (b_parts 0 2)
unfolding parts w built join fields bytes magic common flex_parts f64 b_parts
placed = (refl, refl, refl, refl, refl, refl)

pub opens : (opening meta w ≡ Passed) × (opened meta w ≡ Ok w_sections)
unfolding parts w built join fields bytes magic common w_sections number starts stands rule place_for pair_at pairs_from pairs section_rule stride_rule array_rule contexts_rule field number_at stride_rules content_rule header_rule front_rules in_order section_check header_check opening_with opening on_answer on_opened opened
opens = (refl, refl)
