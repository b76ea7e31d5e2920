-- The rules by stages: what one stage has shown is what the next may read.
use Rattle.std.specs.Prelude.{Err}
use Prim.Native.Nat.{ℕ, ◌+◌, ◌-◌, ◌≤◌, ◌<◌}
use mathlib.Core.Bool.{Bool, true, false, ◌&&◌}
use mathlib.Core.List.{List, [], ◌∷◌}
use mathlib.Core.Path.{◌≡◌, refl, sym, ap, ◌∙◌}
use native.Mathlib.Omega.{arith}
use borrow.Author.Tests.{leb-true, le-leb, lt-leb}
use lib.Dec.{leb, eqb}
use lib.ListN.{length, get_or}
use Rattle.le.specs.Number.{number}
use Rattle.refusal.specs.declared.Refusal.{Refusal}
use Rattle.refusal.specs.declared.Refusal.TheVariants as No
use Rattle.refusal.specs.Check.{rule, first, Check, Passed}
use Rattle.refusal.proofs.Checks.{rule_passes, first_passes, first_passed, after_passed, after_refused, rule_and}
use Rattle.layout.specs.Stands.{starts, stands}
use Rattle.open.specs.Format.{Section, strings_section, infos_section, profile}
use Rattle.open.specs.Opening.{place_in, size_in, section_rule, front_rules, in_order, section_check}
use Rattle.open.proofs.Keeps.{section_iff, all_iff}

-- ---- 1 to 3, then 4

no_footer : (file : List ℕ) (at : ℕ) → rule (stands file at []) No.Footer ≡ Passed
unfolding stands starts rule
no_footer file at = refl

regroup : (a b c d : Check) → first a (first b (first c d)) ≡ first (first a (first b (first c Passed))) d
regroup (Err r) b c d = refl
regroup Passed (Err r) c d = refl
regroup Passed Passed (Err r) d = refl
regroup Passed Passed Passed d = refl

module _ (magic : List ℕ) (header : ℕ) (file : List ℕ) where
  front_split : (footer : List ℕ) → front_rules magic footer header file ≡ first (front_rules magic [] header file) (rule (stands file (length file - 8) footer) No.Footer)
  unfolding front_rules
  front_split footer = rw (no_footer file (length file - 8))
      (regroup (rule (leb (header + 8) (length file)) No.Short) (rule (stands file 0 magic) No.Magic) (rule (eqb (number 1 file 14) 4) No.Version) (rule (stands file (length file - 8) footer) No.Footer))

  pub too_short : length file < header + 8 → Err No.Short ≡ front_rules magic [] header file
  unfolding front_rules rule
  too_short h = rw (lt-leb (header + 8) (length file) h)

  pub long_enough : header + 8 ≤ length file → {x : Check} → x ≡ first (rule (stands file 0 magic) No.Magic) (rule (eqb (number 1 file 14) 4) No.Version)
      → x ≡ front_rules magic [] header file
  unfolding front_rules rule
  long_enough h e = rw (le-leb (header + 8) (length file) h, no_footer file (length file - 8), first_passed) e

  pub shown_long : front_rules magic [] header file ≡ Passed → header + 8 ≤ length file
  unfolding front_rules
  shown_long e = leb-true (header + 8) (length file) ((rule_passes _ No.Short).0 ((first_passes _ _).0 e).0)

  module _ (footer : List ℕ) where
    pub front_passed : front_rules magic [] header file ≡ Passed → {x : Check} → x ≡ rule (stands file (length file - 8) footer) No.Footer → x ≡ front_rules magic footer header file
    front_passed e h = after_passed e h ∙ sym (front_split footer)

    pub front_refused : {r : Refusal} → front_rules magic [] header file ≡ Err r → Err r ≡ front_rules magic footer header file
    front_refused e = after_refused _ e ∙ sym (front_split footer)

-- ---- a section that keeps 5 has its header in the file

pub kept_header : (header : ℕ) (file : List ℕ) (end align place size : ℕ) → section_rule header (length file - 8) end align place size ≡ true → 0 < end
    → place + end ≤ length file
kept_header header file end align place size e h =
    let k = (section_iff header (length file - 8) end align place size).0 e in
    let l = k.large in
    let i = k.inside (omega arith) in
    omega arith

pub kept_headers : (header : ℕ) (file : List ℕ) (ps : List (List ℕ)) (ss : List Section) (j : ℕ) → in_order (section_check header file ps) 0 ss ≡ Passed → j < length ss
    → 0 < (get_or ss j strings_section).end → place_in ps j + (get_or ss j strings_section).end ≤ length file
unfolding section_check
kept_headers header file ps ss j e l h =
    let s = get_or ss j strings_section in
    kept_header header file s.end s.align (place_in ps j) (size_in ps j) ((rule_passes _ No.Section).0 ((all_iff (section_check header file ps) ss).0 e j l)) h

-- ---- 5 as one rule

module _ (file : List ℕ) (ps : List (List ℕ)) where
  pub two_rules : rule (section_rule 48 (length file - 8) 13 8 (place_in ps 0) (size_in ps 0) && section_rule 48 (length file - 8) 0 8 (place_in ps 1) (size_in ps 1)) No.Section
      ≡ in_order (section_check 48 file ps) 0 profile.sections
  unfolding in_order section_check
  two_rules = rw (first_passed) (sym (rule_and _ _ No.Section))

  pub one_rule : (least : ℕ) → rule (section_rule 32 (length file - 8) 13 8 (place_in ps 0) (size_in ps 0)) No.Section ≡ in_order (section_check 32 file ps) 0 (infos_section least ∷ [])
  unfolding in_order section_check
  one_rule least = rw (first_passed)

pub and_rule : (a b : Bool) {x : Check} → rule b No.Section ≡ x → rule (a && b) No.Section ≡ first (rule a No.Section) x
and_rule a b e = sym (rule_and a b No.Section) ∙ ap (first (rule a No.Section)) e

module _ {t : Bool} {a : Check} (e : rule t No.Section ≡ a) where
  pub kept : t ≡ true → a ≡ Passed
  kept h = sym e ∙ (rule_passes t No.Section).1 h

  pub broken : (b : Check) → t ≡ false → Err No.Section ≡ first a b
  unfolding rule
  broken b h = after_refused b (sym e ∙ rw h)
