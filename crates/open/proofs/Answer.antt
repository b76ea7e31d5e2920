-- The parts of an answer: one pair, headers with nothing to check, and what an entry point hands back.
use Rattle.std.specs.Prelude.{Ok, Err}
use Prim.Native.Nat.{ℕ, ◌+◌, ◌≤◌, ◌<◌}
use mathlib.Core.List.{List, [], ◌∷◌}
use mathlib.Core.Path.{◌≡◌, refl, sym, ap, ◌∙◌}
use native.Mathlib.Decide.{dec_le}
use native.Mathlib.Omega.{arith}
use borrow.Author.Tests.{le-leb, lt-leb}
use lib.ListN.{length, get_or}
use Rattle.le.specs.Number.{number}
use Rattle.refusal.specs.declared.Refusal.{Refusal}
use Rattle.refusal.specs.declared.Refusal.TheVariants as No
use Rattle.refusal.specs.Check.{either, rule, Check, Passed, on_answer}
use Rattle.refusal.proofs.Checks.{not_both}
use Rattle.open.specs.Format.{Format, Section, section, nothing}
use Rattle.open.specs.Opening.{pair_at, pairs_from, pairs, header_rule, header_check, stride_rules, content_rule, front_rules, opening_with, opening, blank, pairs_read, on_opened, opened}
use Rattle.open.specs.Kept.{Sections}
use Rattle.open.proofs.Pointers.{place_none, place_some}

module _ (file : List ℕ) (entry size : ℕ) (s : size ≡ number 8 file entry) where
  pub pair_none : size ≡ 0 → 0 ∷ size ∷ [] ≡ pair_at file entry
  unfolding pair_at
  pair_none z = rw (← s, place_none size (number 8 file (entry + 8)) z)

  pub pair_some : (place : ℕ) → (size ≡ 0 → ⊥) → place ≡ number 8 file (entry + 8) → place ∷ size ∷ [] ≡ pair_at file entry
  unfolding pair_at
  pair_some place n p = rw (← s, place_some size (number 8 file (entry + 8)) (omega arith), p)

-- what is read of a file that has its header, or has not
module _ (f : Format) (file : List ℕ) where
  pub read_all : f.header ≤ length file → pairs f file ≡ pairs_read f file
  unfolding pairs_read either
  read_all h = rw (le-leb _ _ h)

  pub read_none : length file < f.header → blank (pairs f file) ≡ pairs_read f file
  unfolding pairs_read either
  read_none h = rw (lt-leb _ _ h)

  short_refused : length file < f.header → (ps : List (List ℕ)) → opening_with f file ps ≡ Err No.Short
  unfolding opening_with front_rules rule
  short_refused h ps =
      let l : length file < f.header + 8 = omega arith in
      rw (lt-leb (f.header + 8) (length file) l)

-- a header with neither strides nor an array
pub no_header : (file : List ℕ) (ps : List (List ℕ)) (k end align : ℕ) → header_check file ps k (section end align [] nothing) ≡ Passed
unfolding header_check header_rule stride_rules content_rule rule
no_header file ps k end align = refl

-- the pairs that were read and the check over them, as opening answers by them
module _ (f : Format) (file : List ℕ) {ps : List (List ℕ)} {c : Check} (p : ps ≡ pairs_read f file) (q : c ≡ opening_with f file ps) where
  read_told : c ≡ opening f file
  unfolding opening
  read_told = q ∙ elim (dec_le f.header (length file)) [
    | yes h ↦ ap (opening_with f file) (p ∙ sym (read_all f file h))
    | no h ↦ short_refused f file (omega arith) ps ∙ sym (short_refused f file (omega arith) (pairs f file))
  ]

  same_pairs : c ≡ Passed → ps ≡ pairs f file
  same_pairs h = elim (dec_le f.header (length file)) [
    | yes l ↦ p ∙ sym (read_all f file l)
    | no l ↦ absurd (not_both (sym h ∙ q ∙ short_refused f file (omega arith) ps))
  ]

  pub passed : c ≡ Passed → Ok ps ≡ opened f file
  unfolding opened on_opened on_answer
  passed h = rw (← read_told, h) (ap Ok (same_pairs h))

  pub refused : {r : Refusal} → c ≡ Err r → Err r ≡ opened f file
  unfolding opened on_opened on_answer
  refused h = rw (← read_told, h)

-- what is answered of a file once opening has answered
module _ {f : Format} {file : List ℕ} where
  pub sections : {ps : List (List ℕ)} → Ok ps ≡ opened f file → Sections f file ps
  unfolding opened on_opened on_answer
  sections {ps = ps} e = by (opening f file) refl e
    where
      by : (c : Check) → opening f file ≡ c → Ok ps ≡ on_answer Err c (λ _. Ok (pairs f file)) → Sections f file ps
      by Passed h e = record { same = cc; passed = h }
      by (Err r) h e = absurd (let z : ◌≡◌ {A = ℕ} 0 1 = cc in omega arith)

module _ (f : Format) (file : List ℕ) where
  pub told : {r : Refusal} → Err r ≡ opened f file → opening f file ≡ Err r
  unfolding opened on_opened on_answer
  told {r = r} e = by (opening f file) e
    where
      by : (c : Check) → Err r ≡ on_answer Err c (λ _. Ok (pairs f file)) → c ≡ Err r
      by Passed e = absurd (let z : ◌≡◌ {A = ℕ} 0 1 = cc in omega arith)
      by (Err s) e = let q : r ≡ s = cc in ap Err (sym q)

  module _ {A : Type 0} (refused : Refusal → A) (answer : List (List ℕ) → A) where
    pub answers : {ps : List (List ℕ)} → Ok ps ≡ opened f file → answer ps ≡ on_opened refused f file answer
    unfolding on_opened on_answer
    answers e = let s = sections {f = f} {file = file} e in rw (s.passed, s.same)

    -- by what is answered of the pairs
    pub answered : {ps : List (List ℕ)} {x : A} → Ok ps ≡ opened f file → x ≡ answer ps → x ≡ on_opened refused f file answer
    answered e p = p ∙ answers e

    pub refuses : {r : Refusal} → Err r ≡ opened f file → refused r ≡ on_opened refused f file answer
    unfolding opened on_opened on_answer
    refuses {r = r} e = by (opening f file) e
      where
        by : (c : Check) → Err r ≡ on_answer Err c (λ _. Ok (pairs f file)) → refused r ≡ on_answer refused c (λ _. answer (pairs f file))
        by Passed e = absurd (let z : ◌≡◌ {A = ℕ} 0 1 = cc in omega arith)
        by (Err s) e = let q : r ≡ s = cc in ap refused q

-- a file with one section, or two, has their pairs alone
pub one_pair : (f : Format) (file : List ℕ) {s : Section} → f.sections ≡ s ∷ [] → {ps : List (List ℕ)} → Ok ps ≡ opened f file
    → (get_or ps 0 [] ∷ []) ≡ ps
unfolding pairs pairs_from
one_pair f file h e = rw ((sections {f = f} {file = file} e).same, h)

pub two_pairs : (f : Format) (file : List ℕ) {s t : Section} → f.sections ≡ s ∷ t ∷ [] → {ps : List (List ℕ)} → Ok ps ≡ opened f file
    → (get_or ps 0 [] ∷ get_or ps 1 [] ∷ []) ≡ ps
unfolding pairs pairs_from
two_pairs f file h e = rw ((sections {f = f} {file = file} e).same, h)
