-- What the answer of a function says, in facts: the function is there and keeps its links, and then a place of 0 is no name, and any other
-- is that of a string, which decides.
use Rattle.std.specs.Prelude.{Err, Ok}
use Rattle.text.specs.declared.Text.{Text}
use Rattle.function.specs.declared.Function.{Function}
use Prim.Native.Nat.{ℕ, ◌+◌}
use mathlib.Core.Bool.{Bool, true, false, not, ◌&&◌, ◌||◌, true≢false}
use mathlib.Core.List.{List, []}
use mathlib.Core.Logic.Iff
use mathlib.Core.Logic.{◌↔◌, ◌⊎◌, inl, inr}
use mathlib.Core.Path.{◌≡◌, refl, sym, ap, ◌∙◌}
use native.Mathlib.Decide.{dec_lt}
use native.Mathlib.Omega.{arith}
use borrow.Author.Tests.{eqb-true, eqb-false, eq-eqb, ne_eqb}
use lib.Dec.{eqb}
use lib.ListN.{take, drop}
use Rattle.le.specs.Number.{number}
use Rattle.range.proofs.Tests.{both, unless}
use Rattle.refusal.specs.declared.Refusal.{Refusal}
use Rattle.refusal.specs.declared.Refusal.TheVariants as No
use Rattle.refusal.specs.Number.{number_of}
use Rattle.refusal.specs.Check.{either, rule, Answer, on_answer}
use Rattle.refusal.proofs.Checks.{rule_passes, rule_decides, if_passed_answers}
use Rattle.refusal.proofs.Numbers.{positive, small, same_number}
use Rattle.open.specs.Format.{meta}
use Rattle.open.specs.Names as Section
use Rattle.open.proofs.Given.{on_opened_answers}
use Rattle.utf8.specs.Encoding.{encodings, Encoded}
use Rattle.text.specs.String.{string_at, given_text}
use Rattle.text.specs.Facts.{HasText}
use Rattle.refusal.proofs.Checks.{ok_same, err_same}
use Rattle.text.proofs.Facts.{text_fields, string_says}
use Rattle.text.proofs.Says.{OfString, 8-of-string, 19-of-string}
use Rattle.array.specs.declared.Array.{Array}
use Rattle.array.specs.Element.{linked}
use Rattle.array.proofs.Links.{linked_iff}
use Rattle.array.proofs.Bounds.{on_element_answers}
use Rattle.meta.specs.Facts.{section_of, array_at}
use Rattle.function.specs.Function.{links_kept, name_text, function_of, function_in, function_at, name_bytes, name_which, given_function}
use Rattle.function.specs.Facts.{LinkKept, function_place, p_name, p_module, p_file, FunctionThere, name_string, FoundSays, FunctionSays, NameSays}

-- ---- the links

link_iff : (a : Array) (place : ℕ) → ((eqb place 0 || linked a place) ≡ true) ↔ LinkKept a place
link_iff a place =
    let u = unless (eqb place 0) (linked a place) in
    let l = linked_iff a place in (
      λ e n. let w = l.0 (u.0 e (ne_eqb place 0 n)) in (w.0, (w.1, w.2)),
      λ k. u.1 (λ e. let w = k (eqb-false place 0 e) in l.1 (w.0, w.1.0, w.1.1)),
    )

none_iff : (p q r : ℕ) → (not (eqb p 0 && (eqb q 0 && eqb r 0)) ≡ true) ↔ (p ≡ 0 → q ≡ 0 → r ≡ 0 → ⊥)
none_iff p q r = (
  λ e a b c. true≢false (sym e ∙ rw (eq-eqb p 0 a, eq-eqb q 0 b, eq-eqb r 0 c)),
  λ n. go n (eqb p 0 && (eqb q 0 && eqb r 0)) refl,
)
  where
    go : (p ≡ 0 → q ≡ 0 → r ≡ 0 → ⊥) → (t : Bool) → (eqb p 0 && (eqb q 0 && eqb r 0)) ≡ t → not t ≡ true
    go n true e =
        let x = (both (eqb p 0) (eqb q 0 && eqb r 0)).0 e in
        let y = (both (eqb q 0) (eqb r 0)).0 x.1 in
        absurd (n (eqb-true p 0 x.0) (eqb-true q 0 y.0) (eqb-true r 0 y.1))
    go n false e = refl

-- ---- the name among the other fields

module _ (m o f l : ℕ) where
  abbrev with_name : Answer Text → Answer Function
  with_name t = on_answer Err t (λ t. given_function t.place t.length m o f l)

  fields_iff : (t : Answer Text) (name n m₁ o₁ f₁ l₁ : ℕ)
      → (with_name t ≡ given_function name n m₁ o₁ f₁ l₁) ↔ ((t ≡ given_text name n) × ((m₁ ≡ m) × ((o₁ ≡ o) × ((f₁ ≡ f) × (l₁ ≡ l)))))
  unfolding on_answer
  fields_iff (Ok it) name n m₁ o₁ f₁ l₁ = (
    λ e. let same = ok_same e in (
      ap (λ (x : Function). Ok x.name) same,
      (
        ap (λ (x : Function). x.load_module) (sym same),
        (
          ap (λ (x : Function). x.offset) (sym same),
          (ap (λ (x : Function). x.file) (sym same), ap (λ (x : Function). x.line) (sym same)),
        ),
      ),
    ),
    λ h. let a = text_fields h.0 in rw (a.0, a.1, h.1.0, h.1.1.0, h.1.1.1.0, h.1.1.1.1),
  )
  fields_iff (Err r) name n m₁ o₁ f₁ l₁ = (
    λ e. absurd (let z : ◌≡◌ {A = ℕ} 0 1 = cc in omega arith),
    λ h. absurd (let e = h.0 in let z : ◌≡◌ {A = ℕ} 0 1 = cc in omega arith),
  )

  name_refused_iff : (t : Answer Text) (r : Refusal) → (with_name t ≡ Err r) ↔ (t ≡ Err r)
  unfolding on_answer
  name_refused_iff (Ok it) r = (
    λ e. absurd (let z : ◌≡◌ {A = ℕ} 0 1 = cc in omega arith),
    λ e. absurd (let z : ◌≡◌ {A = ℕ} 0 1 = cc in omega arith),
  )
  name_refused_iff (Err s) r = (λ e. let z : s ≡ r = cc in ap Err z, λ e. let z : s ≡ r = cc in ap Err z)

found_of_string : (name n m o f l : ℕ) → OfString Err (given_function name n m o f l)
found_of_string name n m o f l r k h e = let z : ◌≡◌ {A = ℕ} 0 1 = cc in omega arith

same_refused : (r s : Refusal) → ◌≡◌ {A = Answer Function} (Err r) (Err s) → r ≡ s
same_refused r s e = err_same e

-- ---- function i of a file

module _ (file : List ℕ) (i : ℕ) where
  abbrev modules : Array
  modules = array_at file Section.modules

  abbrev files : Array
  files = array_at file Section.files

  abbrev strings : List ℕ
  strings = section_of file Section.strings

  abbrev place : ℕ
  place = p_name file i

  abbrev links_test : Bool
  links_test = links_kept modules files place (p_module file i) (p_file file i)

  abbrev offset : ℕ
  offset = number 8 file (function_place file i + 16)

  abbrev line : ℕ
  line = number 4 file (function_place file i + 32)

  abbrev fields_with : Answer Text → Answer Function
  fields_with = with_name (p_module file i) offset (p_file file i) line

  links_iff : (links_test ≡ true)
      ↔ ((place ≡ 0 → p_module file i ≡ 0 → p_file file i ≡ 0 → ⊥) × (LinkKept modules (p_module file i) × LinkKept files (p_file file i)))
  unfolding links_kept
  links_iff =
      let m = p_module file i in
      let f = p_file file i in
      let some = not (eqb place 0 && (eqb m 0 && eqb f 0)) in
      let a = both some ((eqb m 0 || linked modules m) && (eqb f 0 || linked files f)) in
      let b = both (eqb m 0 || linked modules m) (eqb f 0 || linked files f) in (
        λ e.
            let x = a.0 e in
            let y = b.0 x.1 in
            ((none_iff place m f).0 x.0, ((link_iff modules m).0 y.0, (link_iff files f).0 y.1)),
        λ h. a.1 ((none_iff place m f).1 h.0, b.1 ((link_iff modules m).1 h.1.0, (link_iff files f).1 h.1.1)),
      )

  -- the name is read exactly if the function is there
  name_read : (y : Answer Function) → OfString Err y → (function_at file i ≡ y) ↔ (FunctionThere file i × (fields_with (name_text file strings place) ≡ y))
  unfolding function_at function_of
  name_read y o =
      let opened = on_opened_answers Err meta file (λ ps. function_in file ps i) y (λ r k. o r (λ z. omega arith) (λ z. omega arith)) in
      let element =
      on_element_answers (array_at file Section.functions) i Err (λ at. function_of file strings modules files at) y
      (o No.Index (λ z. omega arith) (λ z. omega arith)) in
      let links = if_passed_answers Err (rule links_test No.Link) (fields_with (name_text file strings place)) y by_9 in (
        λ e.
            let a = opened.0 e in
            let b = element.0 a.1 in
            let c = links.0 b.1 in
            let k = links_iff.0 ((rule_passes links_test No.Link).0 c.0) in
            (record { opens = a.0; element = b.0; one_of_three = k.0; module_kept = k.1.0; file_kept = k.1.1 }, c.1),
        λ h.
            let has = h.0 in
            let kept = (rule_passes links_test No.Link).1 (links_iff.1 (has.one_of_three, (has.module_kept, has.file_kept))) in
            opened.1 (has.opens, element.1 (has.element, links.1 (kept, h.1))),
      )
    where
      -- a broken link gives 9
      by_9 : (r : Refusal) → rule links_test No.Link ≡ Err r → Err r ≡ y → ⊥
      by_9 r k = let nine = ap number_of (((rule_decides links_test links_iff).refuses r).0 k).0 in o r (λ z. omega (arith, nine)) (λ z. omega (arith, nine))

  -- ---- a place of 0, and any other

  no_text : place ≡ 0 → name_text file strings place ≡ given_text 0 0
  unfolding name_text either
  no_text e = rw (eq-eqb place 0 e)

  some_text : (place ≡ 0 → ⊥) → name_text file strings place ≡ string_at file strings place
  unfolding name_text either
  some_text n = rw (ne_eqb place 0 n)

  text_iff : (name n : ℕ) → (name_text file strings place ≡ given_text name n)
      ↔ ((name ≡ place) × (((place ≡ 0) × (n ≡ 0)) ⊎ ((place ≡ 0 → ⊥) × HasText file (name_string file i) n)))
  text_iff name n =
      let says = string_says file strings place in (
        λ e. elim (dec_lt 0 place) [
          | yes l ↦
              let some : place ≡ 0 → ⊥ = λ z. omega arith in
              let k = (says.handed-back name n).0 (sym (some_text some) ∙ e) in
              (k.1.0, inr (some, k.1.1))
          | no l ↦
              let none : place ≡ 0 = omega arith in
              let t = sym (no_text none) ∙ e in
              let f = text_fields t in
              (sym f.0 ∙ sym none, inl (none, sym f.1))
        ],
        λ h. elim h.1 [
          | inl none ↦ no_text none.0 ∙ rw (h.0, none.0, none.1)
          | inr some ↦ some_text some.0 ∙ (says.handed-back name n).1 (tt, (h.0, some.1))
        ],
      )

  refused_text : (r : Refusal) → (name_text file strings place ≡ Err r) ↔ ((place ≡ 0 → ⊥) × (string_at file strings place ≡ Err r))
  refused_text r = (
    λ e. elim (dec_lt 0 place) [
      | yes l ↦ let some : place ≡ 0 → ⊥ = λ z. omega arith in (some, sym (some_text some) ∙ e)
      | no l ↦ absurd (let t = sym (no_text (omega arith)) ∙ e in let z : ◌≡◌ {A = ℕ} 0 1 = cc in omega arith)
    ],
    λ h. some_text h.0 ∙ h.1,
  )

  -- ---- all of it

  function_found : (name n m o f l : ℕ) → (function_at file i ≡ given_function name n m o f l) ↔ FoundSays file i name n m o f l
  function_found name n m o f l =
      let read = name_read (given_function name n m o f l) (found_of_string name n m o f l) in
      let fields = fields_iff (p_module file i) offset (p_file file i) line (name_text file strings place) name n m o f l in (
        λ e.
            let h = read.0 e in
            let d = fields.0 h.1 in
            let t = (text_iff name n).0 d.0 in
            record {
              there = h.0;
              its-name = t.0;
              its_length = t.1;
              its_module = d.1.0;
              its_offset = d.1.1.0;
              its_file = d.1.1.1.0;
              its_line = d.1.1.1.1;
            },
        λ h.
            let t = (text_iff name n).1 (h.its-name, h.its_length) in
            read.1 (h.there, fields.1 (t, (h.its_module, (h.its_offset, (h.its_file, h.its_line))))),
      )

  string_refused : (r : Refusal) → OfString {A = Answer Function} Err (Err r)
      → (function_at file i ≡ Err r) ↔ ((FunctionThere file i × (place ≡ 0 → ⊥)) × (string_at file strings place ≡ Err r))
  string_refused r o =
      let read = name_read (Err r) o in
      let so = name_refused_iff (p_module file i) offset (p_file file i) line (name_text file strings place) r in (
        λ e. let h = read.0 e in let t = (refused_text r).0 (so.0 h.1) in ((h.0, t.0), t.1),
        λ h. read.1 (h.0.0, so.1 ((refused_text r).1 (h.0.1, h.1))),
      )

  pub function_says : FunctionSays file i
  function_says =
      let says = string_says file strings place in
      record {
        found = function_found;
        is_8 = (
          λ e. let h = (string_refused No.String (8-of-string Err same_refused)).0 e in (h.0, (says.is_8.0 h.1).1),
          λ h. (string_refused No.String (8-of-string Err same_refused)).1 (h.0, says.is_8.1 (tt, h.1)),
        );
        is_19 = (
          λ e. let h = (string_refused No.Spelling (19-of-string Err same_refused)).0 e in (h.0, (says.is_19.0 h.1).1),
          λ h. (string_refused No.Spelling (19-of-string Err same_refused)).1 (h.0, says.is_19.1 (tt, h.1)),
        );
      }

-- ---- how the name is handed back

which_refused : (a : Answer Function) (r : Refusal) → (name_which a ≡ number_of r) ↔ (a ≡ Err r)
unfolding name_which either
which_refused (Ok it) r = (λ e. absurd (never (eqb it.name.place 0) e), λ e. absurd (let z : ◌≡◌ {A = ℕ} 0 1 = cc in omega arith))
  where
    never : (t : Bool) → ◌≡◌ {A = ℕ} (either t 100 0) (number_of r) → ⊥
    never true e = omega (arith, small r)
    never false e = omega (arith, positive r)
which_refused (Err s) r = (λ e. ap Err (same_number s r e), λ e. let z : s ≡ r = cc in ap number_of z)

module _ (file : List ℕ) (i : ℕ) where
  -- the answer with a name, and without
  pub found_named : (n : ℕ) → (name_string file i).Read → HasText file (name_string file i) n
      → function_at file i
      ≡ given_function (p_name file i) n (p_module file i) (offset file i) (p_file file i) (line file i)
  found_named n read text =
      ((function_says file i).found _ _ _ _ _ _).1 (record {
        there = read.0;
        its-name = refl;
        its_length = inr (read.1, text);
        its_module = refl;
        its_offset = refl;
        its_file = refl;
        its_line = refl;
      })

  pub found_unnamed : FunctionThere file i → p_name file i ≡ 0
      → function_at file i ≡ given_function 0 0 (p_module file i) (offset file i) (p_file file i) (line file i)
  found_unnamed there none =
      ((function_says file i).found _ _ _ _ _ _).1 (record {
        there = there;
        its-name = sym none;
        its_length = inl (none, refl);
        its_module = refl;
        its_offset = refl;
        its_file = refl;
        its_line = refl;
      })

  -- 0 says that there is a name, and 100 that there is none
  told_0 : (a : Answer Function) → function_at file i ≡ a → name_which a ≡ 0
      → (name_string file i).Read × ((n : ℕ) × HasText file (name_string file i) n)
  unfolding name_which either
  told_0 (Ok it) e w = go (eqb it.name.place 0) refl w (((function_says file i).found it.name.place it.name.length it.load_module it.offset it.file it.line).0 e)
    where
      go : (t : Bool) → eqb it.name.place 0 ≡ t → ◌≡◌ {A = ℕ} (either t 100 0) 0 → FoundSays file i it.name.place it.name.length it.load_module it.offset it.file it.line
          → (name_string file i).Read × ((k : ℕ) × HasText file (name_string file i) k)
      go true z w h = absurd (omega arith)
      go false z w h = elim h.its_length [
        | inl none ↦ absurd (eqb-false it.name.place 0 z (h.its-name ∙ none.0))
        | inr some ↦ ((h.there, some.0), (it.name.length, some.1))
      ]
  told_0 (Err r) e w = absurd (omega (arith, positive r))

  told_100 : (a : Answer Function) → function_at file i ≡ a → name_which a ≡ 100 → FunctionThere file i × (p_name file i ≡ 0)
  unfolding name_which either
  told_100 (Ok it) e w = go (eqb it.name.place 0) refl w (((function_says file i).found it.name.place it.name.length it.load_module it.offset it.file it.line).0 e)
    where
      go : (t : Bool) → eqb it.name.place 0 ≡ t → ◌≡◌ {A = ℕ} (either t 100 0) 100
          → FoundSays file i it.name.place it.name.length it.load_module it.offset it.file it.line → FunctionThere file i × (p_name file i ≡ 0)
      go true z w h = (h.there, sym h.its-name ∙ eqb-true it.name.place 0 z)
      go false z w h = absurd (omega arith)
  told_100 (Err r) e w = absurd (omega (arith, small r))

  -- what is neither 0 nor 100 is a refusal's
  told_else : (placeholder : List ℕ) (a : Answer Function) → (name_which a ≡ 0 → ⊥) → (name_which a ≡ 100 → ⊥) → name_bytes file placeholder a ≡ []
  unfolding name_which name_bytes either
  told_else placeholder (Ok it) x y = go (eqb it.name.place 0) x y
    where
      go : (t : Bool) → (◌≡◌ {A = ℕ} (either t 100 0) 0 → ⊥) → (◌≡◌ {A = ℕ} (either t 100 0) 100 → ⊥) → either t placeholder (take it.name.length (drop it.name.place file)) ≡ []
      go true x y = absurd (y refl)
      go false x y = absurd (x refl)
  told_else placeholder (Err r) x y = refl

  module _ (placeholder : List ℕ) where
    its_bytes : (n : ℕ) → (name_string file i).Read → HasText file (name_string file i) n
        → name_bytes file placeholder (function_at file i) ≡ take n (drop (p_name file i) file)
    unfolding name_bytes either
    its_bytes n read text = rw (found_named n read text, ne_eqb (p_name file i) 0 read.1)

    utf8_or_none : (name_which (function_at file i) ≡ 100 → ⊥) → Encoded (name_bytes file placeholder (function_at file i))
    unfolding encodings
    utf8_or_none other =
        elim (dec_lt 0 (name_which (function_at file i))) [
          | yes l ↦ rw (told_else placeholder (function_at file i) (λ z. omega arith) other) (record { codes = []; scalars = tt; same = refl })
          | no l ↦
              let h = told_0 (function_at file i) refl (omega arith) in
              rw (its_bytes h.1.0 h.0 h.1.1) h.1.1.1
        ]

    pub name_says : NameSays file i placeholder
    unfolding name_which name_bytes either
    name_says =
        let says = function_says file i in
        record {
          codes = record {
            code_0 = (
              told_0 (function_at file i) refl,
              λ h. rw (found_named h.1.0 h.0 h.1.1, ne_eqb (p_name file i) 0 h.0.1),
            );
            code_8 = Iff.trans (which_refused (function_at file i) No.String) says.is_8;
            code_19 = Iff.trans (which_refused (function_at file i) No.Spelling) says.is_19;
          };
          bytes = its_bytes;
          encoded = utf8_or_none;
          no_bytes = told_else placeholder (function_at file i);
          no_name = (told_100 (function_at file i) refl, λ h. rw (found_unnamed h.0 h.1));
          whole = λ e. let h = told_100 (function_at file i) refl e in rw (found_unnamed h.0 h.1);
        }
