-- A file opens exactly if it keeps the rules, and is refused by the first that it breaks: each test is turned into its fact and back,
-- then the checks are put together, those of the sections by position.
use Rattle.refusal.specs.Check.{Check, Passed}
use Prim.Native.Nat.{ℕ, zero, suc, ◌+◌, ◌-◌, ◌*◌, ◌%◌, ◌≤◌, ◌<◌}
use mathlib.Core.Bool.{Bool, true, false, ◌&&◌, ◌||◌, not}
use mathlib.Core.List.{List, [], ◌∷◌}
use mathlib.Core.Logic.{◌↔◌, ◌⊎◌, inl, inr}
use mathlib.Core.Path.{◌≡◌, refl, ◌∙◌}
use native.Mathlib.Nat.{add-zero, not-suc-le-zero, le_of_suc-le-suc}
use native.Mathlib.Omega.{arith}
use borrow.Author.Tests.{leb-true, le-leb, eqb-true, eq-eqb, ne_eqb, eqb-false}
use lib.Dec.{leb, eqb}
use lib.ListN.{length, get_or}
use Rattle.le.specs.Number.{number}
use Rattle.range.specs.Range.{within, multiple}
use Rattle.range.proofs.Tests.{both, unless, within_iff, multiple_iff}
use Rattle.refusal.specs.declared.Refusal.{Refusal}
use Rattle.refusal.specs.declared.Refusal.TheVariants as No
use Rattle.refusal.proofs.Checks.{not_both, Decides, restated, rule_decides, first_decides}
use Rattle.layout.specs.Stands.{stands}
use Rattle.layout.proofs.Prefix.{stands_iff}
use Rattle.open.specs.Format.{u64, Stride, Content, nothing, array, roots, Section, strings_section, Format, section_at}
use Rattle.open.specs.Opening.{pairs, place_in, size_in, section_rule, stride_rule, array_rule, contexts_rule, field, number_at, stride_rules, content_rule, header_rule, front_rules, in_order, section_check, header_check, opening_with, opening}
use Rattle.open.specs.Kept.{SectionKept, StrideKept, ArrayKept, ContextsKept, StridesKept, ContentKept, Opens}
use Rattle.open.specs.Given.{Long, MagicStands, VersionStands, FooterStands, SectionOf, StridesOf, ContentOf, HeaderOf, SectionsKept, First}

-- ---- tests and facts

-- bytes that lie between two places, at a multiple; unless there are none
lies_iff : (n from to place size step : ℕ)
    → ((eqb n 0 || (within from to place size && multiple place step)) ≡ true) ↔ (0 < n → (from ≤ place) × (place + size ≤ to) × (place % step ≡ 0))
lies_iff n from to place size step =
    let w = within from to place size in
    let m = multiple place step in
    let u = unless (eqb n 0) (w && m) in
    let b = both w m in (
      λ e h.
          let t = b.0 (u.0 e (ne_eqb n 0 (omega arith))) in
          let l = (within_iff from to place size).0 t.0 in
          (l.0, l.1, (multiple_iff place step).0 t.1),
      λ f. u.1 (λ z.
          let h : 0 < n = positive n (eqb-false n 0 z) in
          b.1 ((within_iff from to place size).1 ((f h).0, (f h).1), (multiple_iff place step).1 (f h).2)),
    )
  where
    positive : (n : ℕ) → (n ≡ 0 → ⊥) → 0 < n
    positive zero h = absurd (h refl)
    positive (suc n) h = omega arith

pub section_iff : (header last end align place size : ℕ)
    → (section_rule header last end align place size ≡ true) ↔ SectionKept header last end align place size
unfolding section_rule
section_iff header last end align place size =
    let l = lies_iff size header last place size align in
    let b = both (leb end size) (eqb size 0 || (within header last place size && multiple place align)) in (
      λ e. record {
        large = leb-true end size (b.0 e).0;
        after = λ h. (l.0 (b.0 e).1 h).0;
        inside = λ h. (l.0 (b.0 e).1 h).1;
        aligned = λ h. (l.0 (b.0 e).1 h).2;
      },
      λ k. b.1 (le-leb end size k.large, l.1 (λ h. (k.after h, k.inside h, k.aligned h))),
    )

stride_iff : (least n : ℕ) → (stride_rule least n ≡ true) ↔ StrideKept least n
unfolding stride_rule
stride_iff least n =
    let b = both (leb least n) (multiple n 8) in (
      λ e. record { large = leb-true least n (b.0 e).0; eights = (multiple_iff n 8).0 (b.0 e).1 },
      λ k. b.1 (le-leb least n k.large, (multiple_iff n 8).1 k.eights),
    )

pub array_iff : (at end size place count stride : ℕ) → (array_rule at end size place count stride ≡ true) ↔ ArrayKept at end size place count stride
unfolding array_rule
array_iff at end size place count stride =
    let l = lies_iff count (at + end) (at + size) place (count * stride) 8 in (
      λ e. record { after = λ h. (l.0 e h).0; inside = λ h. (l.0 e h).1; aligned = λ h. (l.0 e h).2 },
      λ k. l.1 (λ h. (k.after h, k.inside h, k.aligned h)),
    )

pub contexts_iff : (at end size place bytes : ℕ) → (contexts_rule at end size place bytes ≡ true) ↔ ContextsKept at end size place bytes
unfolding contexts_rule
contexts_iff at end size place bytes = go (eqb place 0) (eqb bytes 0) refl refl
  where
    t : Bool
    t = within (at + end) (at + size) place bytes && multiple place 8

    l : (eqb bytes 0 || t ≡ true) ↔ (0 < bytes → (at + end ≤ place) × (place + bytes ≤ at + size) × (place % 8 ≡ 0))
    l = lies_iff bytes (at + end) (at + size) place bytes 8

    never : false ≡ true → ⊥
    never e = let z : ◌≡◌ {A = ℕ} 0 1 = cc in omega arith

    go : (p b : Bool) → eqb place 0 ≡ p → eqb bytes 0 ≡ b → ((p && b || ((not p && not b) && t)) ≡ true) ↔ ContextsKept at end size place bytes
    go true true p b =
        let z : place ≡ 0 = eqb-true place 0 p in
        let y : bytes ≡ 0 = eqb-true bytes 0 b in (
          λ e. record { no_place = λ h. y; no_bytes = λ h. z; after = λ h. omega arith; inside = λ h. omega arith; aligned = λ h. absurd (omega arith) },
          λ k. refl,
        )
    go true false p b = (λ e. absurd (never e), λ k. absurd (eqb-false bytes 0 b (k.no_place (eqb-true place 0 p))))
    go false true p b = (λ e. absurd (never e), λ k. absurd (eqb-false place 0 p (k.no_bytes (eqb-true bytes 0 b))))
    go false false p b = (
      λ e.
          let f = l.0 (rw b e) in
          record {
            no_place = λ h. absurd (eqb-false place 0 p h);
            no_bytes = λ h. absurd (eqb-false bytes 0 b h);
            after = λ h. (f h).0;
            inside = λ h. (f h).1;
            aligned = λ h. (f h).2;
          },
      λ k. rw b at (l.1 (λ h. (k.after h, k.inside h, k.aligned h))),
    )

strides_iff : (file : List ℕ) (at : ℕ) (ss : List Stride) → (stride_rules file at ss ≡ true) ↔ StridesKept file at ss
unfolding stride_rules
strides_iff file at [] = (λ e. tt, λ k. refl)
strides_iff file at (s ∷ rest) =
    let b = both (stride_rule s.least (field file at s.field)) (stride_rules file at rest) in
    let i = stride_iff s.least (field file at s.field) in
    let r = strides_iff file at rest in
    (λ e. (i.0 (b.0 e).0, r.0 (b.0 e).1), λ k. b.1 (i.1 k.0, r.1 k.1))

content_iff : (file : List ℕ) (at end size : ℕ) (c : Content) → (content_rule file at end size c ≡ true) ↔ ContentKept file at end size c
unfolding content_rule
content_iff file at end size nothing = (λ e. tt, λ k. refl)
content_iff file at end size (array n s) = array_iff at end size (field file at (u64 0)) (field file at n) (number_at file at s)
content_iff file at end size roots = contexts_iff at end size (field file at (u64 8)) (field file at (u64 0))

-- ---- checks in order, by position

-- of the numbers below n, the first of which something is broken
abbrev FirstOf : (n : ℕ) → (Kept Broken : ℕ → Type 0) → Type 0
FirstOf n Kept Broken = (k : ℕ) × ((k < n) × (((j : ℕ) → j < k → Kept j) × Broken k))

-- the check of section j is at position `pos j`
in_order_decides : (check : ℕ → Section → Check) (P : ℕ → Type 0) (G : ℕ → Refusal → Type 0) (k : ℕ) (pos : ℕ → ℕ) → ((j : ℕ) → pos j ≡ k + j)
    → (ss : List Section) → ((j : ℕ) → Decides (check (pos j) (get_or ss j strings_section)) (P j) (G j))
    → Decides (in_order check k ss) ((j : ℕ) → j < length ss → P j) (λ r. FirstOf (length ss) P (λ j. G j r))
unfolding in_order
in_order_decides check P G k pos is [] each = record {
  passes = (λ e j h. absurd (not-suc-le-zero h), λ f. refl);
  refuses = λ r. (λ e. absurd (not_both e), λ g. absurd (not-suc-le-zero g.1.0));
}
in_order_decides check P G k pos is (s ∷ rest) each =
    let start : pos 0 ≡ k = is 0 ∙ add-zero k in
    let next = in_order_decides check (λ j. P (suc j)) (λ j. G (suc j)) (k + 1) (λ j. pos (suc j)) (λ j. omega (arith, is (suc j)))
    rest (λ j. each (suc j)) in
    restated (first_decides (check k s) (rw start at (each 0)) next)
    (λ h. cons h.0 h.1, λ h. (h 0 (omega arith), λ j l. h (suc j) (omega arith)))
    (λ r. (to r, λ g. from r g.0 g.1))
  where
    cons : {n : ℕ} → P 0 → ((j : ℕ) → j < n → P (suc j)) → (j : ℕ) → j < suc n → P j
    cons here later zero l = here
    cons here later (suc j) l = later j (le_of_suc-le-suc l)

    to : (r : Refusal) → G 0 r ⊎ (P 0 × FirstOf (length rest) (λ j. P (suc j)) (λ j. G (suc j) r)) → FirstOf (suc (length rest)) P (λ j. G j r)
    to r (inl g) = (0, (omega arith, (λ j l. absurd (not-suc-le-zero l), g)))
    to r (inr g) = let at = g.1.1 in (suc g.1.0, (omega (arith, at.0), (cons g.0 at.1.0, at.1.1)))

    from : (r : Refusal) (k : ℕ) → (k < suc (length rest)) × (((j : ℕ) → j < k → P j) × G k r)
        → G 0 r ⊎ (P 0 × FirstOf (length rest) (λ j. P (suc j)) (λ j. G (suc j) r))
    from r zero g = inl g.1.1
    from r (suc k) g = inr (g.1.0 0 (omega arith), (k, (le_of_suc-le-suc g.0, (λ j l. g.1.0 (suc j) (omega arith), g.1.1))))

all_say : (check : ℕ → Section → Check) (ss : List Section) {P : ℕ → Type 0} {G : ℕ → Refusal → Type 0}
    → ((j : ℕ) → Decides (check j (get_or ss j strings_section)) (P j) (G j))
    → Decides (in_order check 0 ss) ((j : ℕ) → j < length ss → P j) (λ r. FirstOf (length ss) P (λ j. G j r))
all_say check ss {P} {G} each = in_order_decides check P G 0 (λ j. j) (λ j. omega arith) ss each

pub all_iff : (check : ℕ → Section → Check) (ss : List Section)
    → (in_order check 0 ss ≡ Passed) ↔ ((j : ℕ) → j < length ss → check j (get_or ss j strings_section) ≡ Passed)
all_iff check ss = (all_say check ss (λ j. record { passes = (λ e. e, λ e. e); refuses = λ r. (λ e. e, λ e. e) })).passes

-- ---- the file

-- the rule of one refusal is broken
abbrev pub Breaks : (own : Refusal) → Type 0 → Refusal → Type 0
Breaks own P r = (own ≡ r) × (P → ⊥)

module _ (f : Format) (file : List ℕ) where
  abbrev pub FrontPassed : Type 0
  FrontPassed = Long f file × (MagicStands f file × (VersionStands f file × FooterStands f file))

  -- the first rule that is broken, in the order of the rules: of 1 to 4, of 5 to 7
  abbrev pub FrontBroken : Refusal → Type 0
  FrontBroken r =
      Breaks No.Short (Long f file) r
      ⊎ (Long f file × (Breaks No.Magic (MagicStands f file) r
      ⊎ (MagicStands f file × (Breaks No.Version (VersionStands f file) r
      ⊎ (VersionStands f file × Breaks No.Footer (FooterStands f file) r)))))

  abbrev pub SectionsBroken : Refusal → Type 0
  SectionsBroken r =
      First f file (SectionOf f file) (λ k. Breaks No.Section (SectionOf f file k) r)
      ⊎ (SectionsKept f file × First f file (HeaderOf f file) (λ k.
      Breaks No.Stride (StridesOf f file k) r ⊎ (StridesOf f file k × Breaks No.Array (ContentOf f file k) r)))

  pub opening_decides : Decides (opening f file) (FrontPassed × (SectionsKept f file × ((k : ℕ) → k < length f.sections → HeaderOf f file k)))
      (λ r. FrontBroken r ⊎ (FrontPassed × SectionsBroken r))
  unfolding opening opening_with front_rules section_check header_check header_rule
  opening_decides =
      let ps = pairs f file in
      let least = f.header + 8 in
      let last = length file - 8 in
      first_decides _
      (first_decides _ (rule_decides (leb least (length file)) (leb-true least (length file), le-leb least (length file)))
      (first_decides _ (rule_decides (stands file 0 f.magic) (stands_iff file 0 f.magic))
      (first_decides _ (rule_decides (eqb (number 1 file 14) 4) (eqb-true (number 1 file 14) 4, eq-eqb (number 1 file 14) 4))
      (rule_decides (stands file last f.footer) (stands_iff file last f.footer)))))
      (first_decides _
      (all_say (section_check f.header file ps) f.sections (λ j.
      rule_decides _ (section_iff f.header last (section_at f j).end (section_at f j).align (place_in ps j) (size_in ps j))))
      (all_say (header_check file ps) f.sections (λ j.
      first_decides _ (rule_decides _ (strides_iff file (place_in ps j) (section_at f j).strides))
      (rule_decides _ (content_iff file (place_in ps j) (section_at f j).end (size_in ps j) (section_at f j).content)))))

  pub opens_iff : (opening f file ≡ Passed) ↔ Opens f file
  opens_iff =
      let i = opening_decides.passes in (
        λ e.
            let k = i.0 e in
            record {
              long = k.0.0;
              magic = k.0.1.0;
              version = k.0.1.1.0;
              footer = k.0.1.1.1;
              section = λ j l. record { section = k.1.0 j l; strides = (k.1.1 j l).0; content = (k.1.1 j l).1 };
            },
        λ o. i.1 (
          (o.long, (o.magic, (o.version, o.footer))),
          (λ j l. (o.section j l).section, λ j l. ((o.section j l).strides, (o.section j l).content)),
        ),
      )
