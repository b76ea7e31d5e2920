-- The way down as frames, the deepest first: a context's place and its number among its siblings. The words have the places; the numbers
-- are those of the path.
use Prim.Native.Nat.{ℕ, suc, ◌+◌, ◌≤◌, ◌<◌}
use mathlib.Core.Bool.{Bool, true, false}
use mathlib.Core.List.{List, [], ◌∷◌}
use mathlib.Core.Path.{◌≡◌, refl, sym, ap, ap₂, ◌∙◌}
use native.Mathlib.Omega.{arith}
use native.Mathlib.Nat.{not-suc-le-zero}
use borrow.Author.Tests.{eqb-true, eqb-false}
use lib.Dec.{eqb}
use lib.ListN.{length, get_or, set, length-append, length-set, get_or-append}
use lib.Seq.{get_or-set_same, get_or-set_other, get_or_at}
use Rattle.open.specs.Opening.{field}
use Rattle.context.specs.Context.{children_place, extent, sibling_place, children_end}
use Rattle.traversal.proofs.Keeps.{snoc}
use Rattle.resume.specs.Way.{places_on, WayTo, end_below, parent_below, Lies, LiesBelow}
use Rattle.resume.proofs.Places.{start_below, start_snoc, places_snoc}

pub record Frame : Type 0 where
  pub place : ℕ
  pub number : ℕ

abbrev pub frame : (place number : ℕ) → Frame
frame place number = record { place = place; number = number }

abbrev pub ups_of : List Frame → List ℕ
ups_of [] = []
ups_of (x ∷ frames) = snoc (ups_of frames) x.number

abbrev pub parent_of : List Frame → ℕ
parent_of [] = 0
parent_of (x ∷ frames) = x.place

-- where the array below them starts and ends; below none it is that of the roots
abbrev pub array_start : List ℕ → (at : ℕ) → List Frame → ℕ
array_start file at [] = at
array_start file at (x ∷ frames) = field file x.place children_place

abbrev pub array_end : List ℕ → (stop : ℕ) → List Frame → ℕ
array_end file stop [] = stop
array_end file stop (x ∷ frames) = children_end file x.place

-- the words have their places; they lie in the file; and each stands at its number
abbrev pub WayStands : (way : List ℕ) → List Frame → Type 0
WayStands way [] = Unit {0}
WayStands way (x ∷ frames) = (get_or way (suc (length frames)) 0 ≡ x.place) × WayStands way frames

abbrev pub AllLie : List ℕ → List Frame → Type 0
AllLie file [] = Unit {0}
AllLie file (x ∷ frames) = Lies file x.place × AllLie file frames

abbrev pub Numbered : List ℕ → (at : ℕ) → List Frame → Type 0
Numbered file at [] = Unit {0}
Numbered file at (x ∷ frames) = (x.place ≡ sibling_place file (array_start file at frames) x.number) × Numbered file at frames

pub ups_length : (frames : List Frame) → length (ups_of frames) ≡ length frames
ups_length [] = refl
ups_length (x ∷ frames) = omega (arith, length-append (ups_of frames) (x.number ∷ []), ups_length frames)

-- ---- words

stands_set : (way : List ℕ) (j v : ℕ) (frames : List Frame) → (j ≡ 0 → ⊥) → length frames < j → WayStands way frames → WayStands (set way j v) frames
stands_set way j v [] z h s = tt
stands_set way j v (x ∷ frames) z h s =
    (get_or-set_other way j (suc (length frames)) v 0 (λ e. omega arith) ∙ s.0, stands_set way j v frames z (omega arith) s.1)

stands_first : (way : List ℕ) (v : ℕ) (frames : List Frame) → WayStands way frames → WayStands (set way 0 v) frames
stands_first way v [] s = tt
stands_first way v (x ∷ frames) s = (get_or-set_other way 0 (suc (length frames)) v 0 (λ e. omega arith) ∙ s.0, stands_first way v frames s.1)

pub below_end : (file : List ℕ) (stop : ℕ) (way : List ℕ) (frames : List Frame) → WayStands way frames
    → end_below file stop way (length frames) ≡ array_end file stop frames
below_end file stop way [] s = refl
below_end file stop way (x ∷ frames) s = ap (children_end file) s.0

pub below_parent : (way : List ℕ) (frames : List Frame) → WayStands way frames → parent_below way (length frames) ≡ parent_of frames
below_parent way [] s = refl
below_parent way (x ∷ frames) s = s.0

pub below_lies : (file way : List ℕ) (frames : List Frame) → WayStands way frames → AllLie file frames → LiesBelow file way (length frames)
below_lies file way [] s a = tt
below_lies file way (x ∷ frames) s a = rw s.0 a.0

pub end_inside : (file : List ℕ) (stop : ℕ) (frames : List Frame) → AllLie file frames → stop ≤ length file → array_end file stop frames ≤ length file
end_inside file stop [] a h = h
end_inside file stop (x ∷ frames) a h = a.0.children

-- ---- places

module _ (file : List ℕ) (at : ℕ) where
  abbrev places_up : List Frame → List ℕ
  places_up [] = []
  places_up (x ∷ frames) = snoc (places_up frames) x.place

  start_up : (frames : List Frame) → Numbered file at frames → start_below file at (ups_of frames) ≡ array_start file at frames
  start_up [] n = refl
  start_up (x ∷ frames) n =
      start_snoc file at (ups_of frames) x.number
      ∙ ap (λ (q : ℕ). field file q children_place) (ap (λ (q : ℕ). sibling_place file q x.number) (start_up frames n.1) ∙ sym n.0)

  places-up : (frames : List Frame) → Numbered file at frames → places_on file at (ups_of frames) ≡ places_up frames
  unfolding places_on
  places-up [] n = refl
  places-up (x ∷ frames) n =
      places_snoc file at (ups_of frames) x.number
      ∙ ap₂ snoc (places-up frames n.1) (ap (λ (q : ℕ). sibling_place file q x.number) (start_up frames n.1) ∙ sym n.0)

  length_up : (frames : List Frame) → length (places_up frames) ≡ length frames
  length_up [] = refl
  length_up (x ∷ frames) = omega (arith, length-append (places_up frames) (x.place ∷ []), length_up frames)

  pub word-at : (way : List ℕ) (frames : List Frame) → WayStands way frames → (k : ℕ) → k < length frames → get_or way (suc k) 0 ≡ get_or (places_up frames) k 0
  word-at way [] s k h = absurd (not-suc-le-zero h)
  word-at way (x ∷ frames) s k h = go (eqb k (length frames)) refl (λ q. word-at way frames s.1 k q)
    where
      go : (b : Bool) → eqb k (length frames) ≡ b → (k < length frames → get_or way (suc k) 0 ≡ get_or (places_up frames) k 0)
          → get_or way (suc k) 0 ≡ get_or (snoc (places_up frames) x.place) k 0
      go true e above =
          let same = eqb-true k (length frames) e in
          ap (λ (j : ℕ). get_or way (suc j) 0) same ∙ s.0 ∙ sym (get_or_at (places_up frames) x.place [] 0 k (length_up frames ∙ sym same))
      go false e above =
          let less : k < length frames = omega (arith, eqb-false k (length frames) e) in
          above less ∙ sym (get_or-append (places_up frames) (x.place ∷ []) 0 k (omega (arith, length_up frames)))

  word_lies : (way : List ℕ) (frames : List Frame) → WayStands way frames → AllLie file frames → (k : ℕ) → k < length frames
      → get_or way (suc k) 0 + 24 ≤ length file
  unfolding extent
  word_lies way [] s a k h = absurd (not-suc-le-zero h)
  word_lies way (x ∷ frames) s a k h = go (eqb k (length frames)) refl (λ q. word_lies way frames s.1 a.1 k q)
    where
      go : (b : Bool) → eqb k (length frames) ≡ b → (k < length frames → get_or way (suc k) 0 + 24 ≤ length file) → get_or way (suc k) 0 + 24 ≤ length file
      go true e above =
          let same = eqb-true k (length frames) e in
          omega (arith, ap (λ (j : ℕ). get_or way (suc j) 0) same ∙ s.0, a.0.itself)
      go false e above = above (omega (arith, eqb-false k (length frames) e))

  -- the words lead to the deepest
  pub leads_to : (way : List ℕ) (frames : List Frame) → WayStands way frames → Numbered file at frames → AllLie file frames
      → get_or way 0 0 ≡ length frames → WayTo file at (ups_of frames) way
  leads_to way frames s n a d = record {
    depth = d ∙ sym (ups_length frames);
    stands = λ k h. word-at way frames s k (omega (arith, ups_length frames)) ∙ ap (λ (q : List ℕ). get_or q k 0) (sym (places-up frames n));
    lie = λ k h. word_lies way frames s a k (omega (arith, ups_length frames));
  }

-- the context at p is noted: the words lead to it
module _ (file : List ℕ) (at : ℕ) (way : List ℕ) (up p : ℕ) (frames : List Frame) (deep : up ≡ length frames) (room : suc up < length way) where
  abbrev noted : List ℕ
  noted = set (set way 0 (up + 1)) (up + 1) p

  pub noted_above : WayStands way frames → WayStands noted frames
  noted_above s = stands_set (set way 0 (up + 1)) (up + 1) p frames (λ e. omega arith) (omega arith) (stands_first way (up + 1) frames s)

  pub noted_stands : WayStands way frames → (i : ℕ) → WayStands noted (frame p i ∷ frames)
  noted_stands s i =
      let one : up + 1 ≡ suc (length frames) = omega arith in (
        ap (λ (j : ℕ). get_or noted j 0) (sym one) ∙ get_or-set_same (set way 0 (up + 1)) (up + 1) p 0 (omega (arith, length-set way 0 (up + 1))),
        noted_above s,
      )

  pub noted_depth : get_or noted 0 0 ≡ suc (length frames)
  noted_depth =
      get_or-set_other (set way 0 (up + 1)) (up + 1) 0 p 0 (λ e. omega arith) ∙ get_or-set_same way 0 (up + 1) 0 (omega arith)
      ∙ (let one : up + 1 ≡ suc (length frames) = omega arith in one)
