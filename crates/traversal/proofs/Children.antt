-- A trail that ends whole has all roots, and all children of each of its contexts: an array traversed to its end adds each of its contexts,
-- and a visit that passes leads into the array of the children, for which a level is left, since the context is no deeper than the limit.
use Rattle.std.specs.Prelude.{Err}
use Rattle.refusal.specs.Check.{Check, Passed}
use Prim.Native.Nat.{ℕ, zero, suc, ◌+◌, ◌-◌, ◌≤◌, ◌<◌}
use mathlib.Core.Bool.{Bool, true, false}
use mathlib.Core.List.{List, [], ◌∷◌, ◌++◌, append_assoc}
use mathlib.Core.Logic.{inl, inr}
use mathlib.Core.Path.{◌≡◌, refl, sym, ap, ◌∙◌, subst}
use native.Mathlib.Decide.{dec_le}
use native.Mathlib.Omega.{arith}
use borrow.Author.Tests.{ltb-false}
use lib.Dec.{ltb}
use lib.ListN.{length, length-append}
use Rattle.seq.specs.Lists.{All, In}
use Rattle.seq.proofs.Lists.{all_append, all_in}
use Rattle.refusal.proofs.Checks.{if_passed_answers}
use Rattle.open.specs.Format.{meta}
use Rattle.open.specs.Opening.{field, opening, pairs, on_opened}
use Rattle.context.specs.Context.{children_place, children_end, sibling_place, targets_of}
use Rattle.context.specs.Entry.{Entry, entry_at}
use Rattle.context.proofs.Siblings.{takes_some, sibling_order}
use Rattle.traversal.specs.Demand3.{Begins}
use Rattle.traversal.specs.Traversal.{Asked, Outcome, on, cut, refused, Parameters, endless, visit_check, enter, visit, bind, turn, siblings, level, depth_limit, from_roots, traversal}
use Rattle.traversal.proofs.Begins.{begins_refl}
use Rattle.traversal.proofs.Ids.{passed_fits}
use Rattle.traversal.proofs.Keeps.{snoc}
use Rattle.traversal.proofs.ParentOf.{Family, root_family, child_family, family_start, family_stop, FamilyAmong, Member, one_number, member_of}

-- ---- what holds of the contexts visited, if it goes on

IfOn : (List Entry → Type 0) → Outcome → Type 0
IfOn P (on l) = P l
IfOn P (cut l) = Unit
IfOn P (refused r l) = Unit

on_imp : (P Q : List Entry → Type 0) (o : Outcome) → ((l : List Entry) → P l → Q l) → IfOn P o → IfOn Q o
unfolding IfOn
on_imp P Q (on l) f h = f l h
on_imp P Q (cut l) f h = tt
on_imp P Q (refused r l) f h = tt

module _ (P : List Entry → Type 0) where
  on_enter : (v : Check) (room : Bool) (into : List Entry → Outcome) (l : List Entry) (e : Entry) → (v ≡ Passed → IfOn P (into (snoc l e)))
      → IfOn P (enter v room into l e)
  unfolding IfOn enter
  on_enter Passed true into l e f = f refl
  on_enter Passed false into l e f = tt
  on_enter (Err r) room into l e f = tt

  on_bind : (Q : List Entry → Type 0) (o : Outcome) (next : List Entry → Outcome) → IfOn P o → ((l : List Entry) → P l → IfOn Q (next l))
      → IfOn Q (bind o next)
  unfolding IfOn bind
  on_bind Q (on l) next h f = f l h
  on_bind Q (cut l) next h f = tt
  on_bind Q (refused r l) next h f = tt

  on_turn : (b : Bool) (here next : List Entry → Outcome) (l : List Entry) → (b ≡ false → P l) → IfOn P (bind (here l) next)
      → IfOn P (turn b here next l)
  unfolding IfOn turn
  on_turn true here next l h k = k
  on_turn false here next l h k = h refl

-- ---- a traversal on its way to the whole list

module _ (E : Parameters) (whole : List Entry) where
  abbrev file : List ℕ
  file = E.asked.file

  -- context j of a family is on the whole list
  abbrev HasChild : Family → (j : ℕ) → Type 0
  HasChild h j = (e : Entry) × In e whole × (e.parent ≡ h.parent) × (e.path ≡ snoc h.path j)

  -- and each from number i on
  abbrev HasFrom : Family → (i : ℕ) → Type 0
  HasFrom h i = (j : ℕ) → i ≤ j → sibling_place file (family_start file h) j < family_stop file h → HasChild h j

  abbrev HasChildren : Entry → Type 0
  HasChildren e = HasFrom (child_family e.path e.place) 0

  -- an array is traversed from number i on: l are the contexts before, m those after it
  record Added (h : Family) (i : ℕ) (l m : List Entry) : Type 0 where
    begins : Begins l whole
    has : HasFrom h i
    children : All HasChildren l → All HasChildren m

  -- if the whole list is what it comes to
  abbrev Adds : Family → (i : ℕ) (l m : List Entry) → Type 0
  Adds h i l m = Begins m whole → Added h i l m

  adds_none : (h : Family) (i : ℕ) (l : List Entry) → family_stop file h ≤ sibling_place file (family_start file h) i → Adds h i l l
  adds_none h i l n g = record {
    begins = g;
    has = λ j k s. absurd (omega (arith, sibling_order file (family_start file h) i j k));
    children = λ c. c;
  }

  -- a context and all below it, then its younger siblings
  adds_one : (h : Family) (i p : ℕ) (l m n : List Entry)
      → Adds (child_family (snoc h.path i) p) 0 (snoc l (entry_at file h.parent (snoc h.path i) p)) m → Adds h (suc i) m n → Adds h i l n
  unfolding entry_at
  adds_one h i p l m n below younger g =
      let e : Entry = entry_at file h.parent (snoc h.path i) p in
      let y = younger g in
      let b = below y.begins in
      let parts : whole ≡ l ++ (e ∷ b.begins.0) = b.begins.1 ∙ append_assoc l (e ∷ []) b.begins.0 in
      record {
        begins = (e ∷ b.begins.0, parts);
        has = λ j k s. elim (dec_le (suc i) j) [
          | yes q ↦ y.has j q s
          | no q ↦ subst (HasChild h) (let z : i ≡ j = omega arith in z) (e, (l, b.begins.0, parts), refl, refl)
        ];
        children = λ c. y.children (b.children (all_append HasChildren l (e ∷ []) c (b.has, tt)));
      }

  -- a level is left below each context that is not too deep
  abbrev AddsDown : ℕ → Type 0
  AddsDown levels =
      (h : Family) (l : List Entry) → length h.path ≤ depth_limit → depth_limit < length h.path + levels
      → IfOn (Adds h 0 l) (level E levels h.parent h.path (family_start file h) (family_stop file h) l)

  module _ (levels : ℕ) (down : AddsDown levels) where
    adds_visit : (parent : ℕ) (path : List ℕ) (p stop : ℕ) (l : List Entry) → depth_limit < length path + levels
        → IfOn (Adds (child_family path p) 0 (snoc l (entry_at file parent path p))) (visit E (level E levels) parent path p stop l)
    unfolding visit
    adds_visit parent path p stop l d =
        on_enter _ (visit_check E path p stop l) (E.free l) _ l (entry_at file parent path p)
        (λ v. down (child_family path p) _ (passed_fits E path p stop l v).deep d)

    adds_siblings : (h : Family) (bound i : ℕ) (l : List Entry) → family_stop file h ≤ sibling_place file (family_start file h) i + bound
        → depth_limit ≤ length h.path + levels
        → IfOn (Adds h i l) (siblings E (level E levels) h.parent h.path bound i (sibling_place file (family_start file h) i) (family_stop file h) l)
    unfolding siblings sibling_place
    adds_siblings h zero i l b d = unfold IfOn in adds_none h i l (omega arith)
    adds_siblings h (suc bound) i l b d =
        let p : ℕ = sibling_place file (family_start file h) i in
        on_turn _ (ltb p (family_stop file h)) _ _ l (λ e. adds_none h i l (ltb-false p (family_stop file h) e))
        (on_bind _ _ _ _ (adds_visit h.parent (snoc h.path i) p (family_stop file h) l (omega (arith, length-append h.path (i ∷ []))))
        (λ m below. on_imp _ _ _ (λ n. adds_one h i p l m n below)
        (adds_siblings h bound (suc i) m (omega (arith, takes_some file p)) d)))

  adds_level : (levels : ℕ) → AddsDown levels
  unfolding level sibling_place
  adds_level zero h l s d = absurd (omega arith)
  adds_level (suc levels) h l s d =
      adds_siblings levels (adds_level levels) h (family_stop file h - family_start file h) 0 l (omega arith) (omega arith)

-- ---- a file's trail

-- one of some contexts is context i of a family
pub record Child (file : List ℕ) (l : List Entry) (h : Family) (i : ℕ) : Type 0 where
  pub entry : Entry
  pub among : In entry l
  pub member : Member file h entry
  pub numbered : member.number ≡ i

module _ (a : Asked) (l : List Entry) (whole : traversal a ≡ on l) where
  abbrev E : Parameters
  E = endless a (targets_of a.file (pairs meta a.file))

  opened : (opening meta a.file ≡ Passed) × (from_roots E ≡ on l)
  unfolding traversal on_opened
  opened =
      (if_passed_answers (λ r. refused r []) (opening meta a.file) (from_roots E) (on l)
      (λ r k e. let z : ◌≡◌ {A = ℕ} 0 1 = cc in omega arith)).0 whole

  pub whole_opens : opening meta a.file ≡ Passed
  whole_opens = opened.0

  all_added : Added E l (root_family a.file) 0 [] l
  unfolding IfOn from_roots targets_of
  all_added =
      let h : Family = root_family a.file in
      subst (IfOn (Adds E l h 0 [])) opened.1 (adds_level E l (suc depth_limit) h [] (omega arith) (omega arith)) (begins_refl l)

  has_all : (h : Family) → FamilyAmong a.file l h → HasFrom E l h 0
  has_all h (inl e) = subst (λ (f : Family). HasFrom E l f 0) (sym e) all_added.has
  has_all h (inr x) = subst (λ (f : Family). HasFrom E l f 0) (sym x.2) (all_in (HasChildren E l) l (all_added.children tt) x.1)

  pub whole_family : (h : Family) → FamilyAmong a.file l h → (i : ℕ) → sibling_place a.file (family_start a.file h) i < family_stop a.file h
      → Child a.file l h i
  whole_family h k i s =
      let found = has_all h k i (omega arith) s in
      let m = member_of a h (rw whole k) found.0 (rw whole found.1) found.2 in
      record { entry = found.0; among = found.1; member = m; numbered = one_number m i found.3 }

-- a trail that ends whole has all children of each of its contexts
pub whole_children : (a : Asked) (l : List Entry) → traversal a ≡ on l → (q : Entry) → In q l → (i : ℕ)
    → sibling_place a.file (field a.file q.place children_place) i < children_end a.file q.place
    → (e : Entry) × In e l × (e.place ≡ sibling_place a.file (field a.file q.place children_place) i)
    × (e.parent ≡ q.place) × (e.path ≡ q.path ++ (i ∷ []))
whole_children a l whole q among i s =
    let found = whole_family a l whole (child_family q.path q.place) (inr (q, among, refl)) i s in (
      found.entry,
      found.among,
      found.member.holds.stands ∙ ap (sibling_place a.file (field a.file q.place children_place)) found.numbered,
      found.member.parent,
      found.member.path ∙ ap (λ (k : ℕ). q.path ++ (k ∷ [])) found.numbered,
    )
