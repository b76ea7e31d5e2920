-- The contexts with one parent on a trail that ends whole are those of one array: on the trail they stand in the order of their paths, so in
-- that of their numbers, and none that the array holds is missing.
use Prim.Native.Nat.{ℕ, zero, suc, ◌+◌, ◌≤◌, ◌<◌}
use mathlib.Core.Bool.{Bool, true, false}
use mathlib.Core.List.{List, [], ◌∷◌, map}
use mathlib.Core.Logic.{◌⊎◌, inl, inr, ⊎_elim}
use mathlib.Core.Path.{◌≡◌, refl, sym, ap, ◌∙◌, subst}
use native.Mathlib.Decide.{dec_lt}
use native.Mathlib.Omega.{arith}
use borrow.Author.Tests.{eqb-true, eqb-false, lt-ltb, le-ltb}
use lib.Dec.{eqb}
use Rattle.refusal.specs.Check.{either}
use Rattle.seq.specs.Lists.{All, In, Ordered}
use Rattle.seq.proofs.Lists.{all_imp, all_in, all_of, in_first, in_rest, in_none, in_cases, all_map, map_ordered}
use Rattle.context.specs.Context.{extent, sibling_place, children_end}
use Rattle.context.specs.Entry.{Entry}
use Rattle.context.proofs.Siblings.{takes_some, sibling_order}
use Rattle.traversal.specs.Traversal.{Asked, on, traversal}
use Rattle.traversal.specs.From.{path_of}
use Rattle.traversal.specs.Walk.{place_of}
use Rattle.traversal.specs.Children.{children_of, places_from, places_at, StandAt, Children}
use Rattle.traversal.proofs.Keeps.{snoc}
use Rattle.traversal.proofs.Preorder.{Precedes, paths_rise}
use Rattle.traversal.proofs.ParentOf.{Family, root_family, child_family, family_start, family_stop, FamilyAmong, Member, one_number, member_of}
use Rattle.traversal.proofs.ParentOf.{Lies, root_array_lies, HasFamily, member_depth, family_on_trail}
use Rattle.traversal.proofs.Children.{whole_opens, Child, whole_family}

-- ---- of some contexts, those with one parent

module _ (parent : ℕ) where
  -- each is one of them that has it
  pub every_child : (P : Entry → Type 0) (l : List Entry) → ((e : Entry) → In e l → e.parent ≡ parent → P e) → All P (children_of parent l)
  unfolding children_of either
  every_child P [] f = tt
  every_child P (x ∷ l) f = go (eqb x.parent parent) refl (every_child P l (λ e i. f e (in_rest x i)))
    where
      go : (t : Bool) → eqb x.parent parent ≡ t → All P (children_of parent l) → All P (either t (x ∷ children_of parent l) (children_of parent l))
      go true s rest = (f x (in_first x l) (eqb-true x.parent parent s), rest)
      go false s rest = rest

  -- and they stand in the same order
  ordered_children : (R : Entry → Entry → Type 0) (l : List Entry) → Ordered R l → Ordered R (children_of parent l)
  unfolding children_of either
  ordered_children R [] h = tt
  ordered_children R (x ∷ l) h = go (eqb x.parent parent) (ordered_children R l h.1)
    where
      go : (t : Bool) → Ordered R (children_of parent l) → Ordered R (either t (x ∷ children_of parent l) (children_of parent l))
      go true rest = (every_child (R x) l (λ e i s. all_in (R x) l h.0 i), rest)
      go false rest = rest

  -- none of them is missing
  in_children : {e : Entry} (l : List Entry) → In e l → e.parent ≡ parent → In e (children_of parent l)
  unfolding children_of either
  in_children [] i s = absurd (in_none i)
  in_children {e} (x ∷ l) i s = go (eqb x.parent parent) refl (in_cases i) (λ k. in_children l k s)
    where
      go : (t : Bool) → eqb x.parent parent ≡ t → (e ≡ x) ⊎ In e l → (In e l → In e (children_of parent l))
          → In e (either t (x ∷ children_of parent l) (children_of parent l))
      go true b (inl k) rest = subst (λ (y : Entry). In e (y ∷ children_of parent l)) k (in_first e (children_of parent l))
      go true b (inr k) rest = in_rest x (rest k)
      go false b (inl k) rest = absurd (eqb-false x.parent parent b (ap (λ (y : Entry). y.parent) (sym k) ∙ s))
      go false b (inr k) rest = rest k

-- ---- the contexts of a family, by number

abbrev Earlier : Entry → Entry → Type 0
Earlier d e = Precedes d.path e.path

-- siblings by their paths
precedes_number : (p : List ℕ) (i j : ℕ) → Precedes (snoc p i) (snoc p j) → i < j
precedes_number [] i j (inl h) = h
precedes_number [] i j (inr h) = absurd h.1
precedes_number (x ∷ p) i j (inl h) = absurd (omega arith)
precedes_number (x ∷ p) i j (inr h) = precedes_number p i j h.1

module _ (file : List ℕ) (h : Family) where
  abbrev place : ℕ → ℕ
  place i = sibling_place file (family_start file h) i

  earlier_number : {d e : Entry} (x : Member file h d) (y : Member file h e) → Earlier d e → x.number < y.number
  earlier_number x y r = precedes_number h.path x.number y.number (rw (x.path, y.path) at r)

  record MemberFrom (i : ℕ) (e : Entry) : Type 0 where
    member : Member file h e
    least : i ≤ member.number

  -- the contexts of the family from number i on, in trail order
  record Rest (i : ℕ) (l : List Entry) : Type 0 where
    ordered : Ordered Earlier l
    from : All (MemberFrom i) l
    complete : (j : ℕ) → i ≤ j → place j < family_stop file h → Child file l h j

  -- while any is left, the array has number i
  array_goes_on : (i : ℕ) (e : Entry) → MemberFrom i e → place i < family_stop file h
  array_goes_on i e m =
      let at = m.member.holds in
      omega (arith, sibling_order file (family_start file h) i m.member.number m.least, at.stands, at.inside, takes_some file e.place)

  module _ (i : ℕ) (e : Entry) (l : List Entry) (r : Rest i (e ∷ l)) where
    abbrev first : Member file h e
    first = r.from.0.member

    -- each is the first or one of the others, which have greater numbers
    child_cases : (j : ℕ) → Child file (e ∷ l) h j → (first.number ≡ j) ⊎ Child file l h j
    child_cases j c =
        ⊎_elim (λ s. inl (one_number first c.member.number (ap path_of (sym s) ∙ c.member.path) ∙ c.numbered))
        (λ k. inr (record { entry = c.entry; among = k; member = c.member; numbered = c.numbered })) (in_cases c.among)

    later_number : {d : Entry} (m : Member file h d) → In d l → first.number < m.number
    later_number m k = earlier_number first m (all_in (Earlier e) l r.ordered.0 k)

    -- the first has number i: else the one with i would come later
    first_number : first.number ≡ i
    first_number =
        ⊎_elim (λ s. s) (λ c. absurd (omega (arith, later_number c.member c.among, c.numbered, r.from.0.least)))
        (child_cases i (r.complete i (omega arith) (array_goes_on i e r.from.0)))

    -- and the others go on from the next
    others : Rest (suc i) l
    others = record {
      ordered = r.ordered.1;
      from = all_of (MemberFrom (suc i)) l (λ d k.
          let m = (all_in (MemberFrom i) l r.from.1 k).member in
          record { member = m; least = omega (arith, later_number m k, first_number) });
      complete = λ j k s. ⊎_elim (λ n. absurd (omega (arith, first_number))) (λ c. c) (child_cases j (r.complete j (omega arith) s));
    }

  -- so they stand where those of the array do
  same_places : (bound i : ℕ) (l : List Entry) → family_stop file h ≤ place i + bound → Rest i l
      → map place_of l ≡ places_from file bound (place i) (family_stop file h)
  unfolding places_from either sibling_place
  same_places zero i [] b r = refl
  same_places zero i (e ∷ l) b r = absurd (omega (arith, array_goes_on i e r.from.0))
  same_places (suc bound) i [] b r = elim (dec_lt (place i) (family_stop file h)) [
    | yes k ↦ absurd (in_none (r.complete i (omega arith) k).among)
    | no k ↦ rw (le-ltb (place i) (family_stop file h) (omega arith))
  ]
  same_places (suc bound) i (e ∷ l) b r =
      let here : e.place ≡ place i = (first i e l r).holds.stands ∙ ap place (first_number i e l r) in
      let rest = same_places bound (suc i) l (omega (arith, takes_some file (place i))) (others i e l r) in
      rw (lt-ltb (place i) (family_stop file h) (array_goes_on i e r.from.0)) (cc)

-- ---- a file's trail

module _ (a : Asked) (l : List Entry) (whole : traversal a ≡ on l) where
  abbrev file : List ℕ
  file = a.file

  known : (e : Entry) → In e l → HasFamily file l e
  known e i = rw whole at (family_on_trail a e (rw whole i))

  of_family : (h : Family) → FamilyAmong file l h → (e : Entry) → In e l → e.parent ≡ h.parent → Member file h e
  of_family h k e i s = member_of a h (rw whole k) e (rw whole i) s

  family_lies : (h : Family) → FamilyAmong file l h → Lies file h.at
  family_lies h (inl s) = subst (λ (f : Family). Lies file f.at) (sym s) (root_array_lies file (whole_opens a l whole))
  family_lies h (inr x) = subst (λ (f : Family). Lies file f.at) (sym x.2) (known x.0 x.1).lies

  in_path_order : Ordered Earlier l
  in_path_order = map_ordered path_of Precedes l (rw whole at (paths_rise a)).1

  -- those with a family's parent are all of it
  all_of_family : (h : Family) → FamilyAmong file l h → Rest file h 0 (children_of h.parent l)
  all_of_family h k = record {
    ordered = ordered_children h.parent Earlier l in_path_order;
    from = every_child h.parent (MemberFrom file h 0) l (λ e i s. record { member = of_family h k e i s; least = omega arith });
    complete = λ j n s.
        let c = whole_family a l whole h k j s in
        record { entry = c.entry; among = in_children h.parent l c.among c.member.parent; member = c.member; numbered = c.numbered };
  }

  stand_at : (h : Family) → FamilyAmong file l h → StandAt file l h.parent h.at
  unfolding sibling_place
  stand_at h k =
      let rest = all_of_family h k in
      let lies = family_lies h k in
      let children : List Entry = children_of h.parent l in
      let order : map place_of children ≡ places_at file h.at = same_places file h _ 0 children (omega arith) rest in
      let Ends : ℕ → Type 0 = λ p. p + extent file p ≤ children_end file h.at in
      record {
        in_order = order;
        array = record {
          readable = lies.readable;
          ends = lies.ends;
          each_ends = subst (All Ends) order (all_map place_of Ends children (all_imp (λ e m. m.member.holds.inside) children rest.from));
        };
      }

  pub whole_arrays : Children a.file l
  whole_arrays = record {
    roots = stand_at (root_family file) (inl refl);
    of_each = λ q i. stand_at (child_family q.path q.place) (inr (q, i, refl));
    its_id = λ e i. (known e i).id;
    root_depth = λ e i s. member_depth (known e i) (root_family file) (of_family (root_family file) (inl refl) e i s);
    child_depth = λ q e i k s.
        let h : Family = child_family q.path q.place in
        member_depth (known e k) h (of_family h (inr (q, i, refl)) e k s) ∙ ap suc (sym (known q i).deep);
    depth-limit = λ e i. (known e i).limit;
  }
