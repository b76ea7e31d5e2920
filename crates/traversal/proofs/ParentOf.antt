-- Every context's parent: a root has 0, and any other the place of one visited before it whose array of children holds it. By induction over
-- the traversal: an array is that of the roots, or of the children of a context that was visited; by 7 it lies in the file.
use Rattle.std.specs.Prelude.{Err}
use Prim.Native.Nat.{ℕ, zero, suc, ◌+◌, ◌-◌, ◌≤◌, ◌<◌}
use mathlib.Core.Bool.{Bool, true, false}
use mathlib.Core.List.{List, [], ◌∷◌, append_cancel_left}
use mathlib.Core.Logic.{◌⊎◌, inl, inr, ⊎_elim}
use mathlib.Core.Path.{◌≡◌, refl, sym, ap, ◌∙◌, subst}
use native.Mathlib.Omega.{arith}
use lib.Dec.{ltb}
use lib.ListN.{length, length-append}
use Rattle.refusal.specs.Check.{if_passed, Check, Passed, on_answer}
use Rattle.seq.specs.Lists.{All, In}
use Rattle.seq.proofs.Lists.{all_imp, all_append, all_in, in_left, distinct_one}
use Rattle.open.specs.Format.{meta}
use Rattle.open.specs.Names as Section
use Rattle.open.specs.Opening.{field, opening, pairs, size_in, on_opened}
use Rattle.open.specs.Kept.{ContextsKept, Opens}
use Rattle.open.proofs.Keeps.{opens_iff, contexts_iff}
use Rattle.open.proofs.Inside.{section_inside, header_inside, roots_kept}
use Rattle.context.specs.Context.{children_place, children_bytes, ctx_id, extent, sibling_place, children_end, children_rule, targets_of}
use Rattle.context.specs.Entry.{Entry, entry_at}
use Rattle.context.proofs.Laws.{ends}
use Rattle.context.proofs.Siblings.{sibling_first, sibling_next, sibling_after}
use Rattle.traversal.specs.Traversal.{Asked, Outcome, on, cut, refused, list_of, Parameters, endless, visit_check, enter, Down, visit, bind, turn, siblings, level, depth_limit, from_roots, traversal}
use Rattle.traversal.specs.Children.{roots_header}
use Rattle.traversal.specs.Demand3.{Begins}
use Rattle.traversal.specs.Parents.{HoldsChild, ParentAmong}
use Rattle.traversal.proofs.Begins.{begins_refl, begins_trans, begins_snoc}
use Rattle.traversal.proofs.Keeps.{snoc}
use Rattle.traversal.proofs.Table.{id_of}
use Rattle.traversal.proofs.Ids.{Fits, passed_fits, traversal_ids}

-- ---- the contexts of one array

-- a family: the parent of its contexts, 0 of the roots; the path down to it; and where the size and place of their array stand
pub record Family : Type 0 where
  pub parent : ℕ
  pub path : List ℕ
  pub at : ℕ

-- the roots, and the children of the context at p
abbrev pub root_family : List ℕ → Family
root_family file = record { parent = 0; path = []; at = roots_header file }

abbrev pub child_family : (path : List ℕ) (p : ℕ) → Family
child_family path p = record { parent = p; path = path; at = p }

-- where its array starts and ends
abbrev pub family_start : List ℕ → Family → ℕ
family_start file h = field file h.at children_place

abbrev pub family_stop : List ℕ → Family → ℕ
family_stop file h = children_end file h.at

-- the roots, or the children of one of some contexts
abbrev pub FamilyAmong : List ℕ → List Entry → Family → Type 0
FamilyAmong file l h = (h ≡ root_family file) ⊎ ((q : Entry) × In q l × (h ≡ child_family q.path q.place))

pub record Member (file : List ℕ) (h : Family) (e : Entry) : Type 0 where
  pub number : ℕ
  pub parent : e.parent ≡ h.parent
  pub path : e.path ≡ snoc h.path number
  pub holds : HoldsChild file h.at number e.place

pub one_number : {file : List ℕ} {h : Family} {e : Entry} (m : Member file h e) (i : ℕ) → e.path ≡ snoc h.path i → m.number ≡ i
one_number {h = h} m i s = let last = append_cancel_left h.path (m.number ∷ []) (i ∷ []) (sym m.path ∙ s) in (cc)

-- the array whose size and place stand at a place lies in the file, and not at its start
pub record Lies (file : List ℕ) (at : ℕ) : Type 0 where
  pub readable : at + 16 ≤ length file
  pub ends : children_end file at ≤ length file
  pub starts : field file at children_place < children_end file at → 0 < field file at children_place

-- by 7, in a section that lies in the file
kept_lies : (file : List ℕ) (at section size : ℕ) → ContextsKept section 16 size (field file at children_place) (field file at children_bytes)
    → section + size ≤ length file → at + 16 ≤ length file → Lies file at
kept_lies file at section size kept inside readable = record {
  readable = readable;
  ends = go (field file at children_bytes) refl;
  starts = λ k. omega (arith, kept.after (omega arith));
}
  where
    go : (n : ℕ) → field file at children_bytes ≡ n → children_end file at ≤ length file
    go zero e = omega (arith, kept.no_bytes e)
    go (suc n) e = omega (arith, kept.inside (omega arith))

-- the Context section of a file that opens, and its roots
module _ (file : List ℕ) (passed : opening meta file ≡ Passed) where
  opens : Opens meta file
  opens = (opens_iff meta file).0 passed

  section_lies : roots_header file + size_in (pairs meta file) Section.context ≤ length file
  section_lies =
      let large = (opens.section Section.context (omega arith)).section.large in
      omega (arith, section_inside meta file opens Section.context (omega arith) (omega (arith, large)))

  pub root_array_lies : Lies file (roots_header file)
  root_array_lies =
      kept_lies file (roots_header file) (roots_header file) (size_in (pairs meta file) Section.context)
      (roots_kept meta file opens Section.context (omega arith) refl) section_lies
      (header_inside meta file opens Section.context (omega arith) (omega arith))

-- ---- one of some contexts

-- where it stands, how deep, of which family it is, and where its children lie
pub record HasFamily (file : List ℕ) (l : List Entry) (e : Entry) : Type 0 where
  pub placed : 0 < e.place
  pub id : e.ctx_id ≡ field file e.place ctx_id
  pub deep : e.depth ≡ length e.path
  pub some : 0 < e.depth
  pub limit : e.depth ≤ depth_limit
  pub lies : Lies file e.place
  pub family : Family
  pub among : FamilyAmong file l family
  pub member : Member file family e

abbrev pub HaveFamilies : List ℕ → List Entry → Type 0
HaveFamilies file l = All (HasFamily file l) l

module _ {file : List ℕ} {l : List Entry} {e : Entry} (b : HasFamily file l e) where
  pub root_or_child : Member file (root_family file) e ⊎ ((q : Entry) × In q l × Member file (child_family q.path q.place) e)
  root_or_child = ⊎_elim (λ x. inl (moved x)) (λ x. inr (x.0, x.1, moved x.2)) b.among
    where
      moved : {h : Family} → b.family ≡ h → Member file h e
      moved s = subst (λ (g : Family). Member file g e) s b.member

  -- one more than that of its parent
  pub member_depth : (h : Family) → Member file h e → e.depth ≡ suc (length h.path)
  member_depth h m = omega (arith, b.deep, ap length m.path, length-append h.path (m.number ∷ []))

-- an array that is traversed after some contexts
record ChildArray (file : List ℕ) (l : List Entry) (h : Family) : Type 0 where
  among : FamilyAmong file l h
  lies : Lies file h.at

module _ (file : List ℕ) (l m : List Entry) (begins : Begins l m) where
  still_among : (h : Family) → FamilyAmong file l h → FamilyAmong file m h
  still_among h = ⊎_elim inl (λ x. inr (x.0, subst (In x.0) (sym begins.1) (in_left l begins.0 x.1), x.2))

  still_has : (e : Entry) → HasFamily file l e → HasFamily file m e
  still_has e b = record {
    placed = b.placed;
    id = b.id;
    deep = b.deep;
    some = b.some;
    limit = b.limit;
    lies = b.lies;
    family = b.family;
    among = still_among b.family b.among;
    member = b.member;
  }

  still_array : (h : Family) → ChildArray file l h → ChildArray file m h
  still_array h b = record { among = still_among h b.among; lies = b.lies }

-- ---- a traversal

abbrev Traced : List ℕ → List Entry → Outcome → Type 0
Traced file l o = HaveFamilies file (list_of o) × Begins l (list_of o)

module _ (E : Parameters) (section : E.targets.at + E.targets.size ≤ length E.asked.file) where
  abbrev file : List ℕ
  file = E.asked.file

  abbrev TracesDown : Down → Type 0
  TracesDown down = (h : Family) (l : List Entry) → ChildArray file l h → HaveFamilies file l
      → Traced file l (down h.parent h.path (family_start file h) (family_stop file h) l)

  -- a context that is visited
  module _ (h : Family) (i p : ℕ) (l : List Entry) (b : ChildArray file l h) (have : HaveFamilies file l)
      (s : p ≡ sibling_place file (family_start file h) i) (v : visit_check E (snoc h.path i) p (family_stop file h) l ≡ Passed) where
    abbrev visited : Entry
    visited = entry_at file h.parent (snoc h.path i) p

    abbrev with : List Entry
    with = snoc l visited

    fits : Fits E (snoc h.path i) p (family_stop file h) l
    fits = passed_fits E (snoc h.path i) p (family_stop file h) l v

    ends_inside : (p + 24 ≤ family_stop file h) × (p + extent file p ≤ family_stop file h)
    ends_inside = let x = ends file p (family_stop file h) fits.ends in (x.0, x.1)

    lies_below : Lies file p
    unfolding children_rule
    lies_below =
        kept_lies file p E.targets.at E.targets.size
        ((contexts_iff E.targets.at 16 E.targets.size (field file p children_place) (field file p children_bytes)).0 fits.children)
        section (omega (arith, ends_inside.0, b.lies.ends))

    has_here : HasFamily file with visited
    unfolding entry_at
    has_here =
        let after = sibling_after file (family_start file h) i in
        record {
          placed = omega (arith, b.lies.starts (omega (arith, ends_inside.0)));
          id = refl;
          deep = refl;
          some = omega (arith, length-append h.path (i ∷ []));
          limit = fits.deep;
          lies = lies_below;
          family = h;
          among = still_among file l with (begins_snoc l visited) h b.among;
          member = record { number = i; parent = refl; path = refl; holds = record { stands = s; inside = ends_inside.1 } };
        }

    have_with : HaveFamilies file with
    have_with = all_append (HasFamily file with) l (visited ∷ []) (all_imp (still_has file l with (begins_snoc l visited)) l have) (has_here, tt)

    array_below : ChildArray file with (child_family (snoc h.path i) p)
    unfolding entry_at
    array_below = record { among = inr (visited, (l, [], refl), refl); lies = lies_below }

  traces_enter : (v : Check) (room : Bool) (into : List Entry → Outcome) (l : List Entry) (e : Entry) → HaveFamilies file l
      → (v ≡ Passed → Traced file (snoc l e) (into (snoc l e))) → Traced file l (enter v room into l e)
  unfolding enter
  traces_enter Passed true into l e h f = let r = f refl in (r.0, begins_trans l (snoc l e) (list_of (into (snoc l e))) (begins_snoc l e) r.1)
  traces_enter Passed false into l e h f = (h, begins_refl l)
  traces_enter (Err r) room into l e h f = (h, begins_refl l)

  traces_bind : (l : List Entry) (o : Outcome) (next : List Entry → Outcome) → Traced file l o
      → ((m : List Entry) → Begins l m → HaveFamilies file m → Traced file m (next m)) → Traced file l (bind o next)
  unfolding bind
  traces_bind l (on m) next r f = let n = f m r.1 r.0 in (n.0, begins_trans l m (list_of (next m)) r.1 n.1)
  traces_bind l (cut m) next r f = r
  traces_bind l (refused v m) next r f = r

  traces_turn : (t : Bool) (here next : List Entry → Outcome) (l : List Entry) → HaveFamilies file l → Traced file l (here l)
      → ((m : List Entry) → Begins l m → HaveFamilies file m → Traced file m (next m)) → Traced file l (turn t here next l)
  unfolding turn
  traces_turn true here next l h g f = traces_bind l (here l) next g f
  traces_turn false here next l h g f = (h, begins_refl l)

  traces_siblings : (down : Down) → TracesDown down → (h : Family) (bound i p : ℕ) (l : List Entry) → ChildArray file l h → HaveFamilies file l
      → p ≡ sibling_place file (family_start file h) i → Traced file l (siblings E down h.parent h.path bound i p (family_stop file h) l)
  unfolding siblings visit
  traces_siblings down d h zero i p l b have s = (have, begins_refl l)
  traces_siblings down d h (suc bound) i p l b have s =
      let path : List ℕ = snoc h.path i in
      let e : Entry = entry_at file h.parent path p in
      traces_turn (ltb p (family_stop file h)) (visit E down h.parent path p (family_stop file h))
      (λ m. siblings E down h.parent h.path bound (suc i) (p + extent file p) (family_stop file h) m) l have
      (traces_enter (visit_check E path p (family_stop file h) l) (E.free l) (down p path (field file p children_place) (children_end file p)) l e have
      (λ v. d (child_family path p) (snoc l e) (array_below h i p l b have s v) (have_with h i p l b have s v)))
      (λ m g k. traces_siblings down d h bound (suc i) (p + extent file p) m (still_array file l m g h b) k
      (ap (λ (q : ℕ). q + extent file q) s ∙ sym (sibling_next file (family_start file h) i)))

  traces_level : (levels : ℕ) → TracesDown (level E levels)
  unfolding level
  traces_level zero h l b have = (have, begins_refl l)
  traces_level (suc levels) h l b have =
      traces_siblings (level E levels) (traces_level levels) h (family_stop file h - family_start file h) 0 (family_start file h) l b have
      (sym (sibling_first file (family_start file h)))

-- of all on a file's trail
have_families : (a : Asked) → HaveFamilies a.file (list_of (traversal a))
unfolding traversal on_opened on_answer from_roots targets_of
have_families a = go (opening meta a.file) refl
  where
    E : Parameters
    E = endless a (targets_of a.file (pairs meta a.file))

    go : (v : Check) → opening meta a.file ≡ v → HaveFamilies a.file (list_of (if_passed (λ r. refused r []) v (from_roots E)))
    go Passed e =
        (traces_level E (section_lies a.file e) (suc depth_limit) (root_family a.file) []
        (record { among = inl refl; lies = root_array_lies a.file e }) tt).0
    go (Err r) e = tt

module _ (a : Asked) where
  abbrev trail : List Entry
  trail = list_of (traversal a)

  pub family_on_trail : (e : Entry) → In e (list_of (traversal a)) → HasFamily a.file (list_of (traversal a)) e
  family_on_trail e h = all_in (HasFamily a.file trail) trail (have_families a) h

  -- a place is that of one context, since its id stands there
  pub one_place : (d e : Entry) → In d (list_of (traversal a)) → In e (list_of (traversal a)) → d.place ≡ e.place → d ≡ e
  one_place d e hd he s =
      distinct_one id_of trail (traversal_ids a).distinct d e hd he
      ((family_on_trail d hd).id ∙ ap (λ (p : ℕ). field a.file p ctx_id) s ∙ sym (family_on_trail e he).id)

  -- so a parent is that of one family
  one_family : (g h : Family) → FamilyAmong a.file trail g → FamilyAmong a.file trail h → g.parent ≡ h.parent → g ≡ h
  one_family g h x y s = go x y
    where
      parent_same : {f k : Family} → f ≡ k → f.parent ≡ k.parent
      parent_same e = ap (λ (f : Family). f.parent) e

      go : FamilyAmong a.file trail g → FamilyAmong a.file trail h → g ≡ h
      go (inl x) (inl y) = x ∙ sym y
      go (inl x) (inr y) = absurd (omega (arith, parent_same x, parent_same y.2, (family_on_trail y.0 y.1).placed))
      go (inr x) (inl y) = absurd (omega (arith, parent_same y, parent_same x.2, (family_on_trail x.0 x.1).placed))
      go (inr x) (inr y) =
          let same : x.0.place ≡ y.0.place = omega (arith, parent_same x.2, parent_same y.2) in
          x.2 ∙ ap (λ (q : Entry). child_family q.path q.place) (one_place x.0 y.0 x.1 y.1 same) ∙ sym y.2

  -- what has the parent of a family is one of it
  pub member_of : (h : Family) → FamilyAmong a.file (list_of (traversal a)) h → (e : Entry) → In e (list_of (traversal a)) → e.parent ≡ h.parent
      → Member a.file h e
  member_of h k e i s =
      let known = family_on_trail e i in
      subst (λ (g : Family). Member a.file g e) (one_family known.family h known.among k (sym known.member.parent ∙ s)) known.member

-- ---- whose child each context on a trail is

-- a parent leads to its children
unfoldable pub leads : {file : List ℕ} {l : List Entry} {q e : Entry} → In q l → Member file (child_family q.path q.place) e → ParentAmong file l q e
leads h m = record { among = h; number = m.number; path = m.path; holds = m.holds }

-- one of some contexts: where it stands, and whose child it is
pub record HasParent (file : List ℕ) (l : List Entry) (e : Entry) : Type 0 where
  pub placed : 0 < e.place
  pub deep : e.depth ≡ length e.path
  pub some : 0 < e.depth
  pub id : e.ctx_id ≡ field file e.place ctx_id
  pub of : ((e.parent ≡ 0) × (e.depth ≡ 1)) ⊎ ((q : Entry) × ParentAmong file l q e × (e.parent ≡ q.place))

abbrev pub HaveParents : List ℕ → List Entry → Type 0
HaveParents file l = All (HasParent file l) l

pub parent_on_trail : (a : Asked) (e : Entry) → In e (list_of (traversal a)) → HasParent a.file (list_of (traversal a)) e
parent_on_trail a e h =
    let known = family_on_trail a e h in
    record {
      placed = known.placed;
      deep = known.deep;
      some = known.some;
      id = known.id;
      of = ⊎_elim (λ m. inl (m.parent, member_depth known (root_family a.file) m))
          (λ x. inr (x.0, leads x.1 x.2, x.2.parent)) (root_or_child known);
    }
