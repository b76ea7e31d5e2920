-- The last word of a record is its context's parent, which is one: a path on the trail is that of one context, as a place is.
use Rattle.std.specs.Prelude.{Err}
use Prim.Native.Nat.{ℕ, ◌*◌, ◌<◌}
use mathlib.Core.List.{List, [], ◌∷◌}
use mathlib.Core.Logic.{◌↔◌, ◌⊎◌, inl, inr, ⊎_elim}
use mathlib.Core.Path.{◌≡◌, refl, sym, ap, ◌∙◌, subst}
use native.Mathlib.Omega.{arith}
use lib.ListN.{length, get_or, take, drop, length-append}
use lib.Seq.{get_or-take, get_or-drop, take_at}
use Rattle.refusal.specs.Check.{if_passed, Check, on_answer, Passed}
use Rattle.seq.specs.Lists.{In}
use Rattle.seq.proofs.Lists.{in_none, in_take, in_drop, distinct_one}
use Rattle.open.specs.Opening.{field}
use Rattle.context.specs.Context.{sibling_place, children_place, children_end}
use Rattle.context.specs.Entry.{Entry, entry_words, words_each}
use Rattle.context.proofs.Siblings.{takes_some}
use Rattle.traversal.specs.Traversal.{on, refused, list_of, traversal}
use Rattle.traversal.specs.From.{path_of, skipped, after_mark, from_mark}
use Rattle.traversal.specs.Walk.{walk_check, given_path, trail_from}
use Rattle.traversal.specs.Demand3.{Call, asked, listed_number, trail, RecordOf}
use Rattle.traversal.specs.Joined.{contexts}
use Rattle.traversal.specs.Parents.{HoldsChild, ParentAmong, parent_word, Parents}
use Rattle.traversal.proofs.From.{list_from}
use Rattle.traversal.proofs.Keeps.{snoc}
use Rattle.traversal.proofs.Preorder.{paths_distinct}
use Rattle.traversal.proofs.ParentOf.{root_family, child_family, Member, HasFamily, root_or_child, leads, member_depth, family_on_trail, one_place}
use Rattle.traversal.proofs.Children.{Child, whole_family}
use Rattle.traversal.proofs.Demand3.{demand3}

snoc_same : (a b : List ℕ) (x y : ℕ) → snoc a x ≡ snoc b y → a ≡ b
snoc_same a b x y e =
    let long : length a ≡ length b = omega (arith, ap length e, length-append a (x ∷ []), length-append b (y ∷ [])) in
    sym (take_at a (x ∷ []) (length b) long) ∙ ap (take (length b)) e ∙ take_at b (y ∷ []) (length b) refl

module _ {file : List ℕ} (c : Call file) where
  parent_of : (e : Entry) → In e (contexts c) → HasFamily file (contexts c) e
  parent_of e h = family_on_trail (asked c) e h

  -- ---- words

  word_is : (n : ℕ) (e : Entry) → RecordOf c n e → parent_word c n ≡ e.parent
  unfolding entry_words
  word_is n e h =
      sym (get_or-drop (n * words_each) c.now.records 11 0) ∙ sym (get_or-take words_each (drop (n * words_each) c.now.records) 11 0 (omega arith))
      ∙ ap (λ (w : List ℕ). get_or w 11 0) ((demand3.one file c).record_is n e h)

  -- ---- what is listed is on the trail

  trail_in : (e : Entry) → In e (list_of (trail_from (asked c))) → In e (contexts c)
  unfolding trail_from on_answer after_mark
  trail_in e h = go (walk_check (asked c)) h
    where
      go : (v : Check) → In e (list_of (if_passed (λ r. refused r []) v (from_mark (given_path (asked c)) (traversal (asked c))))) → In e (contexts c)
      go Passed k = in_drop (skipped (given_path (asked c)) (contexts c)) (contexts c)
          (subst (In e) (list_from (given_path (asked c)) (traversal (asked c))) k)
      go (Err r) k = absurd (in_none k)

  recorded_on_trail : (n : ℕ) (e : Entry) → RecordOf c n e → In e (contexts c)
  recorded_on_trail n e h = trail_in e (in_take (listed_number c) (trail c) (h.before, h.after, h.lists))

  root_word : (n : ℕ) (e : Entry) → RecordOf c n e → (parent_word c n ≡ 0) ↔ (e.depth ≡ 1)
  root_word n e h = rw (word_is n e h) (by (root_or_child known))
    where
      known : HasFamily file (contexts c) e
      known = parent_of e (recorded_on_trail n e h)

      by : Member file (root_family file) e ⊎ ((q : Entry) × In q (contexts c) × Member file (child_family q.path q.place) e)
          → (e.parent ≡ 0) ↔ (e.depth ≡ 1)
      by (inl m) = ((λ k. member_depth known (root_family file) m), λ k. m.parent)
      by (inr x) =
          let above = parent_of x.0 x.1 in
          let deeper = member_depth known (child_family x.0.path x.0.place) x.2 in
          ((λ k. absurd (omega (arith, above.placed, x.2.parent))), λ k. absurd (omega (arith, above.deep, above.some)))

  child_word : (n : ℕ) (e : Entry) → RecordOf c n e → (e.depth ≡ 1 → ⊥)
      → (q : Entry) × ParentAmong file (contexts c) q e × (parent_word c n ≡ q.place)
  child_word n e h deep =
      let known = parent_of e (recorded_on_trail n e h) in
      ⊎_elim (λ m. absurd (deep (member_depth known (root_family file) m)))
      (λ x. (x.0, leads x.1 x.2, word_is n e h ∙ x.2.parent)) (root_or_child known)

  -- ---- paths tell contexts apart

  one_path : (d e : Entry) → In d (contexts c) → In e (contexts c) → d.path ≡ e.path → d ≡ e
  one_path d e hd he s = distinct_one path_of (contexts c) (paths_distinct (asked c)).1 d e hd he s

  same_parent : (q r e : Entry) → ParentAmong file (contexts c) q e → ParentAmong file (contexts c) r e → q ≡ r
  same_parent q r e g h = one_path q r g.among h.among (snoc_same _ _ _ _ (sym g.path ∙ h.path))

  -- ---- a trail that ends whole

  module _ (l : List Entry) (whole : traversal (asked c) ≡ on l) (q : Entry) (among : In q l) (i : ℕ) where
    abbrev start : ℕ
    start = field file q.place children_place

    child : sibling_place file start i < children_end file q.place → Child file l (child_family q.path q.place) i
    child k = whole_family (asked c) l whole (child_family q.path q.place) (inr (q, among, refl)) i k

    holder : (e : Entry) → In e l → HoldsChild file q.place i e.place → e.parent ≡ q.place
    holder e h at =
        let found = child (omega (arith, at.inside, at.stands, takes_some file e.place)) in
        let number = ap (sibling_place file start) found.numbered in
        let same : e ≡ found.entry = one_place (asked c) e found.entry (rw whole h) (rw whole found.among)
        (at.stands ∙ sym number ∙ sym found.member.holds.stands) in
        ap (λ (x : Entry). x.parent) same ∙ found.member.parent

    each_child : sibling_place file start i < children_end file q.place
        → (e : Entry) × In e l × (h : ParentAmong file l q e) × (h.number ≡ i) × (e.parent ≡ q.place)
    unfolding leads
    each_child k = let found = child k in (found.entry, found.among, leads among found.member, found.numbered, found.member.parent)

  pub parents : Parents c
  parents = record {
    root = root_word;
    child = child_word;
    one_parent = same_parent;
    one_place = one_place (asked c);
    one_array = λ l w q e g h i at. holder l w q g i e h at;
    all_children = λ l w q g i k. each_child l w q g i k;
  }
