-- Down from the roots: the places in the first words, and then the way from the context that was found last on.
use Rattle.std.specs.Prelude.{Err, Ok, Option}
use Rattle.refusal.specs.Check.{Answer, Absent, Found}
use Prim.Native.Nat.{ℕ, zero, suc, ◌+◌, ◌-◌, ◌≤◌, ◌<◌}
use mathlib.Core.List.{List, [], ◌∷◌, ◌++◌, map}
use mathlib.Core.Path.{◌≡◌, refl, sym, ap, ◌∙◌, subst}
use native.Mathlib.Nat.{le_of_suc-le-suc, not-suc-le-zero}
use native.Mathlib.Numerals.{add-one}
use native.Mathlib.Omega.{arith}
use lib.ListN.{length, take, set}
use Rattle.refusal.specs.declared.Refusal.{Refusal}
use Rattle.seq.specs.Lists.{All, In}
use Rattle.open.specs.Opening.{field}
use Rattle.context.specs.Context.{ctx_id}
use Rattle.context.specs.Entry.{Entry}
use Rattle.traversal.specs.Traversal.{depth_limit}
use Rattle.traversal.specs.Walk.{place_of}
use Rattle.traversal.specs.Children.{children_of, StandAt, roots_header, Children}
use Rattle.traversal.proofs.ChildArrays.{every_child}
use Rattle.hot_path.specs.HotPath.{candidates, hottest_of, hottest_below, Descent, along, stopped, with_place, follow, descent_from}
use Rattle.hot_path.specs.State.{candidates_at, descent_in}
use Rattle.hot_path.proofs.Candidates.{Tells, tells}

-- ---- the candidates in an array are those among the contexts with its parent

same_candidates : (meta : List ℕ) (value : ℕ → Answer (Option ℕ)) (es : List Entry) → All (λ e. e.ctx_id ≡ field meta e.place ctx_id) es
    → candidates (λ p. p) (λ p. value (field meta p ctx_id)) (map place_of es) ≡ candidates place_of (λ e. value e.ctx_id) es
unfolding candidates
same_candidates meta value [] h = refl
same_candidates meta value (e ∷ es) h = rw (h.0, same_candidates meta value es h.1)

-- the hottest is on the trail
chosen_on_trail : (value : ℕ → Answer (Option ℕ)) (l : List Entry) (parent p : ℕ) → hottest_below value l parent ≡ Found p
    → (q : Entry) × In q l × (q.place ≡ p)
chosen_on_trail value l parent p e = let t = subst (Tells value l parent) e (tells value l parent) in (t.0, t.1.valued.on_trail, t.2)

-- ---- some places, and then a way

unfoldable pub with_places : List ℕ → Descent → Descent
with_places [] w = w
with_places (p ∷ ps) w = with_place p (with_places ps w)

places_last : (ps : List ℕ) (p : ℕ) (w : Descent) → with_places (ps ++ (p ∷ [])) w ≡ with_places ps (with_place p w)
unfolding with_places
places_last [] p w = refl
places_last (q ∷ ps) p w = ap (with_place q) (places_last ps p w)

places_end : (ps : List ℕ) → with_places ps (along []) ≡ along ps
unfolding with_places with_place
places_end [] = refl
places_end (p ∷ ps) = ap (with_place p) (places_end ps)

places_stopped : (ps : List ℕ) (r : Refusal) → with_places ps (stopped r) ≡ stopped r
unfolding with_places with_place
places_stopped [] r = refl
places_stopped (p ∷ ps) r = ap (with_place p) (places_stopped ps r)

take_more : (words : List ℕ) (n p : ℕ) → n < length words → take (suc n) (set words n p) ≡ take n words ++ (p ∷ [])
take_more [] n p h = absurd (not-suc-le-zero h)
take_more (w ∷ words) zero p h = refl
take_more (w ∷ words) (suc n) p h = ap (λ (l : List ℕ). w ∷ l) (take_more words n p (le_of_suc-le-suc h))

-- ---- level by level

module _ (meta : List ℕ) (value : ℕ → Answer (Option ℕ)) (l : List Entry) (k : Children meta l) where
  -- the hottest of an array
  abbrev pub hottest_at : (at : ℕ) → Answer (Option ℕ)
  hottest_at at = hottest_of (candidates_at meta value at)

  hottest-below : (parent at : ℕ) → StandAt meta l parent at → hottest_at at ≡ hottest_below value l parent
  hottest-below parent at s =
      ap (λ (ps : List ℕ). hottest_of (candidates (λ p. p) (λ p. value (field meta p ctx_id)) ps)) (sym s.in_order)
      ∙ ap hottest_of (same_candidates meta value (children_of parent l) (every_child parent _ l (λ e i h. k.its_id e i)))

  pub record Descending (at : ℕ) (words : List ℕ) (n : ℕ) : Type 0 where
    pub parent : ℕ
    pub stands : StandAt meta l parent at
    pub so_far : descent_from value l depth_limit 0 ≡ with_places (take n words) (descent_from value l (depth_limit - n) parent)

  pub descending_start : (words : List ℕ) → Descending (roots_header meta) words 0
  unfolding with_places
  descending_start words = record { parent = 0; stands = k.roots; so_far = refl }

  module _ {at : ℕ} {words : List ℕ} {n : ℕ} (d : Descending at words n) where
    -- what an answer for the array says of the way
    level_down : n < depth_limit → (h : Answer (Option ℕ)) → h ≡ hottest_at at
        → descent_from value l depth_limit 0 ≡ with_places (take n words) (follow h (descent_from value l (depth_limit - (n + 1))))
    unfolding descent_from
    level_down b h e =
        let m : depth_limit - n ≡ suc (depth_limit - (n + 1)) = omega arith in
        d.so_far ∙ ap (λ (j : ℕ). with_places (take n words) (descent_from value l j d.parent)) m
        ∙ rw (e, hottest-below d.parent at d.stands)

    pub descending_more : n < depth_limit → n < length words → (p : ℕ) → Found p ≡ hottest_at at → Descending p (set words n p) (n + 1)
    unfolding follow
    descending_more b s p e =
        let q = chosen_on_trail value l d.parent p (sym (e ∙ hottest-below d.parent at d.stands)) in
        record {
          parent = p;
          stands = subst (λ (x : ℕ). StandAt meta l x x) q.2 (k.of_each q.0 q.1);
          so_far = level_down b (Found p) e ∙ sym (places_last (take n words) p _) ∙ rw (add-one n, take_more words n p s);
        }

    pub descending_end : n < depth_limit → Absent ≡ hottest_at at → descent_from value l depth_limit 0 ≡ descent_in (Ok n) words
    unfolding follow descent_in
    descending_end b e = level_down b Absent e ∙ places_end (take n words)

    pub descending_refused : n < depth_limit → (r : Refusal) → Err r ≡ hottest_at at
        → descent_from value l depth_limit 0 ≡ descent_in (Err r) words
    unfolding follow descent_in
    descending_refused b r e = level_down b (Err r) e ∙ places_stopped (take n words) r

    pub descending_bottom : depth_limit ≤ n → descent_from value l depth_limit 0 ≡ descent_in (Ok n) words
    unfolding descent_from descent_in
    descending_bottom b =
        let m : depth_limit - n ≡ 0 = omega arith in
        d.so_far ∙ ap (λ (j : ℕ). with_places (take n words) (descent_from value l j d.parent)) m ∙ places_end (take n words)
