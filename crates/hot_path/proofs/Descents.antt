-- The way down by facts: each place is that of the hottest child of the one before, of which there is one at most, and below the last one
-- the end is told. The levels suffice: each step leads one deeper, and no context on a trail that ends whole is deeper than the limit.
use Rattle.std.specs.Prelude.{Err, Option}
use Rattle.refusal.specs.Check.{Answer, Absent, Found}
use Prim.Native.Nat.{ℕ, zero, suc, ◌+◌, ◌≤◌}
use mathlib.Core.List.{List, [], ◌∷◌}
use mathlib.Core.Logic.{◌↔◌}
use mathlib.Core.Path.{◌≡◌, refl, sym, ap, ap₂, ◌∙◌, subst}
use native.Mathlib.Omega.{arith}
use lib.ListN.{length}
use Rattle.refusal.specs.declared.Refusal.TheVariants as No
use Rattle.seq.specs.Lists.{In}
use Rattle.context.specs.Entry.{Entry}
use Rattle.traversal.specs.Children.{Children}
use Rattle.traversal.specs.Traversal.{depth_limit}
use Rattle.traversal.specs.Walk.{place_of}
use Rattle.hot_path.specs.HotPath.{Descent, along, stopped, with_place, follow, hottest_below, descent_from}
use Rattle.hot_path.specs.Facts.{HottestChild, HotDown, NoneValued, SomeNotFinite}
use Rattle.hot_path.proofs.Candidates.{Tells, tells, one_hottest, hottest_valued, hottest_finite}

module _ (value : ℕ → Answer (Option ℕ)) (l : List Entry) where
  -- what a way down from a parent says
  abbrev pub IsDescent : (parent : ℕ) → Descent → Type 0
  IsDescent parent (along ps) = HotDown value l (NoneValued value l) parent ps
  IsDescent parent (stopped r) = (r ≡ No.NotFinite) × ((ps : List ℕ) × HotDown value l (SomeNotFinite value l) parent ps)

  -- ---- there is one at most

  -- an end below which there is no hottest child
  abbrev Last : (ℕ → Type 0) → Type 0
  Last End = (parent : ℕ) (e : Entry) → HottestChild value l parent e → End parent → ⊥

  -- to two such ends there is one path: they hold at one place
  one_down : (P Q : ℕ → Type 0) → Last P → Last Q → (parent : ℕ) (ps qs : List ℕ) → HotDown value l P parent ps → HotDown value l Q parent qs
      → (ps ≡ qs) × ((last : ℕ) × P last × Q last)
  one_down P Q f g parent [] [] h k = (refl, (parent, h, k))
  one_down P Q f g parent [] (q ∷ qs) h k = absurd (f parent k.0.0 k.0.1 h)
  one_down P Q f g parent (p ∷ ps) [] h k = absurd (g parent h.0.0 h.0.1 k)
  one_down P Q f g parent (p ∷ ps) (q ∷ qs) h k =
      let same : q ≡ p = sym k.0.2 ∙ ap place_of (one_hottest value l parent k.0.0 h.0.0 k.0.1 h.0.1) ∙ h.0.2 in
      let r = one_down P Q f g p ps qs h.1 (subst (λ (x : ℕ). HotDown value l Q x qs) same k.1) in
      (ap₂ ◌∷◌ (sym same) r.0, r.1)

  pub one_path : (parent : ℕ) (ps qs : List ℕ) → IsDescent parent (along ps) → IsDescent parent (along qs) → ps ≡ qs
  one_path parent ps qs h k =
      (one_down (NoneValued value l) (NoneValued value l) (hottest_valued value l) (hottest_valued value l) parent ps qs h k).0

  -- a way either leads to its end or stops
  along_or_stopped : (parent : ℕ) (ps qs : List ℕ) → HotDown value l (NoneValued value l) parent ps
      → HotDown value l (SomeNotFinite value l) parent qs → ⊥
  along_or_stopped parent ps qs h k =
      let last = (one_down (NoneValued value l) (SomeNotFinite value l) (hottest_valued value l) (hottest_finite value l) parent ps qs h k).1 in
      last.1 last.2.0 last.2.1 last.2.2

  one_descent : (parent : ℕ) (v w : Descent) → IsDescent parent v → IsDescent parent w → v ≡ w
  one_descent parent (along ps) (along qs) h k = ap along (one_path parent ps qs h k)
  one_descent parent (along ps) (stopped s) h k = absurd (along_or_stopped parent ps k.1.0 h k.1.1)
  one_descent parent (stopped r) (along qs) h k = absurd (along_or_stopped parent qs h.1.0 k h.1.1)
  one_descent parent (stopped r) (stopped s) h k = ap stopped (h.0 ∙ sym k.0)

  -- ---- and it is found

  -- from one place higher
  one_more : (parent p : ℕ) → Tells value l parent (Found p) → (w : Descent) → IsDescent p w → IsDescent parent (with_place p w)
  unfolding with_place
  one_more parent p t (along ps) h = (t, h)
  one_more parent p t (stopped r) h = (h.0, (p ∷ h.1.0, (t, h.1.1)))

  -- with no more places than levels
  pub within_levels : (levels parent : ℕ) (ps : List ℕ) → descent_from value l levels parent ≡ along ps → length ps ≤ levels
  unfolding descent_from follow with_place
  within_levels zero parent ps e = let none : [] ≡ ps = cc in omega (arith, ap length none)
  within_levels (suc levels) parent ps e = go (hottest_below value l parent) e (within_levels levels)
    where
      Shorter : Type 0
      Shorter = (p : ℕ) (qs : List ℕ) → descent_from value l levels p ≡ along qs → length qs ≤ levels

      below : (p : ℕ) (w : Descent) → descent_from value l levels p ≡ w → with_place p w ≡ along ps → Shorter → length ps ≤ suc levels
      below p (along qs) t k shorter = let same : (p ∷ qs) ≡ ps = cc in omega (arith, ap length same, shorter p qs t)
      below p (stopped r) t k shorter = absurd (let z : ◌≡◌ {A = ℕ} 0 1 = cc in omega arith)

      go : (h : Answer (Option ℕ)) → follow h (descent_from value l levels) ≡ along ps → Shorter → length ps ≤ suc levels
      go (Found p) k shorter = below p (descent_from value l levels p) refl k shorter
      go Absent k shorter = let none : [] ≡ ps = cc in omega (arith, ap length none)
      go (Err r) k shorter = absurd (let z : ◌≡◌ {A = ℕ} 0 1 = cc in omega arith)

  module _ {file : List ℕ} (c : Children file l) where
    -- all contexts with a parent are at one depth
    abbrev Deep : (d parent : ℕ) → Type 0
    Deep d parent = (e : Entry) → In e l → e.parent ≡ parent → e.depth ≡ suc d

    -- d: the depth of the parent, 0 above the roots
    descent_found : (levels d parent : ℕ) → Deep d parent → depth_limit ≤ d + levels → IsDescent parent (descent_from value l levels parent)
    unfolding descent_from follow
    descent_found zero d parent deep enough = λ e bits v. omega (arith, deep e v.on_trail v.child, c.depth-limit e v.on_trail)
    descent_found (suc levels) d parent deep enough =
        go (hottest_below value l parent) (tells value l parent) (λ p below. descent_found levels (suc d) p below (omega arith))
      where
        go : (h : Answer (Option ℕ)) → Tells value l parent h → ((p : ℕ) → Deep (suc d) p → IsDescent p (descent_from value l levels p))
            → IsDescent parent (follow h (descent_from value l levels))
        go (Found p) t rest =
            let i = t.1.valued.on_trail in
            one_more parent p t (descent_from value l levels p) (rest p
            (λ x j q. c.child_depth t.0 x i j (q ∙ sym t.2) ∙ ap suc (deep t.0 i t.1.valued.child)))
        go Absent t rest = t
        go (Err r) t rest = (t.0, ([], t.1))

    -- with as many levels as the limit has, from the roots
    pub descent_iff : (w : Descent) → (descent_from value l depth_limit 0 ≡ w) ↔ IsDescent 0 w
    descent_iff w = (λ e. subst (IsDescent 0) e found, λ h. one_descent 0 (descent_from value l depth_limit 0) w found h)
      where
        found : IsDescent 0 (descent_from value l depth_limit 0)
        found = descent_found depth_limit 0 0 c.root_depth (omega arith)
