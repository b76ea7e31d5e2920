-- How a mark is passed as contexts are visited one by one: once passed it stays where it is, and those after it follow one another; till
-- then it is passed by the context that has its path.
use Prim.Native.Nat.{ℕ, zero, suc, ◌-◌, ◌≤◌, ◌<◌}
use mathlib.Core.Bool.{Bool, true, false}
use mathlib.Core.List.{List, [], ◌∷◌, ◌++◌, map, map-append}
use mathlib.Core.Logic.{◌↔◌}
use mathlib.Core.Path.{◌≡◌, refl, sym, ap, ◌∙◌}
use native.Mathlib.Omega.{arith}
use native.Mathlib.Nat.{not-suc-le-zero, le_of_suc-le-suc}
use borrow.Author.Tests.{leb-true, leb-false, le-leb, lt-leb}
use lib.ListN.{length, length-append, length-map, length-drop, drop_of_length-le}
use lib.Seq.{drop-append-le}
use Rattle.refusal.specs.Check.{either}
use Rattle.context.specs.Entry.{Entry}
use Rattle.traversal.specs.From.{path_of, same_path, marks_of, path_index, skipped, is_passed, after_mark, marks_from}
use Rattle.traversal.proofs.Keeps.{snoc}

-- ---- among paths

-- what is there stays where it is
index_append : (path : List ℕ) (qs rs : List (List ℕ)) → path_index path qs < length qs → path_index path (qs ++ rs) ≡ path_index path qs
unfolding path_index either
index_append path [] rs h = absurd (not-suc-le-zero h)
index_append path (q ∷ qs) rs h = go (same_path path q) (index_append path qs rs) h
  where
    go : (b : Bool) → (path_index path qs < length qs → path_index path (qs ++ rs) ≡ path_index path qs)
        → either b 0 (suc (path_index path qs)) < suc (length qs)
        → either b 0 (suc (path_index path (qs ++ rs))) ≡ either b 0 (suc (path_index path qs))
    go true r k = refl
    go false r k = ap suc (r (le_of_suc-le-suc k))

-- and what stands in the first part is there already
index_front : (path : List ℕ) (qs rs : List (List ℕ)) → path_index path (qs ++ rs) < length qs → path_index path qs ≡ path_index path (qs ++ rs)
unfolding path_index either
index_front path [] rs h = absurd (not-suc-le-zero h)
index_front path (q ∷ qs) rs h = go (same_path path q) (index_front path qs rs) h
  where
    go : (b : Bool) → (path_index path (qs ++ rs) < length qs → path_index path qs ≡ path_index path (qs ++ rs))
        → either b 0 (suc (path_index path (qs ++ rs))) < suc (length qs)
        → either b 0 (suc (path_index path qs)) ≡ either b 0 (suc (path_index path (qs ++ rs)))
    go true r k = refl
    go false r k = ap suc (r (le_of_suc-le-suc k))

-- what is not there has the number of them all, and is found last or not
index_last : (path : List ℕ) (qs : List (List ℕ)) (q : List ℕ) → length qs ≤ path_index path qs
    → path_index path (snoc qs q) ≡ either (same_path path q) (length qs) (suc (length qs))
unfolding path_index either
index_last path [] q h = refl
index_last path (p ∷ qs) q h = go (same_path path p) (same_path path q) (index_last path qs q) h
  where
    go : (b t : Bool) → (length qs ≤ path_index path qs → path_index path (snoc qs q) ≡ either t (length qs) (suc (length qs)))
        → suc (length qs) ≤ either b 0 (suc (path_index path qs))
        → either b 0 (suc (path_index path (snoc qs q))) ≡ either t (suc (length qs)) (suc (suc (length qs)))
    go true t r k = absurd (not-suc-le-zero k)
    go false true r k = ap suc (r (le_of_suc-le-suc k))
    go false false r k = ap suc (r (le_of_suc-le-suc k))

-- ---- among contexts

pub length_marks : (l : List Entry) → length (marks_of l) ≡ suc (length l)
length_marks l = ap suc (length-map l path_of)

marks_append : (a b : List Entry) → marks_of (a ++ b) ≡ marks_of a ++ map path_of b
marks_append a b = ap (◌∷◌ []) (map-append path_of a b)

pub skipped_append : (path : List ℕ) (a b : List Entry) → skipped path a ≤ length a → skipped path (a ++ b) ≡ skipped path a
unfolding skipped
skipped_append path a b h =
    ap (path_index path) (marks_append a b) ∙ index_append path (marks_of a) (map path_of b) (omega (arith, length_marks a))

pub skipped_front : (path : List ℕ) (a b : List Entry) → skipped path (a ++ b) ≤ length a → skipped path a ≡ skipped path (a ++ b)
unfolding skipped
skipped_front path a b h =
    let e = ap (path_index path) (marks_append a b) in
    index_front path (marks_of a) (map path_of b) (omega (arith, length_marks a, e)) ∙ sym e

-- once passed, it stays passed
pub passed_append : (path : List ℕ) (a b : List Entry) → is_passed path a ≡ true → is_passed path (a ++ b) ≡ true
unfolding is_passed
passed_append path a b h =
    let k : skipped path a ≤ length a = leb-true (skipped path a) (length a) h in
    le-leb (skipped path (a ++ b)) (length (a ++ b)) (omega (arith, skipped_append path a b k, length-append a b))

-- those after it go on
pub after_append : (path : List ℕ) (a b : List Entry) → is_passed path a ≡ true → after_mark path (a ++ b) ≡ after_mark path a ++ b
unfolding is_passed after_mark
after_append path a b h =
    let k : skipped path a ≤ length a = leb-true (skipped path a) (length a) h in
    rw (skipped_append path a b k) (drop-append-le (skipped path a) a b k)

-- ---- passed or not, by the number of marks from it on

module _ (path : List ℕ) where
  pub marks_passed : (l : List Entry) → (0 < marks_from path l) ↔ (is_passed path l ≡ true)
  unfolding marks_from is_passed
  marks_passed l = (
    λ h. le-leb (skipped path l) (length l) (omega arith),
    λ h. let k = leb-true (skipped path l) (length l) h in omega arith,
  )

  pub marks_unpassed : (l : List Entry) → (marks_from path l ≡ 0) ↔ (is_passed path l ≡ false)
  unfolding marks_from is_passed
  marks_unpassed l = (
    λ h. lt-leb (skipped path l) (length l) (omega arith),
    λ h. let k = leb-false (skipped path l) (length l) h in omega arith,
  )

  pub unpassed_after : (l : List Entry) → marks_from path l ≡ 0 → after_mark path l ≡ []
  unfolding marks_from after_mark
  unpassed_after l h = drop_of_length-le l {i = skipped path l} (omega arith)

  pub after_length : (l : List Entry) → 0 < marks_from path l → suc (length (after_mark path l)) ≡ marks_from path l
  unfolding marks_from after_mark
  after_length l h = omega (arith, length-drop (skipped path l) l)

  -- ---- before the first context

  pub marks_start : marks_from path [] ≡ either (same_path path []) 1 0
  unfolding marks_from skipped path_index either
  marks_start = go (same_path path [])
    where
      go : (b : Bool) → 1 - either b 0 1 ≡ either b 1 0
      go true = refl
      go false = refl

  -- ---- one context more

  module _ (l : List Entry) (e : Entry) where
    pub marks-more : 0 < marks_from path l → marks_from path (snoc l e) ≡ suc (marks_from path l)
    unfolding marks_from
    marks-more h = omega (arith, skipped_append path l (e ∷ []) (omega arith), length-append l (e ∷ []))

    pub after_more : 0 < marks_from path l → after_mark path (snoc l e) ≡ snoc (after_mark path l) e
    after_more h = after_append path l (e ∷ []) ((marks_passed l).0 h)

    skipped_last : marks_from path l ≡ 0 → skipped path (snoc l e) ≡ either (same_path path e.path) (suc (length l)) (suc (suc (length l)))
    unfolding marks_from skipped
    skipped_last h =
        ap (path_index path) (marks_append l (e ∷ []))
        ∙ index_last path (marks_of l) e.path (omega (arith, length_marks l))
        ∙ ap (λ (n : ℕ). either (same_path path e.path) n (suc n)) (length_marks l)

    pub marks_found : marks_from path l ≡ 0 → same_path path e.path ≡ true → marks_from path (snoc l e) ≡ 1
    unfolding marks_from either
    marks_found h s =
        let at = skipped_last h ∙ ap (λ (b : Bool). either b (suc (length l)) (suc (suc (length l)))) s in
        omega (arith, at, length-append l (e ∷ []))

    pub marks_still : marks_from path l ≡ 0 → same_path path e.path ≡ false → marks_from path (snoc l e) ≡ 0
    unfolding marks_from either
    marks_still h s =
        let at = skipped_last h ∙ ap (λ (b : Bool). either b (suc (length l)) (suc (suc (length l)))) s in
        omega (arith, at, length-append l (e ∷ []))

    pub after_none : marks_from path l ≡ 0 → after_mark path (snoc l e) ≡ []
    unfolding after_mark either
    after_none h = drop_of_length-le (snoc l e) (go (same_path path e.path) (skipped_last h))
      where
        go : (b : Bool) → skipped path (snoc l e) ≡ either b (suc (length l)) (suc (suc (length l))) → length (snoc l e) ≤ skipped path (snoc l e)
        go true s = omega (arith, s, length-append l (e ∷ []))
        go false s = omega (arith, s, length-append l (e ∷ []))

    -- whichever it is
    pub marks_next : marks_from path (snoc l e) ≤ suc (marks_from path l)
    marks_next = go (marks_from path l) refl (same_path path e.path) refl
      where
        go : (k : ℕ) → marks_from path l ≡ k → (b : Bool) → same_path path e.path ≡ b → marks_from path (snoc l e) ≤ suc (marks_from path l)
        go zero h true s = omega (arith, marks_found h s)
        go zero h false s = omega (arith, marks_still h s)
        go (suc k) h b s = omega (arith, marks-more (omega arith))
