-- The answer by the way down: a walk that ends whole has the whole trail, and each answer is taken back to the way that it was made of.
use Rattle.std.specs.Prelude.{Err, Ok}
use Prim.Native.Nat.{ℕ, ◌+◌, ◌≤◌, ◌<◌}
use mathlib.Core.Bool.{Bool, true, false}
use mathlib.Core.List.{List, []}
use mathlib.Core.Logic.{◌⊎◌, inl, inr}
use mathlib.Core.Path.{◌≡◌, refl, sym, ap, ◌∙◌, subst}
use native.Mathlib.Omega.{arith}
use borrow.Author.Tests.{leb-true, leb-false, le-leb, lt-leb}
use lib.Dec.{leb}
use lib.ListN.{length, take, drop}
use lib.Seq.{take_at, length-take-le}
use Rattle.refusal.specs.declared.Refusal.{Refusal}
use Rattle.refusal.specs.declared.Refusal.TheVariants as No
use Rattle.refusal.specs.Check.{either, Passed, Answer, on_answer}
use Rattle.buffer.specs.Over.{over}
use Rattle.buffer.proofs.Laws.{over_eq}
use Rattle.open.specs.Format as Format
use Rattle.open.specs.Names as Section
use Rattle.open.specs.Opening.{place_in, opening, pairs_read}
use Rattle.open.proofs.Keeps.{opens_iff}
use Rattle.open.proofs.Answer.{read_all}
use Rattle.block.specs.declared.Block.{Block}
use Rattle.lookup.specs.Lookup.{profile_block, profile_lookup}
use Rattle.context.specs.Entry.{Entry}
use Rattle.traversal.specs.declared.Walked.{Walked}
use Rattle.traversal.specs.Traversal.{Outcome, on, cut, refused, depth_limit, traversal}
use Rattle.traversal.specs.Walk as Walk
use Rattle.traversal.specs.Walk.{walk_of, walked_of, Leaves}
use Rattle.traversal.specs.Children.{roots_header, Children}
use Rattle.traversal.proofs.Children.{whole_opens}
use Rattle.traversal.proofs.ChildArrays.{whole_arrays}
use Rattle.traversal.proofs.Unmarked.{unmarked_whole}
use Rattle.hot_path.specs.HotPath.{Descent, along, stopped, descent_from, on_whole, hot_descent, hot_answer, path_after}
use Rattle.hot_path.specs.HotPath.{Question, PathSlices, path_slices, walk_slices, walk_asked, LeavesPath, the_answer}
use Rattle.hot_path.specs.State.{block_value, descent_by, descent_in, WordsFor}

-- ---- a walk that ends whole

pub whole_on : (n : ℕ) (o : Outcome) → walked_of o ≡ Walked.Complete n → (l : List Entry) × (o ≡ on l)
unfolding walked_of
whole_on n (on l) e = (l, refl)
whole_on n (cut l) e = absurd (let z : ◌≡◌ {A = ℕ} 0 1 = cc in omega arith)
whole_on n (refused r l) e = absurd (let z : ◌≡◌ {A = ℕ} 0 1 = cc in omega arith)

pub whole_trail : (q : Question) (s : PathSlices) (l : List Entry) → walk_of (walk_asked q s) ≡ on l → traversal (walk_asked q s) ≡ on l
whole_trail q s l e = unmarked_whole q.meta (walk_asked q s).lent l e

-- and one that does not: the way down is stopped
pub whole_cut : (n : ℕ) (o : Outcome) (then : List Entry → Descent) → walked_of o ≡ Walked.Truncated n → on_whole stopped o then ≡ stopped No.Room
unfolding walked_of on_whole
whole_cut n (on l) then e = absurd (let z : ◌≡◌ {A = ℕ} 0 1 = cc in omega arith)
whole_cut n (cut l) then e = refl
whole_cut n (refused r l) then e = absurd (let z : ◌≡◌ {A = ℕ} 0 1 = cc in omega arith)

pub whole_refused : (r : Refusal) (n : ℕ) (o : Outcome) (then : List Entry → Descent) → walked_of o ≡ Walked.Refused r n
    → on_whole stopped o then ≡ stopped r
unfolding walked_of on_whole
whole_refused r n (on l) then e = absurd (let z : ◌≡◌ {A = ℕ} 0 1 = cc in omega arith)
whole_refused r n (cut l) then e = absurd (let z : ◌≡◌ {A = ℕ} 0 1 = cc in omega arith)
whole_refused r n (refused s l) then e = let same : s ≡ r = cc in ap stopped same

-- ---- an answer, and the way that it was made of

module _ (space : ℕ) where
  pub roomy : (ps : List ℕ) → length ps ≤ space → hot_answer space (along ps) ≡ Ok (length ps)
  unfolding hot_answer either
  roomy ps h = rw (le-leb (length ps) space h)

  pub short : (ps : List ℕ) → space < length ps → hot_answer space (along ps) ≡ Err No.Room
  unfolding hot_answer either
  short ps h = rw (lt-leb (length ps) space h)

  pub of_told : (n : ℕ) (w : Descent) → hot_answer space w ≡ Ok n → (ps : List ℕ) × (w ≡ along ps) × (n ≡ length ps) × (n ≤ space)
  unfolding hot_answer either
  of_told n (along ps) e = go (leb (length ps) space) refl e
    where
      go : (b : Bool) → leb (length ps) space ≡ b → either b (Ok (length ps)) (Err No.Room) ≡ Ok n
          → (qs : List ℕ) × (along ps ≡ along qs) × (n ≡ length qs) × (n ≤ space)
      go true t q = let same : n ≡ length ps = cc in (ps, refl, same, omega (arith, same, leb-true (length ps) space t))
      go false t q = absurd (let z : ◌≡◌ {A = ℕ} 0 1 = cc in omega arith)
  of_told n (stopped r) e = absurd (let z : ◌≡◌ {A = ℕ} 0 1 = cc in omega arith)

  pub refused_told : (r : Refusal) (w : Descent) → hot_answer space w ≡ Err r
      → (w ≡ stopped r) ⊎ ((r ≡ No.Room) × ((ps : List ℕ) × (w ≡ along ps) × (space < length ps)))
  unfolding hot_answer either
  refused_told r (along ps) e = go (leb (length ps) space) refl e
    where
      go : (b : Bool) → leb (length ps) space ≡ b → either b (Ok (length ps)) (Err No.Room) ≡ Err r
          → (along ps ≡ stopped r) ⊎ ((r ≡ No.Room) × ((qs : List ℕ) × (along ps ≡ along qs) × (space < length qs)))
      go true t q = absurd (let z : ◌≡◌ {A = ℕ} 0 1 = cc in omega arith)
      go false t q = let same : r ≡ No.Room = cc in inr (same, (ps, refl, leb-false (length ps) space t))
  refused_told r (stopped s) e = let same : s ≡ r = cc in inl (ap stopped same)

-- what the path's words are then
module _ (was ps : List ℕ) where
  pub path_placed : length ps ≤ length was → path_after was (along ps) ≡ over was 0 ps
  unfolding path_after either
  path_placed h = rw (le-leb (length ps) (length was) h)

  pub path_kept : length was < length ps → path_after was (along ps) ≡ was
  unfolding path_after either
  path_kept h = rw (lt-leb (length ps) (length was) h)

  pub path_first : length ps ≤ length was → take (length ps) (over was 0 ps) ≡ ps
  path_first h = ap (take (length ps)) (over_eq was 0 ps (omega arith)) ∙ take_at ps (drop (0 + length ps) was) (length ps) refl

-- ---- by the words that were found

pub found_words : (words : List ℕ) {a : Answer ℕ} {n : ℕ} → a ≡ Ok n → WordsFor a words → n ≤ length words
found_words words t h = subst (λ (x : Answer ℕ). WordsFor x words) t h

module _ {w : Descent} {a : Answer ℕ} (was words : List ℕ) (e : w ≡ descent_in a words) where
  pub found_refused : {r : Refusal} → a ≡ Err r → (a ≡ hot_answer (length was) w) × (was ≡ path_after was w)
  unfolding descent_in hot_answer path_after
  found_refused t = rw (e, t) (refl, refl)

  module _ (n : ℕ) (t : a ≡ Ok n) (h : WordsFor a words) where
    abbrev pub places : List ℕ
    places = take n words

    descent_along : w ≡ along places
    unfolding descent_in
    descent_along = e ∙ ap (λ (x : Answer ℕ). descent_in x words) t

    long : length places ≡ n
    long = length-take-le n words (found_words words t h)

    pub found_short : length was < n → (Err No.Room ≡ hot_answer (length was) w) × (was ≡ path_after was w)
    found_short k = rw descent_along (sym (short (length was) places (omega (arith, long))), sym (path_kept was places (omega (arith, long))))

    pub found_fits : n ≤ length was → (Ok n ≡ hot_answer (length was) w) × (over was 0 places ≡ path_after was w)
    found_fits k =
        rw descent_along (sym (roomy (length was) places (omega (arith, long)) ∙ ap Ok long), sym (path_placed was places (omega (arith, long))))

-- ---- where the roots' size and place stand

pub roots_read : (file : List ℕ) → opening Format.meta file ≡ Passed → {ps : List (List ℕ)} → ps ≡ pairs_read Format.meta file
    → place_in ps Section.context ≡ roots_header file
roots_read file o e =
    let long = ((opens_iff Format.meta file).0 o).long in
    ap (λ (ps : List (List ℕ)). place_in ps Section.context) (e ∙ sym (read_all Format.meta file (omega (arith, long))))

-- ---- of a call, from the walk on

module _ (q : Question) (was : PathSlices) {w : Walked} {listing table : List ℕ}
    (walk : Leaves Walk.itself q.meta (walk_slices was) w (Walk.slices listing table [])) where
  -- the slices of the walk stay
  leaves_by : (v : Descent) → hot_descent q was ≡ v → {a : Answer ℕ} {path : List ℕ} → a ≡ hot_answer (length was.path) v → path ≡ path_after was.path v
      → LeavesPath the_answer q was a (path_slices listing table path)
  leaves_by v e f g = record {
    answers = f ∙ sym (ap (hot_answer (length was.path)) e);
    walked = subst (λ (x : Walked). Leaves Walk.itself q.meta (walk_slices was) x (Walk.slices listing table [])) walk.answers walk;
    placed = g ∙ sym (ap (path_after was.path) e);
  }

  leaves_stopped : (r : Refusal) → hot_descent q was ≡ stopped r → LeavesPath the_answer q was (Err r) (path_slices listing table was.path)
  unfolding hot_answer path_after
  leaves_stopped r e = leaves_by (stopped r) e refl refl

  pub leaves_walk_refused : {r : Refusal} {n : ℕ} → w ≡ Walked.Refused r n
      → LeavesPath the_answer q was (Err r) (path_slices listing table was.path)
  unfolding hot_descent
  leaves_walk_refused {r} {n} e = leaves_stopped r (whole_refused r n (walk_of (walk_asked q was)) _ (sym walk.answers ∙ e))

  pub leaves_walk_cut : {n : ℕ} → w ≡ Walked.Truncated n → LeavesPath the_answer q was (Err No.Room) (path_slices listing table was.path)
  unfolding hot_descent
  leaves_walk_cut {n} e = leaves_stopped No.Room (whole_cut n (walk_of (walk_asked q was)) _ (sym walk.answers ∙ e))

  module _ {n : ℕ} (whole : w ≡ Walked.Complete n) where
    on-whole : (l : List Entry) × (walk_of (walk_asked q was) ≡ on l)
    on-whole = whole_on n (walk_of (walk_asked q was)) (sym walk.answers ∙ whole)

    trail_whole : traversal (walk_asked q was) ≡ on on-whole.0
    trail_whole = whole_trail q was on-whole.0 on-whole.1

    children : Children q.meta on-whole.0
    children = whole_arrays (walk_asked q was) on-whole.0 trail_whole

    pub whole_known : ((l : List Entry) × Children q.meta l) × (opening Format.meta q.meta ≡ Passed)
    whole_known = ((on-whole.0, children), whole_opens (walk_asked q was) on-whole.0 trail_whole)

    pub leaves_block_refused : {r : Refusal} → profile_block q.db q.profile ≡ Err r
        → LeavesPath the_answer q was (Err r) (path_slices listing table was.path)
    unfolding hot_descent on_whole on_answer
    leaves_block_refused {r} e = leaves_stopped r (rw (on-whole.1, e))

    pub leaves_found : {b : Block} → profile_block q.db q.profile ≡ Ok b → {a : Answer ℕ} {path : List ℕ}
        → ((l : List Entry) → Children q.meta l → a ≡ hot_answer (length was.path) (descent_by q.db b q.metric l))
        → ((l : List Entry) → Children q.meta l → path ≡ path_after was.path (descent_by q.db b q.metric l))
        → LeavesPath the_answer q was a (path_slices listing table path)
    unfolding hot_descent on_whole on_answer profile_lookup
    leaves_found {b} e f g =
        let l : List Entry = on-whole.0 in
        let by : List Entry → Answer Block → Descent =
        λ l c. on_answer stopped c (λ x. descent_from (λ id. on_answer Err c (λ x. block_value q.db x q.metric id)) l depth_limit 0) in
        let whole_descent : hot_descent q was ≡ by l (profile_block q.db q.profile) =
        ap (λ (o : Outcome). on_whole stopped o (λ l. by l (profile_block q.db q.profile))) on-whole.1 in
        leaves_by (descent_by q.db b q.metric l) (whole_descent ∙ ap (by l) e) (f l children) (g l children)

-- the same with the answer said in another way
pub leaves_said : {A : Type 0} (say : Answer ℕ → A) {q : Question} {was now : PathSlices} {a : Answer ℕ} {r : A} → r ≡ say a
    → LeavesPath the_answer q was a now → LeavesPath say q was r now
leaves_said say e l = record { answers = e ∙ ap say l.answers; walked = l.walked; placed = l.placed }
