-- The hot path in plain facts, of any call: with a walk that ends whole and a block that is there, the way down is the one that the facts
-- tell, and the answer and the path's words are made of it.
use Rattle.std.specs.Prelude.{Err, Ok}
use Rattle.refusal.specs.Check.{Answer, on_answer}
use Prim.Native.Nat.{ℕ, ◌≤◌, ◌<◌}
use mathlib.Core.List.{List, [], ◌∷◌}
use mathlib.Core.Logic.{◌↔◌, ◌⊎◌, inl, inr, ⊎_elim}
use mathlib.Core.Path.{◌≡◌, refl, sym, ap, ap₂, ◌∙◌, subst}
use native.Mathlib.Omega.{arith}
use lib.ListN.{length, take, drop}
use Rattle.refusal.specs.declared.Refusal.{Refusal}
use Rattle.refusal.specs.declared.Refusal.TheVariants as No
use Rattle.refusal.specs.Number.{number_of}
use Rattle.buffer.specs.Over.{over}
use Rattle.buffer.proofs.Laws.{drop_over}
use Rattle.block.specs.declared.Block.{Block}
use Rattle.lookup.specs.Lookup.{profile_block}
use Rattle.lookup.proofs.Demand2.{profile_there_iff}
use Rattle.context.specs.Entry.{Entry}
use Rattle.traversal.specs.declared.Walked.TheVariants as Walked
use Rattle.traversal.specs.Traversal.{Asked, Outcome, on, cut, refused, depth_limit}
use Rattle.traversal.specs.Walk.{walk_of, walked_of}
use Rattle.traversal.proofs.ChildArrays.{whole_arrays}
use Rattle.hot_path.specs.HotPath.{Descent, along, stopped, descent_from, on_whole, walk_asked, value_of, hot_descent, hot_answer, path_after}
use Rattle.hot_path.specs.Facts.{NoneValued, MeetsNotFinite, HotCall, walk_answer, Ready, room, OfTheCall}
use Rattle.hot_path.specs.Facts.{OfWalk, OfBlock, OfPath, HotPathSays}
use Rattle.hot_path.proofs.Answers.{whole_on, whole_trail, whole_cut, whole_refused}
use Rattle.hot_path.proofs.Answers.{roomy, short, of_told, refused_told, path_placed, path_kept, path_first}
use Rattle.hot_path.proofs.Descents.{IsDescent, one_path, within_levels, descent_iff}

-- ---- a call

module _ (c : HotCall) where
  abbrev asked : Asked
  asked = walk_asked c.question c.was

  abbrev block : Answer Block
  block = profile_block c.question.db c.question.profile

  abbrev descent : Descent
  descent = hot_descent c.question c.was

  -- its answer and its path's words by its way
  answer_by : (w : Descent) → descent ≡ w → c.answer ≡ hot_answer (room c) w
  answer_by w e = c.promised.answers ∙ ap (hot_answer (room c)) e

  path_by : (w : Descent) → descent ≡ w → c.now.path ≡ path_after c.was.path w
  path_by w e = c.promised.placed ∙ ap (path_after c.was.path) e

  stopped_by : (r : Refusal) → descent ≡ stopped r → c.answer ≡ Err r
  unfolding hot_answer
  stopped_by r e = answer_by (stopped r) e

  -- and the other way round
  descent_answered : (n : ℕ) → c.answer ≡ Ok n → (ps : List ℕ) × (descent ≡ along ps) × (n ≡ length ps) × (n ≤ room c)
  descent_answered n e = of_told (room c) n descent (sym c.promised.answers ∙ e)

  abbrev NoRoom : Refusal → Type 0
  NoRoom r = (r ≡ No.Room) × ((ps : List ℕ) × (descent ≡ along ps) × (room c < length ps))

  descent_refused : (r : Refusal) → c.answer ≡ Err r → (descent ≡ stopped r) ⊎ NoRoom r
  descent_refused r e = refused_told (room c) r descent (sym c.promised.answers ∙ e)

  -- ---- a walk or a block that is refused, and what a refusal leaves

  walk_refused : (r : Refusal) (n : ℕ) → walk_answer c ≡ Walked.Refused r n → c.answer ≡ Err r
  unfolding hot_descent
  walk_refused r n e = stopped_by r (whole_refused r n (walk_of asked) _ e)

  walk_cut : (n : ℕ) → walk_answer c ≡ Walked.Truncated n → c.answer ≡ Err No.Room
  unfolding hot_descent
  walk_cut n e = stopped_by No.Room (whole_cut n (walk_of asked) _ e)

  block_refused : (n : ℕ) → walk_answer c ≡ Walked.Complete n → (r : Refusal) → block ≡ Err r → c.answer ≡ Err r
  unfolding hot_descent on_whole on_answer
  block_refused n e r b = stopped_by r (rw ((whole_on n (walk_of asked) e).1, b))

  untouched : (r : Refusal) → c.answer ≡ Err r → c.now.path ≡ c.was.path
  unfolding path_after
  untouched r e = go (descent_refused r e)
    where
      go : (descent ≡ stopped r) ⊎ NoRoom r → c.now.path ≡ c.was.path
      go (inl w) = path_by (stopped r) w
      go (inr (s, (ps, w, k))) = path_by (along ps) w ∙ path_kept c.was.path ps k

  -- ---- a walk that ends whole, with a block that is there

  ready_walk : (l : List Entry) → Ready c l → walk_of asked ≡ on l
  ready_walk l r = let (m, w) = whole_on (length l) (walk_of asked) r.whole in w ∙ sym (whole_trail c.question c.was m w) ∙ r.trail

  ready_by : (l : List Entry) (b : Block) → walk_of asked ≡ on l → block ≡ Ok b → Ready c l
  ready_by l b t v = record {
    whole = unfold walked_of in ap walked_of t;
    trail = whole_trail c.question c.was l t;
    block = (b, (profile_there_iff c.question.db c.question.profile b).0 v);
  }

  ready : (n : ℕ) (b : Block) → walk_answer c ≡ Walked.Complete n → block ≡ Ok b → (l : List Entry) × Ready c l
  ready n b e v = let (l, t) = whole_on n (walk_of asked) e in (l, ready_by l b t v)

  -- both are sound, or one of them stops the way down
  sound_or_stopped : (w : Descent) → descent ≡ w → ((l : List Entry) × Ready c l) ⊎ ((r : Refusal) × (w ≡ stopped r) × (OfWalk c r ⊎ OfBlock c r))
  unfolding hot_descent on_whole on_answer walked_of
  sound_or_stopped w e = go (walk_of asked) refl block refl e
    where
      go : (o : Outcome) → walk_of asked ≡ o → (v : Answer Block) → block ≡ v
          → on_whole stopped o (λ l. on_answer stopped v (λ b. descent_from (value_of c.question) l depth_limit 0)) ≡ w
          → ((l : List Entry) × Ready c l) ⊎ ((r : Refusal) × (w ≡ stopped r) × (OfWalk c r ⊎ OfBlock c r))
      go (on l) t (Ok b) v k = inl (l, ready_by l b t v)
      go (on l) t (Err r) v k = inr (r, sym k, inr (length l, ap walked_of t, v))
      go (cut l) t v p k = inr (No.Room, sym k, inl (inr (refl, (length l, ap walked_of t))))
      go (refused r l) t v p k = inr (r, sym k, inl (inl (length l, ap walked_of t)))

  along_ready : (ps : List ℕ) → descent ≡ along ps → (l : List Entry) × Ready c l
  along_ready ps e = go (sound_or_stopped (along ps) e)
    where
      go : ((l : List Entry) × Ready c l) ⊎ ((r : Refusal) × (along ps ≡ stopped r) × (OfWalk c r ⊎ OfBlock c r)) → (l : List Entry) × Ready c l
      go (inl x) = x
      go (inr (r, k, x)) = absurd (let z : ◌≡◌ {A = ℕ} 0 1 = cc in omega arith)

  -- ---- with what is known of the children on its trail

  descent_told : (l : List Entry) → Ready c l → (w : Descent) → (descent ≡ w) ↔ IsDescent (value_of c.question) l 0 w
  unfolding hot_descent on_whole on_answer
  descent_told l r w =
      rw (ready_walk l r, (profile_there_iff c.question.db c.question.profile r.block.0).1 r.block.1)
      (descent_iff (value_of c.question) l (whole_arrays asked l r.trail) w)

  answered : (n : ℕ) → (c.answer ≡ Ok n)
      ↔ ((l : List Entry) × (path : List ℕ) × Ready c l × OfTheCall c l path × (n ≡ length path) × (n ≤ room c))
  answered n = (
    λ e. let (ps, w, m, k) = descent_answered n e in let (l, r) = along_ready ps w in (l, ps, r, (descent_told l r (along ps)).0 w, m, k),
    λ (l, ps, r, h, m, k). answer_by (along ps) ((descent_told l r (along ps)).1 h) ∙ roomy (room c) ps (omega arith) ∙ ap Ok (sym m),
  )

  written : (n : ℕ) → c.answer ≡ Ok n
      → (l : List Entry) × Ready c l × OfTheCall c l (take n c.now.path) × (drop n c.now.path ≡ drop n c.was.path)
  written n e =
      let (ps, w, m, k) = descent_answered n e in
      let (l, r) = along_ready ps w in
      let now : c.now.path ≡ over c.was.path 0 ps = path_by (along ps) w ∙ path_placed c.was.path ps (omega arith) in
      let first : take n c.now.path ≡ ps = ap₂ take m now ∙ path_first c.was.path ps (omega arith) in (
        l,
        r,
        subst (OfTheCall c l) (sym first) ((descent_told l r (along ps)).0 w),
        ap (drop n) now ∙ drop_over c.was.path 0 ps n (omega arith),
      )

  empty : (c.answer ≡ Ok 0) ↔ ((l : List Entry) × Ready c l × NoneValued (value_of c.question) l 0)
  empty = (
    λ e. let (l, ps, r, h, m, k) = (answered 0).0 e in (l, r, none l ps h m),
    λ (l, r, h). (answered 0).1 (l, [], r, h, refl, omega arith),
  )
    where
      none : (l : List Entry) (ps : List ℕ) → OfTheCall c l ps → 0 ≡ length ps → NoneValued (value_of c.question) l 0
      none l [] h m = h
      none l (p ∷ ps) h m = absurd (omega arith)

  says_16 : (l : List Entry) → Ready c l → (c.answer ≡ Err No.NotFinite) ↔ ((path : List ℕ) × MeetsNotFinite (value_of c.question) l path)
  says_16 l r = (λ e. to (descent_refused No.NotFinite e), λ m. stopped_by No.NotFinite ((descent_told l r (stopped No.NotFinite)).1 (refl, m)))
    where
      to : (descent ≡ stopped No.NotFinite) ⊎ NoRoom No.NotFinite → (path : List ℕ) × MeetsNotFinite (value_of c.question) l path
      to (inl w) = ((descent_told l r (stopped No.NotFinite)).0 w).1
      to (inr s) = absurd (omega (arith, ap number_of s.0))

  says_17 : (l : List Entry) → Ready c l → (c.answer ≡ Err No.Room) ↔ ((path : List ℕ) × OfTheCall c l path × (room c < length path))
  says_17 l r = (
    λ e. to (descent_refused No.Room e),
    λ (ps, h, k). answer_by (along ps) ((descent_told l r (along ps)).1 h) ∙ short (room c) ps k,
  )
    where
      to : (descent ≡ stopped No.Room) ⊎ NoRoom No.Room → (path : List ℕ) × OfTheCall c l path × (room c < length path)
      to (inl w) = absurd (omega (arith, ap number_of ((descent_told l r (stopped No.Room)).0 w).0))
      to (inr (s, (ps, w, k))) = (ps, (descent_told l r (along ps)).0 w, k)

  path_or_not : (l : List Entry) → Ready c l
      → ((path : List ℕ) × OfTheCall c l path) ⊎ ((path : List ℕ) × MeetsNotFinite (value_of c.question) l path)
  path_or_not l r = go descent ((descent_told l r descent).0 refl)
    where
      go : (w : Descent) → IsDescent (value_of c.question) l 0 w
          → ((path : List ℕ) × OfTheCall c l path) ⊎ ((path : List ℕ) × MeetsNotFinite (value_of c.question) l path)
      go (along ps) h = inl (ps, h)
      go (stopped s) h = inr h.1

  at_most : (l : List Entry) (path : List ℕ) → Ready c l → OfTheCall c l path → length path ≤ depth_limit
  at_most l path r h =
      let value = value_of c.question in
      within_levels value l depth_limit 0 path ((descent_iff value l (whole_arrays asked l r.trail) (along path)).1 h)

  refused_by : (r : Refusal) → c.answer ≡ Err r → OfWalk c r ⊎ (OfBlock c r ⊎ OfPath c r)
  refused_by r e = ⊎_elim (λ w. by w (sound_or_stopped (stopped r) w)) (λ (s, (ps, w, k)). inr (inr (of_room s (along_ready ps w)))) (descent_refused r e)
    where
      of_room : r ≡ No.Room → (l : List Entry) × Ready c l → OfPath c r
      of_room s (l, d) = (l, d, inr s)

      named : (s : Refusal) → s ≡ r → OfWalk c s ⊎ OfBlock c s → OfWalk c r ⊎ (OfBlock c r ⊎ OfPath c r)
      named s k x = subst (λ (t : Refusal). OfWalk c t ⊎ (OfBlock c t ⊎ OfPath c t)) k (⊎_elim inl (λ y. inr (inl y)) x)

      by : descent ≡ stopped r → ((l : List Entry) × Ready c l) ⊎ ((s : Refusal) × (stopped r ≡ stopped s) × (OfWalk c s ⊎ OfBlock c s))
          → OfWalk c r ⊎ (OfBlock c r ⊎ OfPath c r)
      by w (inl (l, d)) = inr (inr (l, d, inl ((descent_told l d (stopped r)).0 w).0))
      by w (inr (s, k, x)) = named s (cc) x

  pub says : HotPathSays c
  says = record {
    answered = answered;
    written = written;
    ready = ready;
    path_or_not = path_or_not;
    one_path = λ l ps qs r. one_path (value_of c.question) l 0 ps qs;
    at_most = at_most;
    empty = empty;
    walk_refused = walk_refused;
    walk_cut = walk_cut;
    block_refused = block_refused;
    says_16 = says_16;
    says_17 = says_17;
    refused_by = refused_by;
    untouched = untouched;
  }
