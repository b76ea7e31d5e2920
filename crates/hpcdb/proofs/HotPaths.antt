-- What a C program learns of a hot path, by the code, `out` and the lent words: 0 that there is a path and room for it, which then stands in
-- the first words; past the walk and the profile's block, 16 and 17 by the values and the room; after any other code than 0 `out` and the
-- words are as they were.
use Rattle.std.specs.Prelude.{Err, Ok}
use Rattle.refusal.specs.Check.{Answer}
use Prim.Native.Nat.{ℕ, ◌≤◌, ◌<◌}
use mathlib.Core.List.{List, [], ◌∷◌}
use mathlib.Core.Logic.Iff
use mathlib.Core.Logic.{◌↔◌, ◌⊎◌}
use mathlib.Core.Path.{◌≡◌, refl, sym, ap, ◌∙◌}
use native.Mathlib.Omega.{arith}
use lib.ListN.{length, take, drop}
use Rattle.refusal.specs.declared.Refusal.{Refusal}
use Rattle.refusal.specs.declared.Refusal.TheVariants as No
use Rattle.refusal.specs.Number.{number_of}
use Rattle.refusal.specs.Words.{code_in}
use Rattle.refusal.proofs.Numbers.{positive, same_number}
use Rattle.lookup.specs.Lookup.{profile_block}
use Rattle.context.specs.Entry.{Entry}
use Rattle.traversal.specs.declared.Walked.TheVariants as Walked
use Rattle.hot_path.specs.HotPath.{Question, PathSlices, value_of, LeavesPath, hot_path_of, hot_path_words, hot_path_code}
use Rattle.hot_path.specs.Facts.{NoneValued, MeetsNotFinite, HotCall, walk_answer, Ready, room, OfTheCall, OfWalk, OfBlock, OfPath}
use Rattle.hot_path.proofs.Says.{says}
use Rattle.words.specs.Convention.{words_in}
use Rattle.words.proofs.Laws.{refused}

-- ---- codes tell answers apart

refused_code : (a : Answer ℕ) (r : Refusal) → (hot_path_code a ≡ number_of r) ↔ (a ≡ Err r)
unfolding code_in
refused_code (Ok n) r = (λ e. absurd (omega (arith, positive r)), λ h. absurd (let z : ◌≡◌ {A = ℕ} 0 1 = cc in omega arith))
refused_code (Err s) r = (λ e. ap Err (same_number s r e), λ h. let q : s ≡ r = cc in ap number_of q)

answered_code : (a : Answer ℕ) → (hot_path_code a ≡ 0) ↔ ((n : ℕ) × (a ≡ Ok n))
unfolding code_in
answered_code (Ok n) = (λ e. (n, refl), λ h. refl)
answered_code (Err s) = (λ e. absurd (omega (arith, positive s)), λ h. absurd (let z : ◌≡◌ {A = ℕ} 0 1 = cc in omega arith))

-- `out` after each
out_answered : (was : List ℕ) (n : ℕ) → words_in was (hot_path_words (Ok n)) ≡ n ∷ []
unfolding words_in
out_answered was n = refl

out_refused : (was : List ℕ) (r : Refusal) → words_in was (hot_path_words (Err r)) ≡ was
out_refused was r = sym (refused was r [] refl refl).1

told : (a : Answer ℕ) → (hot_path_code a ≡ 0 → ⊥) → (r : Refusal) × (a ≡ Err r)
unfolding code_in
told (Ok n) h = absurd (h refl)
told (Err r) h = (r, refl)

-- ---- a call from C

module _ {q : Question} {was now : PathSlices} {code : ℕ} (l : LeavesPath hot_path_code q was code now) where
  -- with the answer that the code tells
  abbrev pub hot_call_of : HotCall
  hot_call_of = record {
    question = q;
    was = was;
    answer = hot_path_of q was;
    now = now;
    promised = record { answers = refl; walked = l.walked; placed = l.placed };
  }

  abbrev c : HotCall
  c = hot_call_of

  by_refusal : (r : Refusal) → (code ≡ number_of r) ↔ (hot_path_of q was ≡ Err r)
  by_refusal r = (λ e. (refused_code (hot_path_of q was) r).0 (sym l.answers ∙ e), λ e. l.answers ∙ (refused_code (hot_path_of q was) r).1 e)

  by_answer : (code ≡ 0) ↔ ((n : ℕ) × (hot_path_of q was ≡ Ok n))
  by_answer = (λ e. (answered_code (hot_path_of q was)).0 (sym l.answers ∙ e), λ h. l.answers ∙ (answered_code (hot_path_of q was)).1 h)

  pub hot_code_0 : (code ≡ 0) ↔ ((m : List Entry) × (path : List ℕ) × Ready c m × OfTheCall c m path × (length path ≤ room c))
  hot_code_0 = (
    λ e. let (n, h) = by_answer.0 e in let (m, path, r, p, k, f) = ((says c).answered n).0 h in (m, path, r, p, omega (arith, k, f)),
    λ (m, path, r, p, f). by_answer.1 (length path, ((says c).answered (length path)).1 (m, path, r, p, refl, f)),
  )

  pub hot_code_16 : (m : List Entry) → Ready c m → (code ≡ 16) ↔ ((path : List ℕ) × MeetsNotFinite (value_of q) m path)
  hot_code_16 m r = Iff.trans (by_refusal No.NotFinite) ((says c).says_16 m r)

  pub hot_code_17 : (m : List Entry) → Ready c m → (code ≡ 17) ↔ ((path : List ℕ) × OfTheCall c m path × (room c < length path))
  hot_code_17 m r = Iff.trans (by_refusal No.Room) ((says c).says_17 m r)

  -- those before it: the walk's own, 17 where it is cut, those of the profile's block
  pub hot_walk_refused : (r : Refusal) (n : ℕ) → walk_answer c ≡ Walked.Refused r n → code ≡ number_of r
  hot_walk_refused r n e = (by_refusal r).1 ((says c).walk_refused r n e)

  pub hot_walk_cut : (n : ℕ) → walk_answer c ≡ Walked.Truncated n → code ≡ 17
  hot_walk_cut n e = (by_refusal No.Room).1 ((says c).walk_cut n e)

  pub hot_block_refused : (n : ℕ) (r : Refusal) → walk_answer c ≡ Walked.Complete n → profile_block q.db q.profile ≡ Err r
      → code ≡ number_of r
  hot_block_refused n r e b = (by_refusal r).1 ((says c).block_refused n e r b)

  -- and no other
  pub hot_codes : (code ≡ 0 → ⊥) → (r : Refusal) × (code ≡ number_of r) × (OfWalk c r ⊎ (OfBlock c r ⊎ OfPath c r))
  hot_codes h =
      let (r, e) = told (hot_path_of q was) (λ z. h (l.answers ∙ z)) in
      (r, (by_refusal r).1 e, (says c).refused_by r e)

  module _ (before : List ℕ) {after : List ℕ} (o : after ≡ words_in before (hot_path_words (hot_path_of q was))) where
    -- the path stands in the first words, and `out` has their number
    pub hot_written : code ≡ 0
        → (n : ℕ) × (after ≡ n ∷ []) × ((m : List Entry) × Ready c m × OfTheCall c m (take n now.path) × (drop n now.path ≡ drop n was.path))
    hot_written e =
        let (n, h) = by_answer.0 e in
        (n, o ∙ ap (λ (a : Answer ℕ). words_in before (hot_path_words a)) h ∙ out_answered before n, (says c).written n h)

    pub hot_empty : ((code ≡ 0) × (after ≡ 0 ∷ [])) ↔ ((m : List Entry) × Ready c m × NoneValued (value_of q) m 0)
    hot_empty = (
      λ (e, z). let (n, h) = by_answer.0 e in
          let same : (n ∷ []) ≡ 0 ∷ [] = sym (o ∙ ap (λ (a : Answer ℕ). words_in before (hot_path_words a)) h ∙ out_answered before n) ∙ z in
          let none : n ≡ 0 = cc in (says c).empty.0 (h ∙ ap Ok none),
      λ x. let h = (says c).empty.1 x in
          (by_answer.1 (0, h), o ∙ ap (λ (a : Answer ℕ). words_in before (hot_path_words a)) h ∙ out_answered before 0),
    )

    pub hot_untouched : (code ≡ 0 → ⊥) → (after ≡ before) × (now.path ≡ was.path)
    hot_untouched h =
        let (r, e) = told (hot_path_of q was) (λ z. h (l.answers ∙ z)) in
        (o ∙ ap (λ (a : Answer ℕ). words_in before (hot_path_words a)) e ∙ out_refused before r, (says c).untouched r e)
