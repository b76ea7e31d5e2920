-- What a C program learns of a walk, from a mark or without one, by its code and `out`: 0 that the trail ends whole, a refusal's number that
-- it ends so, and in both that all of it is listed; 101 that it has more contexts than the listing has words; 17 and 18 by the mark rules
-- alone; and always how many are listed. Of the records: whose child each context is.
use Rattle.refusal.specs.Check.{Passed}
use Prim.Native.Nat.{ℕ, ◌≤◌, ◌<◌}
use mathlib.Core.Bool.{true}
use mathlib.Core.List.{List, [], ◌∷◌}
use mathlib.Core.Logic.Iff
use mathlib.Core.Logic.{◌↔◌}
use mathlib.Core.Path.{◌≡◌, refl, sym, ap, ◌∙◌}
use native.Mathlib.Omega.{arith}
use lib.ListN.{length}
use Rattle.refusal.specs.declared.Refusal.{Refusal}
use Rattle.refusal.specs.declared.Refusal.TheVariants as No
use Rattle.refusal.specs.Number.{number_of}
use Rattle.refusal.specs.Words.{code_in}
use Rattle.refusal.proofs.Numbers.{positive, small, same_number}
use Rattle.open.specs.Format.{meta}
use Rattle.open.specs.Opening.{opening}
use Rattle.context.specs.Entry.{Entry}
use Rattle.traversal.specs.declared.Walked.{Walked}
use Rattle.traversal.specs.declared.Walked.TheVariants.{Complete, Truncated, Refused}
use Rattle.traversal.specs.Traversal.{Marks, Outcome, on, cut, refused}
use Rattle.traversal.specs.Walk.{trail_from, walked_of, number_listed, walked_words, Slices, LeavesFrom}
use Rattle.traversal.specs.Demand3.{Call, call_of, asked, listed_number, trail, OneWalk}
use Rattle.traversal.specs.Joined.{Roomy, MarkFails}
use Rattle.traversal.specs.Parents.{Parents}
use Rattle.traversal.proofs.Demand3.{not_cut, demand3}
use Rattle.traversal.proofs.Outcomes.{outcomes}
use Rattle.traversal.proofs.Parents.{parents}

-- ---- codes tell answers apart

refused_code : (w : Walked) (r : Refusal) → (code_in (walked_words w) ≡ number_of r) ↔ ((n : ℕ) × (w ≡ Refused r n))
unfolding code_in walked_words
refused_code (Complete n) r = (λ e. absurd (omega (arith, positive r)), λ h. absurd (let z : ◌≡◌ {A = ℕ} 0 1 = cc in omega arith))
refused_code (Truncated n) r = (λ e. absurd (omega (arith, small r)), λ h. absurd (let z : ◌≡◌ {A = ℕ} 0 1 = cc in omega arith))
refused_code (Refused s n) r = (λ e. (n, ap (λ (x : Refusal). Refused x n) (same_number s r e)), λ h. let q : s ≡ r = cc in ap number_of q)

cut_code : (w : Walked) → (code_in (walked_words w) ≡ 101) ↔ (w ≡ Truncated (number_listed w))
unfolding code_in walked_words
cut_code (Complete n) = (λ e. absurd (omega arith), λ h. absurd (let z : ◌≡◌ {A = ℕ} 0 1 = cc in omega arith))
cut_code (Truncated n) = (λ e. refl, λ h. refl)
cut_code (Refused s n) = (λ e. absurd (omega (arith, small s)), λ h. absurd (let z : ◌≡◌ {A = ℕ} 0 1 = cc in omega arith))

whole_code : (w : Walked) → (code_in (walked_words w) ≡ 0) ↔ (w ≡ Complete (number_listed w))
unfolding code_in walked_words
whole_code (Complete n) = (λ e. refl, λ h. refl)
whole_code (Truncated n) = (λ e. absurd (omega arith), λ h. absurd (let z : ◌≡◌ {A = ℕ} 0 1 = cc in omega arith))
whole_code (Refused s n) = (λ e. absurd (omega (arith, positive s)), λ h. absurd (let z : ◌≡◌ {A = ℕ} 0 1 = cc in omega arith))

both_words : (w : Walked) → walked_words w ≡ code_in (walked_words w) ∷ number_listed w ∷ []
unfolding code_in walked_words
both_words (Complete n) = refl
both_words (Truncated n) = refl
both_words (Refused s n) = refl

-- ---- of a call

module _ {file : List ℕ} (c : Call file) (one : OneWalk c) where
  abbrev room : ℕ
  room = length c.was.listing

  whole_end : (c.answer ≡ Complete (listed_number c)) ↔ ((l : List Entry) × (trail_from (asked c) ≡ on l) × (length l ≤ room))
  unfolding walked_of
  whole_end = (λ e. go e (trail_from (asked c)) refl (not_cut c (λ n q. let z : ◌≡◌ {A = ℕ} 0 1 = cc in omega arith)), back)
    where
      back : (l : List Entry) × (trail_from (asked c) ≡ on l) × (length l ≤ room) → c.answer ≡ Complete (listed_number c)
      back (l, e, h) =
          let ends : c.answer ≡ Complete (length l) = one.gives_end (rw e h) ∙ ap walked_of e in
          ends ∙ ap (λ (w : Walked). Complete (number_listed w)) (sym ends)

      go : c.answer ≡ Complete (listed_number c) → (o : Outcome) → trail_from (asked c) ≡ o
          → (length (trail c) ≤ room) × (c.answer ≡ walked_of (trail_from (asked c)))
          → (l : List Entry) × (trail_from (asked c) ≡ on l) × (length l ≤ room)
      go e (on l) t h = (l, t, rw t at h.0)
      go e (cut l) t h = let q = h.1 ∙ ap walked_of t in absurd (let z : ◌≡◌ {A = ℕ} 0 1 = cc in omega arith)
      go e (refused r l) t h = let q = h.1 ∙ ap walked_of t in absurd (let z : ◌≡◌ {A = ℕ} 0 1 = cc in omega arith)

  refused_end : (r : Refusal) → ((n : ℕ) × (c.answer ≡ Refused r n)) ↔ ((l : List Entry) × (trail_from (asked c) ≡ refused r l) × (length l ≤ room))
  unfolding walked_of
  refused_end r = (λ x. go x.0 x.1 (trail_from (asked c)) refl (not_cut c (λ n q. let e = x.1 in let z : ◌≡◌ {A = ℕ} 0 1 = cc in omega arith)), back)
    where
      back : (l : List Entry) × (trail_from (asked c) ≡ refused r l) × (length l ≤ room) → (n : ℕ) × (c.answer ≡ Refused r n)
      back (l, e, h) = (length l, one.gives_end (rw e h) ∙ ap walked_of e)

      go : (n : ℕ) → c.answer ≡ Refused r n → (o : Outcome) → trail_from (asked c) ≡ o
          → (length (trail c) ≤ room) × (c.answer ≡ walked_of (trail_from (asked c)))
          → (l : List Entry) × (trail_from (asked c) ≡ refused r l) × (length l ≤ room)
      go n e (on l) t h = let q = h.1 ∙ ap walked_of t in absurd (let z : ◌≡◌ {A = ℕ} 0 1 = cc in omega arith)
      go n e (cut l) t h = let q = h.1 ∙ ap walked_of t in absurd (let z : ◌≡◌ {A = ℕ} 0 1 = cc in omega arith)
      go n e (refused s l) t h =
          let q = sym e ∙ h.1 ∙ ap walked_of t in
          let same : s ≡ r = cc in
          (l, t ∙ ap (λ (x : Refusal). refused x l) same, rw t at h.0)

-- of hpcdb_meta_walk_from; and of the two walks without a mark, whose promises are the same for `unmarked`
module _ (file : List ℕ) (m : Marks) (was : Slices) (code : ℕ) (out : List ℕ) (now : Slices) (l : LeavesFrom walked_words file m was (code ∷ out) now) where
  abbrev pub walk_call : Call file
  walk_call = call_of l

  code_is : code ≡ code_in (walked_words walk_call.answer)
  unfolding code_in
  code_is = ap code_in l.answers

  pub walk_out : out ≡ listed_number walk_call ∷ []
  walk_out = let e = l.answers ∙ both_words walk_call.answer in cc

  pub walk_code_0 : (code ≡ 0) ↔ ((l : List Entry) × (trail_from (asked walk_call) ≡ on l) × (length l ≤ length was.listing))
  walk_code_0 = rw code_is (Iff.trans (whole_code walk_call.answer) (whole_end walk_call (demand3.one file walk_call)))

  pub walk_code_refused : (r : Refusal)
      → (code ≡ number_of r) ↔ ((l : List Entry) × (trail_from (asked walk_call) ≡ refused r l) × (length l ≤ length was.listing))
  walk_code_refused r = rw code_is (Iff.trans (refused_code walk_call.answer r) (refused_end walk_call (demand3.one file walk_call) r))

  pub walk_code_101 : (code ≡ 101) ↔ (length was.listing < length (trail walk_call))
  walk_code_101 = rw code_is (Iff.trans (cut_code walk_call.answer) (demand3.one file walk_call).says-cut)

  pub walk_code_17 : (code ≡ 17) ↔ ((m.asks ≡ true) × (length was.mark < 805))
  walk_code_17 = rw code_is (Iff.trans (refused_code walk_call.answer No.Room) (outcomes walk_call).says_17)

  pub walk_code_18 : (code ≡ 18) ↔ (Roomy walk_call × (opening meta file ≡ Passed) × MarkFails walk_call)
  walk_code_18 = rw code_is (Iff.trans (refused_code walk_call.answer No.Mark) (outcomes walk_call).says_18)

  -- a walk reads no string
  pub walk_code_19 : code ≡ 19 → ⊥
  walk_code_19 = rw code_is (λ e. let h = (refused_code walk_call.answer No.Spelling).0 e in (outcomes walk_call).never_19 h.0 h.1)

  -- the last word of each record
  pub walk_parents : Parents walk_call
  walk_parents = parents walk_call
