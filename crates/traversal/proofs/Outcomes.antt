-- Each outcome of a walk from a mark. What the rules before the trail refuse leaves all as it was; a mark that is not passed leaves an empty
-- table; one that is passed leads on from just after its context, and a new one stands at the start of its slice, which has room for each.
use Rattle.std.specs.Prelude.{Err}
use Prim.Native.Nat.{ℕ, zero, suc, ◌≤◌, ◌<◌}
use mathlib.Core.Bool.{Bool, true, false, ◌&&◌, and-false, true≢false}
use mathlib.Core.List.{List, [], ◌∷◌, ◌++◌, map, append_assoc}
use mathlib.Core.Logic.{◌↔◌, ◌⊎◌, inl, inr}
use mathlib.Core.Path.{◌≡◌, refl, sym, ap, ap₂, ◌∙◌, subst}
use native.Mathlib.Nat.{not-suc-le-zero, le_of_suc-le-suc}
use native.Mathlib.Omega.{arith}
use borrow.Author.Tests.{leb-true}
use lib.ListN.{length, take, drop, get_or, length-append}
use Rattle.refusal.specs.declared.Refusal.{Refusal}
use Rattle.refusal.specs.declared.Refusal.TheVariants as No
use Rattle.refusal.specs.Check.{either, rule, Check, on_answer, Passed}
use Rattle.refusal.specs.Number.{number_of}
use Rattle.buffer.specs.Over.{over}
use Rattle.buffer.proofs.Laws.{drop_over}
use Rattle.open.specs.Format.{meta}
use Rattle.open.specs.Opening.{opening}
use Rattle.seq.specs.Lists.{In, Distinct}
use Rattle.layout.specs.Octets.{Octets}
use Rattle.mark.specs.Mark.{encode, malformed, decode, is_named}
use Rattle.mark.proofs.Bytes.{encode_decode, decoded_shallow, mark_stands}
use Rattle.context.specs.Entry.{Entry}
use Rattle.traversal.specs.Traversal.{Asked, Outcome, on, cut, refused, list_of, traversal}
use Rattle.traversal.specs.declared.Walked.TheVariants.{Refused}
use Rattle.traversal.specs.From.{path_of, same_path, marks_of, skipped, is_passed, after_mark, up_to_mark, with_list, unpassed, from_mark, last_path}
use Rattle.traversal.specs.Walk.{walk_check, given_path, trail_from, walk_of, mark_passed, new_path, reached, walked_of, number_listed}
use Rattle.traversal.specs.Walk.{place_of, slots_with, table_with, words_of, records_with, mark_after}
use Rattle.traversal.specs.Demand3.{Call, asked, listed_number, trail, listed, Untouched, OneWalk}
use Rattle.traversal.specs.Joined.{OnTrail, Roomy, Begun, Cleared, contexts, MarkFails, fitting, ListsAndFills, Outcomes}
use Rattle.traversal.proofs.From.{list_with, with_own, from_passed, from_unpassed, root_skipped, root_passed, root_after}
use Rattle.traversal.proofs.Keeps.{snoc}
use Rattle.traversal.proofs.Untouched.{nothing_recorded}
use Rattle.traversal.proofs.Passing.{passed_append, marks_passed, marks_unpassed, marks_found}
use Rattle.traversal.proofs.Preorder.{paths_distinct}
use Rattle.traversal.proofs.Cut.{truncate_short}
use Rattle.traversal.proofs.Grows.{is_cut, never_cut}
use Rattle.traversal.proofs.Places.{mark_at, same_refl, skipped_mark, mark_skipped}
use Rattle.traversal.proofs.Join.{up_to_passed, new_path_all, reached_unpassed}
use Rattle.traversal.proofs.Small.{contexts_shallow}
use Rattle.traversal.proofs.Demand3.{lists_first, same_listed, not_cut, filled, demand3}
use Rattle.traversal.proofs.Rules.{ShortRoom, IllFormed, check_refused, check_told, roomy_check, no_room_check, begun_passes, begun_path, mark-passed}
use Rattle.traversal.proofs.Refusals.{traversal_low}

-- ---- a mark is passed exactly if its context is on the list

passed_here : (path : List ℕ) (x y : List Entry) (e : Entry) → e.path ≡ path → is_passed path (x ++ (e ∷ y)) ≡ true
passed_here path x y e q = go (is_passed path x) refl
  where
    go : (b : Bool) → is_passed path x ≡ b → is_passed path (x ++ (e ∷ y)) ≡ true
    go true h = passed_append path x (e ∷ y) h
    go false h =
        let same = subst (λ (p : List ℕ). same_path path p ≡ true) (sym q) (same_refl path) in
        let one = marks_found path x e ((marks_unpassed path x).1 h) same in
        subst (λ (l : List Entry). is_passed path l ≡ true) (append_assoc x (e ∷ []) y)
        (passed_append path (snoc x e) y ((marks_passed path (snoc x e)).0 (omega (arith, one))))

on_passed : (path : List ℕ) (l : List Entry) → OnTrail path l → is_passed path l ≡ true
on_passed path l (inl e) = subst (λ (p : List ℕ). is_passed p l ≡ true) (sym e) (root_passed l)
on_passed path l (inr (e, i, q)) = subst (λ (m : List Entry). is_passed path m ≡ true) (sym i.2) (passed_here path i.0 i.1 e q)

-- the context with number n
context-at : (l : List Entry) (n : ℕ) → n < length l → (e : Entry) × In e l × (e.path ≡ get_or (map path_of l) n [])
context-at [] n h = absurd (not-suc-le-zero h)
context-at (e ∷ l) zero h = (e, ([], l, refl), refl)
context-at (e ∷ l) (suc n) h =
    let r = context-at l n (le_of_suc-le-suc h) in
    (r.0, (e ∷ r.1.0, r.1.1, ap (◌∷◌ e) r.1.2), r.2)

passed_on : (path : List ℕ) (l : List Entry) → is_passed path l ≡ true → OnTrail path l
unfolding is_passed
passed_on path l h = go (skipped path l) (leb-true (skipped path l) (length l) h) (mark_skipped path l (leb-true (skipped path l) (length l) h))
  where
    go : (n : ℕ) → n ≤ length l → get_or ([] ∷ map path_of l) n [] ≡ path → OnTrail path l
    go zero k e = inl (sym e)
    go (suc n) k e = let r = context-at l n k in inr (r.0, r.1, r.2 ∙ e)

-- where a context divides a list
drop_past : (x : List Entry) (e : Entry) (y : List Entry) → drop (suc (length x)) (x ++ (e ∷ y)) ≡ y
drop_past [] e y = refl
drop_past (z ∷ x) e y = drop_past x e y

take_past : (x : List Entry) (e : Entry) (y : List Entry) → take (suc (length x)) (x ++ (e ∷ y)) ≡ x ++ (e ∷ [])
take_past [] e y = refl
take_past (z ∷ x) e y = ap (◌∷◌ z) (take_past x e y)

mark_past : (x : List Entry) (e : Entry) (y : List Entry) → get_or (map path_of (x ++ (e ∷ y))) (length x) [] ≡ e.path
mark_past [] e y = refl
mark_past (z ∷ x) e y = mark_past x e y

skipped_at : (path : List ℕ) (x : List Entry) (e : Entry) (y l : List Entry) → l ≡ x ++ (e ∷ y) → e.path ≡ path → Distinct (marks_of l)
    → skipped path l ≡ suc (length x)
skipped_at path x e y l q p d =
    let there : mark_at l (suc (length x)) ≡ path = ap (λ (m : List Entry). get_or (map path_of m) (length x) []) q ∙ mark_past x e y ∙ p in
    ap (λ (r : List ℕ). skipped r l) (sym there)
    ∙ skipped_mark l (suc (length x)) d (omega (arith, ap length q, length-append x (e ∷ y)))

not_on : (path : List ℕ) (l : List Entry) → (OnTrail path l → ⊥) → is_passed path l ≡ false
not_on path l f = go (is_passed path l) refl
  where
    go : (b : Bool) → is_passed path l ≡ b → is_passed path l ≡ false
    go true e = absurd (f (passed_on path l e))
    go false e = e

module _ {file : List ℕ} (c : Call file) where
  abbrev a : Asked
  a = asked c

  one : OneWalk c
  one = demand3.one file c

  -- ---- a mark that is not passed

  module _ (check : walk_check a ≡ Passed) (lost : is_passed (given_path a) (list_of (traversal a)) ≡ false) (r : Refusal)
      (ends : unpassed (traversal a) ≡ refused r []) where
    trail_end : trail_from a ≡ refused r []
    unfolding trail_from on_answer
    trail_end = rw check (from_unpassed (given_path a) (traversal a) lost ∙ ends)

    walk_end : walk_of a ≡ refused r []
    unfolding walk_of
    walk_end = rw trail_end (truncate_short (length c.was.listing) (refused r []) (omega arith))

    cleared : Cleared c r
    unfolding walked_of table_with slots_with records_with words_of mark_after either
    cleared =
        let short : length (trail c) ≤ length c.was.listing = omega (arith, ap (λ (o : Outcome). length (list_of o)) trail_end) in
        let answers = one.gives_end short ∙ ap walked_of trail_end in
        let none : listed_number c ≡ 0 = ap number_listed answers in (
          answers,
          rw none at one.beyond,
          filled c check ∙ rw (reached_unpassed a check lost),
          c.promised.recorded ∙ nothing_recorded c.was.records (list_of (walk_of a)) (ap list_of walk_end),
          c.promised.marked ∙ rw (mark-passed a check ∙ lost, and-false),
        )

  -- ---- whether it is passed

  after_check : walk_check a ≡ Passed → is_passed (given_path a) (list_of (traversal a)) ≡ true
      → trail_from a ≡ with_list (traversal a) (after_mark (given_path a) (list_of (traversal a)))
  unfolding trail_from on_answer
  after_check check p = rw check (from_passed (given_path a) (traversal a) p)

  unpassed_ends : (o : Outcome) → is_cut o ≡ false → (r : Refusal) × (unpassed o ≡ refused r [])
  unpassed_ends (on l) e = (No.Mark, refl)
  unpassed_ends (cut l) e = absurd (true≢false e)
  unpassed_ends (refused r l) e = (r, refl)

  refuses : mark_passed a ≡ false → (r : Refusal) × (c.answer ≡ Refused r 0)
  refuses h = go (walk_check a) refl
    where
      go : (v : Check) → walk_check a ≡ v → (r : Refusal) × (c.answer ≡ Refused r 0)
      go Passed e =
          let end = unpassed_ends (traversal a) (never_cut a) in
          (end.0, (cleared e (sym (mark-passed a e) ∙ h) end.0 end.1).0)
      go (Err r) e = (r, (one.not_begun r e).0)

  -- so it is wherever the walk ends in another way
  else_passed : ((r : Refusal) → c.answer ≡ Refused r 0 → ⊥) → mark_passed a ≡ true
  else_passed f = go (mark_passed a) refl
    where
      go : (b : Bool) → mark_passed a ≡ b → mark_passed a ≡ true
      go true e = e
      go false e = let r = refuses e in absurd (f r.0 r.1)

  -- ---- a new mark

  pub handed_out : c.marks.asks ≡ true → mark_passed (asked c) ≡ true → c.now.mark ≡ over c.was.mark 0 (encode (new_path (asked c)))
  unfolding mark_after either
  handed_out e h =
      c.promised.marked ∙ ap₂ (λ (s t : Bool). either (s && t) (over c.was.mark 0 (encode (new_path a))) c.was.mark) e h

  pub new_shallow : walk_check (asked c) ≡ Passed → length (new_path (asked c)) ≤ 200
  new_shallow check = new_path_all a check (λ path. length path ≤ 200) (decoded_shallow c.marks.given) (contexts_shallow a)

  module _ (path : List ℕ) (b : Begun c path) (t : OnTrail path (contexts c)) where
    begun_check : walk_check a ≡ Passed
    begun_check = begun_passes c path b

    begun_passed : is_passed (given_path a) (contexts c) ≡ true
    begun_passed = ap (λ (p : List ℕ). is_passed p (contexts c)) (begun_path c path b) ∙ on_passed path (contexts c) t

    leads_on : trail_from a ≡ with_list (traversal a) (after_mark path (contexts c))
    unfolding trail_from on_answer
    leads_on =
        rw begun_check (ap (λ (p : List ℕ). from_mark p (traversal a)) (begun_path c path b)
        ∙ from_passed path (traversal a) (on_passed path (contexts c) t))

    reaches : reached a ≡ take (skipped path (contexts c)) (contexts c) ++ listed c
    reaches =
        one.up_to (mark-passed a begun_check ∙ begun_passed)
        ∙ ap (λ (p : List ℕ). up_to_mark p (contexts c) ++ listed c) (begun_path c path b)
        ∙ ap (λ (l : List Entry). l ++ listed c) (up_to_passed path (contexts c) (on_passed path (contexts c) t))

    abbrev Stays : List ℕ → Type 0
    Stays p =
        (take (length (encode p)) c.now.mark ≡ encode p)
        × (drop (length (encode p)) c.now.mark ≡ drop (length (encode p)) c.was.mark)

    stands_new : c.marks.asks ≡ true → Stays (last_path path (listed c))
    unfolding new_path
    stands_new e =
        let new : new_path a ≡ last_path path (listed c) =
        ap (λ (q : List ℕ). last_path q (list_of (walk_of a))) (begun_path c path b) ∙ ap (last_path path) (same_listed c) in
        let now = handed_out e (mark-passed a begun_check ∙ begun_passed) in
        subst Stays new (
          rw now (mark_stands (new_path a) c.was.mark (new_shallow begun_check) (b.roomy e)),
          rw now (drop_over c.was.mark 0 (encode (new_path a)) (length (encode (new_path a))) (omega arith)),
        )

    -- where none is listed, the mark that was given
    stands_again : c.marks.asks ≡ true → listed_number c ≡ 0 → 0 < length c.marks.given → Octets c.marks.given
        → take (length c.marks.given) c.now.mark ≡ c.marks.given
    unfolding last_path
    stands_again e none some octets =
        let empty : listed c ≡ [] = ap (λ (n : ℕ). take n (trail c)) none in
        let same : encode (last_path path (listed c)) ≡ c.marks.given =
        ap (λ (l : List Entry). encode (last_path path l)) empty ∙ encode_decode c.marks.given octets path some b.names in
        rw same at (stands_new e).0

  -- ---- 17 and 18 for nothing else

  ends_low : (r : Refusal) (n : ℕ) (o : Outcome) → traversal a ≡ o → (x : List Entry) → walked_of (with_list o x) ≡ Refused r n → number_of r ≤ 14
  unfolding walked_of
  ends_low r n (on l) e x q = absurd (let z : ◌≡◌ {A = ℕ} 0 1 = cc in omega arith)
  ends_low r n (cut l) e x q = absurd (let z : ◌≡◌ {A = ℕ} 0 1 = cc in omega arith)
  ends_low r n (refused s l) e x q = let same : s ≡ r = cc in omega (arith, traversal_low a s l e, ap number_of same)

  -- the mark's context is not on the trail, which ends whole
  pub record NotOnTrail : Type 0 where
    pub begun : walk_check a ≡ Passed
    pub all : List Entry
    pub whole : traversal a ≡ on all
    pub not_there : is_passed (given_path a) all ≡ false

  high : (r : Refusal) (n : ℕ) → c.answer ≡ Refused r n → 15 ≤ number_of r → (walk_check a ≡ Err r) ⊎ ((r ≡ No.Mark) × NotOnTrail)
  high r n q h = go (walk_check a) refl (is_passed (given_path a) (list_of (traversal a))) refl (traversal a) refl
    where
      go : (v : Check) → walk_check a ≡ v → (b : Bool) → is_passed (given_path a) (list_of (traversal a)) ≡ b → (o : Outcome) → traversal a ≡ o
          → (walk_check a ≡ Err r) ⊎ ((r ≡ No.Mark) × NotOnTrail)
      go (Err s) e b p o t =
          let answers = (one.not_begun s e).0 in
          let same : s ≡ r = cc in
          inl (e ∙ ap Err same)
      go Passed e true p o t =
          let ends = sym (not_cut c (λ m t. let z : ◌≡◌ {A = ℕ} 0 1 = cc in omega arith)).1 ∙ q in
          absurd (omega (
            arith,
            ends_low r n (traversal a) refl (after_mark (given_path a) (list_of (traversal a)))
                (sym (ap walked_of (after_check e p)) ∙ ends),
            h,
          ))
      go Passed e false p (on l) t =
          let answers = (cleared e p No.Mark (ap unpassed t)).0 in
          let same : No.Mark ≡ r = cc in
          inr (sym same, record { begun = e; all = l; whole = t; not_there = ap (λ (x : Outcome). is_passed (given_path a) (list_of x)) (sym t) ∙ p })
      go Passed e false p (cut l) t = absurd (true≢false (ap is_cut (sym t) ∙ never_cut a))
      go Passed e false p (refused s l) t =
          let answers = (cleared e p s (ap unpassed t)).0 in
          let same : s ≡ r = cc in
          absurd (omega (arith, traversal_low a s l t, ap number_of same, h))

  -- ---- all of them

  lost_on : (path : List ℕ) → Begun c path → (o : Outcome) → traversal a ≡ o → (OnTrail path (list_of o) → ⊥)
      → is_passed (given_path a) (list_of (traversal a)) ≡ false
  lost_on path b o e f =
      ap (λ (x : Outcome). is_passed (given_path a) (list_of x)) e ∙ ap (λ (p : List ℕ). is_passed p (list_of o)) (begun_path c path b)
      ∙ not_on path (list_of o) f

  -- the contexts listed are those of the trail that have a word
  with_words : (l : List Entry) → trail c ≡ l → listed c ≡ fitting c l
  with_words l e = sym (same_listed c) ∙ lists_first a ∙ ap (fitting c) e

  holds : (path : List ℕ) → Begun c path → (l m : List Entry) → trail c ≡ l → reached a ≡ m → ListsAndFills c l m
  holds path b l m e r = (
    one.from_first ∙ ap (map place_of) (with_words l e),
    filled c (begun_passes c path b) ∙ ap (λ (k : List Entry). table_with k (length c.was.table)) r,
  )

  from_depth_0 : Begun c [] → (trail_from a ≡ traversal a) × ListsAndFills c (contexts c) (fitting c (contexts c))
  unfolding after_mark
  from_depth_0 b =
      let end = leads_on [] b (inl refl) ∙ ap (with_list (traversal a)) (root_after (contexts c)) ∙ with_own (traversal a) in
      let same = ap list_of end in
      let all = reaches [] b (inl refl) ∙ ap (λ (n : ℕ). take n (contexts c) ++ listed c) (root_skipped (contexts c)) in
      (end, holds [] b (contexts c) (fitting c (contexts c)) same (all ∙ with_words (contexts c) same))

  from_context : (path : List ℕ) → Begun c path → (before : List Entry) (e : Entry) (after : List Entry) → contexts c ≡ before ++ (e ∷ after)
      → e.path ≡ path → (trail_from a ≡ with_list (traversal a) after) × ListsAndFills c after (before ++ (e ∷ fitting c after))
  unfolding after_mark
  from_context path b before e after q p =
      let t : OnTrail path (contexts c) = inr (e, (before, after, q), p) in
      let n : skipped path (contexts c) ≡ suc (length before) = skipped_at path before e after (contexts c) q p (paths_distinct a) in
      let end = leads_on path b t ∙ ap (with_list (traversal a)) (ap₂ drop n q ∙ drop_past before e after) in
      let same = ap list_of end ∙ list_with (traversal a) after in
      let up_to = reaches path b t ∙ ap (λ (l : List Entry). l ++ listed c) (ap₂ take n q ∙ take_past before e after)
      ∙ append_assoc before (e ∷ []) (listed c) in
      (end, holds path b after (before ++ (e ∷ fitting c after)) same (up_to ∙ ap (λ (l : List Entry). before ++ (e ∷ l)) (with_words after same)))

  no_room_17 : c.marks.asks ≡ true → length c.was.mark < 805 → Untouched c No.Room
  no_room_17 e l = one.not_begun No.Room (no_room_check c e l)

  ill_formed_18 : Roomy c → opening meta file ≡ Passed → decode c.marks.given ≡ malformed → Untouched c No.Mark
  unfolding rule is_named
  ill_formed_18 h e m = one.not_begun No.Mark (roomy_check c h ∙ rw (e, m))

  missing_18 : (path : List ℕ) → Begun c path → (l : List Entry) → traversal a ≡ on l → (OnTrail path l → ⊥) → Cleared c No.Mark
  missing_18 path b l e f = cleared (begun_passes c path b) (lost_on path b _ e f) No.Mark (ap unpassed e)

  only_17 : ((n : ℕ) × (c.answer ≡ Refused No.Room n)) ↔ ((c.marks.asks ≡ true) × (length c.was.mark < 805))
  only_17 = (λ x. go (high No.Room x.0 x.1 (omega arith)), λ x. (0, (no_room_17 x.0 x.1).0))
    where
      go : (walk_check a ≡ Err No.Room) ⊎ ((No.Room ≡ No.Mark) × NotOnTrail) → (c.marks.asks ≡ true) × (length c.was.mark < 805)
      go (inl e) = of (check_refused a No.Room e (omega arith))
        where
          of : ((No.Room ≡ No.Room) × ShortRoom a) ⊎ ((No.Room ≡ No.Mark) × IllFormed a) → (c.marks.asks ≡ true) × (length c.was.mark < 805)
          of (inl s) = (s.1.asks, s.1.short)
          of (inr s) = absurd (omega (arith, ap number_of s.0))
      go (inr s) = absurd (omega (arith, ap number_of s.0))

  no_spelling : (n : ℕ) → c.answer ≡ Refused No.Spelling n → ⊥
  no_spelling n q = go (high No.Spelling n q (omega arith))
    where
      go : (walk_check a ≡ Err No.Spelling) ⊎ ((No.Spelling ≡ No.Mark) × NotOnTrail) → ⊥
      go (inl e) =
          elim (check_refused a No.Spelling e (omega arith)) [ inl s ↦ omega (arith, ap number_of s.0) | inr s ↦ omega (arith, ap number_of s.0) ]
      go (inr s) = omega (arith, ap number_of s.0)

  only_18 : ((n : ℕ) × (c.answer ≡ Refused No.Mark n)) ↔ (Roomy c × (opening meta file ≡ Passed) × MarkFails c)
  only_18 = (λ x. go (high No.Mark x.0 x.1 (omega arith)), λ x. (0, back x.0 x.1 x.2))
    where
      back : Roomy c → opening meta file ≡ Passed → MarkFails c → c.answer ≡ Refused No.Mark 0
      back h e (inl m) = (ill_formed_18 h e m).0
      back h e (inr (path, l, d, t, f)) = (missing_18 path (record { roomy = h; opens = e; names = d }) l t f).0

      go : (walk_check a ≡ Err No.Mark) ⊎ ((No.Mark ≡ No.Mark) × NotOnTrail) → Roomy c × (opening meta file ≡ Passed) × MarkFails c
      go (inl e) = of (check_refused a No.Mark e (omega arith))
        where
          of : ((No.Mark ≡ No.Room) × ShortRoom a) ⊎ ((No.Mark ≡ No.Mark) × IllFormed a) → Roomy c × (opening meta file ≡ Passed) × MarkFails c
          of (inl s) = absurd (omega (arith, ap number_of s.0))
          of (inr s) = (s.1.enough, s.1.opens, inl s.1.ill)
      go (inr s) =
          let told = check_told a s.1.begun in
          let gone : OnTrail (given_path a) s.1.all → ⊥ = λ t. true≢false (sym (on_passed (given_path a) s.1.all t) ∙ s.1.not_there) in
          (told.0, told.1, inr (given_path a, s.1.all, told.2, s.1.whole, gone))

  pub outcomes : Outcomes c
  unfolding rule mark_after either
  outcomes = record {
    no_room = no_room_17;
    not_opened = λ h r e. one.not_begun r (roomy_check c h ∙ rw e);
    ill_formed = ill_formed_18;
    missing = missing_18;
    refused_first = λ path b r l e f. cleared (begun_passes c path b) (lost_on path b _ e f) r (ap unpassed e);
    says_17 = only_17;
    says_18 = only_18;
    never_19 = no_spelling;
    from-roots = from_depth_0;
    goes_on = from_context;
    hands_out = stands_new;
    hands_back = stands_again;
    not_asked = λ e. c.promised.marked ∙ rw e;
    passed_listed = λ some. else_passed (λ r e. omega (arith, ap number_listed e));
    passed_whole = λ n e. else_passed (λ r f. let z : ◌≡◌ {A = ℕ} 0 1 = cc in omega arith);
    passed_cut = λ n e. else_passed (λ r f. let z : ◌≡◌ {A = ℕ} 0 1 = cc in omega arith);
  }
