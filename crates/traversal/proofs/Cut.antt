-- A traversal with room for n contexts after a mark is as much of the whole one as there is room for: up to the mark, and n after it. From
-- the first context on that is the whole one truncated.
use Rattle.std.specs.Prelude.{Err}
use Prim.Native.Nat.{ℕ, suc, ◌+◌, ◌≤◌, ◌<◌}
use mathlib.Core.Bool.{Bool, true, false}
use mathlib.Core.List.{List, [], ◌∷◌}
use mathlib.Core.Path.{◌≡◌, refl, sym, ap, ◌∙◌}
use native.Mathlib.Omega.{arith}
use borrow.Author.Tests.{le-leb, lt-leb, leb-true, leb-false}
use lib.Dec.{ltb, leb, leb-suc-suc}
use lib.ListN.{length, take, length-append}
use lib.Seq.{take_at, take_all}
use Rattle.refusal.specs.Check.{either, Check, Passed}
use Rattle.context.specs.Context.{Targets}
use Rattle.context.specs.Entry.{Entry}
use Rattle.traversal.specs.Demand3.{Begins}
use Rattle.traversal.specs.Traversal.{Asked, Outcome, on, cut, refused, list_of, parameters, endless, limited, visit_check, enter, bind, level}
use Rattle.traversal.specs.From.{skipped, marks_from}
use Rattle.traversal.specs.Walk.{truncate}
use Rattle.traversal.proofs.Begins.{begins_length, take_begins}
use Rattle.traversal.proofs.From.{root_skipped}
use Rattle.traversal.proofs.Keeps.{snoc}
use Rattle.traversal.proofs.Passing.{skipped_append, marks_next}
use Rattle.traversal.proofs.Grows.{Grows}
use Rattle.traversal.proofs.Alike.{alike_level}

pub truncate_short : (n : ℕ) (o : Outcome) → length (list_of o) ≤ n → truncate n o ≡ o
unfolding truncate either
truncate_short n o h = rw (le-leb (length (list_of o)) n h)

pub truncate_long : (n : ℕ) (o : Outcome) → n < length (list_of o) → truncate n o ≡ cut (take n (list_of o))
unfolding truncate either
truncate_long n o h = rw (lt-leb (length (list_of o)) n h)

-- one that goes on was not cut
pub truncate_whole : (n : ℕ) (o : Outcome) (l : List Entry) → truncate n o ≡ on l → o ≡ on l
unfolding truncate either
truncate_whole n o l e = go (leb (length (list_of o)) n) e
  where
    go : (b : Bool) → either b o (cut (take n (list_of o))) ≡ on l → o ≡ on l
    go true e = e
    go false e = absurd (let z : ◌≡◌ {A = ℕ} 0 1 = cc in omega arith)

pub list_truncate : (n : ℕ) (o : Outcome) → list_of (truncate n o) ≡ take n (list_of o)
list_truncate n o = go (leb (length (list_of o)) n) refl
  where
    go : (b : Bool) → leb (length (list_of o)) n ≡ b → list_of (truncate n o) ≡ take n (list_of o)
    go true e =
        ap list_of (truncate_short n o (leb-true (length (list_of o)) n e)) ∙ sym (take_all n (list_of o) (leb-true (length (list_of o)) n e))
    go false e = ap list_of (truncate_long n o (leb-false (length (list_of o)) n e))

-- ---- counted from a mark on: all with its end, or those up to the mark and n after it, and cut

unfoldable pub truncate_after : (path : List ℕ) (n : ℕ) → Outcome → Outcome
truncate_after path n o =
    either (leb (marks_from path (list_of o)) (suc n)) o (cut (take (skipped path (list_of o) + n) (list_of o)))

-- n: the room
module _ (path : List ℕ) (n : ℕ) where
  pub after_short : (o : Outcome) → marks_from path (list_of o) ≤ suc n → truncate_after path n o ≡ o
  unfolding truncate_after either
  after_short o h = rw (le-leb (marks_from path (list_of o)) (suc n) h)

  pub after_long : (o : Outcome) → suc n < marks_from path (list_of o) → truncate_after path n o ≡ cut (take (skipped path (list_of o) + n) (list_of o))
  unfolding truncate_after either
  after_long o h = rw (lt-leb (marks_from path (list_of o)) (suc n) h)

  abbrev Cuts : (List Entry → Outcome) → (List Entry → Outcome) → Type 0
  Cuts F G = (l : List Entry) → marks_from path l ≤ suc n → G l ≡ truncate_after path n (F l)

  -- once there are more, only the first ones count
  past : (l : List Entry) (o : Outcome) → suc n < marks_from path l → Begins l (list_of o)
      → truncate_after path n o ≡ cut (take (skipped path l + n) l)
  unfolding marks_from
  past l o h g =
      let same : skipped path (list_of o) ≡ skipped path l = ap (skipped path) g.1 ∙ skipped_append path l g.0 (omega arith) in
      after_long o (omega (arith, same, begins_length l (list_of o) g))
      ∙ ap (λ (k : ℕ). cut (take (k + n) (list_of o))) same
      ∙ ap cut (take_begins (skipped path l + n) l (list_of o) g (omega arith))

  -- what has ended stays ended, cut or not
  stays_ended : (o : Outcome) (K' : List Entry → Outcome) → bind o K' ≡ o → bind (truncate_after path n o) K' ≡ truncate_after path n o
  unfolding truncate_after either bind
  stays_ended o K' h = go (leb (marks_from path (list_of o)) (suc n)) (take (skipped path (list_of o) + n) (list_of o))
    where
      go : (b : Bool) (l : List Entry) → bind (either b o (cut l)) K' ≡ either b o (cut l)
      go true l = h
      go false l = refl

  cuts_bind : (o : Outcome) (K K' : List Entry → Outcome) → Grows K → Cuts K K'
      → bind (truncate_after path n o) K' ≡ truncate_after path n (bind o K)
  unfolding bind
  cuts_bind (on m) K K' g h = go (leb (marks_from path m) (suc n)) refl
    where
      go : (b : Bool) → leb (marks_from path m) (suc n) ≡ b → bind (truncate_after path n (on m)) K' ≡ truncate_after path n (K m)
      go true e =
          let k = leb-true (marks_from path m) (suc n) e in
          rw (after_short (on m) k) (h m k)
      go false e =
          let k = leb-false (marks_from path m) (suc n) e in
          rw (after_long (on m) k) (sym (past m (K m) k (g m)))
  cuts_bind (cut m) K K' g h = stays_ended (cut m) K' refl
  cuts_bind (refused r m) K K' g h = stays_ended (refused r m) K' refl

  -- with no room for one more, all so far are kept
  full : (l : List Entry) (x : Entry) (o : Outcome) → marks_from path l ≡ suc n → Begins (snoc l x) (list_of o) → truncate_after path n o ≡ cut l
  unfolding marks_from
  full l x o h g =
      let same : skipped path (snoc l x) ≡ skipped path l = skipped_append path l (x ∷ []) (omega arith) in
      past (snoc l x) o (omega (arith, same, length-append l (x ∷ []))) g
      ∙ ap cut (take_at l (x ∷ []) (skipped path (snoc l x) + n) (omega (arith, same)))

  cuts_enter : (v : Check) (b : Bool) (K K' : List Entry → Outcome) (l : List Entry) (x : Entry) → b ≡ leb (marks_from path l) n → Grows K
      → Cuts K K' → marks_from path l ≤ suc n → enter v b K' l x ≡ truncate_after path n (enter v true K l x)
  unfolding enter
  cuts_enter Passed true K K' l x e g h k = h (snoc l x) (omega (arith, leb-true (marks_from path l) n (sym e), marks_next path l x))
  cuts_enter Passed false K K' l x e g h k =
      sym (full l x (K (snoc l x)) (omega (arith, leb-false (marks_from path l) n (sym e))) (g (snoc l x)))
  cuts_enter (Err r) b K K' l x e g h k = sym (after_short (refused r l) k)

  -- the traversal as long as there is room is the whole one cut so
  pub cuts_after : (a : Asked) (t : Targets) (free : List Entry → Bool) → ((l : List Entry) → free l ≡ leb (marks_from path l) n)
      → (levels parent : ℕ) (ups : List ℕ) (from stop : ℕ) (l : List Entry) → marks_from path l ≤ suc n
      → level (parameters a t free) levels parent ups from stop l ≡ truncate_after path n (level (endless a t) levels parent ups from stop l)
  unfolding visit_check
  cuts_after a t free test =
      alike_level a.file a.marks a.marks t a.lent a.lent (λ l. true) free (λ l. marks_from path l ≤ suc n)
      (λ o o'. o' ≡ truncate_after path n o)
      (record {
        stay = λ l h. sym (after_short (on l) h);
        follow = λ o o' K K' g g' e k. ap (λ (x : Outcome). bind x K') e ∙ cuts_bind o K K' g k;
        entered = λ path p stop l e K K' g g' h k. cuts_enter (visit_check (endless a t) path p stop l) (free l) K K' l e (test l) g k h;
      })

-- ---- counted from the first on

root_marks : (l : List Entry) → marks_from [] l ≡ suc (length l)
unfolding marks_from
root_marks l = rw (root_skipped l) (omega arith)

root_truncate : (n : ℕ) (o : Outcome) → truncate_after [] n o ≡ truncate n o
unfolding truncate_after truncate
root_truncate n o =
    let z : 0 + n ≡ n = omega arith in
    rw (root_marks (list_of o), root_skipped (list_of o), z, leb-suc-suc (length (list_of o)) n)

-- the traversal as far as the listing has words is the whole one truncated
pub cuts_level : (a : Asked) (t : Targets) (levels parent : ℕ) (path : List ℕ) (from stop : ℕ) (l : List Entry) → length l ≤ a.lent.words
    → level (limited a t) levels parent path from stop l ≡ truncate a.lent.words (level (endless a t) levels parent path from stop l)
cuts_level a t levels parent path from stop l h =
    cuts_after [] a.lent.words a t (λ m. ltb (length m) a.lent.words) (λ m. ap (λ (k : ℕ). leb k a.lent.words) (sym (root_marks m)))
    levels parent path from stop l (omega (arith, root_marks l))
    ∙ root_truncate a.lent.words (level (endless a t) levels parent path from stop l)
