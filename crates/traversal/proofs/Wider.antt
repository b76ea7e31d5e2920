-- With a longer table a traversal is the same, unless the shorter one ended for want of room: then the longer one goes on from there.
use Rattle.std.specs.Prelude.{Err}
use Prim.Native.Nat.{ℕ, ◌≤◌}
use mathlib.Core.Bool.{Bool, true, false, not}
use mathlib.Core.List.{List, [], ◌∷◌, ◌++◌}
use mathlib.Core.Logic.{◌⊎◌, inl, inr}
use mathlib.Core.Path.{◌≡◌, refl, sym, ap, ◌∙◌, subst}
use native.Mathlib.Omega.{arith}
use borrow.Author.Tests.{lt-ltb, ltb-true}
use lib.Dec.{ltb, leb}
use lib.ListN.{length}
use Rattle.refusal.specs.declared.Refusal.{Refusal}
use Rattle.refusal.specs.declared.Refusal.TheVariants as No
use Rattle.refusal.specs.Check.{rule, first, if_passed, Check, Passed, on_answer}
use Rattle.open.specs.Format.{meta}
use Rattle.open.specs.Opening.{field, opening, pairs, on_opened}
use Rattle.context.specs.Context.{Targets, ctx_id, context_rule, links_rule, children_rule, targets_of}
use Rattle.context.specs.Entry.{Entry}
use Rattle.traversal.specs.Demand3.{Begins, WantsRoom}
use Rattle.traversal.specs.Traversal.{Lengths, Marks, ask, Outcome, on, cut, refused, list_of, endless, seen, slot_check, visit_check, enter, bind, level, depth_limit, from_roots, traversal}
use Rattle.traversal.specs.From.{is_passed, after_mark, from_mark}
use Rattle.traversal.proofs.Begins.{begins_refl, begins_trans, begins_snoc}
use Rattle.traversal.proofs.From.{from_passed, from_unpassed, list_from}
use Rattle.traversal.proofs.Passing.{passed_append, after_append}
use Rattle.traversal.proofs.Grows.{Grows, grows_bind}
use Rattle.traversal.proofs.Alike.{always, left, right, alike_level}

-- ---- checks that more room changes only where room is wanting

abbrev Same : Check → Check → Type 0
Same v v' = (v ≡ v') ⊎ ((r : Refusal) × (WantsRoom r × (v ≡ Err r)))

same_first : (a v v' : Check) → Same v v' → Same (first a v) (first a v')
same_first Passed v v' h = h
same_first (Err r) v v' h = inl refl

same_slot : (i i' : Bool) (c : Check) → (i ≡ true → i' ≡ true) → Same (first (rule i No.Slot) c) (first (rule i' No.Slot) c)
unfolding rule
same_slot true i' c h = inl (rw (h refl))
same_slot false i' c h = inr (No.Slot, (refl, refl))

-- ---- a part of a traversal and the same part with more room

abbrev pub Wider : Outcome → Outcome → Type 0
Wider o o' = (o ≡ o') ⊎ ((r : Refusal) × (m : List Entry) × WantsRoom r × (o ≡ refused r m) × Begins m (list_of o'))

wider_bind : (o o' : Outcome) (K K' : List Entry → Outcome) → Grows K' → Wider o o' → ((l : List Entry) → Wider (K l) (K' l))
    → Wider (bind o K) (bind o' K')
unfolding bind
wider_bind o o' K K' g (inl e) k = rw (← e) (go o)
  where
    go : (o : Outcome) → Wider (bind o K) (bind o K')
    go (on l) = k l
    go (cut l) = inl refl
    go (refused r l) = inl refl
wider_bind o o' K K' g (inr w) k =
    inr (w.0, w.1, w.2, ap (λ (x : Outcome). bind x K) w.3, begins_trans w.1 (list_of o') _ w.4 (grows_bind o' K' g))

module _ (K K' : List Entry → Outcome) (l : List Entry) (x : Entry) (g : Grows K') where
  grows_enter : (v : Check) → Begins l (list_of (enter v true K' l x))
  unfolding enter
  grows_enter Passed = begins_trans l (l ++ (x ∷ [])) _ (begins_snoc l x) (g (l ++ (x ∷ [])))
  grows_enter (Err r) = begins_refl l

  wider_enter : (v v' : Check) → ((l : List Entry) → Wider (K l) (K' l)) → Same v v' → Wider (enter v true K l x) (enter v' true K' l x)
  unfolding enter
  wider_enter v v' k (inl e) = rw (← e) (go v)
    where
      go : (v : Check) → Wider (enter v true K l x) (enter v true K' l x)
      go Passed = k (l ++ (x ∷ []))
      go (Err r) = inl refl
  wider_enter v v' k (inr s) = inr (s.0, l, s.1.0, rw s.1.1, grows_enter v')

module _ (file : List ℕ) (m : Marks) (t : Targets) (n n' : Lengths) (le : n.slots ≤ n'.slots) where
  same_check : (path : List ℕ) (p stop : ℕ) (l : List Entry)
      → Same (visit_check (left file m m t n n' always always) path p stop l) (visit_check (right file m m t n n' always always) path p stop l)
  unfolding visit_check slot_check
  same_check path p stop l =
      let id = field file p ctx_id in
      same_first (rule (context_rule file p stop) No.Context) _ _
      (same_first (rule (links_rule t file p) No.Link) _ _
      (same_first (rule (children_rule t file p) No.Array) _ _
      (same_first (rule (leb (length path) depth_limit) No.Deep) _ _
      (same_slot (ltb id n.slots) (ltb id n'.slots) (rule (not (seen id l)) No.Twice)
      (λ e. lt-ltb id n'.slots (omega (arith, ltb-true id n.slots e)))))))

  wider_level : (levels parent : ℕ) (path : List ℕ) (from stop : ℕ) (l : List Entry)
      → Wider (level (left file m m t n n' always always) levels parent path from stop l) (level (right file m m t n n' always always) levels parent path from stop l)
  wider_level levels parent path from stop l =
      alike_level file m m t n n' always always (λ l. Unit {0}) Wider
      (record {
        stay = λ l h. inl refl;
        follow = λ o o' K K' g g' w k. wider_bind o o' K K' g' w (λ l. k l tt);
        entered = λ path p stop l e K K' g g' h k. wider_enter K K' l e g' _ _ (λ l. k l tt) (same_check path p stop l);
      }) levels parent path from stop l tt

-- with a table at least as long
pub wider_traversal : (file : List ℕ) (m : Marks) (n n' : Lengths) → n.slots ≤ n'.slots
    → Wider (traversal (ask file m n)) (traversal (ask file m n'))
unfolding traversal on_opened from_roots on_answer
wider_traversal file m n n' le = go (opening meta file)
  where
    t : Targets
    t = targets_of file (pairs meta file)

    go : (v : Check)
        → Wider (if_passed (λ r. refused r []) v (from_roots (endless (ask file m n) t))) (if_passed (λ r. refused r []) v (from_roots (endless (ask file m n') t)))
    go Passed = wider_level file m t n n' le _ 0 [] _ _ []
    go (Err r) = inl refl

pub wider_begins : (o o' : Outcome) → Wider o o' → Begins (list_of o) (list_of o')
wider_begins o o' (inl e) = subst (λ (x : Outcome). Begins (list_of o) (list_of x)) e (begins_refl (list_of o))
wider_begins o o' (inr w) = subst (λ (x : Outcome). Begins (list_of x) (list_of o')) (sym w.3) w.4

-- ---- from a mark: what stands up to its context stays

from_refused : (path : List ℕ) (r : Refusal) (m : List Entry) (o : Outcome) → Begins m (list_of o)
    → (k : List Entry) × ((from_mark path (refused r m) ≡ refused r k) × Begins k (list_of (from_mark path o)))
from_refused path r m o g = go (is_passed path m) refl
  where
    go : (b : Bool) → is_passed path m ≡ b
        → (k : List Entry) × ((from_mark path (refused r m) ≡ refused r k) × Begins k (list_of (from_mark path o)))
    go true e =
        let p : is_passed path (list_of o) ≡ true = ap (is_passed path) g.1 ∙ passed_append path m g.0 e in
        let f : list_of (from_mark path o) ≡ after_mark path m ++ g.0 =
        list_from path o ∙ ap (after_mark path) g.1 ∙ after_append path m g.0 e in
        (after_mark path m, (from_passed path (refused r m) e, (g.0, f)))
    go false e = ([], (from_unpassed path (refused r m) e, (list_of (from_mark path o), refl)))

pub wider_from : (path : List ℕ) (o o' : Outcome) → Wider o o' → Wider (from_mark path o) (from_mark path o')
wider_from path o o' (inl e) = inl (ap (from_mark path) e)
wider_from path o o' (inr w) =
    let s = from_refused path w.0 w.1 o' w.4 in
    inr (w.0, s.0, w.2, ap (from_mark path) w.3 ∙ s.1.0, s.1.1)
