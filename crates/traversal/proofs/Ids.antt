-- On any traversal the ctxIds are distinct (14), and there is a slot for each (13).
use Prim.Native.Nat.{ℕ, ◌≤◌, ◌<◌}
use mathlib.Core.Bool.{Bool, true, false, ◌||◌, not}
use mathlib.Core.List.{List, [], ◌∷◌, map, map-append}
use mathlib.Core.Path.{◌≡◌, refl, sym}
use native.Mathlib.Omega.{arith}
use borrow.Author.Tests.{eqb-false, leb-true, ltb-true, not-true}
use lib.Dec.{eqb, leb, ltb}
use lib.ListN.{length}
use Rattle.seq.specs.Lists.{All, Differs, Distinct, Below}
use Rattle.seq.proofs.Lists.{all_imp, all_append, ordered_snoc}
use Rattle.refusal.specs.declared.Refusal.TheVariants as No
use Rattle.refusal.specs.Check.{rule, Passed}
use Rattle.refusal.proofs.Checks.{rule_passes, first_passes}
use Rattle.open.specs.Opening.{field, pairs}
use Rattle.context.specs.Context.{ctx_id, context_rule, links_rule, children_rule, targets_of}
use Rattle.context.specs.Entry.{Entry, entry_at}
use Rattle.open.specs.Format.{meta}
use Rattle.traversal.specs.Traversal.{Asked, list_of, Parameters, seen, slot_check, visit_check, depth_limit, traversal, endless}
use Rattle.traversal.proofs.Keeps.{snoc, somewhere, keeps_traversal}
use Rattle.traversal.proofs.Table.{id_of}

-- what a visit that passes has passed
pub record Fits (E : Parameters) (path : List ℕ) (p stop : ℕ) (l : List Entry) : Type 0 where
  pub ends : context_rule E.asked.file p stop ≡ true
  pub children : children_rule E.targets E.asked.file p ≡ true
  pub deep : length path ≤ depth_limit
  pub slot : field E.asked.file p ctx_id < E.asked.lent.slots
  pub fresh : seen (field E.asked.file p ctx_id) l ≡ false

pub passed_fits : (E : Parameters) (path : List ℕ) (p stop : ℕ) (l : List Entry) → visit_check E path p stop l ≡ Passed → Fits E path p stop l
unfolding visit_check slot_check
passed_fits E path p stop l h =
    let id = field E.asked.file p ctx_id in
    let links = (first_passes (rule (context_rule E.asked.file p stop) No.Context) _).0 h in
    let children = ((first_passes (rule (links_rule E.targets E.asked.file p) No.Link) _).0 links.1).1 in
    let slots = (first_passes (rule (children_rule E.targets E.asked.file p) No.Array) _).0 children in
    let deep = (first_passes (rule (leb (length path) depth_limit) No.Deep) _).0 slots.1 in
    let slot = (first_passes (rule (ltb id E.asked.lent.slots) No.Slot) _).0 deep.1 in
    record {
      ends = (rule_passes (context_rule E.asked.file p stop) No.Context).0 links.0;
      children = (rule_passes (children_rule E.targets E.asked.file p) No.Array).0 slots.0;
      deep = leb-true _ _ ((rule_passes (leb (length path) depth_limit) No.Deep).0 deep.0);
      slot = ltb-true _ _ ((rule_passes (ltb id E.asked.lent.slots) No.Slot).0 slot.0);
      fresh = not-true _ ((rule_passes (not (seen id l)) No.Twice).0 slot.1);
    }

or_false : (a b : Bool) → a || b ≡ false → (a ≡ false) × (b ≡ false)
or_false true b h = absurd (let z : ◌≡◌ {A = ℕ} 0 1 = cc in omega arith)
or_false false b h = (refl, h)

pub unseen : (id : ℕ) (l : List Entry) → seen id l ≡ false → All (Differs id) (map id_of l)
unfolding seen
unseen id [] h = tt
unseen id (e ∷ l) h =
    let s = or_false (eqb id e.ctx_id) (seen id l) h in
    (eqb-false id e.ctx_id s.0, unseen id l s.1)

pub record Ids (slots : ℕ) (l : List Entry) : Type 0 where
  pub distinct : Distinct (map id_of l)
  pub below : Below slots (map id_of l)

pub ids_enter : (E : Parameters) (parent : ℕ) (path : List ℕ) (p stop : ℕ) (l : List Entry) → visit_check E path p stop l ≡ Passed
    → Ids E.asked.lent.slots l → Ids E.asked.lent.slots (snoc l (entry_at E.asked.file parent path p))
unfolding entry_at
ids_enter E parent path p stop l v h =
    let fits = passed_fits E path p stop l v in
    let e = entry_at E.asked.file parent path p in
    let id = field E.asked.file p ctx_id in
    let ids : map id_of (snoc l e) ≡ snoc (map id_of l) id = map-append id_of l (e ∷ []) in
    record {
      distinct = rw ids (ordered_snoc Differs (map id_of l) id h.distinct (all_imp (λ x d k. d (sym k)) (map id_of l) (unseen id l fits.fresh)));
      below = rw ids (all_append (λ x. x < E.asked.lent.slots) (map id_of l) (id ∷ []) h.below (fits.slot, tt));
    }

pub traversal_ids : (a : Asked) → Ids a.lent.slots (list_of (traversal a))
traversal_ids a =
    (somewhere (endless a (targets_of a.file (pairs meta a.file))) (λ ups i l. Ids a.lent.slots l) [] (traversal a) (keeps_traversal a (λ ups i l. Ids a.lent.slots l)
    (record { enters = λ parent ups i p stop l v h. ids_enter _ parent (snoc ups i) p stop l v h; leaves = λ ups i j l h. h })
    (record { distinct = tt; below = tt }))).1.1
