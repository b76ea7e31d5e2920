-- The table of the contexts that stand first on a traversal: the slot of each holds its place, since ids are distinct and each has a slot;
-- any other is 0. So it is with those that a walk has reached.
use Prim.Native.Nat.{ℕ, zero, suc, ◌<◌}
use mathlib.Core.Bool.{Bool, true, false}
use mathlib.Core.List.{List, [], ◌∷◌, ◌++◌, map, map-append, append_assoc}
use mathlib.Core.Path.{◌≡◌, refl, sym, ap, ◌∙◌, subst}
use lib.ListN.{get_or, take, replicate}
use Rattle.seq.specs.Lists.{All, In, Differs, Distinct, Below}
use Rattle.seq.proofs.Lists.{all_left}
use Rattle.refusal.specs.Check.{either}
use Rattle.context.specs.Entry.{Entry}
use Rattle.traversal.specs.Traversal.{Asked, list_of, traversal}
use Rattle.traversal.specs.From.{skipped, is_passed, up_to_mark}
use Rattle.traversal.specs.Walk.{reached, new_path, table_with}
use Rattle.traversal.specs.Demand3.{Begins}
use Rattle.traversal.proofs.Begins.{begins_take}
use Rattle.traversal.proofs.Table.{id_of, slot_stays, later_differ, slot_holds}
use Rattle.traversal.proofs.Ids.{Ids, traversal_ids}

-- ---- a slot that holds a place

module _ (slots : ℕ) (l m : List Entry) (g : Begins l m) (ids : Ids slots m) (e : Entry) (h : In e l) where
  -- the context on the traversal, with all after it
  among : m ≡ h.0 ++ (e ∷ (h.1 ++ g.0))
  among = g.1 ∙ ap (λ (x : List Entry). x ++ g.0) h.2 ∙ append_assoc h.0 (e ∷ h.1) g.0

  later_apart : All (Differs e.ctx_id) (map id_of h.1)
  later_apart =
      let later = later_differ h.0 (h.1 ++ g.0) e (subst (λ (x : List Entry). Distinct (map id_of x)) among ids.distinct) in
      all_left (Differs e.ctx_id) (map id_of h.1) (map id_of g.0) (subst (All (Differs e.ctx_id)) (map-append id_of h.1 g.0) later)

  has_slot : e.ctx_id < slots
  has_slot = has h.0 _ (subst (λ (x : List Entry). Below slots (map id_of x)) among ids.below)
    where
      has : (x y : List Entry) → Below slots (map id_of (x ++ (e ∷ y))) → e.ctx_id < slots
      has [] y k = k.0
      has (z ∷ x) y k = has x y k.1

  slot_of : get_or (table_with l slots) e.ctx_id 0 ≡ e.place
  slot_of = rw h.2 (slot_holds h.0 h.1 e slots has_slot later_apart)

-- ---- and one that does not

zero_slot : (n i : ℕ) → ◌≡◌ {A = ℕ} (get_or (replicate n 0) i 0) 0
zero_slot zero i = refl
zero_slot (suc n) zero = refl
zero_slot (suc n) (suc i) = zero_slot n i

none_of : (i : ℕ) (l : List Entry) → ((e : Entry) → In e l → e.ctx_id ≡ i → ⊥) → All (Differs i) (map id_of l)
none_of i [] f = tt
none_of i (x ∷ l) f = ((λ k. f x ([], l, refl) (sym k)), none_of i l (λ e h. f e (x ∷ h.0, h.1, ap (λ (m : List Entry). x ∷ m) h.2)))

pub empty_slot : (slots : ℕ) (l : List Entry) (i : ℕ) → ((e : Entry) → In e l → e.ctx_id ≡ i → ⊥) → get_or (table_with l slots) i 0 ≡ 0
unfolding table_with
empty_slot slots l i f = slot_stays l (replicate slots 0) i (none_of i l f) ∙ zero_slot slots i

-- ---- of those reached

up_to_begins : (path : List ℕ) (l : List Entry) → Begins (up_to_mark path l) l
unfolding up_to_mark either
up_to_begins path l = go (is_passed path l)
  where
    go : (b : Bool) → Begins (either b (take (skipped path l) l) []) l
    go true = begins_take (skipped path l) l
    go false = (l, refl)

pub reached_slot : (a : Asked) (e : Entry) → In e (reached a) → get_or (table_with (reached a) a.lent.slots) e.ctx_id 0 ≡ e.place
unfolding reached
reached_slot a e h =
    slot_of a.lent.slots (reached a) (list_of (traversal a)) (up_to_begins (new_path a) (list_of (traversal a))) (traversal_ids a) e h
