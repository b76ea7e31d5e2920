-- A visit's checks with the table's word on an id are those with the list's; and what holds once they have passed.
use Prim.Native.Nat.{ℕ, ◌+◌, ◌≤◌, ◌<◌}
use mathlib.Core.Bool.{Bool, true, false, not}
use mathlib.Core.List.{List}
use mathlib.Core.Path.{◌≡◌, refl, sym, ◌∙◌}
use native.Mathlib.Nat.{add-zero}
use borrow.Author.Tests.{ltb-true, leb-true, eqb-true}
use lib.Dec.{eqb, ltb, leb}
use lib.ListN.{length, get_or}
use Rattle.le.specs.Number.{number}
use Rattle.refusal.specs.declared.Refusal.TheVariants as No
use Rattle.refusal.specs.Check.{rule, Passed}
use Rattle.refusal.proofs.Checks.{rule_passes, first_passes}
use Rattle.open.specs.Opening.{field}
use Rattle.open.specs.Kept.{ContextsKept}
use Rattle.open.proofs.Keeps.{contexts_iff}
use Rattle.context.specs.Context.{Targets, children_place, children_bytes, ctx_id, context_rule, links_rule, children_rule}
use Rattle.context.specs.Entry.{Entry}
use Rattle.traversal.specs.Traversal.{Parameters, seen, slot_check, visit_check, depth_limit}
use Rattle.traversal.specs.Walk.{table_with}
use Rattle.traversal.proofs.Table.{length_table}
use Rattle.visit.specs.Visit.{Placed, taken, checks_after10}
use Rattle.visit.proofs.Slices.{not_not, taken_seen}

-- without a slot, whether an id is twice does not count
no_slot : (depth id slots : ℕ) (a b : Bool) → ltb id slots ≡ false → slot_check depth id slots a ≡ slot_check depth id slots b
unfolding slot_check rule
no_slot depth id slots a b e = rw e

-- the fields that are read
module _ (file : List ℕ) (p r : ℕ) where
  pub id_read : r ≡ number 4 file (p + 16) → r ≡ field file p ctx_id
  unfolding field
  id_read e = e

  pub place_read : r ≡ number 8 file (p + 8) → r ≡ field file p children_place
  unfolding field
  place_read e = e

  pub bytes_read : r ≡ number 8 file p → r ≡ field file p children_bytes
  unfolding field
  bytes_read e = rw (add-zero p) e

module _ (E : Parameters) (l : List Entry) (table : List ℕ) (filled : table ≡ table_with l E.asked.lent.slots) (placed : Placed l) where
  same_slot : (depth id : ℕ)
      → slot_check depth id E.asked.lent.slots (seen id l) ≡ slot_check depth id (length table) (taken table id)
  same_slot depth id = rw (filled, length_table l E.asked.lent.slots) (go (ltb id E.asked.lent.slots) refl)
    where
      slots : ℕ
      slots = E.asked.lent.slots

      go : (b : Bool) → ltb id slots ≡ b → slot_check depth id slots (seen id l) ≡ slot_check depth id slots (taken (table_with l slots) id)
      go true e = rw (taken_seen slots id l placed (ltb-true id slots e))
      go false e = no_slot depth id slots (seen id l) (taken (table_with l slots) id) e

  pub by_table : (path : List ℕ) (depth p stop : ℕ) → length path ≡ depth → context_rule E.asked.file p stop ≡ true
      → visit_check E path p stop l ≡ checks_after10 E.asked.file E.targets depth p table
  unfolding visit_check checks_after10 rule
  by_table path depth p stop d fine = rw (fine, d, same_slot depth (field E.asked.file p ctx_id))

-- what the checks say once they have passed
pub record Safe (file : List ℕ) (t : Targets) (depth p : ℕ) (table : List ℕ) : Type 0 where
  pub children : ContextsKept t.at 16 t.size (field file p children_place) (field file p children_bytes)
  pub shallow : depth ≤ depth_limit
  pub slot : field file p ctx_id < length table
  pub fresh : get_or table (field file p ctx_id) 0 ≡ 0

pub safe : (file : List ℕ) (t : Targets) (depth p : ℕ) (table : List ℕ) → checks_after10 file t depth p table ≡ Passed
    → Safe file t depth p table
unfolding checks_after10 slot_check children_rule
safe file t depth p table z =
    let id = field file p ctx_id in
    let children = ((first_passes (rule (links_rule t file p) No.Link) _).0 z).1 in
    let slots = (first_passes (rule (children_rule t file p) No.Array) _).0 children in
    let deep = (first_passes (rule (leb depth depth_limit) No.Deep) _).0 slots.1 in
    let slot = (first_passes (rule (ltb id (length table)) No.Slot) _).0 deep.1 in
    record {
      children = (contexts_iff t.at 16 t.size (field file p children_place) (field file p children_bytes)).0
          ((rule_passes (children_rule t file p) No.Array).0 slots.0);
      shallow = leb-true depth depth_limit ((rule_passes (leb depth depth_limit) No.Deep).0 deep.0);
      slot = ltb-true id (length table) ((rule_passes (ltb id (length table)) No.Slot).0 slot.0);
      fresh = eqb-true (get_or table id 0) 0
          (sym (not_not (eqb (get_or table id 0) 0)) ∙ (rule_passes (not (taken table id)) No.Twice).0 slot.1);
    }
