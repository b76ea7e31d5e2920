-- Which refusals end a traversal: those of opening, 1 to 7, and those of a visit, up to 14. So 17 and 18 come from the mark rules alone.
use Rattle.std.specs.Prelude.{Err}
use Prim.Native.Nat.{ℕ, zero, suc, ◌+◌, ◌-◌, ◌≤◌}
use mathlib.Core.Bool.{Bool, true, false, not}
use mathlib.Core.List.{List, []}
use mathlib.Core.Path.{◌≡◌, refl}
use native.Mathlib.Omega.{arith}
use lib.Dec.{ltb, leb}
use lib.ListN.{length}
use Rattle.refusal.specs.declared.Refusal.{Refusal}
use Rattle.refusal.specs.declared.Refusal.TheVariants as No
use Rattle.refusal.specs.Check.{rule, first, if_passed, Check, Passed, on_answer}
use Rattle.refusal.specs.Number.{number_of}
use Rattle.open.specs.Format.{meta}
use Rattle.open.specs.Opening.{field, opening, pairs, on_opened}
use Rattle.open.proofs.Given.{one_to_seven}
use Rattle.context.specs.Context.{ctx_id, extent, context_rule, links_rule, children_rule, targets_of}
use Rattle.context.specs.Entry.{Entry}
use Rattle.traversal.specs.Traversal.{Asked, Outcome, on, cut, refused, Parameters, endless, visit_check, slot_check, seen, enter, Down, visit, bind, turn, siblings, level, depth_limit, from_roots, traversal}

-- an end by no refusal above 14
abbrev Low : Check → Type 0
Low Passed = Unit
Low (Err r) = number_of r ≤ 14

abbrev LowEnd : Outcome → Type 0
LowEnd (on l) = Unit
LowEnd (cut l) = Unit
LowEnd (refused r l) = number_of r ≤ 14

rule_low : (t : Bool) (r : Refusal) → number_of r ≤ 14 → Low (rule t r)
unfolding rule
rule_low true r h = tt
rule_low false r h = h

first_low : (a b : Check) → Low a → Low b → Low (first a b)
first_low Passed b h k = k
first_low (Err r) b h k = h

module _ (E : Parameters) where
  visit_low : (path : List ℕ) (p stop : ℕ) (l : List Entry) → Low (visit_check E path p stop l)
  unfolding visit_check slot_check
  visit_low path p stop l =
      let f = E.asked.file in
      let slots = E.asked.lent.slots in
      first_low (rule (context_rule f p stop) No.Context) _ (rule_low (context_rule f p stop) No.Context (omega arith))
      (first_low (rule (links_rule E.targets f p) No.Link) _ (rule_low (links_rule E.targets f p) No.Link (omega arith))
      (first_low (rule (children_rule E.targets f p) No.Array) _ (rule_low (children_rule E.targets f p) No.Array (omega arith))
      (first_low (rule (leb (length path) depth_limit) No.Deep) _ (rule_low (leb (length path) depth_limit) No.Deep (omega arith))
      (first_low (rule (ltb (field f p ctx_id) slots) No.Slot) _ (rule_low (ltb (field f p ctx_id) slots) No.Slot (omega arith))
      (rule_low (not (seen (field f p ctx_id) l)) No.Twice (omega arith))))))

  enter_low : (v : Check) (room : Bool) (into : List Entry → Outcome) (l : List Entry) (e : Entry) → Low v → ((m : List Entry) → LowEnd (into m))
      → LowEnd (enter v room into l e)
  unfolding enter
  enter_low Passed true into l e h f = f _
  enter_low Passed false into l e h f = tt
  enter_low (Err r) room into l e h f = h

  bind_low : (o : Outcome) (next : List Entry → Outcome) → LowEnd o → ((m : List Entry) → LowEnd (next m)) → LowEnd (bind o next)
  unfolding bind
  bind_low (on l) next h f = f l
  bind_low (cut l) next h f = tt
  bind_low (refused r l) next h f = h

  turn_low : (b : Bool) (here next : List Entry → Outcome) (l : List Entry) → LowEnd (here l) → ((m : List Entry) → LowEnd (next m))
      → LowEnd (turn b here next l)
  unfolding turn
  turn_low true here next l h f = bind_low (here l) next h f
  turn_low false here next l h f = tt

  abbrev LowDown : Down → Type 0
  LowDown down = (parent : ℕ) (path : List ℕ) (from stop : ℕ) (l : List Entry) → LowEnd (down parent path from stop l)

  visits_low : (down : Down) → LowDown down → (parent : ℕ) (path : List ℕ) (p stop : ℕ) (l : List Entry) → LowEnd (visit E down parent path p stop l)
  unfolding visit
  visits_low down d parent path p stop l =
      enter_low (visit_check E path p stop l) (E.free l) _ l _ (visit_low path p stop l) (λ m. d p path _ _ m)

  siblings_low : (down : Down) → LowDown down → (parent : ℕ) (ups : List ℕ) (bound i p stop : ℕ) (l : List Entry)
      → LowEnd (siblings E down parent ups bound i p stop l)
  unfolding siblings
  siblings_low down d parent ups zero i p stop l = tt
  siblings_low down d parent ups (suc bound) i p stop l =
      turn_low (ltb p stop) _ _ l (visits_low down d parent _ p stop l)
      (λ m. siblings_low down d parent ups bound (suc i) (p + extent E.asked.file p) stop m)

  level_low : (levels : ℕ) → LowDown (level E levels)
  unfolding level
  level_low zero parent ups from stop l = tt
  level_low (suc levels) parent ups from stop l = siblings_low (level E levels) (level_low levels) parent ups (stop - from) 0 from stop l

pub traversal_low : (a : Asked) (r : Refusal) (l : List Entry) → traversal a ≡ refused r l → number_of r ≤ 14
unfolding traversal on_opened on_answer from_roots
traversal_low a r l e = rw e at (go (opening meta a.file) refl)
  where
    E : Parameters
    E = endless a (targets_of a.file (pairs meta a.file))

    go : (v : Check) → opening meta a.file ≡ v → LowEnd (if_passed (λ r. refused r []) v (from_roots E))
    go Passed z = level_low E (suc depth_limit) 0 [] _ _ []
    go (Err s) z = omega (arith, one_to_seven meta a.file s z)
