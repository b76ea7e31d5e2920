-- The indices of the groups that start below k stand behind one another; an entry that starts none has no bytes.
use Prim.Native.Nat.{ℕ, ◌+◌, ◌*◌, ◌≤◌}
use mathlib.Core.List.{List}
use mathlib.Core.Path.{◌≡◌, refl, sym, ◌∙◌}
use native.Mathlib.Numerals.{add-one}
use native.Mathlib.Omega.{arith}
use lib.ListN.{length}
use Rattle.layout.specs.Many.{many}
use Rattle.buffer.proofs.Laws.{length_over}
use Rattle.put.proofs.Fields.{over_many_none, over_many_more, many_skip}
use Rattle.block_file.specs.Pairs.{groups, index_element}
use Rattle.block_file.proofs.Groups.{group_yes, group_no, groups_le, groups_none}
use Rattle.block_file.proofs.Readback.{index_yes, index_no, length_indices}
use Rattle.profile_lists.specs.Lists.{entries_in}
use Rattle.profile_writer.proofs.put_indices.Goals as goal
use Rattle.profile_writer.proofs.put_indices.Goals.{Then-leads_at, then-leads_at, else-leads_at}

-- the contexts from an entry on
abbrev contexts : (entries : List ℕ) (start k : ℕ) → ℕ
contexts entries start k = (entries_in entries).context (start + k)

pub loop-k-init : goal.loop-k-init
loop-k-init c = (
  sym (groups_none (contexts c.args.entries.now c.args.start)),
  refl,
  over_many_none
      (index_element 4 (contexts c.args.entries.now c.args.start)) c.args.file.now c.args.at,
)

-- there is room for a group that starts at k
room : (c : Then-leads_at) → c.args.at + c.loop-k.count * 12 + 12 ≤ length c.loop-k.file
room c =
    let O : ℕ → ℕ = contexts c.args.entries.now c.args.start in
    let one : groups O (c.loop-k.k + 1) ≡ groups O c.loop-k.k + 1 =
    rw (add-one c.loop-k.k) (group_yes O c.loop-k.k (sym c.leads_at.ensures ∙ c.if-leads_at.true)) in
    let most = groups_le O (c.loop-k.k + 1) c.args.held (omega arith) in
    omega (arith, one, most, c.requires.held_in_bounds, c.loop-k.invariant.0, c.loop-k.invariant.1)

pub overflow_mul-count : goal.overflow_mul-count
overflow_mul-count c = omega (arith, room (goal.at.overflow_mul-count c).Then-leads_at)

pub overflow_add-at : goal.overflow_add-at
overflow_add-at c = omega (arith, room (goal.at.overflow_add-at c).Then-leads_at)

pub put_index-requires : goal.put_index-requires
put_index-requires c = room (goal.at.put_index-requires c).Then-leads_at

pub overflow_add-count : goal.overflow_add-count
overflow_add-count c = omega (arith, room (goal.at.overflow_add-count c).Then-leads_at)

pub loop-k-preserved : goal.loop-k-preserved
loop-k-preserved c =
    let O : ℕ → ℕ = contexts c.args.entries.now c.args.start in
    let place : c.args.at + c.loop-k.count * 12 ≡ c.args.at + length (many (index_element 4 O) c.loop-k.k) =
    omega (arith, c.loop-k.invariant.0, length_indices 4 O c.loop-k.k) in
    elim c.if-leads_at.branch [
      | then-leads_at w ↦
          let yes = sym c.leads_at.ensures ∙ w.if-leads_at.true in (
            rw (w.count-is, add-one c.loop-k.k, group_yes O c.loop-k.k yes) (omega (arith, c.loop-k.invariant.0)),
            rw (w.file-is, w.put_index.ensures, length_over) c.loop-k.invariant.1,
            w.file-is ∙ w.put_index.ensures
                ∙ rw (w.context_of-context.ensures, c.loop-k.invariant.2, place, ← index_yes 4 O c.loop-k.k yes)
                (sym (over_many_more (index_element 4 O) c.args.file.now c.args.at c.loop-k.k)),
          )
      | else-leads_at w ↦
          let no = sym c.leads_at.ensures ∙ w.if-leads_at.false in (
            rw (w.count-is, add-one c.loop-k.k, group_no O c.loop-k.k no) c.loop-k.invariant.0,
            rw w.file-is c.loop-k.invariant.1,
            rw (w.file-is, many_skip (index_element 4 O) c.loop-k.k (index_no 4 O c.loop-k.k no)) c.loop-k.invariant.2,
          )
    ]
