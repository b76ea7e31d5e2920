-- A visit: the table's word on an id stands for the list's, and the checks decide.
use Rattle.std.specs.Prelude.{Err}
use Rattle.refusal.specs.Check.{Check, Passed}
use Prim.Native.Nat.{ℕ, suc, ◌+◌, ◌-◌, ◌≤◌, ◌<◌}
use mathlib.Core.Bool.{true}
use mathlib.Core.List.{List, [], ◌∷◌, ◌++◌}
use mathlib.Core.Path.{◌≡◌, sym, ◌∙◌}
use native.Mathlib.Omega.{arith}
use borrow.Author.Tests.{lt-ltb, le-ltb}
use lib.ListN.{length, set}
use Rattle.refusal.specs.declared.Refusal.{Refusal}
use Rattle.open.specs.Opening.{field}
use Rattle.context.specs.Context.{Targets, children_place, children_bytes, ctx_id, context_rule}
use Rattle.context.specs.Entry.{Entry, entry_at}
use Rattle.traversal.specs.declared.Walked.{Walked}
use Rattle.traversal.specs.declared.Walked.TheVariants.{Complete, Truncated, Refused}
use Rattle.traversal.specs.Traversal.{Parameters, limited, visit_check, depth_limit, Down, visit, level}
use Rattle.traversal.specs.Walk.{Slices, slices, ask_with, unmarked}
use Rattle.traversal.proofs.Steps.{rest_end, level_rest, visit_refused, visit_cut, visit_on}
use Rattle.visit.specs.Visit.{checks_after10, RecordPut}
use Rattle.visit.proofs.Checks.{by_table, safe}
use Rattle.walk.specs.State.{Holds, ArrayDoes, ContextDoes}
use Rattle.walk.proofs.Slices.{long, one_more}
use Rattle.walk.proofs.Going.{done_cut, done_refused, done_complete}

module _ (file : List ℕ) (t : Targets) (depth parent p stop n : ℕ) (s : Slices) where
  abbrev id : ℕ
  id = field file p ctx_id

  abbrev checks : Check
  checks = checks_after10 file t depth p s.table

  abbrev E : Slices → Parameters
  E was = limited (ask_with file unmarked was) t

  abbrev down : Slices → Down
  down was = level (E was) (suc depth_limit - depth)

  module _ (fine : context_rule file p stop ≡ true) where
    checked : (was : Slices) (l : List Entry) (path : List ℕ) → length path ≡ depth → Holds was l s n → visit_check (E was) path p stop l ≡ checks
    checked was l path d h = by_table (E was) l s.table h.filled h.placed path depth p stop d fine

    pub does_refused : (c : Check) (r : Refusal) → c ≡ checks → c ≡ Err r → ContextDoes file t depth parent p stop n s (Refused r n) s
    does_refused c r e z was l path d h =
        rw (visit_refused (E was) (down was) parent path p stop l r (checked was l path d h ∙ sym e ∙ z)) (done_refused was s l n h r)

    module _ (c : Check) (e : c ≡ checks) (z : c ≡ Passed) where
      pub does_cut : length s.listing ≤ n → ContextDoes file t depth parent p stop n s (Truncated n) s
      does_cut k was l path d h =
          rw
          (visit_cut (E was) (down was) parent path p stop l (checked was l path d h ∙ sym e ∙ z)
          (le-ltb (length l) (length was.listing) (omega (arith, long h, h.counted))))
          (done_cut was s l n h)

      module _ (records : List ℕ) (put : RecordPut file p depth parent n s.records records) (i place bytes : ℕ) (ei : i ≡ id)
          (ep : place ≡ field file p children_place) (eb : bytes ≡ field file p children_bytes) (k : n < length s.listing) (y : 0 < p) where
        abbrev after : Slices
        after = slices (set s.listing n p) (set s.table i p) records

        module _ (was : Slices) (l : List Entry) (path : List ℕ) (d : length path ≡ depth) (h : Holds was l s n) where
          abbrev with : List Entry
          with = l ++ (entry_at file parent path p ∷ [])

          listed : Holds was with after (n + 1)
          unfolding entry_at
          listed = rw ei (one_more h (entry_at file parent path p) records y (put path d))

          goes_on : visit (E was) (down was) parent path p stop l ≡ level (E was) (suc (suc depth_limit - (depth + 1))) p path place (place + bytes) with
          goes_on =
              let less : suc depth_limit - depth ≡ suc (suc depth_limit - (depth + 1)) = omega (arith, (safe file t depth p s.table (sym e ∙ z)).shallow) in
              visit_on (E was) (down was) parent path p stop l (checked was l path d h ∙ sym e ∙ z)
              (lt-ltb (length l) (length was.listing) (omega (arith, long h, h.counted)))
              ∙ rw (ep, eb, ← less)

        pub does_leaf : bytes ≡ 0 → ContextDoes file t depth parent p stop n s (Complete (n + 1)) after
        does_leaf w was l path d h =
            let left : ℕ = suc depth_limit - (depth + 1) in
            let so = with was l path d h in
            done_complete was after so (n + 1) (listed was l path d h) _
            (goes_on was l path d h ∙ level_rest (E was) left p path place (place + bytes) so
            ∙ rest_end (E was) (level (E was) left) p path 0 place (place + bytes) so (omega arith))

        pub does_deep : (r : Walked) (s' : Slices) → ArrayDoes file t (depth + 1) p place (place + bytes) (n + 1) after r s'
            → ContextDoes file t depth parent p stop n s r s'
        does_deep r s' does was l path d h =
            rw (goes_on was l path d h) (does was (with was l path d h) path (omega arith) (listed was l path d h))
