-- A visit as the code makes it: with the table's word for which ctxIds are on the trail.
use Rattle.std.specs.Prelude.{ℕ, ◌*◌, ◌/◌, ◌<◌, Bool, not, List, [], ◌∷◌, ◌≡◌, eqb, ltb, length, get_or}
use Rattle.refusal.specs.declared.Refusal.TheVariants as No
use Rattle.refusal.specs.Check.{either, rule, first, Check}
use Rattle.buffer.specs.Over.{over}
use Rattle.open.specs.Opening.{field}
use Rattle.context.specs.Context.{Targets, ctx_id, links_rule, children_rule}
use Rattle.context.specs.Entry.{Entry, entry_at, entry_words, words_each}
use Rattle.traversal.specs.Traversal.{slot_check}

-- no place is 0, so that a slot that holds one is not 0
abbrev pub Placed : List Entry → Type 0
Placed [] = Unit {0}
Placed (e ∷ es) = (0 < e.place) × Placed es

abbrev pub taken : (table : List ℕ) (id : ℕ) → Bool
taken table id = not (eqb (get_or table id 0) 0)

-- the rules of a visit after 10, with the table's word for whether the ctxId is on the trail
unfoldable pub checks_after10 : List ℕ → Targets → (depth p : ℕ) (table : List ℕ) → Check
checks_after10 file t depth p table =
    first (rule (links_rule t file p) No.Link)
    (first (rule (children_rule t file p) No.Array) (slot_check depth (field file p ctx_id) (length table) (taken table (field file p ctx_id))))

-- record n holds a context's words, if there is room for all of them
abbrev pub RecordPut : List ℕ → (p depth parent n : ℕ) → (was now : List ℕ) → Type 0
RecordPut file p depth parent n was now =
    (path : List ℕ) → length path ≡ depth
    → now ≡ either (ltb n (length was / words_each)) (over was (n * words_each) (entry_words (entry_at file parent path p))) was
