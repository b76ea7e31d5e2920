-- The table: a slot that none of the contexts has stays; that of a context holds its place, where no later one has the same ctx_id.
use Prim.Native.Nat.{ℕ, ◌<◌}
use mathlib.Core.List.{List, [], ◌∷◌, ◌++◌, map}
use mathlib.Core.Path.{◌≡◌, refl, ◌∙◌}
use lib.ListN.{length, get_or, set, replicate, length-set, length-replicate}
use lib.Seq.{get_or-set_same, get_or-set_other}
use Rattle.seq.specs.Lists.{All, Differs, Distinct}
use Rattle.context.specs.Entry.{Entry}
use Rattle.traversal.specs.Walk.{slots_with, table_with}

abbrev pub id_of : Entry → ℕ
id_of e = e.ctx_id

pub slots_append : (l m : List Entry) (t : List ℕ) → slots_with (l ++ m) t ≡ slots_with m (slots_with l t)
unfolding slots_with
slots_append [] m t = refl
slots_append (x ∷ l) m t = slots_append l m (set t x.ctx_id x.place)

length_slots : (t : List ℕ) (l : List Entry) → length (slots_with l t) ≡ length t
unfolding slots_with
length_slots t [] = refl
length_slots t (x ∷ l) = length_slots (set t x.ctx_id x.place) l ∙ length-set t x.ctx_id x.place

pub length_table : (l : List Entry) (slots : ℕ) → length (table_with l slots) ≡ slots
unfolding table_with
length_table l slots = length_slots (replicate slots 0) l ∙ length-replicate slots 0

pub slot_stays : (l : List Entry) (t : List ℕ) (i : ℕ) → All (Differs i) (map id_of l) → get_or (slots_with l t) i 0 ≡ get_or t i 0
unfolding slots_with
slot_stays [] t i h = refl
slot_stays (x ∷ l) t i h = slot_stays l (set t x.ctx_id x.place) i h.1 ∙ get_or-set_other t x.ctx_id i x.place 0 h.0

-- those after one of distinct ids have another
pub later_differ : (a b : List Entry) (e : Entry) → Distinct (map id_of (a ++ (e ∷ b))) → All (Differs e.ctx_id) (map id_of b)
later_differ [] b e h = h.0
later_differ (x ∷ a) b e h = later_differ a b e h.1

pub slot_holds : (a b : List Entry) (e : Entry) (slots : ℕ) → e.ctx_id < slots → All (Differs e.ctx_id) (map id_of b)
    → get_or (table_with (a ++ (e ∷ b)) slots) e.ctx_id 0 ≡ e.place
unfolding table_with slots_with
slot_holds a b e slots h d =
    let t : List ℕ = slots_with a (replicate slots 0) in
    let long : length t ≡ slots = length_slots (replicate slots 0) a ∙ length-replicate slots 0 in
    rw (slots_append a (e ∷ b) (replicate slots 0))
    (slot_stays b (set t e.ctx_id e.place) e.ctx_id d ∙ get_or-set_same t e.ctx_id e.place 0 (rw long h))
