-- One context more in the table, the listing and the records; and the table tells which ids are among the contexts visited.
use Prim.Native.Nat.{ℕ, zero, suc, ◌*◌, ◌/◌, ◌<◌}
use mathlib.Core.Bool.{Bool, true, false, not, true≢false}
use mathlib.Core.List.{List, [], ◌∷◌, ◌++◌, map, map-append, append-nil}
use mathlib.Core.Path.{◌≡◌, refl, sym, ap, ◌∙◌}
use native.Mathlib.Nat.{zero-add}
use native.Mathlib.Omega.{arith}
use borrow.Author.Tests.{eq-eqb, ne_eqb, ltb-true, ltb-false, eqb-true}
use lib.Dec.{eqb, ltb}
use lib.ListN.{length, get_or, set, take, replicate, length-append, length-set, length-replicate, get_or-replicate, length-map}
use lib.Seq.{get_or-set_same, take_all, take-append-le}
use Rattle.refusal.specs.Check.{either}
use Rattle.buffer.specs.Over.{over}
use Rattle.buffer.proofs.Laws.{over_append, over_one}
use Rattle.context.specs.Entry.{Entry, entry_words, words_each}
use Rattle.traversal.specs.Traversal.{seen}
use Rattle.traversal.specs.Walk.{place_of, listing_with, slots_with, table_with, words_of, records_with}
use Rattle.traversal.proofs.Table.{slot_stays}
use Rattle.traversal.proofs.Ids.{unseen}
use Rattle.traversal.proofs.Untouched.{length_records}
use Rattle.traversal.proofs.Records.{words_append, length_words}
use Rattle.visit.specs.Visit.{Placed, taken}

pub not_not : (b : Bool) → not (not b) ≡ b
not_not true = refl
not_not false = refl

-- ---- the table

pub placed_snoc : (l : List Entry) (e : Entry) → Placed l → 0 < e.place → Placed (l ++ (e ∷ []))
placed_snoc [] e h p = (p, tt)
placed_snoc (x ∷ l) e h p = (h.0, placed_snoc l e h.1 p)

kept_set : (t : List ℕ) (j v i : ℕ) → 0 < v → 0 < get_or t i 0 → 0 < get_or (set t j v) i 0
kept_set [] j v i p h = h
kept_set (x ∷ t) zero v zero p h = p
kept_set (x ∷ t) zero v (suc i) p h = h
kept_set (x ∷ t) (suc j) v zero p h = h
kept_set (x ∷ t) (suc j) v (suc i) p h = kept_set t j v i p h

-- a slot that holds a place keeps one
kept : (l : List Entry) (t : List ℕ) (i : ℕ) → Placed l → 0 < get_or t i 0 → 0 < get_or (slots_with l t) i 0
unfolding slots_with
kept [] t i p h = h
kept (x ∷ l) t i p h = kept l (set t x.ctx_id x.place) i p.1 (kept_set t x.ctx_id x.place i p.0 h)

-- and that of a context holds one
held : (l : List Entry) (t : List ℕ) (i : ℕ) → Placed l → i < length t → seen i l ≡ true → 0 < get_or (slots_with l t) i 0
unfolding slots_with seen
held [] t i p k h = absurd (true≢false (sym h))
held (x ∷ l) t i p k h = go (eqb i x.ctx_id) refl (held l (set t x.ctx_id x.place) i p.1 (rw length-set k))
  where
    u : List ℕ
    u = set t x.ctx_id x.place

    go : (b : Bool) → eqb i x.ctx_id ≡ b → (seen i l ≡ true → 0 < get_or (slots_with l u) i 0) → 0 < get_or (slots_with l u) i 0
    go true e rest =
        let same = eqb-true i x.ctx_id e in
        kept l u i p.1 (rw same (rw (get_or-set_same t x.ctx_id x.place 0 (rw same at k)) p.0))
    go false e rest = rest (rw e at h)

taken_yes : (t : List ℕ) (i : ℕ) → (get_or t i 0 ≡ 0 → ⊥) → taken t i ≡ true
taken_yes t i h = ap not (ne_eqb _ _ h)

taken_no : (t : List ℕ) (i : ℕ) → get_or t i 0 ≡ 0 → taken t i ≡ false
taken_no t i h = ap not (eq-eqb _ _ h)

pub taken_seen : (slots i : ℕ) (l : List Entry) → Placed l → i < slots → taken (table_with l slots) i ≡ seen i l
unfolding table_with
taken_seen slots i l p k = go (seen i l) refl
  where
    table : List ℕ
    table = slots_with l (replicate slots 0)

    go : (b : Bool) → seen i l ≡ b → taken table i ≡ seen i l
    go true e = taken_yes table i (λ z. omega (arith, held l (replicate slots 0) i p (rw length-replicate k) e)) ∙ sym e
    go false e = taken_no table i (slot_stays l (replicate slots 0) i (unseen i l e) ∙ get_or-replicate slots i 0 0 k) ∙ sym e

-- ---- the listing and the records

pub listing_snoc : (was : List ℕ) (l : List Entry) (e : Entry) → listing_with (l ++ (e ∷ [])) was ≡ set (listing_with l was) (length l) e.place
unfolding listing_with
listing_snoc was l e =
    ap (over was 0) (map-append place_of l (e ∷ [])) ∙ over_append (map place_of l) (e.place ∷ []) was 0
    ∙ ap (λ (n : ℕ). over (over was 0 (map place_of l)) n (e.place ∷ [])) (zero-add (length (map place_of l)) ∙ length-map l place_of)
    ∙ over_one (over was 0 (map place_of l)) (length l) e.place

words_one : (e : Entry) → words_of (e ∷ []) ≡ entry_words e
unfolding words_of
words_one e = append-nil (entry_words e)

pub records_snoc : (was : List ℕ) (l : List Entry) (e : Entry)
    → records_with (l ++ (e ∷ [])) was
    ≡ either (ltb (length l) (length (records_with l was) / words_each)) (over (records_with l was) (length l * words_each) (entry_words e))
    (records_with l was)
unfolding records_with either
records_snoc was l e = rw (length_records was l) (go (ltb (length l) (length was / words_each)) refl)
  where
    m : ℕ
    m = length was / words_each

    go : (b : Bool) → ltb (length l) m ≡ b
        → records_with (l ++ (e ∷ [])) was ≡ either b (over (records_with l was) (length l * words_each) (entry_words e)) (records_with l was)
    go true h =
        let short = ltb-true (length l) m h in
        let all : take m (l ++ (e ∷ [])) ≡ l ++ (e ∷ []) = take_all m (l ++ (e ∷ [])) (omega (arith, length-append l (e ∷ []))) in
        let most : take m l ≡ l = take_all m l (omega arith) in
        rw (
          all,
          most,
          words_append l (e ∷ []),
          words_one e,
          over_append (words_of l) (entry_words e) was 0,
          zero-add (length (words_of l)),
          length_words l,
        )
    go false h = rw (take-append-le m l (e ∷ []) (ltb-false (length l) m h))
