-- The parent in a record: document 02, request 2026-07. "Every context record handed out by a walk or a read along the trail gets its
-- parent's place, 0 for a root."
use Rattle.std.specs.Prelude.{ℕ, ◌+◌, ◌*◌, ◌≤◌, ◌<◌, List, [], ◌∷◌, ◌++◌, ◌↔◌, ◌≡◌, get_or}
use Rattle.open.specs.Opening.{field}
use Rattle.seq.specs.Lists.{In}
use Rattle.context.specs.Context.{children_place, extent, sibling_place, children_end}
use Rattle.context.specs.Entry.{Entry, words_each}
use Rattle.traversal.specs.Traversal.{on, traversal}
use Rattle.traversal.specs.Demand3.{Call, asked, RecordOf}
use Rattle.traversal.specs.Joined.{contexts}

-- the array of children of a context holds another, as its i-th
pub record HoldsChild (file : List ℕ) (parent i child : ℕ) : Type 0 where
  pub stands : child ≡ sibling_place file (field file parent children_place) i
  pub inside : child + extent file child ≤ children_end file parent

-- q is one of some contexts, and the parent of e: it leads to e, on the way down as in its array of children
pub record ParentAmong (file : List ℕ) (l : List Entry) (q e : Entry) : Type 0 where
  pub among : In q l
  pub number : ℕ
  pub path : e.path ≡ q.path ++ (number ∷ [])
  pub holds : HoldsChild file q.place number e.place

module _ {file : List ℕ} (c : Call file) where
  -- the last word of record n, as it is handed out
  abbrev pub parent_word : (n : ℕ) → ℕ
  parent_word n = get_or c.now.records (n * words_each + 11) 0

  pub record Parents : Type 0 where
    -- "0 for a root", which has depth 1
    pub root : (n : ℕ) (e : Entry) → RecordOf c n e → (parent_word n ≡ 0) ↔ (e.depth ≡ 1)
    -- "its parent's place": of the context on the trail, listed or not, that leads to it
    pub child : (n : ℕ) (e : Entry) → RecordOf c n e → (e.depth ≡ 1 → ⊥)
        → (q : Entry) × ParentAmong file (contexts c) q e × (parent_word n ≡ q.place)
    -- which is one, and the only one that stands there
    pub one_parent : (q r e : Entry) → ParentAmong file (contexts c) q e → ParentAmong file (contexts c) r e → q ≡ r
    pub one_place : (d e : Entry) → In d (contexts c) → In e (contexts c) → d.place ≡ e.place → d ≡ e
    -- and, on a trail that ends whole, the only one whose array of children holds it; all that such an array holds is on the trail
    pub one_array : (l : List Entry) → traversal (asked c) ≡ on l → (q e : Entry) → In q l → In e l → (i : ℕ)
        → HoldsChild file q.place i e.place → e.parent ≡ q.place
    pub all_children : (l : List Entry) → traversal (asked c) ≡ on l → (q : Entry) → In q l → (i : ℕ)
        → sibling_place file (field file q.place children_place) i < children_end file q.place
        → (e : Entry) × In e l × (h : ParentAmong file l q e) × (h.number ≡ i) × (e.parent ≡ q.place)
