-- The children of each context on a trail that ends whole, and the roots: those on the trail with this parent, in trail order, are the
-- contexts of one array, in stored order.
use Rattle.std.specs.Prelude.{ℕ, zero, suc, ◌+◌, ◌≤◌, List, [], ◌∷◌, map, ◌≡◌, ltb, eqb, length}
use Rattle.refusal.specs.Check.{either}
use Rattle.seq.specs.Lists.{All, In}
use Rattle.open.specs.Format.{meta}
use Rattle.open.specs.Names as Section
use Rattle.open.specs.Opening.{field, pairs, place_in}
use Rattle.context.specs.Context.{children_bytes, children_place, ctx_id, extent, children_end}
use Rattle.context.specs.Entry.{Entry}
use Rattle.traversal.specs.Traversal.{depth_limit}
use Rattle.traversal.specs.Walk.{place_of}

-- of some contexts, those whose parent stands at a place; the roots for 0
unfoldable pub children_of : (parent : ℕ) → List Entry → List Entry
children_of parent [] = []
children_of parent (e ∷ es) = either (eqb e.parent parent) (e ∷ children_of parent es) (children_of parent es)

-- the places of the contexts of an array from p to `stop`, in stored order. The first number bounds how many they are: each takes a byte
-- at least
unfoldable pub places_from : List ℕ → (bound p stop : ℕ) → List ℕ
places_from file zero p stop = []
places_from file (suc bound) p stop = either (ltb p stop) (p ∷ places_from file bound (p + extent file p) stop) []

-- of the array whose size and place stand at a place: a context begins with those of its children, the header of the Context section with
-- those of the roots
abbrev pub places_at : List ℕ → (at : ℕ) → List ℕ
places_at file at = places_from file (field file at children_bytes) (field file at children_place) (children_end file at)

-- that array ends in the file, and each of its contexts in it
pub record ArrayInside (file : List ℕ) (at : ℕ) : Type 0 where
  pub readable : at + 16 ≤ length file
  pub ends : children_end file at ≤ length file
  pub each_ends : All (λ p. p + extent file p ≤ children_end file at) (places_at file at)

-- the contexts with this parent are those of that array, in its order
pub record StandAt (file : List ℕ) (l : List Entry) (parent at : ℕ) : Type 0 where
  pub in_order : map place_of (children_of parent l) ≡ places_at file at
  pub array : ArrayInside file at

-- the header of the Context section, where the size and place of the roots stand
abbrev pub roots_header : List ℕ → ℕ
roots_header file = place_in (pairs meta file) Section.context

pub record Children (file : List ℕ) (l : List Entry) : Type 0 where
  pub roots : StandAt file l 0 (roots_header file)
  pub of_each : (q : Entry) → In q l → StandAt file l q.place q.place
  -- its ctx_id is the one that stands there
  pub its_id : (e : Entry) → In e l → e.ctx_id ≡ field file e.place ctx_id
  -- roots have depth 1 and children one more than their parent, up to the limit
  pub root_depth : (e : Entry) → In e l → e.parent ≡ 0 → e.depth ≡ 1
  pub child_depth : (q e : Entry) → In q l → In e l → e.parent ≡ q.place → e.depth ≡ suc q.depth
  pub depth-limit : (e : Entry) → In e l → e.depth ≤ depth_limit
