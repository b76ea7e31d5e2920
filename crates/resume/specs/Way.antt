-- The way down to the last context visited, in words: its depth, and the place of the context on each level.
use Rattle.std.specs.Prelude.{ℕ, zero, suc, ◌+◌, ◌≤◌, ◌<◌, List, [], ◌∷◌, ◌≡◌, eqb, length, get_or}
use Rattle.refusal.specs.Check.{either}
use Rattle.buffer.specs.Over.{over}
use Rattle.mark.specs.Mark.{encode, Encodable}
use Rattle.open.specs.Opening.{field}
use Rattle.context.specs.Context.{children_place, children_bytes, extent, sibling_place, children_end}
use Rattle.resume.specs.declared.Cursor.{Cursor}

-- the places of the contexts on a path whose first array starts at a place
unfoldable pub places_on : List ℕ → (start : ℕ) (path : List ℕ) → List ℕ
places_on file start [] = []
places_on file start (i ∷ path) =
    sibling_place file start i ∷ places_on file (field file (sibling_place file start i) children_place) path

-- words that lead to the context with a path; those of its places can be read
pub record WayTo (file : List ℕ) (start : ℕ) (path : List ℕ) (way : List ℕ) : Type 0 where
  pub depth : get_or way 0 0 ≡ length path
  pub stands : (k : ℕ) → k < length path → get_or way (suc k) 0 ≡ get_or (places_on file start path) k 0
  pub lie : (k : ℕ) → k < length path → get_or way (suc k) 0 + 24 ≤ length file

-- the number of the context at p in an array that starts at a place
abbrev pub NumberOf : List ℕ → (start p n : ℕ) → Type 0
NumberOf file start p n = (i : ℕ) → sibling_place file start i ≡ p → n ≡ i

-- there is a context that the words lead to, and it has a mark
abbrev pub Leads : List ℕ → (start : ℕ) (way : List ℕ) → Type 0
Leads file start way = (path : List ℕ) × WayTo file start path way × Encodable path

-- whose bytes are written from the start of a slice on
abbrev pub MarkPut : List ℕ → (start : ℕ) (way was now : List ℕ) → Type 0
MarkPut file start way was now = (path : List ℕ) → WayTo file start path way → Encodable path → now ≡ over was 0 (encode path)

-- ---- the arrays on the way

-- where the array ends that lies below `up` contexts of the way; below none it is that of the roots, which ends at `stop`
abbrev pub end_below : List ℕ → (stop : ℕ) (way : List ℕ) (up : ℕ) → ℕ
end_below file stop way zero = stop
end_below file stop way (suc d) = children_end file (get_or way (suc d) 0)

-- the parent of the contexts in that array, by its place; 0 for the roots
abbrev pub parent_below : (way : List ℕ) (up : ℕ) → ℕ
parent_below way zero = 0
parent_below way (suc d) = get_or way (suc d) 0

-- the context at q lies in the file, and so do its children
pub record Lies (file : List ℕ) (q : ℕ) : Type 0 where
  pub itself : q + extent file q ≤ length file
  pub children : children_end file q ≤ length file

abbrev pub LiesBelow : List ℕ → (way : List ℕ) (up : ℕ) → Type 0
LiesBelow file way zero = Unit {0}
LiesBelow file way (suc d) = Lies file (get_or way (suc d) 0)

-- ---- a place of the walk

abbrev pub cursor : (up p end : ℕ) → Cursor
cursor up p end = record { up = up; p = p; end = end }

-- behind the context on the way below `up` others, in its array
unfoldable pub back_to : List ℕ → (stop : ℕ) (way : List ℕ) (up : ℕ) → Cursor
back_to file stop way up = cursor up (get_or way (suc up) 0 + extent file (get_or way (suc up) 0)) (end_below file stop way up)

-- on from a context: behind it where it has no children, and else at the first of them
unfoldable pub on_from : List ℕ → Cursor → Cursor
on_from file here =
    either (eqb (field file here.p children_bytes) 0) (cursor here.up (here.p + extent file here.p) here.end)
    (cursor (suc here.up) (field file here.p children_place) (children_end file here.p))
