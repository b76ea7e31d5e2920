-- How a traversal finds the context that a path names: by the levels of the path that the way down is on (`matched`), and the number of
-- siblings visited on the next level, counted up to one more than the path's own number there (`seen`).
use Rattle.std.specs.Prelude.{ℕ, suc, ◌<◌, ◌&&◌, List, [], ◌∷◌, ◌≡◌, eqb, ltb, length, get_or}
use Rattle.refusal.specs.Check.{either}
use Rattle.seek.specs.declared.Seek.{Seek}

abbrev pub seek : (matched seen : ℕ) → Seek
seek matched seen = record { matched = matched; seen = seen }

-- at the next context, which is below `up` others: below one that is not on the path; else the path's own on its level, or before that, or
-- after that
unfoldable pub stepped : (path : List ℕ) → Seek → (up : ℕ) → Seek
stepped path s up =
    either (ltb s.matched up) s
    (either (eqb s.matched up && eqb s.seen (get_or path up 0)) (seek (suc up) 0)
    (either (eqb s.matched up && ltb s.seen (get_or path up 0)) (seek up (suc s.seen))
    (seek up (suc (get_or path up 0)))))

-- ---- what it is after the context with the path `last`, or before the first, where `last` is empty

unfoldable pub deeper : Seek → Seek
deeper s = seek (suc s.matched) s.seen

unfoldable pub sought : (path last : List ℕ) → Seek
sought [] last = seek 0 0
sought (y ∷ path) [] = seek 0 0
sought (y ∷ path) (x ∷ last) = either (eqb x y) (deeper (sought path last)) (seek 0 (suc (either (ltb x y) x y)))

-- as long as not all levels match
pub record Seeks (path last : List ℕ) (s : Seek) : Type 0 where
  pub is : s ≡ sought path last
  pub not_all : s.matched < length path

-- number i below the way `ups` can come right after the context with the path `last`: as its first child (as the first root, where `last`
-- is empty), or as the next sibling of it or of one above it
abbrev pub Next : (last ups : List ℕ) (i : ℕ) → Type 0
Next [] [] i = i ≡ 0
Next (x ∷ last) [] i = i ≡ suc x
Next [] (y ∷ ups) i = ⊥
Next (x ∷ last) (y ∷ ups) i = (x ≡ y) × Next last ups i
