-- A mark: document 02, request 2026-03. Its bytes by the path of a context, and the path by the bytes.
use Rattle.std.specs.Prelude.{ℕ, zero, suc, ◌+◌, ◌*◌, ◌≤◌, Bool, true, false, ◌&&◌, List, [], ◌∷◌, ◌++◌, ◌≡◌, leb, eqb, length}
use Rattle.le.specs.Number.{number}
use Rattle.refusal.specs.Check.{either}
use Rattle.layout.specs.Bytes.{Field, ◌is◌, fields}
use Rattle.seq.specs.Lists.{Below}

-- "a u16 kind (1)"; "a depth above 200" is malformed
abbrev pub mark_kind : ℕ
mark_kind = 1

abbrev pub deepest : ℕ
deepest = 200

-- the bytes of a mark of some depth, and room for each
abbrev pub mark_size : (depth : ℕ) → ℕ
mark_size depth = 5 + 4 * depth

abbrev pub mark_room : ℕ
mark_room = mark_size deepest

-- ---- its bytes

-- "then a u32 per level: the context's number among its siblings from 0"
unfoldable pub number_fields : (path : List ℕ) → List Field
number_fields [] = []
number_fields (x ∷ xs) = 4 is x ∷ number_fields xs

-- "a u16 length of the whole mark, a u16 kind (1), a u8 depth"
abbrev pub head_fields : (depth : ℕ) → List Field
head_fields depth = 2 is mark_size depth ∷ 2 is mark_kind ∷ 1 is depth ∷ []

unfoldable pub encode : (path : List ℕ) → List ℕ
encode path = fields (head_fields (length path) ++ number_fields path)

-- paths that marks can name: at most 200 levels, and each number fits its u32
pub record Encodable (path : List ℕ) : Type 0 where
  pub shallow : length path ≤ deepest
  pub small : Below 4294967296 path

-- ---- what bytes say

-- "Malformed means a length other than that of the bytes given or 5 + 4 × depth, an unknown kind, or a depth above 200."
pub record WellFormedMark (m : List ℕ) : Type 0 where
  pub given : number 2 m 0 ≡ length m
  pub by_depth : number 2 m 0 ≡ 5 + 4 * number 1 m 4
  pub known : number 2 m 2 ≡ 1
  pub shallow : number 1 m 4 ≤ 200

unfoldable pub well_formed : (m : List ℕ) → Bool
well_formed m =
    eqb (number 2 m 0) (length m)
    && (eqb (number 2 m 0) (mark_size (number 1 m 4)) && (eqb (number 2 m 2) mark_kind && leb (number 1 m 4) deepest))

-- the path that a mark names, or nothing where it is malformed
pub data Decoded : Type 0 where
  named : (path : List ℕ) → Decoded
  malformed : Decoded

-- the numbers of `depth` levels from a place on
unfoldable pub numbers_at : List ℕ → (at depth : ℕ) → List ℕ
numbers_at m at zero = []
numbers_at m at (suc depth) = number 4 m at ∷ numbers_at m (at + 4) depth

-- "a walk given no mark (no bytes)" has that of depth 0
unfoldable pub decode : (m : List ℕ) → Decoded
decode [] = named []
decode (b ∷ bs) = either (well_formed (b ∷ bs)) (named (numbers_at (b ∷ bs) 5 (number 1 (b ∷ bs) 4))) malformed

unfoldable pub is_named : Decoded → Bool
is_named (named path) = true
is_named malformed = false

unfoldable pub path_in : Decoded → List ℕ
path_in (named path) = path
path_in malformed = []
