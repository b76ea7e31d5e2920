-- Bytes that are laid out: of a text, of a number, of a structure's fields, of one thing after the other.
use Rattle.std.specs.Prelude.{ℕ, zero, suc, ◌+◌, ◌/◌, ◌%◌, List, [], ◌∷◌, ◌++◌, length}
use Prim.Native.Char.{code}
use Prim.Native.String.{String, [] as empty, ◌∷◌ as then}

-- a text of ASCII
abbrev pub ascii : String → List ℕ
ascii empty = []
ascii (then c s) = code c ∷ ascii s

-- w bytes that hold a number, the lowest first
unfoldable pub bytes : (w x : ℕ) → List ℕ
bytes zero x = []
bytes (suc w) x = x % 256 ∷ bytes w (x / 256)

-- a field: its width in bytes, and the number that it holds
pub record Field : Type 0 where
  pub width : ℕ
  pub holds : ℕ

abbrev pub ◌is◌ : ℕ → ℕ → Field
◌is◌ w x = record { width = w; holds = x }

infixr 90 ◌is◌
-- the fields of a structure, one after the other
unfoldable pub fields : List Field → List ℕ
fields [] = []
fields (f ∷ fs) = bytes f.width f.holds ++ fields fs

-- where field i starts, the field, and the size of all
abbrev pub offset : List Field → (i : ℕ) → ℕ
offset [] i = 0
offset (f ∷ fs) zero = 0
offset (f ∷ fs) (suc i) = f.width + offset fs i

abbrev pub field_at : List Field → (i : ℕ) → Field
field_at [] i = 0 is 0
field_at (f ∷ fs) zero = f
field_at (f ∷ fs) (suc i) = field_at fs i

abbrev pub size_of : List Field → ℕ
size_of [] = 0
size_of (f ∷ fs) = f.width + size_of fs

-- parts, one after the other
unfoldable pub join : List (List ℕ) → List ℕ
join [] = []
join (p ∷ ps) = p ++ join ps

-- how many bytes stand before part i, and the part
abbrev pub before : List (List ℕ) → (i : ℕ) → ℕ
before [] i = 0
before (p ∷ ps) zero = 0
before (p ∷ ps) (suc i) = length p + before ps i

abbrev pub part_at : List (List ℕ) → (i : ℕ) → List ℕ
part_at [] i = []
part_at (p ∷ ps) zero = p
part_at (p ∷ ps) (suc i) = part_at ps i
