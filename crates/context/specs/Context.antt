-- One context: document 01's "Contexts and the trail" for a context by itself, with document 004's fields.
use Rattle.std.specs.Prelude.{ℕ, zero, suc, ◌+◌, ◌*◌, Bool, ◌&&◌, ◌||◌, not, List, [], ◌∷◌, leb, eqb, get_or}
use Rattle.le.specs.Number.{number}
use Rattle.refusal.specs.Check.{either}
use Rattle.open.specs.Format.{Field, u8, u32, u64, meta, context_section}
use Rattle.open.specs.Names as Section
use Rattle.open.specs.Opening.{field, contexts_rule, place_in, size_in}
use Rattle.array.specs.declared.Array.{Array}
use Rattle.array.specs.Element.{linked}
use Rattle.array.specs.Stored.{array_in}
use Rattle.flex.specs.Names as Flex
use Rattle.flex.specs.Packing.{is_present, place, words}

-- what the pointers of contexts may lead to: the Context section, and the arrays of functions, files and modules
pub record Targets : Type 0 where
  pub at : ℕ
  pub size : ℕ
  pub functions : Array
  pub files : Array
  pub modules : Array

-- ---- fields

abbrev pub children_bytes : Field
children_bytes = u64 0

abbrev pub children_place : Field
children_place = u64 8

abbrev pub ctx_id : Field
ctx_id = u32 16

abbrev pub flags : Field
flags = u8 20

abbrev pub relation : Field
relation = u8 21

abbrev pub lexical_type : Field
lexical_type = u8 22

abbrev pub flex_words : Field
flex_words = u8 23

-- the bytes that the context at p takes
unfoldable pub extent : List ℕ → (p : ℕ) → ℕ
extent file p = 24 + 8 * field file p flex_words

-- the place of context i of an array that starts at a place
unfoldable pub sibling_place : List ℕ → (start i : ℕ) → ℕ
sibling_place file start zero = start
sibling_place file start (suc i) = sibling_place file start i + extent file (sibling_place file start i)

-- where the children of the context at p end
abbrev pub children_end : List ℕ → (p : ℕ) → ℕ
children_end file p = field file p children_place + field file p children_bytes

-- ---- flex

-- widths of the fields in packing order: function; file, line; module, offset
abbrev pub widths : List ℕ
widths = 8 ∷ 8 ∷ 4 ∷ 8 ∷ 8 ∷ []

-- what flex field j holds; 0 where it is not present
unfoldable pub flex_at : List ℕ → (p j : ℕ) → ℕ
flex_at file p j =
    either (is_present (field file p flags) j)
    (number (get_or widths j 0) file (p + 24 + place (field file p flags) j)) 0

-- ---- rules

-- 10: it ends inside its array, which ends at `stop`, and has the flex words that its flags need
unfoldable pub context_rule : List ℕ → (p stop : ℕ) → Bool
context_rule file p stop =
    leb (p + 24) stop && (leb (p + extent file p) stop && leb (words (field file p flags)) (field file p flex_words))

-- 9: a link that is present is not 0, and is the place of an element
unfoldable pub link_rule : (present : Bool) → Array → (link : ℕ) → Bool
link_rule present a link = not present || (not (eqb link 0) && linked a link)

unfoldable pub links_rule : Targets → List ℕ → (p : ℕ) → Bool
links_rule t file p =
    link_rule (is_present (field file p flags) Flex.function) t.functions (flex_at file p Flex.function)
    && (link_rule (is_present (field file p flags) Flex.file) t.files (flex_at file p Flex.file)
    && link_rule (is_present (field file p flags) Flex.load_module) t.modules (flex_at file p Flex.load_module))

-- 7: the range of its children, in the Context section
unfoldable pub children_rule : Targets → List ℕ → (p : ℕ) → Bool
children_rule t file p = contexts_rule t.at context_section.end t.size (field file p children_place) (field file p children_bytes)

-- ---- those of a file, by the places and sizes of its sections
unfoldable pub targets_of : List ℕ → (ps : List (List ℕ)) → Targets
targets_of file ps = record {
  at = place_in ps Section.context;
  size = size_in ps Section.context;
  functions = array_in meta file ps Section.functions;
  files = array_in meta file ps Section.files;
  modules = array_in meta file ps Section.modules;
}
