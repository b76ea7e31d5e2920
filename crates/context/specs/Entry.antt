-- What is known of a context that a traversal visits.
use Rattle.std.specs.Prelude.{ℕ, ◌%◌, List, [], ◌∷◌, length}
use Rattle.open.specs.Opening.{field}
use Rattle.flex.specs.Names as Flex
use Rattle.context.specs.Context.{ctx_id, flags, relation, lexical_type, flex_at}

-- flags: those that bring flex fields, the lowest three. Absent flex fields are 0. `parent`: the place of the context whose child
-- it is, 0 for a root. `path`: its number among its siblings, from 0, after those on the way down to it
pub record Entry : Type 0 where
  pub place : ℕ
  pub depth : ℕ
  pub ctx_id : ℕ
  pub relation : ℕ
  pub lexical_type : ℕ
  pub flags : ℕ
  pub function : ℕ
  pub file : ℕ
  pub line : ℕ
  pub load_module : ℕ
  pub offset : ℕ
  pub parent : ℕ
  pub path : List ℕ

-- roots have depth 1
unfoldable pub entry_at : List ℕ → (parent : ℕ) (path : List ℕ) (p : ℕ) → Entry
entry_at f parent path p = record {
  place = p;
  depth = length path;
  ctx_id = field f p ctx_id;
  relation = field f p relation;
  lexical_type = field f p lexical_type;
  flags = field f p flags % 8;
  function = flex_at f p Flex.function;
  file = flex_at f p Flex.file;
  line = flex_at f p Flex.line;
  load_module = flex_at f p Flex.load_module;
  offset = flex_at f p Flex.offset;
  parent = parent;
  path = path;
}

-- the words of an entry that are handed out
unfoldable pub entry_words : Entry → List ℕ
entry_words e =
    e.place ∷ e.depth ∷ e.ctx_id ∷ e.relation ∷ e.lexical_type ∷ e.flags ∷ e.function ∷ e.file ∷ e.line ∷ e.load_module ∷ e.offset ∷
    e.parent ∷ []

-- how many they are
abbrev pub words_each : ℕ
words_each = 12
