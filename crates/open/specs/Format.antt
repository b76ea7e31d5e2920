-- The four files as one table: document 01's "Opening", with document 004's fields by width and offset.
use Rattle.std.specs.Prelude.{ℕ, List, [], ◌∷◌, get_or}
use Rattle.layout.specs.Bytes.{ascii}

-- an unsigned field: its width in bytes, and its offset in its structure
pub record Field : Type 0 where
  pub width : ℕ
  pub offset : ℕ

abbrev pub u8 : (offset : ℕ) → Field
u8 o = record { width = 1; offset = o }

abbrev pub u16 : (offset : ℕ) → Field
u16 o = record { width = 2; offset = o }

abbrev pub u32 : (offset : ℕ) → Field
u32 o = record { width = 4; offset = o }

abbrev pub u64 : (offset : ℕ) → Field
u64 o = record { width = 8; offset = o }

-- a field that holds a stride, and the least that it may hold
pub record Stride : Type 0 where
  pub field : Field
  pub least : ℕ

abbrev pub stride : Field → (least : ℕ) → Stride
stride f least = record { field = f; least = least }

-- a number that the format fixes, or that a field holds
pub data Number : Type 0 where
  fixed : ℕ → Number
  held : Field → Number

-- what a section's header leads to
pub data Content : Type 0 where
  nothing : Content
  -- an array, whose place stands in u64 0
  array : (count : Field) (stride : Number) → Content
  -- the root contexts: their size in bytes in u64 0, their place in u64 8
  roots : Content

-- a section: its header's END, which is its least size too; what its place is a multiple of; its strides; its content
pub record Section : Type 0 where
  pub end : ℕ
  pub align : ℕ
  pub strides : List Stride
  pub content : Content

abbrev pub section : (end align : ℕ) → List Stride → Content → Section
section end align strides content = record { end = end; align = align; strides = strides; content = content }

-- a file: its magic; its footer, empty where none is compared; its header's END; its sections in header order
pub record Format : Type 0 where
  pub magic : List ℕ
  pub footer : List ℕ
  pub header : ℕ
  pub sections : List Section

-- arrays of the names of identifier kinds; of metrics, profiles, cct entries and traces; of modules, files and functions
abbrev pub names_array : Content
names_array = array (u8 8) (fixed 8)

abbrev pub infos_array : Content
infos_array = array (u32 8) (held (u8 12))

abbrev pub specs_array : Content
specs_array = array (u32 8) (held (u16 12))

abbrev pub general_section : Section
general_section = section 16 8 [] nothing

abbrev pub id_names_section : Section
id_names_section = section 9 8 [] names_array

-- strides of metrics, of their scopes, and of the scopes' summaries
abbrev pub metrics_section : Section
metrics_section = section 15 8 (stride (u8 12) 24 ∷ stride (u8 13) 24 ∷ stride (u8 14) 16 ∷ []) infos_array

abbrev pub context_section : Section
context_section = section 16 8 [] roots

abbrev pub strings_section : Section
strings_section = section 0 1 [] nothing

-- modules, files and functions
abbrev pub specs_section : (least : ℕ) → Section
specs_section least = section 14 8 (stride (u16 12) least ∷ []) specs_array

-- profiles, cct entries and traces
abbrev pub infos_section : (least : ℕ) → Section
infos_section least = section 13 8 (stride (u8 12) least ∷ []) infos_array

abbrev pub id_tuples_section : Section
id_tuples_section = section 0 8 [] nothing

abbrev pub meta : Format
meta = record {
  magic = ascii "HPCTOOLKITmeta";
  footer = ascii "_meta.db";
  header = 144;
  sections =
      general_section
      ∷ id_names_section
      ∷ metrics_section
      ∷ context_section
      ∷ strings_section
      ∷ specs_section 16
      ∷ specs_section 16
      ∷ specs_section 40
      ∷ [];
}

abbrev pub profile : Format
profile = record {
  magic = ascii "HPCTOOLKITprof";
  footer = ascii "_prof.db";
  header = 48;
  sections = infos_section 40 ∷ id_tuples_section ∷ [];
}

-- cct.db and trace.db have one section each
abbrev pub single : (magic footer : List ℕ) (least : ℕ) → Format
single magic footer least = record { magic = magic; footer = footer; header = 32; sections = infos_section least ∷ [] }

abbrev pub cct : Format
cct = single (ascii "HPCTOOLKITctxt") (ascii "__ctx.db") 32

-- no footer is compared; the last eight bytes are kept free all the same
abbrev pub trace : Format
trace = single (ascii "HPCTOOLKITtrce") [] 24

-- the field of a section's stride j
abbrev pub stride_at : Section → (j : ℕ) → Field
stride_at s j = (get_or s.strides j (stride (u8 0) 0)).field

-- section k in header order
abbrev pub section_at : Format → (k : ℕ) → Section
section_at f k = get_or f.sections k strings_section
