-- Opening: document 01's rules over a format, in its order of refusals, on exact numbers.
use Rattle.std.specs.Prelude.{ℕ, zero, suc, ◌+◌, ◌-◌, ◌*◌, Bool, true, ◌&&◌, ◌||◌, not, List, [], ◌∷◌, leb, eqb, length, get_or, Ok, Err}
use Rattle.le.specs.Number.{number}
use Rattle.range.specs.Range.{within, multiple}
use Rattle.refusal.specs.declared.Refusal.{Refusal}
use Rattle.refusal.specs.declared.Refusal.TheVariants as No
use Rattle.refusal.specs.Check.{Answer, Check, Passed, either, rule, first, if_passed}
use Rattle.layout.specs.Stands.{stands}
use Rattle.open.specs.Format.{Field, u64, Stride, Number, fixed, held, Content, nothing, array, roots, Section, Format}

-- ---- the header

-- the place of a section; a pointer is ignored where the size is 0
unfoldable pub place_for : (size pointer : ℕ) → ℕ
place_for zero pointer = 0
place_for (suc n) pointer = pointer

-- place and size of a section, from its entry in the header: its size, then its pointer
unfoldable pub pair_at : List ℕ → (entry : ℕ) → List ℕ
pair_at file entry = place_for (number 8 file entry) (number 8 file (entry + 8)) ∷ number 8 file entry ∷ []

unfoldable pub pairs_from : List ℕ → (entry : ℕ) → List Section → List (List ℕ)
pairs_from file entry [] = []
pairs_from file entry (s ∷ rest) = pair_at file entry ∷ pairs_from file (entry + 16) rest

-- place and size of each section, in header order
unfoldable pub pairs : Format → List ℕ → List (List ℕ)
pairs f file = pairs_from file 16 f.sections

-- those of section k
abbrev pub pair_in : List (List ℕ) → (k : ℕ) → List ℕ
pair_in ps k = get_or ps k []

abbrev pub place_in : List (List ℕ) → (k : ℕ) → ℕ
place_in ps k = get_or (pair_in ps k) 0 0

abbrev pub size_in : List (List ℕ) → (k : ℕ) → ℕ
size_in ps k = get_or (pair_in ps k) 1 0

-- ---- rules of one section. In a file the header ends at `header`, and the last eight bytes start at `last`

-- 5: large enough; and unless its size is 0 it lies between the two, at a multiple of `align`
unfoldable pub section_rule : (header last end align place size : ℕ) → Bool
section_rule header last end align place size =
    leb end size && (eqb size 0 || (within header last place size && multiple place align))

-- 6: a stride
unfoldable pub stride_rule : (least n : ℕ) → Bool
stride_rule least n = leb least n && multiple n 8

-- 7: an array in a section of `size` bytes at a place `at`, behind its header of `end` bytes; with count 0 its place is ignored
unfoldable pub array_rule : (at end size place count stride : ℕ) → Bool
array_rule at end size place count stride =
    eqb count 0 || (within (at + end) (at + size) place (count * stride) && multiple place 8)

-- 7: roots or children in it, `bytes` long: place and size both 0, or both not
unfoldable pub contexts_rule : (at end size place bytes : ℕ) → Bool
contexts_rule at end size place bytes =
    (eqb place 0 && eqb bytes 0)
    || ((not (eqb place 0) && not (eqb bytes 0)) && (within (at + end) (at + size) place bytes && multiple place 8))

-- ---- the rules of a section's header, which stands at the section's place

-- what a field of a structure at a place holds
unfoldable pub field : List ℕ → (at : ℕ) → Field → ℕ
field file at f = number f.width file (at + f.offset)

unfoldable pub number_at : List ℕ → (at : ℕ) → Number → ℕ
number_at file at (fixed n) = n
number_at file at (held f) = field file at f

unfoldable pub stride_rules : List ℕ → (at : ℕ) → List Stride → Bool
stride_rules file at [] = true
stride_rules file at (s ∷ rest) = stride_rule s.least (field file at s.field) && stride_rules file at rest

unfoldable pub content_rule : List ℕ → (at end size : ℕ) → Content → Bool
content_rule file at end size nothing = true
content_rule file at end size (array n s) = array_rule at end size (field file at (u64 0)) (field file at n) (number_at file at s)
content_rule file at end size roots = contexts_rule at end size (field file at (u64 8)) (field file at (u64 0))

-- its strides first, then its array or its roots
unfoldable pub header_rule : List ℕ → Section → (place size : ℕ) → Check
header_rule file s place size =
    first (rule (stride_rules file place s.strides) No.Stride)
    (rule (content_rule file place s.end size s.content) No.Array)

-- ---- opening

-- 1 to 4
unfoldable pub front_rules : (magic footer : List ℕ) (header : ℕ) → List ℕ → Check
front_rules magic footer header file =
    first (rule (leb (header + 8) (length file)) No.Short)
    (first (rule (stands file 0 magic) No.Magic)
    (first (rule (eqb (number 1 file 14) 4) No.Version) (rule (stands file (length file - 8) footer) No.Footer)))

-- a rule of every section, from section k on in header order
unfoldable pub in_order : (ℕ → Section → Check) → (k : ℕ) → List Section → Check
in_order check k [] = Passed
in_order check k (s ∷ rest) = first (check k s) (in_order check (k + 1) rest)

-- 5, and 6 before 7, of section k, whose place and size stand in `ps`
unfoldable pub section_check : (header : ℕ) → List ℕ → (ps : List (List ℕ)) (k : ℕ) → Section → Check
section_check header file ps k s =
    rule (section_rule header (length file - 8) s.end s.align (place_in ps k) (size_in ps k)) No.Section

unfoldable pub header_check : List ℕ → (ps : List (List ℕ)) (k : ℕ) → Section → Check
header_check file ps k s = header_rule file s (place_in ps k) (size_in ps k)

-- all rules, with the places and sizes of the sections
unfoldable pub opening_with : Format → List ℕ → (ps : List (List ℕ)) → Check
opening_with f file ps =
    first (front_rules f.magic f.footer f.header file)
    (first (in_order (section_check f.header file ps) 0 f.sections) (in_order (header_check file ps) 0 f.sections))

unfoldable pub opening : Format → List ℕ → Check
opening f file = opening_with f file (pairs f file)

-- in place of the pairs every word is 0
unfoldable pub blank : List (List ℕ) → List (List ℕ)
blank [] = []
blank (p ∷ ps) = (0 ∷ 0 ∷ []) ∷ blank ps

-- what is read before a rule is looked at: a file that ends inside its header has no pairs
unfoldable pub pairs_read : Format → List ℕ → List (List ℕ)
pairs_read f file = either (leb f.header (length file)) (pairs f file) (blank (pairs f file))

-- what is answered of a file that opens, by its pairs, or the refusal: every reader opens its file afresh
unfoldable pub on_opened : {A : Type 0} → (Refusal → A) → Format → List ℕ → (List (List ℕ) → A) → A
on_opened refused f file answer = if_passed refused (opening f file) (answer (pairs f file))

-- what opening itself answers: the pairs, or the refusal
unfoldable pub opened : Format → List ℕ → Answer (List (List ℕ))
opened f file = on_opened Err f file Ok
