-- The opening rules as facts. A file opens exactly if they hold (proofs/Keeps.antt).
use Rattle.std.specs.Prelude.{ℕ, ◌+◌, ◌-◌, ◌*◌, ◌%◌, ◌≤◌, ◌<◌, List, [], ◌∷◌, ◌≡◌, length}
use Rattle.le.specs.Number.{number}
use Rattle.refusal.specs.Check.{Passed}
use Rattle.layout.specs.Stands.{Stands}
use Rattle.open.specs.Format.{u64, Stride, Content, nothing, array, roots, Section, Format, section_at}
use Rattle.open.specs.Opening.{field, number_at, pairs, place_in, size_in, opening}

pub record SectionKept (header last end align place size : ℕ) : Type 0 where
  pub large : end ≤ size
  pub after : 0 < size → header ≤ place
  pub inside : 0 < size → place + size ≤ last
  pub aligned : 0 < size → place % align ≡ 0

pub record StrideKept (least n : ℕ) : Type 0 where
  pub large : least ≤ n
  pub eights : n % 8 ≡ 0

pub record ArrayKept (at end size place count stride : ℕ) : Type 0 where
  pub after : 0 < count → at + end ≤ place
  pub inside : 0 < count → place + count * stride ≤ at + size
  pub aligned : 0 < count → place % 8 ≡ 0

pub record ContextsKept (at end size place bytes : ℕ) : Type 0 where
  pub no_place : place ≡ 0 → bytes ≡ 0
  pub no_bytes : bytes ≡ 0 → place ≡ 0
  pub after : 0 < bytes → at + end ≤ place
  pub inside : 0 < bytes → place + bytes ≤ at + size
  pub aligned : 0 < bytes → place % 8 ≡ 0

-- each stride of a section's header, and its content
abbrev pub StridesKept : List ℕ → (at : ℕ) → List Stride → Type 0
StridesKept file at [] = Unit
StridesKept file at (s ∷ rest) = StrideKept s.least (field file at s.field) × StridesKept file at rest

abbrev pub ContentKept : List ℕ → (at end size : ℕ) → Content → Type 0
ContentKept file at end size nothing = Unit
ContentKept file at end size (array n s) = ArrayKept at end size (field file at (u64 0)) (field file at n) (number_at file at s)
ContentKept file at end size roots = ContextsKept at end size (field file at (u64 8)) (field file at (u64 0))

-- 5, 6 and 7 of one section
pub record AllKept (header : ℕ) (file : List ℕ) (s : Section) (place size : ℕ) : Type 0 where
  pub section : SectionKept header (length file - 8) s.end s.align place size
  pub strides : StridesKept file place s.strides
  pub content : ContentKept file place s.end size s.content

pub record Opens (f : Format) (file : List ℕ) : Type 0 where
  pub long : f.header + 8 ≤ length file
  pub magic : Stands file 0 f.magic
  pub version : number 1 file 14 ≡ 4
  pub footer : Stands file (length file - 8) f.footer
  pub section : (k : ℕ) → k < length f.sections → AllKept f.header file (section_at f k) (place_in (pairs f file) k) (size_in (pairs f file) k)

-- what a reader of sections is handed: the pairs of a file that opens
pub record Sections (f : Format) (file : List ℕ) (ps : List (List ℕ)) : Type 0 where
  pub same : ps ≡ pairs f file
  pub passed : opening f file ≡ Passed
