-- When opening refuses by which number, as facts: the first rule that is broken, with every rule before it kept.
use Rattle.std.specs.Prelude.{ℕ, ◌+◌, ◌-◌, ◌≤◌, ◌<◌, List, ◌≡◌, length}
use Rattle.le.specs.Number.{number}
use Rattle.refusal.specs.declared.Refusal.{Refusal}
use Rattle.refusal.specs.declared.Refusal.TheVariants as No
use Rattle.layout.specs.Stands.{Stands}
use Rattle.open.specs.Format.{Format, section_at}
use Rattle.open.specs.Opening.{pairs, place_in, size_in}
use Rattle.open.specs.Kept.{SectionKept, StridesKept, ContentKept}

module _ (f : Format) (file : List ℕ) where
  abbrev pub Long : Type 0
  Long = f.header + 8 ≤ length file

  abbrev pub MagicStands : Type 0
  MagicStands = Stands file 0 f.magic

  abbrev pub VersionStands : Type 0
  VersionStands = number 1 file 14 ≡ 4

  abbrev pub FooterStands : Type 0
  FooterStands = Stands file (length file - 8) f.footer

  -- of section k: 5, 6, 7
  abbrev pub SectionOf : (k : ℕ) → Type 0
  SectionOf k = SectionKept f.header (length file - 8) (section_at f k).end (section_at f k).align (place_in (pairs f file) k) (size_in (pairs f file) k)

  abbrev pub StridesOf : (k : ℕ) → Type 0
  StridesOf k = StridesKept file (place_in (pairs f file) k) (section_at f k).strides

  abbrev pub ContentOf : (k : ℕ) → Type 0
  ContentOf k = ContentKept file (place_in (pairs f file) k) (section_at f k).end (size_in (pairs f file) k) (section_at f k).content

  -- 1 to 4; 5 of every section
  abbrev pub FrontKept : Type 0
  FrontKept = Long × MagicStands × VersionStands × FooterStands

  abbrev pub SectionsKept : Type 0
  SectionsKept = (k : ℕ) → k < length f.sections → SectionOf k

  -- in header order, one thing holds of every section before k, and another of section k
  abbrev pub First : (Kept : ℕ → Type 0) → (Broken : ℕ → Type 0) → Type 0
  First Kept Broken = (k : ℕ) × ((k < length f.sections) × (((j : ℕ) → j < k → Kept j) × Broken k))

  abbrev pub HeaderOf : (k : ℕ) → Type 0
  HeaderOf k = StridesOf k × ContentOf k

  abbrev pub Given : Refusal → Type 0
  Given No.Short = Long → ⊥
  Given No.Magic = Long × (MagicStands → ⊥)
  Given No.Version = Long × MagicStands × (VersionStands → ⊥)
  Given No.Footer = Long × MagicStands × VersionStands × (FooterStands → ⊥)
  Given No.Section = FrontKept × First SectionOf (λ k. SectionOf k → ⊥)
  Given No.Stride = FrontKept × SectionsKept × First HeaderOf (λ k. StridesOf k → ⊥)
  Given No.Array = FrontKept × SectionsKept × First HeaderOf (λ k. StridesOf k × (ContentOf k → ⊥))
  Given No.String = ⊥
  Given No.Link = ⊥
  Given No.Context = ⊥
  Given No.Order = ⊥
  Given No.Deep = ⊥
  Given No.Slot = ⊥
  Given No.Twice = ⊥
  Given No.Index = ⊥
  Given No.NotFinite = ⊥
  Given No.Room = ⊥
  Given No.Mark = ⊥
  Given No.Spelling = ⊥
  Given No.Total = ⊥
