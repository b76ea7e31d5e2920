-- What the code relies on: opening tells where the section of tuples lies.
use Rattle.std.specs.Prelude.{ℕ, ◌+◌, ◌≤◌, ◌<◌, List, length, get_or}

abbrev pub SectionInside : List ℕ → (section : List ℕ) → Type 0
SectionInside file section = 0 < get_or section 1 0 → get_or section 0 0 + get_or section 1 0 ≤ length file
