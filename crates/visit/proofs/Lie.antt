-- The roots of an opened file, where there are any, and the section that holds all contexts lie in the file.
use Prim.Native.Nat.{ℕ, ◌+◌, ◌≤◌, ◌<◌}
use mathlib.Core.List.{List}
use mathlib.Core.Path.{◌≡◌, refl}
use native.Mathlib.Omega.{arith}
use lib.ListN.{length}
use Rattle.le.specs.Number.{number}
use Rattle.open.specs.Format.{meta}
use Rattle.open.specs.Names as Section
use Rattle.open.specs.Opening.{field, place_in, pairs}
use Rattle.open.specs.Kept.{Sections}
use Rattle.open.proofs.Keeps.{opens_iff}
use Rattle.open.proofs.Inside.{section_inside, roots_kept}
use Rattle.array.proofs.Bounds.{header_in}
use Rattle.context.specs.Context.{Targets, targets_of}

-- where they are said to stand
pub roots-header : (file : List ℕ) {ps : List (List ℕ)} → Sections meta file ps → place_in ps Section.context + 16 ≤ length file
roots-header file o = header_in meta file o Section.context (omega arith)

pub roots_lie : (file : List ℕ) {ps : List (List ℕ)} → Sections meta file ps → (t : Targets) → t ≡ targets_of file ps → (place bytes : ℕ)
    → place ≡ number 8 file (place_in ps Section.context + 8) → bytes ≡ number 8 file (place_in ps Section.context + 0) → 0 < bytes
    → (0 < place) × (place + bytes ≤ length file) × (t.at + t.size ≤ length file)
unfolding field targets_of
roots_lie file o t et place bytes ep eb h =
    let opens = (opens_iff meta file).0 o.passed in
    let lies = section_inside meta file opens Section.context (omega arith) (omega (arith, (opens.section Section.context (omega arith)).section.large)) in
    let kept = roots_kept meta file opens Section.context (omega arith) refl in
    let p = rw o.same at ep in
    let b = rw o.same at eb in
    let some : 0 < number 8 file (place_in (pairs meta file) Section.context + 0) = omega arith in
    rw (et, o.same) (omega (arith, p, b, kept.after some, lies), omega (arith, p, b, kept.inside some, lies), omega (arith, lies))
