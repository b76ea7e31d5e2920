-- The rule of a tuple by facts.
use Prim.Native.Nat.{ℕ, ◌+◌, ◌*◌}
use mathlib.Core.Bool.{true}
use mathlib.Core.List.{List}
use mathlib.Core.Logic.{◌↔◌}
use mathlib.Core.Path.{◌≡◌}
use Rattle.le.specs.Number.{number}
use Rattle.range.specs.Range.{within, multiple}
use Rattle.range.proofs.Tests.{both, within_iff, multiple_iff}
use Rattle.tuple.specs.Tuple.{tuple_rule}
use Rattle.tuple.specs.Facts.{TupleKept}

-- a tuple keeps rule 7 exactly if it starts in the section, at a multiple of 8, and ends there
pub tuple_iff : (file : List ℕ) (place size at : ℕ) → (tuple_rule file place size at ≡ true) ↔ TupleKept file place size at
unfolding tuple_rule
tuple_iff file place size at =
    let bytes = 8 + 16 * number 2 file at in
    let b = both (multiple at 8) (within place (place + size) at bytes) in
    let m = multiple_iff at 8 in
    let w = within_iff place (place + size) at bytes in (
      λ e. record { aligned = m.0 (b.0 e).0; starts = (w.0 (b.0 e).1).0; fits = (w.0 (b.0 e).1).1 },
      λ k. b.1 (m.1 k.aligned, w.1 (k.starts, k.fits)),
    )
