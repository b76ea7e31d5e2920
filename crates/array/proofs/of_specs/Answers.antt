-- Field by field.
use Rattle.open.specs.Opening.{field, number_at}
use Rattle.array.specs.Stored.{array_of}
use native.Mathlib.Nat.{add-zero}
use Rattle.array.proofs.of_specs.Goals as goal

pub returns : goal.returns
unfolding array_of field number_at
returns c =
    rw (c.load_u16-spacing.ensures, c.load_u32-count.ensures, c.load_u64-place.ensures, add-zero)
