-- Field by field.
use native.Mathlib.Nat.{add-zero}
use Rattle.tuple.specs.Tuple.{identifier_of}
use Rattle.tuple.proofs.identifier_of.Goals as goal

pub returns : goal.returns
unfolding identifier_of
returns c =
    rw (c.u8_at.ensures, c.u16_at.ensures, c.u32_at.ensures, c.u64_at.ensures, add-zero)
