-- Ten bytes for each value leave two to the next multiple of four exactly if the values are odd.
use Prim.Native.Nat.{ℕ, ◌*◌, ◌%◌}
use mathlib.Core.Path.{◌≡◌, refl}
use native.Mathlib.Omega.{arith}
use Rattle.layout.specs.Bytes.{bytes}
use Rattle.layout.specs.Many.{to_four, zeros}
use Rattle.buffer.proofs.Laws.{over_none}
use Rattle.profile_file.proofs.Lengths.{padding_of}
use Rattle.profile_writer.proofs.put_padding.Goals as goal

none-to-four : (held : ℕ) → held % 2 ≡ 0 → to_four (held * 10) ≡ 0
none-to-four held e = omega (arith, padding_of held)

two-to-four : (held : ℕ) → (held % 2 ≡ 0 → ⊥) → to_four (held * 10) ≡ 2
two-to-four held e =
    let one : held % 2 ≡ 1 = omega (arith, e) in
    omega (arith, padding_of held)

pub returns-then-held-eq0 : goal.returns-then-held-eq0
unfolding zeros
returns-then-held-eq0 c =
    let e = none-to-four c.args.held c.if-held-eq0.true in
    record { count = rw e refl; bytes = rw (e, over_none) refl }

pub store_u16-requires : goal.store_u16-requires
store_u16-requires c =
    omega (arith, two-to-four c.args.held c.if-held-eq0.false)

pub returns : goal.returns
unfolding zeros bytes
returns c =
    let e = two-to-four c.args.held c.if-held-eq0.false in
    record { count = rw e refl; bytes = rw e c.store_u16.ensures }
