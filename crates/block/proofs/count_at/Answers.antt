-- By the width.
use Rattle.block.proofs.Parts.{not_two}
use Rattle.le.specs.Number.{number}
use mathlib.Core.Path.{sym, ap, ◌∙◌}
use Prim.Native.Nat.{ℕ, ◌+◌}
use Rattle.block.proofs.count_at.Goals as goal

pub returns-then-w-eq2 : goal.returns-then-w-eq2
returns-then-w-eq2 c =
    rw (c.u16_at.ensures, c.if-w-eq2.true)

pub returns-else-w-eq2 : goal.returns-else-w-eq2
returns-else-w-eq2 c =
    let four = not_two c.requires c.if-w-eq2.false in
    c.u32_at.ensures ∙ ap (λ (v : ℕ). number v c.args.file.now (c.args.at + 16)) (sym four)
