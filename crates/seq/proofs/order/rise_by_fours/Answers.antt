-- Where four do not rise, nor do all.
use Prim.Native.Nat.{◌+◌, ◌*◌, ◌≤◌}
use mathlib.Core.Path.{sym, ◌∙◌}
use native.Mathlib.Omega.{arith}
use Rattle.seq.proofs.Rising.{rises_longer}
use Rattle.seq.proofs.order.rise_by_fours.Goals as goal

pub returns-then-not-four_rise : goal.returns-then-not-four_rise
returns-then-not-four_rise g c = λ least f gives so_far.
    let within : c.args.last + c.loop-four.four * 4 + 5 ≤ c.args.last + c.args.fours * 4 + 1 = omega arith in
    let four = c.four_rise.ensures least f (λ k x l p. gives k x (omega arith) p) (c.loop-four.invariant least f gives so_far) in
    sym (rises_longer least c.args.gap f _ _ within (sym four ∙ c.if-not-four_rise.true))
