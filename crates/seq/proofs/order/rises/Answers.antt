-- The first number, those that are no four, and the fours.
use Prim.Native.Nat.{◌+◌, ◌-◌, ◌*◌, ◌/◌, ◌%◌, ◌≤◌}
use mathlib.Core.Path.{◌≡◌, sym, ◌∙◌}
use native.Mathlib.Omega.{arith}
use Rattle.seq.proofs.Rising.{rises_none, rises_longer, rising_start, rising_not}
use Rattle.seq.proofs.order.rises.Goals as goal
use Rattle.seq.proofs.order.rises.Goals.{then-rise_singly, else-rise_singly}

pub returns-then-n-eq0 : goal.returns-then-n-eq0
returns-then-n-eq0 g c = λ f gives. rw c.if-n-eq0.true (sym (rises_none c.args.least c.args.gap f))

pub returns-then-number-least : goal.returns-then-number-least
returns-then-number-least g c = λ f gives.
    let first = gives 0 _ (omega (arith, c.if-n-eq0.false)) c.number.ensures in
    sym (rising_not (rising_start c.args.least c.args.gap f c.args.n) (omega (arith, c.if-n-eq0.false)) (rw first at c.if-number-least.true))

pub returns : goal.returns
returns g c = λ f gives.
    let n = c.args.n in
    let least_at : c.args.least ≤ f 0 = omega (arith, c.if-number-least.false, gives 0 _ (omega (arith, c.if-n-eq0.false)) c.number.ensures) in
    let head : (n - 1) % 4 + 1 ≤ n = omega (arith, c.if-n-eq0.false) in
    let all : (n - 1) % 4 + (n - 1) / 4 * 4 + 1 ≡ n = omega (arith, c.if-n-eq0.false) in
    let singly = c.rise_singly.ensures c.args.least f (λ k x l p. gives k x (omega arith) p) least_at in
    elim c.if-rise_singly.branch [
      | then-rise_singly w ↦
          w.result-is
          ∙ rw all at (w.rise_by_fours.ensures c.args.least f (λ k x l p. gives k x (omega arith) p) (sym singly ∙ w.if-rise_singly.true))
      | else-rise_singly w ↦ w.result-is ∙ w.if-rise_singly.false ∙ sym (rises_longer c.args.least c.args.gap f _ n head (sym singly ∙ w.if-rise_singly.false))
    ]
