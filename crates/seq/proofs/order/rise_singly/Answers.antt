-- What a number is read as is what the sequence has there.
use Prim.Native.Nat.{◌+◌, ◌-◌}
use mathlib.Core.Path.{◌≡◌, sym, ◌∙◌}
use native.Mathlib.Omega.{arith}
use borrow.Author.Tests.{leb-true, leb-false}
use Rattle.seq.proofs.Rising.{rising_start, rising_not, rising_more}
use Rattle.seq.proofs.order.rise_singly.Goals as goal

pub loop-k-init : goal.loop-k-init
loop-k-init g c = λ least f gives low. rising_more (rising_start least c.args.gap f c.args.n) c.requires.n_nonzero low

pub returns-then-not-follows : goal.returns-then-not-follows
returns-then-not-follows g c = λ least f gives low.
    let below = leb-false _ _ (sym c.follows.ensures ∙ c.if-not-follows.true) in
    let here = gives c.loop-k.k _ c.loop-k-test.true c.number.ensures in
    let before = gives (c.loop-k.k - 1) _ (omega arith) c.number-in-loop-k.ensures in
    sym (rising_not (c.loop-k.invariant least f gives low) c.loop-k-test.true (rw (here, before) at below))

pub loop-k-preserved : goal.loop-k-preserved
loop-k-preserved g c = λ least f gives low.
    let above = leb-true _ _ (sym c.follows.ensures ∙ c.if-not-follows.false) in
    let here = gives c.loop-k.k _ c.loop-k-test.true c.number.ensures in
    let before = gives (c.loop-k.k - 1) _ (omega arith) c.number-in-loop-k.ensures in
    let e : c.loop-k.k + 1 - 1 ≡ c.loop-k.k = omega arith in
    rw e (rising_more (c.loop-k.invariant least f gives low) c.loop-k-test.true (rw (here, before) at above))
