-- The entries passed are finite and in the tally, whose least and greatest are low and high.
use mathlib.Core.Bool.{not}
use Rattle.block.specs.Block.{id_at, word_at}
use Rattle.total.proofs.Loop.{finite_told, summing_start, above, not_above, summing_raise, summing_lower, summing_add, summing_not, summing_all}
use Rattle.float.proofs.Sums.{finite_bits}
use mathlib.Core.Path.{sym, ◌∙◌, ap}
use Rattle.cct.specs.Totals.{part_totals}
use Rattle.cct.proofs.part_totals.Goals as goal
use Rattle.cct.proofs.part_totals.Goals.{then-above, else-above+then-x-low, else-above+else-x-low}

pub returns-then-not-is_finite : goal.returns-then-not-is_finite
unfolding part_totals
returns-then-not-is_finite c =
    summing_not (id_at c.args.h.inner c.args.file.now c.args.p.place) (word_at c.args.h.inner c.args.file.now c.args.p.place)
    c.args.p.length c.requires.some c.word_at-first.ensures c.is_finite.ensures (ap not c.if-not-is_finite.true)

pub float_from_bits-low : goal.float_from_bits-low
float_from_bits-low c =
    finite_bits _ (finite_told _ c.is_finite.ensures (ap not c.if-not-is_finite.false))

pub loop-k-init : goal.loop-k-init
loop-k-init c =
    let fin = finite_told _ c.is_finite.ensures (ap not c.if-not-is_finite.false) in
    rw c.start-t.ensures.value
    (summing_start (id_at c.args.h.inner c.args.file.now c.args.p.place) (word_at c.args.h.inner c.args.file.now c.args.p.place)
    c.args.p.length c.requires.some c.id_at.ensures.value c.word_at-first.ensures fin)

pub returns-then-not-is_finite-2 : goal.returns-then-not-is_finite-2
unfolding part_totals
returns-then-not-is_finite-2 c =
    summing_not (id_at c.args.h.inner c.args.file.now c.args.p.place) (word_at c.args.h.inner c.args.file.now c.args.p.place)
    c.args.p.length c.loop-k-test.true c.word_at-bits.ensures c.is_finite-in-loop-k.ensures (ap not c.if-not-is_finite-2.true)

pub float_from_bits-x : goal.float_from_bits-x
float_from_bits-x c =
    finite_bits _ (finite_told _ c.is_finite-in-loop-k.ensures (ap not c.if-not-is_finite-2.false))

pub raise-t-requires : goal.raise-t-requires
raise-t-requires c =
    let fin = finite_told _ c.is_finite-in-loop-k.ensures (ap not c.if-not-is_finite-2.false) in
    let told = above c.loop-k.invariant c.word_at-bits.result fin c.if-above.true in
    record { bits_value = fin; good = c.loop-k.invariant.good; bits_value_2 = told.0; least_value = told.1 }

pub lower-t-requires : goal.lower-t-requires
lower-t-requires c =
    let fin = finite_told _ c.is_finite-in-loop-k.ensures (ap not c.if-not-is_finite-2.false) in
    let told = not_above c.loop-k.invariant c.word_at-bits.result fin c.if-above.false c.if-x-low.true in
    record { bits_value = fin; good = c.loop-k.invariant.good; bits_value_2 = told.0; least_value = told.1 }

pub add-t-requires : goal.add-t-requires
add-t-requires c =
    let fin = finite_told _ c.is_finite-in-loop-k.ensures (ap not c.if-not-is_finite-2.false) in
    let told = not_above c.loop-k.invariant c.word_at-bits.result fin c.if-above.false c.if-x-low.false in
    record { bits_value = fin; good = c.loop-k.invariant.good; bits_value_2 = told.0; least_value = told.1 }

pub loop-k-preserved : goal.loop-k-preserved
loop-k-preserved c =
    let fin = finite_told _ c.is_finite-in-loop-k.ensures (ap not c.if-not-is_finite-2.false) in
    let inv = c.loop-k.invariant in
    let v = c.word_at-bits.result in
    let more = c.loop-k-test.true in
    let read = c.word_at-bits.ensures in
    elim c.if-above.branch [
      | then-above w ↦
          rw (w.t-is, w.low-is, w.high-is, w.raise-t.ensures.value)
          (summing_raise inv v fin more read w.id_at-then-above.ensures.value w.if-above.true)
      | else-above+then-x-low w ↦
          rw (w.t-is, w.low-is, w.high-is, w.lower-t.ensures.value)
          (summing_lower inv v fin more read w.id_at-then-x-low.ensures.value w.if-above.false w.if-x-low.true)
      | else-above+else-x-low w ↦
          rw (w.t-is, w.low-is, w.high-is)
          (summing_add inv v fin more read w.add-t.ensures.by_index w.if-above.false w.if-x-low.false)
    ]

pub returns : goal.returns
unfolding part_totals
returns c =
    c.finish.ensures ∙ sym
    (summing_all (id_at c.args.h.inner c.args.file.now c.args.p.place) (word_at c.args.h.inner c.args.file.now c.args.p.place)
    c.args.p.length c.loop-k.invariant c.loop-k-test.false)
