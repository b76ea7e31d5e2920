-- A chunk less at each turn.
use native.Mathlib.Omega.{arith}
use Rattle.dcpi.proofs.Rules.{passed_parts}
use Rattle.dcpi_entries.proofs.Putting.{chunks_start, chunks_inside, chunks_reach, chunks_room, chunks_whole, chunks_step, chunks_end}
use Rattle.dcpi_entries.proofs.put_chunks.Goals as goal

pub overflow_sub-totals : goal.overflow_sub-totals
overflow_sub-totals c = (passed_parts c.args.samples.now c.requires.samples_value).0

pub overflow_mul-end : goal.overflow_mul-end
overflow_mul-end c = omega (arith, c.requires.count_in_bounds)

pub loop-p-init : goal.loop-p-init
loop-p-init c =
    let a = c.args in
    chunks_start a.series.profile a.series.metric a.samples.now a.entries.now (passed_parts a.samples.now c.requires.samples_value).1.0

pub overflow_add-p-in-loop-p : goal.overflow_add-p-in-loop-p
overflow_add-p-in-loop-p c =
    omega (arith, chunks_inside _ _ _ _ c.loop-p.invariant c.loop-p-test.true c.load_u32-offset.ensures c.load_u32-size.ensures)

pub put_counts-next-requires : goal.put_counts-next-requires
put_counts-next-requires c = record {
  n_in_bounds =
      omega (arith, chunks_inside _ _ _ _ c.loop-p.invariant c.loop-p-test.true c.load_u32-offset.ensures c.load_u32-size.ensures);
  spacing_bound = chunks_reach _ _ _ _ c.loop-p.invariant c.loop-p-test.true c.load_u32-offset.ensures c.load_u32-size.ensures;
  n_bound =
      rw c.requires.count_value
      (chunks_room _ _ _ _ c.loop-p.invariant c.loop-p-test.true c.load_u32-offset.ensures c.load_u32-size.ensures);
  at_value = rw c.requires.count_value (chunks_whole _ _ _ _ c.loop-p.invariant);
  end_in_bounds = omega (arith, c.requires.count_in_bounds, c.loop-p.invariant.same_length);
}

pub overflow_add-p-in-loop-p-2 : goal.overflow_add-p-in-loop-p-2
overflow_add-p-in-loop-p-2 c =
    omega (arith, chunks_inside _ _ _ _ c.loop-p.invariant c.loop-p-test.true c.load_u32-offset.ensures c.load_u32-size.ensures)

pub overflow_mul-p : goal.overflow_mul-p
overflow_mul-p c =
    omega (arith, chunks_inside _ _ _ _ c.loop-p.invariant c.loop-p-test.true c.load_u32-offset.ensures c.load_u32-size.ensures)

pub overflow_add-p-in-loop-p-3 : goal.overflow_add-p-in-loop-p-3
overflow_add-p-in-loop-p-3 c =
    omega (arith, chunks_inside _ _ _ _ c.loop-p.invariant c.loop-p-test.true c.load_u32-offset.ensures c.load_u32-size.ensures)

pub loop-p-smaller : goal.loop-p-smaller
loop-p-smaller c =
    omega (arith, chunks_inside _ _ _ _ c.loop-p.invariant c.loop-p-test.true c.load_u32-offset.ensures c.load_u32-size.ensures)

pub loop-p-preserved : goal.loop-p-preserved
loop-p-preserved c =
    let put = c.put_counts-next in
    chunks_step _ _ _ _ c.loop-p.invariant c.loop-p-test.true c.load_u32-offset.ensures c.load_u32-size.ensures put.ensures.next
    (λ rest e. put.ensures.bytes rest (rw c.requires.count_value e)) put.auto.entries

pub shape_of-entries : goal.shape_of-entries
shape_of-entries c = c.loop-p.invariant.same_length

pub returns : goal.returns
returns c = chunks_end _ _ _ _ c.loop-p.invariant c.loop-p-test.false
