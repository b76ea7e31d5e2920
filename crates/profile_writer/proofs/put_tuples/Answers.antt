-- Tuple after tuple, each as its size and its identifications; `first` counts those of the tuples before.
use mathlib.Core.Path.{refl}
use native.Mathlib.Omega.{arith}
use lib.ListN.{length}
use Rattle.buffer.proofs.Laws.{length_over}
use Rattle.put.proofs.Fields.{over_many_none, over_many_more}
use Rattle.seq.proofs.Sum.{sum_none, sum_more, sum_ends}
use Rattle.profile_file.specs.File.{tuple_bytes}
use Rattle.profile_file.proofs.Lengths.{length_tuples}
use Rattle.profile_lists.specs.Lists.{word_of, tuples_in}
use Rattle.profile_writer.proofs.Tuples.{size_fits, tuples_more, tuple_inside, over_tuple}
use Rattle.profile_writer.proofs.put_tuples.Goals as goal

pub loop-t-init : goal.loop-t-init
loop-t-init c =
    let ts = tuples_in c.args.tuples.now c.args.identifiers.now in (
      refl,
      omega (arith, sum_none (word_of c.args.tuples.now)),
      omega (arith, length_tuples ts 0, sum_none (word_of c.args.tuples.now)),
      over_many_none (tuple_bytes ts) c.args.file.now c.args.at,
    )

pub store_u64-requires : goal.store_u64-requires
store_u64-requires c =
    let ts = tuples_in c.args.tuples.now c.args.identifiers.now in
    omega (arith, tuple_inside ts c.loop-t.t ts.count c.loop-t-test.true)

pub overflow_add-place : goal.overflow_add-place
overflow_add-place c =
    let ts = tuples_in c.args.tuples.now c.args.identifiers.now in
    omega (arith, tuple_inside ts c.loop-t.t ts.count c.loop-t-test.true)

pub put_identifications-requires-clause-t_in_bounds : goal.put_identifications-requires-clause-t_in_bounds
put_identifications-requires-clause-t_in_bounds c =
    let ts = tuples_in c.args.tuples.now c.args.identifiers.now in
    omega (arith, tuple_inside ts c.loop-t.t ts.count c.loop-t-test.true)

pub put_identifications-requires-clause-t_in_bounds_2 : goal.put_identifications-requires-clause-t_in_bounds_2
put_identifications-requires-clause-t_in_bounds_2 c =
    omega (arith, sum_ends (word_of c.args.tuples.now) c.loop-t.t (length c.args.tuples.now) c.loop-t-test.true)

pub overflow_add-place-in-loop-t : goal.overflow_add-place-in-loop-t
overflow_add-place-in-loop-t c =
    let ts = tuples_in c.args.tuples.now c.args.identifiers.now in
    omega (arith, tuple_inside ts c.loop-t.t ts.count c.loop-t-test.true)

pub overflow_mul-place : goal.overflow_mul-place
overflow_mul-place c =
    let ts = tuples_in c.args.tuples.now c.args.identifiers.now in
    omega (arith, tuple_inside ts c.loop-t.t ts.count c.loop-t-test.true)

pub overflow_add-place-in-loop-t-2 : goal.overflow_add-place-in-loop-t-2
overflow_add-place-in-loop-t-2 c =
    let ts = tuples_in c.args.tuples.now c.args.identifiers.now in
    omega (arith, tuple_inside ts c.loop-t.t ts.count c.loop-t-test.true)

pub overflow_add-first : goal.overflow_add-first
overflow_add-first c =
    omega (arith, sum_ends (word_of c.args.tuples.now) c.loop-t.t (length c.args.tuples.now) c.loop-t-test.true)

pub loop-t-preserved : goal.loop-t-preserved
loop-t-preserved c =
    let ts = tuples_in c.args.tuples.now c.args.identifiers.now in
    let small = size_fits ts c.requires.identifiers_value c.loop-t.t c.loop-t-test.true in (
      rw (c.put_identifications.ensures, length_over, c.store_u64.ensures, length_over) c.loop-t.invariant.0,
      omega (arith, sum_more (word_of c.args.tuples.now) c.loop-t.t),
      omega (arith, tuples_more ts c.loop-t.t),
      rw (
        c.put_identifications.ensures,
        c.store_u64.ensures,
        over_many_more (tuple_bytes ts) c.args.file.now c.args.at c.loop-t.t,
        over_tuple ts c.loop-t.t small,
        ← c.loop-t.invariant.3,
        ← c.loop-t.invariant.2,
      ),
    )
