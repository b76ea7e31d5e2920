-- After t places the next one stands at at + t * 8, and is where tuple t will be.
use Prim.Native.Nat.{ℕ, ◌*◌}
use mathlib.Core.List.{List}
use mathlib.Core.Path.{◌≡◌, refl}
use native.Mathlib.Omega.{arith}
use lib.ListN.{length}
use Rattle.layout.specs.Bytes.{bytes}
use Rattle.layout.specs.Many.{many}
use Rattle.layout.proofs.Laws.{length_bytes}
use Rattle.layout.proofs.Many.{length_many}
use Rattle.buffer.proofs.Laws.{length_over}
use Rattle.profile_lists.specs.Lists.{word_of}
use Rattle.seq.proofs.Sum.{sum_none, sum_more, sum_ends}
use Rattle.put.proofs.Fields.{over_many_none, over_many_more}
use Rattle.profile_writer.specs.Table.{place_of_tuple}
use Rattle.profile_writer.proofs.put_places.Goals as goal

pub loop-t-init : goal.loop-t-init
loop-t-init c = (
  refl,
  omega (arith, sum_none (word_of c.args.tuples.now)),
  over_many_none (λ (k : ℕ). bytes 8 (place_of_tuple c.args.tuples.now c.args.at k)) c.args.file.now c.args.at,
)

pub overflow_add-place : goal.overflow_add-place
overflow_add-place c =
    omega (arith, sum_ends (word_of c.args.tuples.now) c.loop-t.t (length c.args.tuples.now) c.loop-t-test.true)

pub overflow_mul-place : goal.overflow_mul-place
overflow_mul-place c =
    omega (arith, sum_ends (word_of c.args.tuples.now) c.loop-t.t (length c.args.tuples.now) c.loop-t-test.true)

pub overflow_add-place-in-loop-t : goal.overflow_add-place-in-loop-t
overflow_add-place-in-loop-t c =
    omega (arith, sum_ends (word_of c.args.tuples.now) c.loop-t.t (length c.args.tuples.now) c.loop-t-test.true)

pub loop-t-preserved : goal.loop-t-preserved
loop-t-preserved c =
    let e : ℕ → List ℕ = λ k. bytes 8 (place_of_tuple c.args.tuples.now c.args.at k) in
    let eights : length (many e c.loop-t.t) ≡ c.loop-t.t * 8 = length_many e 8 c.loop-t.t (λ k m. length_bytes 8 _) in (
      rw (c.store_u64.ensures, length_over) c.loop-t.invariant.0,
      omega (arith, sum_more (word_of c.args.tuples.now) c.loop-t.t),
      rw (c.store_u64.ensures, over_many_more e c.args.file.now c.args.at c.loop-t.t, eights, ← c.loop-t.invariant.2, c.loop-t.invariant.1),
    )
