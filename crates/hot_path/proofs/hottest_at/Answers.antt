-- Along the array: the lead among the contexts passed.
use Rattle.std.specs.Prelude.{Ok}
use Prim.Native.Nat.{◌<◌}
use mathlib.Core.Path.{sym, ap, ◌∙◌}
use native.Mathlib.Omega.{arith}
use Rattle.hot_path.specs.HotPath.{candidate}
use Rattle.context.specs.Context.{children_end}
use Rattle.hot_path.proofs.Seeking.{place_read, end_read, value_read}
use Rattle.hot_path.proofs.Seeking.{seeking_start, seeking_fits, seeking_none, seeking_more, seeking_not, seeking_all}
use Rattle.hot_path.proofs.hottest_at.Goals as goal
use Rattle.hot_path.proofs.hottest_at.Goals.{in-Some+else-not-is_finite, in_default}

pub load_u64-bytes-requires : goal.load_u64-bytes-requires
load_u64-bytes-requires c =
    omega (arith, c.requires.array_inside.readable)

pub load_u64-p-requires : goal.load_u64-p-requires
load_u64-p-requires c =
    omega (arith, c.requires.array_inside.readable)

pub overflow_add-stop : goal.overflow_add-stop
overflow_add-stop c =
    let end = end_read c.args.meta.now c.args.at c.load_u64-p.ensures c.load_u64-bytes.ensures in
    omega (arith, end, c.requires.array_inside.ends)

pub loop-p-init : goal.loop-p-init
loop-p-init c = (
  end_read c.args.meta.now c.args.at c.load_u64-p.ensures c.load_u64-bytes.ensures,
  rw (place_read c.args.meta.now c.args.at c.load_u64-p.ensures) (seeking_start c.args.meta.now _ c.args.at c.requires.array_inside),
)

pub overflow_add-p : goal.overflow_add-p
overflow_add-p c =
    let fits = seeking_fits c.args.meta.now _ c.args.at c.loop-p.invariant.1 (omega (arith, c.loop-p.invariant.0, c.loop-p-test.true)) in
    omega (arith, fits, c.requires.array_inside.ends)

pub load_u32-id-requires : goal.load_u32-id-requires
load_u32-id-requires c =
    let fits = seeking_fits c.args.meta.now _ c.args.at c.loop-p.invariant.1 (omega (arith, c.loop-p.invariant.0, c.loop-p-test.true)) in
    omega (arith, fits, c.requires.array_inside.ends)

pub find_near-found-requires : goal.find_near-found-requires
find_near-found-requires c =
    rw c.profile_shape-h.ensures c.requires.sound_block

pub returns-then-not-is_finite : goal.returns-then-not-is_finite
returns-then-not-is_finite c =
    let e = value_read c.args.db.now c.args.b c.args.meta.now c.loop-p.p c.args.metric c.find_near-found.ensures c.profile_shape-h.ensures c.load_u32-id.ensures in
    sym (seeking_not c.args.meta.now _ c.args.at c.loop-p.invariant.1 (omega (arith, c.loop-p.invariant.0, c.loop-p-test.true)) _ (e ∙ ap Ok c.in-Some.is)
    (sym c.is_finite.ensures ∙ c.if-not-is_finite.true))

pub lead_with-lead-requires : goal.lead_with-lead-requires
lead_with-lead-requires c =
    record {
      lead_value = c.loop-p.invariant.1.leads.lead_finite;
      bits_value = sym c.is_finite.ensures ∙ c.if-not-is_finite.false;
    }

pub extent-p-requires : goal.extent-p-requires
extent-p-requires c =
    let fits = seeking_fits c.args.meta.now _ c.args.at c.loop-p.invariant.1 (omega (arith, c.loop-p.invariant.0, c.loop-p-test.true)) in
    omega (arith, fits, c.requires.array_inside.ends)

pub overflow_add-p-in-loop-p : goal.overflow_add-p-in-loop-p
overflow_add-p-in-loop-p c =
    let fits = seeking_fits c.args.meta.now _ c.args.at c.loop-p.invariant.1 (omega (arith, c.loop-p.invariant.0, c.loop-p-test.true)) in
    omega (arith, fits, c.extent-p.ensures, c.requires.array_inside.ends)

pub loop-p-smaller : goal.loop-p-smaller
loop-p-smaller c =
    let fits = seeking_fits c.args.meta.now _ c.args.at c.loop-p.invariant.1 (omega (arith, c.loop-p.invariant.0, c.loop-p-test.true)) in
    omega (arith, fits, c.extent-p.ensures, c.loop-p-test.true)

pub loop-p-preserved : goal.loop-p-preserved
unfolding candidate
loop-p-preserved c =
    let e = value_read c.args.db.now c.args.b c.args.meta.now c.loop-p.p c.args.metric c.find_near-found.ensures c.profile_shape-h.ensures c.load_u32-id.ensures in
    let below : c.loop-p.p < children_end c.args.meta.now c.args.at = omega (arith, c.loop-p.invariant.0, c.loop-p-test.true) in (
      c.loop-p.invariant.0,
      rw c.extent-p.ensures (elim c.match-found.branch [
        | in-Some+else-not-is_finite w ↦ rw (w.lead-is, w.lead_with-lead.ensures)
            (seeking_more c.args.meta.now _ c.args.at c.loop-p.invariant.1 below _ (e ∙ ap Ok w.in-Some.is)
            (sym w.is_finite.ensures ∙ w.if-not-is_finite.false))
        | in_default w ↦ rw w.lead-is
            (seeking_none c.args.meta.now _ c.args.at c.loop-p.invariant.1 below (rw (e, w.in_default.is)))
      ]),
    )

pub returns-in_default-lead : goal.returns-in_default-lead
returns-in_default-lead c =
    sym (rw c.in_default-lead.is at (seeking_all c.args.meta.now _ c.args.at _ c.loop-p.invariant.1 (omega (arith, c.loop-p.invariant.0, c.loop-p-test.false))))

pub returns : goal.returns
returns c =
    sym (rw c.in-Some-lead.is at (seeking_all c.args.meta.now _ c.args.at _ c.loop-p.invariant.1 (omega (arith, c.loop-p.invariant.0, c.loop-p-test.false))))
