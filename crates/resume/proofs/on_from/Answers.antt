-- By whether there are bytes of children.
use mathlib.Core.Path.{◌∙◌, sym}
use native.Mathlib.Numerals.{add-one}
use native.Mathlib.Omega.{arith}
use borrow.Author.Tests.{eq-eqb, ne_eqb}
use Rattle.refusal.specs.Check.{either}
use Rattle.visit.proofs.Checks.{place_read, bytes_read}
use Rattle.resume.specs.Way.{on_from}
use Rattle.resume.proofs.Counting.{lies_fields}
use Rattle.resume.proofs.on_from.Goals as goal

pub load_u64-bytes-requires : goal.load_u64-bytes-requires
load_u64-bytes-requires c =
    omega (arith, lies_fields c.requires.lies)

pub extent-requires : goal.extent-requires
extent-requires c =
    lies_fields c.requires.lies

pub overflow_add-result : goal.overflow_add-result
overflow_add-result c =
    omega (arith, c.requires.lies.itself, c.extent.ensures)

pub returns-then-bytes-eq0 : goal.returns-then-bytes-eq0
unfolding on_from either
returns-then-bytes-eq0 c =
    let size = bytes_read c.args.file.now c.args.here.p c.load_u64-bytes.result c.load_u64-bytes.ensures in
    rw (eq-eqb _ _ (sym size ∙ c.if-bytes-eq0.true), c.extent.ensures)

pub overflow_add-here : goal.overflow_add-here
overflow_add-here c =
    omega (arith, lies_fields c.requires.lies)

pub load_u64-place-requires : goal.load_u64-place-requires
load_u64-place-requires c =
    omega (arith, lies_fields c.requires.lies)

pub overflow_add-result-2 : goal.overflow_add-result-2
overflow_add-result-2 c =
    omega (arith, c.requires.up_bound)

pub overflow_add-result-3 : goal.overflow_add-result-3
overflow_add-result-3 c =
    let place = place_read c.args.file.now c.args.here.p c.load_u64-place.result c.load_u64-place.ensures in
    let size = bytes_read c.args.file.now c.args.here.p c.load_u64-bytes.result c.load_u64-bytes.ensures in
    omega (arith, c.requires.lies.children, place, size)

pub returns : goal.returns
unfolding on_from either
returns c =
    let place = place_read c.args.file.now c.args.here.p c.load_u64-place.result c.load_u64-place.ensures in
    let size = bytes_read c.args.file.now c.args.here.p c.load_u64-bytes.result c.load_u64-bytes.ensures in
    rw (ne_eqb _ _ (λ e. c.if-bytes-eq0.false (size ∙ e)), ← place, ← size, add-one c.args.here.up)
