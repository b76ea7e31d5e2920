-- Below no context the array is that of the roots; else it ends where the children of the context above it do.
use Prim.Native.Nat.{ℕ, zero, suc}
use mathlib.Core.List.{List}
use mathlib.Core.Path.{◌≡◌, refl}
use native.Mathlib.Omega.{arith}
use lib.ListN.{get_or}
use Rattle.context.specs.Context.{children_end}
use Rattle.visit.proofs.Checks.{place_read, bytes_read}
use Rattle.resume.specs.Way.{end_below, Lies, LiesBelow}
use Rattle.resume.proofs.Counting.{lies_fields}
use Rattle.resume.proofs.end_of.Goals as goal

module _ (file way : List ℕ) where
  lies_below : (up : ℕ) → (up ≡ 0 → ⊥) → LiesBelow file way up → Lies file (get_or way up 0)
  lies_below zero n h = absurd (n refl)
  lies_below (suc d) n h = h

  ends_below : (stop up : ℕ) → (up ≡ 0 → ⊥) → end_below file stop way up ≡ children_end file (get_or way up 0)
  ends_below stop zero n = absurd (n refl)
  ends_below stop (suc d) n = refl

pub overflow_add-q : goal.overflow_add-q
overflow_add-q c =
    omega (arith, lies_fields (lies_below c.args.file.now c.args.way.now c.args.up c.if-up-eq0.false c.requires.lies_below))

pub load_u64-requires : goal.load_u64-requires
load_u64-requires c =
    omega (arith, lies_fields (lies_below c.args.file.now c.args.way.now c.args.up c.if-up-eq0.false c.requires.lies_below))

pub load_u64-requires-2 : goal.load_u64-requires-2
load_u64-requires-2 c =
    omega (arith, lies_fields (lies_below c.args.file.now c.args.way.now c.args.up c.if-up-eq0.false c.requires.lies_below))

pub overflow_add-result : goal.overflow_add-result
overflow_add-result c =
    let q = get_or c.args.way.now c.args.up 0 in
    let above = lies_below c.args.file.now c.args.way.now c.args.up c.if-up-eq0.false c.requires.lies_below in
    let place = place_read c.args.file.now q c.load_u64.result c.load_u64.ensures in
    let size = bytes_read c.args.file.now q c.load_u64-2.result c.load_u64-2.ensures in
    omega (arith, above.children, place, size)

pub returns : goal.returns
returns c =
    let q = get_or c.args.way.now c.args.up 0 in
    rw (
      ends_below c.args.file.now c.args.way.now c.args.stop c.args.up c.if-up-eq0.false,
      ← place_read c.args.file.now q c.load_u64.result c.load_u64.ensures,
      ← bytes_read c.args.file.now q c.load_u64-2.result c.load_u64-2.ensures,
    )
