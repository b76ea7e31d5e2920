-- A chunk more at each turn; the first that breaks a rule ends the pass.
use Prim.Native.Nat.{ℕ, ◌+◌, ◌-◌, ◌*◌, ◌≤◌, ◌<◌}
use mathlib.Core.Bool.{Bool, true}
use mathlib.Core.List.{List}
use mathlib.Core.Path.{◌≡◌, sym, ◌∙◌}
use native.Mathlib.Omega.{arith}
use lib.ListN.{length}
use Rattle.le.specs.Number.{number}
use Rattle.dcpi.specs.Samples.{spacing, totals_at, chunk_at, counts_from, non_zero, sum_of}
use Rattle.dcpi.specs.Check.{chunk_rule}
use Rattle.dcpi.specs.Facts.{ChunkKept}
use Rattle.dcpi.proofs.Rules.{chunk_iff}
use Rattle.dcpi.proofs.PassOver.{PassOver, pass_none, pass_7, pass_11, pass_more, pass_all}
use Rattle.dcpi.proofs.pass_chunks.Goals as goal

-- At a chunk that keeps 7, by what was read of it: it ends before the totals, and behind its counts the pass has come so far.
module _ (s : List ℕ) {p least nonzero sum : ℕ} (h : PassOver s p least nonzero sum) (l : p < totals_at s) {t : Bool}
    (r : t ≡ chunk_rule s (chunk_at s p)) (k : t ≡ true) {offset size : ℕ} (o : offset ≡ number 4 s p) (z : size ≡ number 4 s (p + 4)) where
  kept : ChunkKept s (chunk_at s p)
  kept = (chunk_iff s (chunk_at s p)).0 (sym r ∙ k)

  size_one : 1 ≤ size
  size_one = omega (arith, kept.has_one)

  ends : p + 8 + size * 4 ≤ totals_at s
  ends = omega (arith, kept.fits)

  more : least ≤ offset → {n m : ℕ} → ((o : ℕ) → n ≡ length (non_zero (counts_from s (p + 8) o size)))
      → ((o : ℕ) → m ≡ sum_of (counts_from s (p + 8) o size)) → n ≤ size → m ≤ size * 0xffff_ffff
      → PassOver s (p + 8 + size * 4) (offset + (size - 1) * spacing + 1) (nonzero + n) (sum + m)
  more e a b x y = pass_more s h l o z (sym r ∙ k) e a b x y

-- ----

pub loop-p-init : goal.loop-p-init
loop-p-init c = pass_none c.args.samples.now

pub returns-then-not-chunk_rule : goal.returns-then-not-chunk_rule
returns-then-not-chunk_rule c =
    let broken = sym c.chunk_rule.ensures ∙ c.if-not-chunk_rule.true in
    sym (pass_7 c.args.samples.now c.loop-p.invariant c.loop-p-test.true broken)

pub returns-then-offset-least : goal.returns-then-offset-least
returns-then-offset-least c =
    let rule_holds = sym c.chunk_rule.ensures ∙ c.if-not-chunk_rule.false in
    sym (pass_11 c.args.samples.now c.loop-p.invariant c.loop-p-test.true rule_holds
    (omega (arith, c.load_u32-offset.ensures, c.if-offset-least.true)))

pub chunk_sums-chunk-requires : goal.chunk_sums-chunk-requires
chunk_sums-chunk-requires c =
    let before = ends c.args.samples.now c.loop-p.invariant c.loop-p-test.true c.chunk_rule.ensures c.if-not-chunk_rule.false
    c.load_u32-offset.ensures c.load_u32-size.ensures in
    record { n_in_bounds = omega (arith, before); n_bound = omega (arith, c.load_u32-size.type_inv) }

pub overflow_add-nonzero : goal.overflow_add-nonzero
overflow_add-nonzero c =
    let next = more c.args.samples.now c.loop-p.invariant c.loop-p-test.true c.chunk_rule.ensures c.if-not-chunk_rule.false
    c.load_u32-offset.ensures c.load_u32-size.ensures c.if-offset-least.false
    c.chunk_sums-chunk.ensures.nonzero c.chunk_sums-chunk.ensures.sum c.chunk_sums-chunk.ensures.few c.chunk_sums-chunk.ensures.small in
    omega (arith, next.few, next.least_small)

pub overflow_add-sum : goal.overflow_add-sum
overflow_add-sum c =
    let next = more c.args.samples.now c.loop-p.invariant c.loop-p-test.true c.chunk_rule.ensures c.if-not-chunk_rule.false
    c.load_u32-offset.ensures c.load_u32-size.ensures c.if-offset-least.false
    c.chunk_sums-chunk.ensures.nonzero c.chunk_sums-chunk.ensures.sum c.chunk_sums-chunk.ensures.few c.chunk_sums-chunk.ensures.small in
    omega (arith, next.small, next.least_small)

pub overflow_sub-least : goal.overflow_sub-least
overflow_sub-least c =
    size_one c.args.samples.now c.loop-p.invariant c.loop-p-test.true c.chunk_rule.ensures c.if-not-chunk_rule.false
    c.load_u32-offset.ensures c.load_u32-size.ensures

pub overflow_mul-least : goal.overflow_mul-least
overflow_mul-least c =
    omega (arith, c.load_u32-size.type_inv)

pub overflow_add-least : goal.overflow_add-least
overflow_add-least c =
    let next = more c.args.samples.now c.loop-p.invariant c.loop-p-test.true c.chunk_rule.ensures c.if-not-chunk_rule.false
    c.load_u32-offset.ensures c.load_u32-size.ensures c.if-offset-least.false
    c.chunk_sums-chunk.ensures.nonzero c.chunk_sums-chunk.ensures.sum c.chunk_sums-chunk.ensures.few c.chunk_sums-chunk.ensures.small in
    omega (arith, next.least_small)

pub overflow_add-least-in-loop-p : goal.overflow_add-least-in-loop-p
overflow_add-least-in-loop-p c =
    let next = more c.args.samples.now c.loop-p.invariant c.loop-p-test.true c.chunk_rule.ensures c.if-not-chunk_rule.false
    c.load_u32-offset.ensures c.load_u32-size.ensures c.if-offset-least.false
    c.chunk_sums-chunk.ensures.nonzero c.chunk_sums-chunk.ensures.sum c.chunk_sums-chunk.ensures.few c.chunk_sums-chunk.ensures.small in
    omega (arith, next.least_small)

pub overflow_add-p-in-loop-p-2 : goal.overflow_add-p-in-loop-p-2
overflow_add-p-in-loop-p-2 c =
    let before = ends c.args.samples.now c.loop-p.invariant c.loop-p-test.true c.chunk_rule.ensures c.if-not-chunk_rule.false
    c.load_u32-offset.ensures c.load_u32-size.ensures in
    omega (arith, before)

pub overflow_mul-p : goal.overflow_mul-p
overflow_mul-p c =
    let before = ends c.args.samples.now c.loop-p.invariant c.loop-p-test.true c.chunk_rule.ensures c.if-not-chunk_rule.false
    c.load_u32-offset.ensures c.load_u32-size.ensures in
    omega (arith, before)

pub overflow_add-p-in-loop-p-3 : goal.overflow_add-p-in-loop-p-3
overflow_add-p-in-loop-p-3 c =
    let before = ends c.args.samples.now c.loop-p.invariant c.loop-p-test.true c.chunk_rule.ensures c.if-not-chunk_rule.false
    c.load_u32-offset.ensures c.load_u32-size.ensures in
    omega (arith, before)

pub loop-p-smaller : goal.loop-p-smaller
loop-p-smaller c =
    let before = ends c.args.samples.now c.loop-p.invariant c.loop-p-test.true c.chunk_rule.ensures c.if-not-chunk_rule.false
    c.load_u32-offset.ensures c.load_u32-size.ensures in
    omega (arith, before)

pub loop-p-preserved : goal.loop-p-preserved
loop-p-preserved c =
    more c.args.samples.now c.loop-p.invariant c.loop-p-test.true c.chunk_rule.ensures c.if-not-chunk_rule.false
    c.load_u32-offset.ensures c.load_u32-size.ensures c.if-offset-least.false
    c.chunk_sums-chunk.ensures.nonzero c.chunk_sums-chunk.ensures.sum c.chunk_sums-chunk.ensures.few c.chunk_sums-chunk.ensures.small

pub returns : goal.returns
returns c =
    let all = pass_all c.args.samples.now c.loop-p.invariant c.loop-p-test.false in
    (sym all.0, all.1.0, all.1.1)
