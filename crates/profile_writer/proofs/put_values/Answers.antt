-- A turn is taken for each entry of the run, and the loop ends where the run does.
use Prim.Native.Nat.{ℕ, ◌+◌, ◌*◌, ◌≤◌, ◌<◌}
use mathlib.Core.List.{List}
use mathlib.Core.Path.{◌≡◌, refl, sym, ap, ◌∙◌}
use native.Mathlib.Omega.{arith}
use lib.ListN.{length}
use Rattle.layout.specs.Many.{many}
use Rattle.buffer.specs.Over.{over}
use Rattle.buffer.proofs.Laws.{length_over}
use Rattle.put.proofs.Fields.{over_many_none, over_many_more}
use Rattle.block.specs.Block.{profile_shape}
use Rattle.block_file.specs.Pairs.{value_element, value_array}
use Rattle.block_file.proofs.Readback.{length_values}
use Rattle.profile_file.specs.Survey.{Ascending, run_start, run_length, pairs_of}
use Rattle.profile_file.proofs.Runs.{run_le, run_in, run_next, run_ends}
use Rattle.profile_lists.specs.Lists.{entries_in}
use Rattle.profile_writer.proofs.put_values.Goals as goal
use Rattle.profile_writer.proofs.put_values.Goals.{Else-profile_of-p}

-- value k from an entry on
abbrev value_of : (entries : List ℕ) (start k : ℕ) → List ℕ
value_of entries start = value_element 2 (λ j. (entries_in entries).metric (start + j)) (λ j. (entries_in entries).bits (start + j))

pub loop-k-init : goal.loop-k-init
loop-k-init c =
    let e = entries_in c.args.entries.now in (
      omega (arith, c.requires.start_value, run_next e c.requires.ascending c.args.p),
      refl,
      over_many_none
          (value_of c.args.entries.now c.args.start) c.args.file.now c.args.at,
    )

pub overflow_sub-k-end : goal.overflow_sub-k-end
overflow_sub-k-end c =
    omega (arith, c.requires.start_value, run_le (entries_in c.args.entries.now) c.requires.ascending c.args.p)

-- where the run goes on
in_run : (c : Else-profile_of-p) → c.args.start + c.loop-k.k < run_start (entries_in c.args.entries.now) (c.args.p + 1)
in_run c =
    let e = entries_in c.args.entries.now in
    let of-run : e.profile (c.args.start + c.loop-k.k) ≡ c.args.p = sym c.profile_of.ensures ∙ c.if-profile_of-p.false in
    run_in e c.requires.ascending (c.args.p + 1) (c.args.start + c.loop-k.k) (omega arith) (omega arith)

pub put_value-requires : goal.put_value-requires
put_value-requires c =
    let e = entries_in c.args.entries.now in
    let more = in_run (goal.at.put_value-requires c).Else-profile_of-p in
    omega (arith, more, c.requires.start_value, run_next e c.requires.ascending c.args.p, c.requires.p_in_bounds, c.loop-k.invariant.1)

pub loop-k-preserved : goal.loop-k-preserved
unfolding value_element
loop-k-preserved c =
    let e = entries_in c.args.entries.now in
    let more = in_run (goal.at.loop-k-preserved c).Else-profile_of-p in
    let place : c.args.at + c.loop-k.k * 10 ≡ c.args.at + length (many (value_of c.args.entries.now c.args.start) c.loop-k.k) =
    ap (λ (z : ℕ). c.args.at + z)
    (sym (length_values 2 (λ j. e.metric (c.args.start + j)) (λ j. e.bits (c.args.start + j)) c.loop-k.k)) in (
      omega (arith, more),
      rw (c.put_value.ensures, length_over) c.loop-k.invariant.1,
      c.put_value.ensures
          ∙ rw (c.metric_of-metric.ensures, c.bits_of-bits.ensures, c.loop-k.invariant.2, place)
          (sym (over_many_more (value_of c.args.entries.now c.args.start) c.args.file.now c.args.at c.loop-k.k)),
    )

-- where the run ends, its values have been written
written : (entries before after : List ℕ) (at p start k : ℕ) → Ascending (entries_in entries) → start ≡ run_start (entries_in entries) p
    → start + k ≤ run_start (entries_in entries) (p + 1)
    → after ≡ over before at (many (value_of entries start) k)
    → (start + k < (entries_in entries).count → (entries_in entries).profile (start + k) ≡ p → ⊥)
    → (start + k ≡ run_start (entries_in entries) (p + 1)) × (after ≡ over before at (value_array profile_shape (pairs_of (entries_in entries) p)))
written entries before after at p start k sorted from within bytes ended =
    let e = entries_in entries in
    let ends : start + k ≡ run_start e (p + 1) = run_ends e sorted p (start + k) (omega arith) within ended in
    let n : k ≡ run_length e p = omega (arith, ends, from, run_next e sorted p) in
    (ends, bytes ∙ rw (n, from))

pub returns-then-profile_of-p : goal.returns-then-profile_of-p
returns-then-profile_of-p c =
    let all = written c.args.entries.now c.args.file.now c.loop-k.file c.args.at c.args.p c.args.start c.loop-k.k c.requires.ascending
    c.requires.start_value c.loop-k.invariant.0 c.loop-k.invariant.2 (λ l q. c.if-profile_of-p.true (c.profile_of.ensures ∙ q)) in
    record { end = all.0; bytes = all.1 }

pub returns : goal.returns
returns c =
    let e = entries_in c.args.entries.now in
    let last : c.args.start + c.loop-k.k ≡ e.count = omega (arith, c.requires.start_value, run_le e c.requires.ascending c.args.p) in
    let all = written c.args.entries.now c.args.file.now c.loop-k.file c.args.at c.args.p c.args.start c.loop-k.k c.requires.ascending
    c.requires.start_value c.loop-k.invariant.0 c.loop-k.invariant.2 (λ l q. omega arith) in
    record { end = sym last ∙ all.0; bytes = all.1 }
