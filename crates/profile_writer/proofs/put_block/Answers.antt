-- Values, zeros, indices and no more zeros, one behind the other: the parts of the block.
use Prim.Native.Nat.{ℕ, ◌+◌, ◌-◌, ◌*◌}
use mathlib.Core.List.{◌++◌, append-nil}
use mathlib.Core.Path.{◌≡◌, ◌∙◌}
use native.Mathlib.Omega.{arith}
use lib.ListN.{length}
use Rattle.layout.specs.Bytes.{join}
use Rattle.layout.specs.Many.{many, to_four, zeros}
use Rattle.layout.proofs.Many.{length_zeros}
use Rattle.buffer.specs.Over.{over}
use Rattle.buffer.proofs.Laws.{over_append, length_over}
use Rattle.block.specs.Block.{profile_shape}
use Rattle.block_file.specs.Pairs.{groups, index_element, value_array, index_array, groups_of, written}
use Rattle.block_file.proofs.Readback.{length_values}
use Rattle.profile_file.specs.Survey.{Entries, run_start, run_length, pairs_of}
use Rattle.profile_file.specs.File.{block_bytes}
use Rattle.profile_file.proofs.Runs.{run_le, run_next}
use Rattle.profile_file.proofs.Lengths.{length_block, padding_of}
use Rattle.profile_lists.specs.Lists.{entries_in}
use Rattle.profile_writer.proofs.put_block.Goals as goal

-- twelve bytes for each index need no zeros behind them
none-behind : (n : ℕ) → to_four (n * 12) ≡ 0
unfolding to_four
none-behind n = omega arith

same-groups : (e : Entries) (p start held : ℕ) → start ≡ run_start e p → held ≡ run_length e p
    → groups (λ k. e.context (start + k)) held ≡ groups_of (pairs_of e p)
same-groups e p start held s h = rw (s, h)

same-indices : (e : Entries) (p start held : ℕ) → start ≡ run_start e p → held ≡ run_length e p
    → many (index_element 4 (λ k. e.context (start + k))) held ≡ index_array profile_shape (pairs_of e p)
same-indices e p start held s h = rw (s, h)

parts-of : (e : Entries) (p : ℕ)
    → block_bytes e p ≡ value_array profile_shape (pairs_of e p) ++
    (zeros (to_four (run_length e p * 10)) ++ index_array profile_shape (pairs_of e p))
unfolding block_bytes written join zeros
parts-of e p = rw (none-behind (groups_of (pairs_of e p)), append-nil)

pub put_values-end-requires : goal.put_values-end-requires
put_values-end-requires c =
    let e = entries_in c.args.entries.now in
    record {
      ascending = c.requires.ascending;
      start_value = c.requires.start_value;
      p_in_bounds = omega (arith, c.requires.p_in_bounds, length_block e c.args.p);
    }

pub overflow_sub-held : goal.overflow_sub-held
overflow_sub-held c =
    let e = entries_in c.args.entries.now in
    omega (arith, c.put_values-end.ensures.end, c.requires.start_value, run_next e c.requires.ascending c.args.p)

pub overflow_mul-held : goal.overflow_mul-held
overflow_mul-held c =
    let e = entries_in c.args.entries.now in
    omega (
      arith,
      c.put_values-end.ensures.end,
      c.requires.start_value,
      run_next e c.requires.ascending c.args.p,
      c.requires.p_in_bounds,
      length_block e c.args.p,
    )

pub overflow_add-at : goal.overflow_add-at
overflow_add-at c =
    let e = entries_in c.args.entries.now in
    omega (
      arith,
      c.put_values-end.ensures.end,
      c.requires.start_value,
      run_next e c.requires.ascending c.args.p,
      c.requires.p_in_bounds,
      length_block e c.args.p,
    )

pub put_padding-zeros-requires : goal.put_padding-zeros-requires
put_padding-zeros-requires c =
    let e = entries_in c.args.entries.now in
    let held : c.put_values-end.result - c.args.start ≡ run_length e c.args.p =
    omega (arith, c.put_values-end.ensures.end, c.requires.start_value, run_next e c.requires.ascending c.args.p) in
    rw (held, c.put_values-end.ensures.bytes, length_over)
    (omega (arith, c.requires.p_in_bounds, length_block e c.args.p, padding_of (run_length e c.args.p)))

pub overflow_mul-held-2 : goal.overflow_mul-held-2
overflow_mul-held-2 c =
    let e = entries_in c.args.entries.now in
    omega (
      arith,
      c.put_values-end.ensures.end,
      c.requires.start_value,
      run_next e c.requires.ascending c.args.p,
      c.requires.p_in_bounds,
      length_block e c.args.p,
    )

pub overflow_add-at-2 : goal.overflow_add-at-2
overflow_add-at-2 c =
    let e = entries_in c.args.entries.now in
    omega (
      arith,
      c.put_values-end.ensures.end,
      c.requires.start_value,
      run_next e c.requires.ascending c.args.p,
      c.requires.p_in_bounds,
      length_block e c.args.p,
    )

pub overflow_add-at-3 : goal.overflow_add-at-3
overflow_add-at-3 c =
    let e = entries_in c.args.entries.now in
    let held : c.put_values-end.result - c.args.start ≡ run_length e c.args.p =
    omega (arith, c.put_values-end.ensures.end, c.requires.start_value, run_next e c.requires.ascending c.args.p) in
    rw (c.put_padding-zeros.ensures.count, held)
    (omega (arith, c.requires.p_in_bounds, length_block e c.args.p, padding_of (run_length e c.args.p)))

pub put_indices-contexts-requires : goal.put_indices-contexts-requires
put_indices-contexts-requires c =
    let e = entries_in c.args.entries.now in
    let held : c.put_values-end.result - c.args.start ≡ run_length e c.args.p =
    omega (arith, c.put_values-end.ensures.end, c.requires.start_value, run_next e c.requires.ascending c.args.p) in
    record {
      held_bound =
          omega (
            arith,
            held,
            c.requires.start_value,
            run_next e c.requires.ascending c.args.p,
            run_le e c.requires.ascending
                (c.args.p + 1),
          );
      held_in_bounds =
          rw (
            c.put_padding-zeros.ensures.bytes,
            length_over,
            c.put_values-end.ensures.bytes,
            length_over,
            same-groups e c.args.p
                c.args.start _ c.requires.start_value held,
            c.put_padding-zeros.ensures.count,
            held,
          )
          (omega (arith, c.requires.p_in_bounds, length_block e c.args.p, padding_of (run_length e c.args.p)));
    }

pub returns : goal.returns
returns c =
    let e = entries_in c.args.entries.now in
    let held : c.put_values-end.result - c.args.start ≡ run_length e c.args.p =
    omega (arith, c.put_values-end.ensures.end, c.requires.start_value, run_next e c.requires.ascending c.args.p) in
    let v = value_array profile_shape (pairs_of e c.args.p) in
    let z = zeros (to_four (run_length e c.args.p * 10)) in
    let x = index_array profile_shape (pairs_of e c.args.p) in
    let n : length v ≡ run_length e c.args.p * 10 =
    length_values 2 (pairs_of e c.args.p).inner (pairs_of e c.args.p).bits (run_length e c.args.p) in
    let bytes : c.put_indices-contexts.new.file ≡ over (over (over c.args.file.now c.args.at v) (c.args.at + length v) z)
    (c.args.at + length v + length z) x =
    rw (
      c.put_indices-contexts.ensures.bytes,
      same-indices e c.args.p c.args.start _ c.requires.start_value held,
      c.put_padding-zeros.ensures.bytes,
      c.put_padding-zeros.ensures.count,
      c.put_values-end.ensures.bytes,
      held,
      n,
      length_zeros,
    ) in
    record {
      end = c.put_values-end.ensures.end;
      contexts = c.put_indices-contexts.ensures.contexts ∙ same-groups e c.args.p c.args.start _ c.requires.start_value held;
      bytes = bytes
          ∙ rw (
            parts-of e c.args.p,
            over_append v (z ++ x) c.args.file.now c.args.at,
            over_append z x (over c.args.file.now c.args.at v)
                (c.args.at + length v),
          );
    }
