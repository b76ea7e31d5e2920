-- Each turn writes a block and the structure that leads to it, whose tuple is read from the places of the tuples.
use Prim.Native.Nat.{ℕ, ◌+◌, ◌*◌, ◌-◌, ◌%◌, ◌≤◌, ◌<◌}
use mathlib.Core.List.{List}
use mathlib.Core.Path.{◌≡◌, sym, ap, ◌∙◌}
use native.Mathlib.Omega.{arith}
use lib.ListN.{length}
use Rattle.buffer.specs.Over.{over}
use Rattle.buffer.proofs.Laws.{length_over}
use Rattle.block_file.specs.Pairs.{groups_of}
use Rattle.profile_file.specs.Survey.{Survey, run_start, run_length, pairs_of}
use Rattle.profile_file.specs.File.{block_bytes, tuples_from, tuples_size}
use Rattle.profile_file.proofs.Runs.{run_next}
use Rattle.profile_file.proofs.Lengths.{length_block}
use Rattle.profile_lists.specs.Lists.{word_of, entries_in, survey_of}
use Rattle.profile_writer.proofs.Profiles.{Ready, ready, info_fields, places_fit, tuples-from, block-from, Growing, growing_none, growing_length, front_room, block_room, next_at, growing_more, place_behind}
use Rattle.profile_writer.proofs.put_profiles.Goals as goal
use Rattle.profile_writer.proofs.put_profiles.Goals.{After-put_block-run}

module _ (profiles tuples identifiers entries out₀ : List ℕ) where
  abbrev survey : Survey
  survey = survey_of profiles tuples identifiers entries

  blocks_at : {table blocks : ℕ} → table ≡ tuples_from survey → blocks ≡ table + tuples_size survey → blocks ≡ tuples_from
      survey + tuples_size survey
  blocks_at t b = omega arith

  -- with a profile that is left
  module _ (kept : Ready survey (length out₀)) {out : List ℕ} {p start at : ℕ} (f : Growing survey out₀ out p start at)
      (l : p < length profiles) where
    room : at + length (block_bytes survey.entries p) + 8 ≤ length out₀
    room = block_room survey out₀ kept f l

    -- it names a tuple, whose place stands among those of the tuples
    named : survey.named p < length tuples
    named = kept.listed.tuple_listed p l

    place_inside : {table : ℕ} → table ≡ tuples_from survey → table + survey.named p * 8 + 8 ≤ length out₀
    place_inside t =
        let fit = places_fit profiles tuples identifiers entries (survey.named p) named in
        omega (arith, named, fit.0, front_room survey out₀ kept, tuples-from survey)

    -- behind its block, which lies in the file
    held : {end : ℕ} → end ≡ run_start survey.entries (p + 1) → end ≡ start + run_length survey.entries p
    held e = e ∙ run_next survey.entries kept.sorted p ∙ ap (λ (n : ℕ). n + run_length survey.entries p) (sym f.start_is)

    block_ends : {contexts : ℕ} → contexts ≡ groups_of (pairs_of survey.entries p)
        → at + (run_length survey.entries p * 10 + 2 * (run_length survey.entries p % 2) + contexts * 12) ≤ length out₀
    block_ends e = omega (arith, room, length_block survey.entries p)

    as_long : {x : List ℕ} → x ≡ over out at (block_bytes survey.entries p) → length x ≡ length out₀
    as_long e = ap length e ∙ length_over out at (block_bytes survey.entries p) ∙ growing_length survey out₀ kept f

-- ----

pub loop-p-init : goal.loop-p-init
loop-p-init c =
    let a = c.args in
    let kept = ready a.profiles.now a.tuples.now a.identifiers.now a.entries.now (length a.file.now) c.requires.file_value in
    rw (blocks_at a.profiles.now a.tuples.now a.identifiers.now a.entries.now a.file.now c.requires.table_value c.requires.blocks_value)
    (growing_none (survey_of a.profiles.now a.tuples.now a.identifiers.now a.entries.now) a.file.now kept)

pub put_block-run-requires : goal.put_block-run-requires
put_block-run-requires c =
    let a = c.args in
    let s = survey_of a.profiles.now a.tuples.now a.identifiers.now a.entries.now in
    let kept = ready a.profiles.now a.tuples.now a.identifiers.now a.entries.now (length a.file.now) c.requires.file_value in
    record {
      ascending = kept.sorted;
      start_value = c.loop-p.invariant.start_is;
      p_in_bounds =
          omega (
            arith,
            block_room s a.file.now kept c.loop-p.invariant c.loop-p-test.true,
            growing_length s a.file.now kept
                c.loop-p.invariant,
          );
    }

-- after the block of a turn: where its run and its block end, and that the place of its tuple lies in the file
turn : (c : After-put_block-run) → (c.put_block-run.result.end ≡ c.loop-p.start + run_length (entries_in c.args.entries.now) c.loop-p.p)
    × (c.loop-p.at + (run_length (entries_in c.args.entries.now) c.loop-p.p * 10
    + 2 * (run_length (entries_in c.args.entries.now) c.loop-p.p % 2) + c.put_block-run.result.contexts * 12) ≤ length c.args.file.now)
    × (length c.put_block-run.new.file ≡ length c.args.file.now)
    × (c.args.table + word_of c.args.profiles.now c.loop-p.p * 8 + 8 ≤ length c.args.file.now)
    × (64 + c.loop-p.p * 40 + 40 ≤ length c.args.file.now)
turn c =
    let a = c.args in
    let s = survey_of a.profiles.now a.tuples.now a.identifiers.now a.entries.now in
    let kept = ready a.profiles.now a.tuples.now a.identifiers.now a.entries.now (length a.file.now) c.requires.file_value in (
      held _ _ _ _ _ kept c.loop-p.invariant c.loop-p-test.true c.put_block-run.ensures.end,
      block_ends _ _ _ _ _ kept c.loop-p.invariant c.loop-p-test.true c.put_block-run.ensures.contexts,
      as_long _ _ _ _ _ kept c.loop-p.invariant c.loop-p-test.true c.put_block-run.ensures.bytes,
      place_inside _ _ _ _ _ kept c.loop-p.invariant c.loop-p-test.true c.requires.table_value,
      omega (arith, front_room s a.file.now kept, c.loop-p-test.true),
    )

pub overflow_sub-held : goal.overflow_sub-held
overflow_sub-held c = omega (arith, turn (goal.at.overflow_sub-held c).After-put_block-run)

pub overflow_mul-indices : goal.overflow_mul-indices
overflow_mul-indices c = omega (arith, turn (goal.at.overflow_mul-indices c).After-put_block-run)

pub overflow_add-indices : goal.overflow_add-indices
overflow_add-indices c = omega (arith, turn (goal.at.overflow_add-indices c).After-put_block-run)

pub overflow_add-indices-in-loop-p : goal.overflow_add-indices-in-loop-p
overflow_add-indices-in-loop-p c = omega (arith, turn (goal.at.overflow_add-indices-in-loop-p c).After-put_block-run)

pub overflow_mul-named : goal.overflow_mul-named
overflow_mul-named c = omega (arith, turn (goal.at.overflow_mul-named c).After-put_block-run)

pub overflow_add-table : goal.overflow_add-table
overflow_add-table c = omega (arith, turn (goal.at.overflow_add-table c).After-put_block-run)

pub load_u64-tuple-requires : goal.load_u64-tuple-requires
load_u64-tuple-requires c = omega (arith, turn (goal.at.load_u64-tuple-requires c).After-put_block-run)

pub overflow_mul-p : goal.overflow_mul-p
overflow_mul-p c = omega (arith, turn (goal.at.overflow_mul-p c).After-put_block-run)

pub overflow_add-p : goal.overflow_add-p
overflow_add-p c = omega (arith, turn (goal.at.overflow_add-p c).After-put_block-run)

pub overflow_cast-run : goal.overflow_cast-run
overflow_cast-run c =
    let a = c.args in
    let kept = ready a.profiles.now a.tuples.now a.identifiers.now a.entries.now (length a.file.now) c.requires.file_value in
    omega (arith, c.put_block-run.ensures.contexts, kept.counted.contexts-fit c.loop-p.p c.loop-p-test.true)

pub put_info-requires : goal.put_info-requires
put_info-requires c = omega (arith, turn (goal.at.put_info-requires c).After-put_block-run)

pub overflow_mul-at : goal.overflow_mul-at
overflow_mul-at c = omega (arith, turn (goal.at.overflow_mul-at c).After-put_block-run)

pub overflow_add-at : goal.overflow_add-at
overflow_add-at c = omega (arith, turn (goal.at.overflow_add-at c).After-put_block-run)

pub loop-p-preserved : goal.loop-p-preserved
loop-p-preserved c =
    let a = c.args in
    let turns = c.loop-p in
    let put = c.put_block-run in
    let taken = c.loop-p-test.true in
    let s = survey_of a.profiles.now a.tuples.now a.identifiers.now a.entries.now in
    let kept = ready a.profiles.now a.tuples.now a.identifiers.now a.entries.now (length a.file.now) c.requires.file_value in
    let groups = put.ensures.contexts in
    let many-held : put.result.end - turns.start ≡ run_length s.entries turns.p =
    omega (arith, held _ _ _ _ _ kept turns.invariant taken put.ensures.end) in
    let next = next_at s a.file.now kept turns.invariant taken in
    let tuple = place_behind a.profiles.now a.tuples.now a.identifiers.now a.entries.now a.file.now kept (omega arith) turns.invariant
    a.table c.requires.table_value c.requires.stands put.new.file put.ensures.bytes (s.named turns.p)
    (named _ _ _ _ _ kept turns.invariant taken) in
    growing_more s a.file.now kept turns.invariant taken put.result.end _ put.new.file c.put_info.new.file
    put.ensures.end (omega (arith, next, length_block s.entries turns.p, many-held, groups)) put.ensures.bytes
    (c.put_info.ensures
    ∙ rw (
      c.place_for.ensures,
      c.place_for-in-loop-p.ensures,
      c.load_u64-tuple.ensures,
      tuple,
      many-held,
      groups,
      turns.invariant.at_is,
      info_fields s turns.p,
    ))

pub returns : goal.returns
returns c =
    let a = c.args in
    let turns = c.loop-p in
    let s = survey_of a.profiles.now a.tuples.now a.identifiers.now a.entries.now in
    let n : turns.p ≡ length a.profiles.now = omega (arith, turns.invariant.within) in
    let from : a.blocks ≡ tuples_from s + tuples_size s =
    blocks_at a.profiles.now a.tuples.now a.identifiers.now a.entries.now a.file.now c.requires.table_value c.requires.blocks_value in
    record {
      end = rw (turns.invariant.at_is, n, from) (block-from s s.profiles);
      bytes = turns.invariant.out_is ∙ rw (n, from);
    }
