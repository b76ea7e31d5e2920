-- Every part has its place, and together they are the file.
use Prim.Native.Nat.{ℕ, ◌+◌, ◌-◌, ◌*◌, ◌≤◌}
use mathlib.Core.List.{List}
use mathlib.Core.Path.{◌≡◌, sym, ap, ◌∙◌}
use native.Mathlib.Omega.{arith}
use lib.ListN.{length}
use Rattle.layout.specs.Many.{many}
use Rattle.buffer.proofs.Laws.{length_over}
use Rattle.put.proofs.Stands.{stands_here}
use Rattle.seq.specs.Sequence.{sum}
use Rattle.profile_file.specs.Survey.{Survey}
use Rattle.profile_file.specs.File.{profile_file, block_bytes, tuples_from, tuples_size, file_header, infos_header}
use Rattle.profile_file.proofs.Lengths.{length_tuples, length_file}
use Rattle.profile_lists.specs.Lists.{word_of, tuples_in, survey_of}
use Rattle.profile_writer.specs.Table.{places_of}
use Rattle.profile_writer.proofs.Profiles.{ready, front_room, length_places, tuples-from, tuples_long, claims_there, sizes_kept}
use Rattle.profile_writer.proofs.Whole.{file_written}
use Rattle.profile_writer.proofs.put_file.Goals as goal

module _ (profiles tuples identifiers entries : List ℕ) where
  abbrev survey : Survey
  survey = survey_of profiles tuples identifiers entries

  abbrev table : ℕ
  table = 64 + length profiles * 40

  abbrev places : List ℕ
  places = places_of tuples table (length tuples)

  places-inside : length places ≤ tuples_size survey
  places-inside = omega (arith, length_places tuples table (length tuples), tuples_long survey)

  -- where the blocks end
  blocks_end : {blocks end : ℕ} → blocks ≡ table + length tuples * 8 + sum (word_of tuples) (length tuples) * 16
      → end ≡ blocks + length (many (block_bytes survey.entries) (length profiles)) → end + 8 ≡ length (profile_file survey)
  blocks_end b e = omega (arith, length_file survey, tuples-from survey, tuples_long survey)

-- ----

pub overflow_mul-table : goal.overflow_mul-table
overflow_mul-table c =
    let a = c.args in
    omega (arith, (ready a.profiles.now a.tuples.now a.identifiers.now a.entries.now (length a.file.now) c.requires).counted.profiles_fit)

pub overflow_add-table : goal.overflow_add-table
overflow_add-table c =
    let a = c.args in
    omega (arith, (ready a.profiles.now a.tuples.now a.identifiers.now a.entries.now (length a.file.now) c.requires).counted.profiles_fit)

pub put_places-blocks-requires : goal.put_places-blocks-requires
put_places-blocks-requires c =
    let a = c.args in
    let s = survey_of a.profiles.now a.tuples.now a.identifiers.now a.entries.now in
    let kept = ready a.profiles.now a.tuples.now a.identifiers.now a.entries.now (length a.file.now) c.requires in
    omega (arith, front_room s a.file.now kept, tuples_long s)

pub put_profiles-end-requires : goal.put_profiles-end-requires
put_profiles-end-requires c =
    let a = c.args in
    let s = survey_of a.profiles.now a.tuples.now a.identifiers.now a.entries.now in
    let kept = ready a.profiles.now a.tuples.now a.identifiers.now a.entries.now (length a.file.now) c.requires in
    let put = c.put_places-blocks in
    let long : length put.new.file ≡ length a.file.now = ap length put.ensures.bytes ∙ length_over _ _ _ in
    let inside = places-inside a.profiles.now a.tuples.now a.identifiers.now a.entries.now in
    let t = table a.profiles.now a.tuples.now a.identifiers.now a.entries.now in
    record {
      file_value = rw long c.requires;
      stands =
          rw put.ensures.bytes
          (stands_here a.file.now t (places a.profiles.now a.tuples.now a.identifiers.now a.entries.now)
          (omega (arith, inside, front_room s a.file.now kept)));
      table_value = sym (tuples-from s);
      blocks_value = omega (arith, put.ensures.end, tuples_long s);
    }

pub put_tuples-requires : goal.put_tuples-requires
put_tuples-requires c =
    let a = c.args in
    let s = survey_of a.profiles.now a.tuples.now a.identifiers.now a.entries.now in
    let kept = ready a.profiles.now a.tuples.now a.identifiers.now a.entries.now (length a.file.now) c.requires in
    let size = length_tuples (tuples_in a.tuples.now a.identifiers.now) (length a.tuples.now) in
    let long-1 : length c.put_places-blocks.new.file ≡ length a.file.now = ap length c.put_places-blocks.ensures.bytes
    ∙ length_over _ _ _ in
    let long-2 : length c.put_profiles-end.new.file ≡ length c.put_places-blocks.new.file =
    ap length c.put_profiles-end.ensures.bytes ∙ length_over _ _ _ ∙ length_over _ _ _ in
    record {
      tuples_in_bounds = omega (arith, long-1, long-2, front_room s a.file.now kept, tuples_long s, size);
      tuples_in_bounds_2 = claims_there a.profiles.now a.tuples.now a.identifiers.now a.entries.now (length a.file.now) c.requires;
      identifiers_value = sizes_kept s kept.counted;
    }

pub overflow_sub-blocks : goal.overflow_sub-blocks
overflow_sub-blocks c = omega (arith, c.put_places-blocks.ensures.end)

pub put_header-requires : goal.put_header-requires
put_header-requires c =
    let a = c.args in
    let s = survey_of a.profiles.now a.tuples.now a.identifiers.now a.entries.now in
    let kept = ready a.profiles.now a.tuples.now a.identifiers.now a.entries.now (length a.file.now) c.requires in
    let long-1 : length c.put_places-blocks.new.file ≡ length a.file.now = ap length c.put_places-blocks.ensures.bytes
    ∙ length_over _ _ _ in
    let long-2 : length c.put_profiles-end.new.file ≡ length c.put_places-blocks.new.file =
    ap length c.put_profiles-end.ensures.bytes ∙ length_over _ _ _ ∙ length_over _ _ _ in
    let long-3 : length c.put_tuples.new.file ≡ length c.put_profiles-end.new.file = ap length c.put_tuples.ensures ∙ length_over _ _ _ in
    record {
      in_bounds = omega (arith, long-1, long-2, long-3, front_room s a.file.now kept);
      profiles_bound = kept.counted.profiles_fit;
    }

pub put_infos_header-requires : goal.put_infos_header-requires
put_infos_header-requires c =
    let a = c.args in
    let s = survey_of a.profiles.now a.tuples.now a.identifiers.now a.entries.now in
    let kept = ready a.profiles.now a.tuples.now a.identifiers.now a.entries.now (length a.file.now) c.requires in
    let long-1 : length c.put_places-blocks.new.file ≡ length a.file.now = ap length c.put_places-blocks.ensures.bytes
    ∙ length_over _ _ _ in
    let long-2 : length c.put_profiles-end.new.file ≡ length c.put_places-blocks.new.file =
    ap length c.put_profiles-end.ensures.bytes ∙ length_over _ _ _ ∙ length_over _ _ _ in
    let long-3 : length c.put_tuples.new.file ≡ length c.put_profiles-end.new.file = ap length c.put_tuples.ensures ∙ length_over _ _ _ in
    let long-4 : length c.put_header.new.file ≡ length c.put_tuples.new.file = ap length c.put_header.ensures ∙ length_over _ _ _ in
    record {
      in_bounds = omega (arith, long-1, long-2, long-3, long-4, front_room s a.file.now kept);
      profiles_bound = kept.counted.profiles_fit;
    }

pub text-requires : goal.text-requires
text-requires c =
    let a = c.args in
    let s = survey_of a.profiles.now a.tuples.now a.identifiers.now a.entries.now in
    let kept = ready a.profiles.now a.tuples.now a.identifiers.now a.entries.now (length a.file.now) c.requires in
    let long-1 : length c.put_places-blocks.new.file ≡ length a.file.now = ap length c.put_places-blocks.ensures.bytes
    ∙ length_over _ _ _ in
    let long-2 : length c.put_profiles-end.new.file ≡ length c.put_places-blocks.new.file =
    ap length c.put_profiles-end.ensures.bytes ∙ length_over _ _ _ ∙ length_over _ _ _ in
    let long-3 : length c.put_tuples.new.file ≡ length c.put_profiles-end.new.file = ap length c.put_tuples.ensures ∙ length_over _ _ _ in
    let long-4 : length c.put_header.new.file ≡ length c.put_tuples.new.file = ap length c.put_header.ensures ∙ length_over _ _ _ in
    let long-5 : length c.put_infos_header.new.file ≡ length c.put_header.new.file = ap length c.put_infos_header.ensures
    ∙ length_over _ _ _ in
    let blocks = blocks_end a.profiles.now a.tuples.now a.identifiers.now a.entries.now c.put_places-blocks.ensures.end
    c.put_profiles-end.ensures.end in
    omega (arith, long-1, long-2, long-3, long-4, long-5, blocks, kept.has_room)

pub overflow_add-result : goal.overflow_add-result
overflow_add-result c =
    let a = c.args in
    let kept = ready a.profiles.now a.tuples.now a.identifiers.now a.entries.now (length a.file.now) c.requires in
    let blocks = blocks_end a.profiles.now a.tuples.now a.identifiers.now a.entries.now c.put_places-blocks.ensures.end
    c.put_profiles-end.ensures.end in
    omega (arith, blocks, kept.has_room)

pub returns : goal.returns
unfolding file_header infos_header tuples_from
returns c =
    let a = c.args in
    let s = survey_of a.profiles.now a.tuples.now a.identifiers.now a.entries.now in
    let put = c.put_places-blocks in
    let blocks : put.result ≡ tuples_from s + tuples_size s = omega (arith, put.ensures.end, tuples-from s, tuples_long s) in
    let size : put.result - (64 + length a.profiles.now * 40) ≡ tuples_size s = omega (arith, blocks, tuples-from s) in
    let end : c.put_profiles-end.result ≡ tuples_from s + tuples_size s + length (many (block_bytes s.entries) s.profiles) =
    omega (arith, c.put_profiles-end.ensures.end, blocks) in
    record {
      end = blocks_end a.profiles.now a.tuples.now a.identifiers.now a.entries.now put.ensures.end c.put_profiles-end.ensures.end;
      bytes =
          rw (
            c.text.ensures,
            c.put_infos_header.ensures,
            c.put_header.ensures,
            c.put_tuples.ensures,
            c.put_profiles-end.ensures.bytes,
            put.ensures.bytes,
            size,
            blocks,
          )
          (file_written s a.file.now (places a.profiles.now a.tuples.now a.identifiers.now a.entries.now)
          (places-inside a.profiles.now a.tuples.now a.identifiers.now a.entries.now) c.put_profiles-end.result end);
    }
