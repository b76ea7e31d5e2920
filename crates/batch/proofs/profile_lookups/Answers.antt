-- By the room.
use Rattle.batch.proofs.Filling.{no_room, room}
use Rattle.lookup.proofs.Laws.{profile_sound}
use mathlib.Core.Path.{sym, ◌∙◌}
use native.Mathlib.Omega.{arith}
use Rattle.batch.proofs.profile_lookups.Goals as goal

pub returns-then-answers-asked : goal.returns-then-answers-asked
returns-then-answers-asked c =
    let all = no_room c.args.file.now _ _ c.args.asked.now c.args.answers.now (omega (arith, c.if-answers-asked.true)) in
    record { value = all.0; answers_after = all.1 }

pub answer_all-requires : goal.answer_all-requires
answer_all-requires c = record {
  sound_in = λ b e. rw c.profile_shape-h.ensures (profile_sound c.args.file.now c.args.profile b (sym c.profile_block-checked.ensures ∙ e));
  asked_in_bounds = omega (arith, c.if-answers-asked.false);
}

pub returns : goal.returns
returns c =
    let all = room c.args.file.now _ _ c.args.asked.now c.args.answers.now (omega (arith, c.if-answers-asked.false))
    (c.answer_all.ensures.value, c.answer_all.ensures.answers_after) in
    record {
      value = rw (← c.profile_block-checked.ensures, ← c.profile_shape-h.ensures) all.0;
      answers_after = rw (← c.profile_block-checked.ensures, ← c.profile_shape-h.ensures) all.1;
    }
