-- By the block.
use mathlib.Core.Path.{refl}
use Rattle.refusal.specs.Check.{on_answer}
use Rattle.refusal.proofs.Checks.{handed_on}
use Rattle.batch.specs.Batch.{batch_in}
use Rattle.batch.proofs.answer_all.Goals as goal

pub find_all-requires : goal.find_all-requires
find_all-requires c =
    record {
      sound_block = c.requires.sound_in _ c.in_ok-checked.was;
      asked_in_bounds = c.requires.asked_in_bounds;
    }

pub returns : goal.returns
unfolding batch_in on_answer
returns c = record { value = rw c.in_ok-checked.was refl; answers_after = rw c.in_ok-checked.was c.find_all.ensures }

pub returns-in_err-checked : goal.returns-in_err-checked
unfolding batch_in on_answer
returns-in_err-checked c =
    record {
      value = rw (handed_on c.from_residual.ensures.1, c.in_err-checked.was);
      answers_after = rw c.in_err-checked.was refl;
    }
