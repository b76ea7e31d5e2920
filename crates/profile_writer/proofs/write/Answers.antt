-- By whether the lists pass their check.
use mathlib.Core.Path.{refl, sym, ◌∙◌}
use Rattle.refusal.specs.Check.{on_answer}
use Rattle.refusal.proofs.Checks.{handed_on}
use Rattle.profile_writer.specs.Write.{write_answer, write_file}
use Rattle.profile_writer.proofs.write.Goals as goal

pub put_file-requires : goal.put_file-requires
put_file-requires c =
    sym c.in_ok-check.ensures

pub returns : goal.returns
unfolding write_answer write_file on_answer
returns c =
    let passed = sym c.in_ok-check.ensures in
    record { answer = rw (passed, c.put_file.ensures.end) refl; bytes = rw (passed, c.put_file.ensures.bytes) refl }

pub returns-in_err-check : goal.returns-in_err-check
unfolding write_answer write_file on_answer
returns-in_err-check c =
    let refused = sym c.in_err-check.ensures in
    record { answer = handed_on c.from_residual.ensures.1 ∙ (rw refused); bytes = rw refused refl }
