-- A file that was opened is there, one that was not is none.
use Rattle.std.proofs.Common.{refl}
use Rattle.script.proofs.file.read_opened.Goals as goal

pub returns-in_ok-read_full-in-Ok-clause-variant : goal.returns-in_ok-read_full-in-Ok-clause-variant
returns-in_ok-read_full-in-Ok-clause-variant g c = rw c.in-Ok.is refl

pub returns-in_ok-fail-in-Err-clause-variant : goal.returns-in_ok-fail-in-Err-clause-variant
returns-in_ok-fail-in-Err-clause-variant g c = rw c.in-Err.is refl
