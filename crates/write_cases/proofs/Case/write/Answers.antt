-- By a law: a million bytes are too many to count.
use Rattle.std.proofs.Common.{ℕ, sym}
use Rattle.std.proofs.lemmas.List.{length-replicate}
use Rattle.write_cases.proofs.Case.write.Goals as goal

pub slice_bounds-get_mut-end : goal.slice_bounds-get_mut-end
slice_bounds-get_mut-end g c = sym (length-replicate {A = ℕ} 1049000 255)
