-- What the code relies on once the rules have been checked.
use Rattle.std.specs.Prelude.{ℕ, ◌+◌, ◌*◌, ◌≤◌, List, length}
use Rattle.seq.specs.Sequence.{NonDecreasing}
use Rattle.trace.specs.Trace.{time_at}

-- samples inside the file
pub record SamplesInside (file : List ℕ) (place n : ℕ) : Type 0 where
  pub ends : place + n * 12 ≤ length file

-- and in order
pub record SoundSamples (file : List ℕ) (place n : ℕ) : Type 0 where
  pub samples : SamplesInside file place n
  pub times : NonDecreasing (time_at file place) n
