-- The rule of a tuple as facts.
use Rattle.std.specs.Prelude.{ℕ, ◌+◌, ◌*◌, ◌%◌, ◌≤◌, List, ◌≡◌}
use Rattle.le.specs.Number.{number}

-- 7: in a section of `size` bytes at a place
pub record TupleKept (file : List ℕ) (place size at : ℕ) : Type 0 where
  pub aligned : at % 8 ≡ 0
  pub starts : place ≤ at
  pub fits : at + (8 + 16 * number 2 file at) ≤ place + size
