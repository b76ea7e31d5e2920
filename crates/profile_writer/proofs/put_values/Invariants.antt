-- A turn is taken for each entry of the run, and the loop ends where the run does.
use Prim.Native.Nat.{ℕ, ◌+◌, ◌≤◌}
use mathlib.Core.List.{List}
use mathlib.Core.Path.{◌≡◌}
use lib.ListN.{length}
use Rattle.layout.specs.Many.{many}
use Rattle.buffer.specs.Over.{over}
use Rattle.block_file.specs.Pairs.{value_element}
use Rattle.profile_file.specs.Survey.{run_start}
use Rattle.profile_lists.specs.Lists.{entries_in}
use Rattle.profile_writer.proofs.put_values.Given as goal

-- value k from an entry on
abbrev pub value_of : (entries : List ℕ) (start k : ℕ) → List ℕ
value_of entries start = value_element 2 (λ j. (entries_in entries).metric (start + j)) (λ j. (entries_in entries).bits (start + j))

abbrev pub invariant-loop-k : goal.invariant-loop-k
invariant-loop-k l =
    (l.start + l.k ≤ run_start (entries_in l.entries) (l.p + 1)) × (length l.file ≡ length l.initial.file)
    × (l.file ≡ over l.initial.file l.at (many (value_of l.entries l.start) l.k))
