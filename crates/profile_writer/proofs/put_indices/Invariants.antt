-- The indices of the groups that start below k stand behind one another; an entry that starts none has no bytes.
use Prim.Native.Nat.{ℕ, ◌+◌}
use mathlib.Core.List.{List}
use mathlib.Core.Path.{◌≡◌}
use lib.ListN.{length}
use Rattle.layout.specs.Many.{many}
use Rattle.buffer.specs.Over.{over}
use Rattle.block_file.specs.Pairs.{groups, index_element}
use Rattle.profile_lists.specs.Lists.{entries_in}
use Rattle.profile_writer.proofs.put_indices.Given as goal

-- the contexts from an entry on
abbrev pub contexts : (entries : List ℕ) (start k : ℕ) → ℕ
contexts entries start k = (entries_in entries).context (start + k)

abbrev pub invariant-loop-k : goal.invariant-loop-k
invariant-loop-k l =
    (l.count ≡ groups (contexts l.entries l.start) l.k) × (length l.file ≡ length l.initial.file)
    × (l.file ≡ over l.initial.file l.at (many (index_element 4 (contexts l.entries l.start)) l.k))
