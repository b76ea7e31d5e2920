-- Tuple after tuple, each as its size and its identifications; `first` counts those of the tuples before.
use Prim.Native.Nat.{◌+◌}
use mathlib.Core.Path.{◌≡◌}
use lib.ListN.{length}
use Rattle.layout.specs.Many.{many}
use Rattle.buffer.specs.Over.{over}
use Rattle.seq.specs.Sequence.{sum}
use Rattle.profile_file.specs.File.{tuple_bytes}
use Rattle.profile_lists.specs.Lists.{word_of, tuples_in}
use Rattle.profile_writer.proofs.put_tuples.Given as goal

abbrev pub invariant-loop-t : goal.invariant-loop-t
invariant-loop-t l = (length l.file ≡ length l.initial.file) × (l.first ≡ sum (word_of l.tuples) l.t)
    × (l.place ≡ l.at + length (many (tuple_bytes (tuples_in l.tuples l.identifiers)) l.t))
    × (l.file ≡ over l.initial.file l.at (many (tuple_bytes (tuples_in l.tuples l.identifiers)) l.t))
