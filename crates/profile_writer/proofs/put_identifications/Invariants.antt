-- Identification after identification; the first of tuple t is behind those of the tuples before it.
use mathlib.Core.Path.{◌≡◌}
use lib.ListN.{length}
use Rattle.layout.specs.Many.{many}
use Rattle.buffer.specs.Over.{over}
use Rattle.profile_file.specs.File.{identification_bytes}
use Rattle.profile_lists.specs.Lists.{tuples_in}
use Rattle.profile_writer.proofs.put_identifications.Given as goal

abbrev pub invariant-loop-j : goal.invariant-loop-j
invariant-loop-j l = (length l.file ≡ length l.initial.file)
    × (l.file ≡ over l.initial.file l.at (many (identification_bytes (tuples_in l.tuples l.identifiers) l.t) l.j))
