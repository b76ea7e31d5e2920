-- The answers to the pairs passed are written, and the others are left.
use Prim.Native.Nat.{◌*◌}
use mathlib.Core.Path.{◌≡◌}
use lib.ListN.{drop}
use Rattle.std.specs.Iterator.Adapters.{enumerate_source, enumerate_count}
use Rattle.std.specs.Slice.Iter.{chunks_exact_rest, chunks_exact_size}
use Rattle.batch.proofs.Filling.{Filling}
use Rattle.batch.proofs.find_all.Given as goal

abbrev pub invariant-loop-k : goal.invariant-loop-k
invariant-loop-k l = Filling l.file l.h l.b l.asked l.initial.answers l.answers (enumerate_count l.k-iterator)
    × (chunks_exact_rest (enumerate_source l.k-iterator) ≡ drop (2 * enumerate_count l.k-iterator) l.asked)
    × (chunks_exact_size (enumerate_source l.k-iterator) ≡ 2)
