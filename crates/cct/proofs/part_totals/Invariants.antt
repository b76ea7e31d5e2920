-- The entries passed are finite and in the tally, whose least and greatest are low and high.
use Rattle.block.specs.Block.{id_at, word_at}
use Rattle.total.proofs.Loop.{Summing}
use Rattle.cct.proofs.part_totals.Given as goal

abbrev pub invariant-loop-k : goal.invariant-loop-k
invariant-loop-k l = Summing (id_at l.h.inner l.file l.p.place) (word_at l.h.inner l.file l.p.place) l.p.length l.t l.low l.high l.k
