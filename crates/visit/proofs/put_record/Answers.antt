-- By whether there is room for the whole record.
use Prim.Native.Nat.{◌/◌}
use lib.ListN.{length}
use Rattle.refusal.specs.Check.{either}
use borrow.Author.Tests.{lt-ltb, le-ltb}
use native.Mathlib.Omega.{arith}
use Rattle.visit.proofs.put_record.Goals as goal

pub returns-then-records-n : goal.returns-then-records-n
unfolding either
returns-then-records-n c =
    λ path d. rw (le-ltb c.args.n (length c.args.records.now / 12) c.if-records-n.true)

pub returns : goal.returns
unfolding either
returns c =
    λ path d. rw (lt-ltb c.args.n (length c.args.records.now / 12) (omega (arith, c.if-records-n.false)), ← c.entry_words-words.ensures path d)
    c.store.ensures
