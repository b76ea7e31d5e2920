-- A count less at each turn: an entry is written for it, and the next one goes behind it if it is not zero.
use Prim.Native.Nat.{◌<◌}
use mathlib.Core.Logic.{inl, inr}
use native.Mathlib.Omega.{arith}
use Rattle.dcpi_entries.proofs.Putting.{putting_skip, putting_more, putting_all}
use Rattle.dcpi_entries.proofs.put_counts.Goals as goal
use Rattle.dcpi_entries.proofs.put_counts.Goals.{then-listed, else-listed}

pub returns-then-next-end : goal.returns-then-next-end
returns-then-next-end c =
    let all = putting_all _ _ _ _ _ _ _ _ _ c.loop-i.invariant c.requires.n_bound (inr (omega arith)) in
    record { next = all.0; bytes = all.1 }

pub loop-i-preserved : goal.loop-i-preserved
loop-i-preserved c =
    let before : c.loop-i.next < c.args.end = omega (arith, c.loop-i.invariant.next_is, c.requires.n_bound) in
    let load = c.load_u32-count.ensures in
    let put = c.put_entry.ensures in
    elim c.if-listed.branch [
      | then-listed w ↦
          rw w.next-is
          (putting_more _ _ _ _ _ _ _ _ _ c.loop-i.invariant c.loop-i-test.true before c.requires.n_bound c.requires.at_value load put
          (λ q. omega (arith, w.if-listed.true)))
      | else-listed w ↦
          rw w.next-is
          (putting_skip _ _ _ _ _ _ _ _ _ c.loop-i.invariant c.loop-i-test.true before c.requires.n_bound c.requires.at_value load put
          (omega (arith, w.if-listed.false)))
    ]

pub returns : goal.returns
returns c =
    let all = putting_all _ _ _ _ _ _ _ _ _ c.loop-i.invariant c.requires.n_bound (inl (omega arith)) in
    record { next = all.0; bytes = all.1 }
