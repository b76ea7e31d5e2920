-- The numbers before number k rise, and it is to be at least a gap above the last of them.
use Prim.Native.Nat.{ℕ, ◌+◌, ◌-◌, ◌≤◌}
use Rattle.seq.specs.Sequence.{Gives}
use Rattle.seq.proofs.Rising.{Rising}
use Rattle.seq.proofs.order.rise_singly.Given as goal

abbrev pub invariant-loop-k : goal.invariant-loop-k
invariant-loop-k g l =
    (least : ℕ) (f : ℕ → ℕ) → Gives (goal.F-post g l.number) f l.n → least ≤ f 0 → Rising least l.gap f l.n (f (l.k - 1) + l.gap) l.k
