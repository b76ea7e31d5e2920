-- The numbers up to the last of the fours passed rise.
use Prim.Native.Nat.{ℕ, ◌+◌, ◌*◌}
use mathlib.Core.Bool.{true}
use mathlib.Core.Path.{◌≡◌}
use Rattle.seq.specs.Sequence.{rises, Gives}
use Rattle.seq.proofs.order.rise_by_fours.Given as goal

abbrev pub invariant-loop-four : goal.invariant-loop-four
invariant-loop-four g l =
    (least : ℕ) (f : ℕ → ℕ) → Gives (goal.F-post g l.number) f (l.last + l.fours * 4 + 1) → rises least l.gap f (l.last + 1) ≡ true
    → rises least l.gap f (l.last + l.four * 4 + 1) ≡ true
