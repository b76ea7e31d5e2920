-- What stands elsewhere still stands after something is written.
use Prim.Native.Nat.{ℕ, zero, suc, ◌+◌, ◌≤◌}
use mathlib.Core.List.{List, [], ◌∷◌, ◌++◌, append_assoc}
use mathlib.Core.Path.{◌≡◌}
use native.Mathlib.Nat.{zero-add, suc-add}
use native.Mathlib.Omega.{arith}
use lib.ListN.{length, take, drop}
use lib.Seq.{take-nil, take-append_seam, drop_at, length-take-le}
use Rattle.layout.specs.Stands.{Stands}
use Rattle.buffer.specs.Over.{over}
use Rattle.buffer.proofs.Laws.{take_over, drop_over, over_eq}

take_drop : (m n : ℕ) (l : List ℕ) → take n (drop m l) ≡ drop m (take (m + n) l)
take_drop zero n l = rw (zero-add n)
take_drop (suc m) n [] = rw (take-nil n, take-nil (suc m + n))
take_drop (suc m) n (x ∷ l) = rw (suc-add m n) (take_drop m n l)

module _ (out : List ℕ) (at : ℕ) (x : List ℕ) (place : ℕ) (y : List ℕ) (s : Stands out place y) where
  pub stands_behind : at + length x ≤ place → Stands (over out at x) place y
  stands_behind l = record { same = rw (drop_over out at x place l) s.same }

  pub stands_before : place + length y ≤ at → Stands (over out at x) place y
  stands_before l = record { same = rw (take_drop place (length y) (over out at x), take_over out at x (place + length y) l, ← take_drop place (length y) out) s.same }

-- and what is written stands where there is room for it
pub stands_here : (out : List ℕ) (at : ℕ) (x : List ℕ) → at + length x ≤ length out → Stands (over out at x) at x
stands_here out at x l = record {
  same =
      rw (over_eq out at x l, append_assoc, drop_at (take at out) (x ++ drop (at + length x) out) at (length-take-le at out (omega arith)))
      (take-append_seam x (drop (at + length x) out));
}
