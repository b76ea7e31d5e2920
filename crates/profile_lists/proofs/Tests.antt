-- Tests that hold together are one test.
use Prim.Native.Nat.{ℕ, ◌≤◌}
use mathlib.Core.Path.{◌≡◌}
use native.Mathlib.Decide.{dec_le}
use native.Mathlib.Omega.{arith}
use borrow.Author.Tests.{le-leb, lt-leb}
use lib.Dec.{leb}

pub leb_same : (a b c d : ℕ) → (a ≤ b → c ≤ d) → (c ≤ d → a ≤ b) → leb a b ≡ leb c d
leb_same a b c d f g =
    elim (dec_le a b) [
      | yes l ↦ rw (le-leb a b l, le-leb c d (f l))
      | no l ↦ rw (lt-leb a b (omega arith), lt-leb c d (elim (dec_le c d) [ yes m ↦ absurd (l (g m)) | no m ↦ omega arith ]))
    ]
