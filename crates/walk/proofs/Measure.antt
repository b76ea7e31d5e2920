-- The number that falls combines levels left and bytes left: it falls into a context, and into an array of the level below.
use Prim.Native.Nat.{ℕ, zero, suc, ◌+◌, ◌-◌, ◌*◌, ◌≤◌, ◌<◌}
use mathlib.Core.Path.{◌≡◌}
use native.Mathlib.Nat.{suc-mul}
use native.Mathlib.Omega.{arith}

pub falls_in : (x at p stop m : ℕ) → x + (stop - at) + 1 ≡ m → at ≤ p → x + (stop - p) < m
falls_in x at p stop m e h = omega arith

falls_by : (b left from bytes p stop m : ℕ) → left * b + (stop - p) ≡ m → 0 < left → bytes + 1 ≤ b → p < stop
    → (left - 1) * b + (from + bytes - from) + 1 < m
falls_by b zero from bytes p stop m e h k q = absurd (omega arith)
falls_by b (suc left) from bytes p stop m e h k q =
    let y : suc left - 1 ≡ left = omega arith in
    let z = suc-mul left b in
    rw y (omega arith)

pub falls_down : (b limit depth from bytes p stop m : ℕ) → (limit - depth) * b + (stop - p) ≡ m → depth < limit → bytes + 1 ≤ b → p < stop
    → (limit - (depth + 1)) * b + (from + bytes - from) + 1 < m
falls_down b limit depth from bytes p stop m e h k q =
    let y : limit - (depth + 1) ≡ limit - depth - 1 = omega arith in
    rw y (falls_by b (limit - depth) from bytes p stop m e (omega arith) k q)
