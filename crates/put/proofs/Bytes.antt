-- The bytes of a number: half by half, and as std has them.
use Prim.Native.Nat.{ℕ, zero, suc, ◌+◌, ◌*◌, ◌/◌, ◌%◌, ◌^◌, ◌<◌}
use mathlib.Core.List.{◌∷◌, ◌++◌}
use mathlib.Core.Path.{◌≡◌, refl, ap, ◌∙◌}
use native.Mathlib.Nat.{pow-suc, mul_assoc, div-one, div-div-eq-div-mul}
use native.Mathlib.Omega.{arith}
use Rattle.std.specs.Int.{bytes_low_first}
use Rattle.layout.specs.Bytes.{bytes}

-- a low half of a bytes, and a high half of b
pub halves : (a b low high : ℕ) → low < 256 ^ a → bytes (a + b) (low + 256 ^ a * high) ≡ bytes a low ++ bytes b high
unfolding bytes
halves zero b low high l =
    let e : low + 256 ^ 0 * high ≡ high = omega arith in
    let n : 0 + b ≡ b = omega arith in
    rw (e, n)
halves (suc a) b low high l =
    let m : 256 ^ suc a * high ≡ 256 * (256 ^ a * high) = rw (pow-suc 256 a) (omega (arith, mul_assoc 256 (256 ^ a) high)) in
    let n : suc a + b ≡ suc (a + b) = omega arith in
    let s : low / 256 < 256 ^ a = omega (arith, pow-suc 256 a) in
    let p : (low + 256 * (256 ^ a * high)) % 256 ≡ low % 256 = omega arith in
    let q : (low + 256 * (256 ^ a * high)) / 256 ≡ low / 256 + 256 ^ a * high = omega arith in
    rw (n, m, p, q) (ap (λ t. low % 256 ∷ t) (halves a b (low / 256) high s))

-- as std has them, byte by byte
by_byte : (i w x : ℕ) → bytes_low_first i w x ≡ bytes w (x / 256 ^ i)
unfolding bytes
by_byte i zero x = refl
by_byte zero (suc w) x = rw (by_byte 1 w x, div-one)
by_byte (suc i) (suc w) x = rw (by_byte (suc (suc i)) w x, div-div-eq-div-mul, ← pow-suc 256 (suc i))

pub std_bytes : (w x : ℕ) → bytes_low_first 0 w x ≡ bytes w x
std_bytes w x = by_byte 0 w x ∙ ap (bytes w) (div-one x)
