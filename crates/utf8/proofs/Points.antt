-- One code point: what stands in its bytes, and back. Each size by itself; omega does the quotients.
use Prim.Native.Nat.{ℕ, ◌+◌, ◌-◌, ◌*◌, ◌/◌, ◌%◌, ◌≤◌, ◌<◌}
use mathlib.Core.List.{List, [], ◌∷◌, ◌++◌}
use mathlib.Core.Path.{◌≡◌, refl}
use native.Mathlib.Omega.{arith}
use borrow.Author.Tests.{lt-ltb, le-ltb}
use lib.ListN.{drop}
use Rattle.refusal.specs.Check.{either}
use Rattle.utf8.specs.Encoding.{ScalarValue, encoding, code_point}

pub code_point_1 : (a : ℕ) (bytes : List ℕ) → a < 0x80 → code_point (a ∷ bytes) ≡ a
unfolding code_point either
code_point_1 a bytes h = rw (lt-ltb a 0x80 h)

pub code_point_2 : (a x : ℕ) (bytes : List ℕ) → 0x80 ≤ a → a < 0xE0 → code_point (a ∷ x ∷ bytes) ≡ (a - 0xC0) * 64 + (x - 0x80)
unfolding code_point either
code_point_2 a x bytes l h = rw (le-ltb a 0x80 l, lt-ltb a 0xE0 h)

pub code_point_3 : (a x y : ℕ) (bytes : List ℕ) → 0xE0 ≤ a → a < 0xF0 → code_point (a ∷ x ∷ y ∷ bytes) ≡ (a - 0xE0) * 4096 + (x - 0x80) * 64 + (y - 0x80)
unfolding code_point either
code_point_3 a x y bytes l h = rw (le-ltb a 0x80 (omega arith), le-ltb a 0xE0 l, lt-ltb a 0xF0 h)

pub code_point_4 : (a x y z : ℕ) (bytes : List ℕ) → 0xF0 ≤ a
    → code_point (a ∷ x ∷ y ∷ z ∷ bytes) ≡ (a - 0xF0) * 262144 + (x - 0x80) * 4096 + (y - 0x80) * 64 + (z - 0x80)
unfolding code_point either
code_point_4 a x y z bytes l = rw (le-ltb a 0x80 (omega arith), le-ltb a 0xE0 (omega arith), le-ltb a 0xF0 l)

module _ (c : ℕ) where
  pub encoding_1 : c < 0x80 → encoding c ≡ c ∷ []
  unfolding encoding either
  encoding_1 h = rw (lt-ltb c 0x80 h)

  pub encoding_2 : 0x80 ≤ c → c < 0x800 → encoding c ≡ (0xC0 + c / 64) ∷ (0x80 + c % 64) ∷ []
  unfolding encoding either
  encoding_2 l h = rw (le-ltb c 0x80 l, lt-ltb c 0x800 h)

  pub encoding_3 : 0x800 ≤ c → c < 0x10000 → encoding c ≡ (0xE0 + c / 4096) ∷ (0x80 + c / 64 % 64) ∷ (0x80 + c % 64) ∷ []
  unfolding encoding either
  encoding_3 l h = rw (le-ltb c 0x80 (omega arith), le-ltb c 0x800 l, lt-ltb c 0x10000 h)

  pub encoding_4 : 0x10000 ≤ c → encoding c ≡ (0xF0 + c / 262144) ∷ (0x80 + c / 4096 % 64) ∷ (0x80 + c / 64 % 64) ∷ (0x80 + c % 64) ∷ []
  unfolding encoding either
  encoding_4 l = rw (le-ltb c 0x80 (omega arith), le-ltb c 0x800 (omega arith), le-ltb c 0x10000 l)

  pub scalar_low : c < 0xD800 → ScalarValue c
  scalar_low h = record { most = omega arith; no_surrogate = λ l. absurd (omega arith) }

  pub scalar_high : 0xE000 ≤ c → c < 0x110000 → ScalarValue c
  scalar_high l h = record { most = omega arith; no_surrogate = λ m. omega arith }

-- the first byte and k more are the encoding of a scalar code point
abbrev pub Encodes : ℕ → List ℕ → ℕ → Type 0
Encodes b bytes k = ScalarValue (code_point (b ∷ bytes)) × (encoding (code_point (b ∷ bytes)) ++ drop k bytes ≡ b ∷ bytes)

pub encoded_1 : (a : ℕ) (bytes : List ℕ) → a < 0x80 → Encodes a bytes 0
encoded_1 a bytes h = rw (code_point_1 a bytes h) (scalar_low a (omega arith), rw (encoding_1 a h))

pub encoded_2 : (a x : ℕ) (bytes : List ℕ) → 0xC2 ≤ a → a ≤ 0xDF → 0x80 ≤ x → x ≤ 0xBF → Encodes a (x ∷ bytes) 1
encoded_2 a x bytes la ha lx hx =
    go ((a - 0xC0) * 64 + (x - 0x80)) refl
  where
    go : (c : ℕ) → (a - 0xC0) * 64 + (x - 0x80) ≡ c → Encodes a (x ∷ bytes) 1
    go c e =
        let p : 0xC0 + c / 64 ≡ a = omega arith in
        let q : 0x80 + c % 64 ≡ x = omega arith in
        rw (code_point_2 a x bytes (omega arith) (omega arith), e) (scalar_low c (omega arith), rw (encoding_2 c (omega arith) (omega arith), p, q))

pub encoded_3 : (a x y : ℕ) (bytes : List ℕ) → 0xE0 ≤ a → a ≤ 0xEF → 0x80 ≤ x → x ≤ 0xBF → 0x80 ≤ y → y ≤ 0xBF
    → (c : ℕ) → (a - 0xE0) * 4096 + (x - 0x80) * 64 + (y - 0x80) ≡ c → 0x800 ≤ c → ScalarValue c → Encodes a (x ∷ y ∷ bytes) 2
encoded_3 a x y bytes la ha lx hx ly hy c e l s =
    let p : 0xE0 + c / 4096 ≡ a = omega arith in
    let q : 0x80 + c / 64 % 64 ≡ x = omega arith in
    let r : 0x80 + c % 64 ≡ y = omega arith in
    rw (code_point_3 a x y bytes la (omega arith), e) (s, rw (encoding_3 c l (omega arith), p, q, r))

pub encoded_4 : (a x y z : ℕ) (bytes : List ℕ) → 0xF0 ≤ a → 0x80 ≤ x → x ≤ 0xBF → 0x80 ≤ y → y ≤ 0xBF → 0x80 ≤ z → z ≤ 0xBF
    → (c : ℕ) → (a - 0xF0) * 262144 + (x - 0x80) * 4096 + (y - 0x80) * 64 + (z - 0x80) ≡ c → 0x10000 ≤ c → c < 0x110000 → Encodes a (x ∷ y ∷ z ∷ bytes) 3
encoded_4 a x y z bytes la lx hx ly hy lz hz c e l h =
    let p : 0xF0 + c / 262144 ≡ a = omega arith in
    let q : 0x80 + c / 4096 % 64 ≡ x = omega arith in
    let r : 0x80 + c / 64 % 64 ≡ y = omega arith in
    let s : 0x80 + c % 64 ≡ z = omega arith in
    rw (code_point_4 a x y z bytes la, e) (scalar_high c (omega arith) h, rw (encoding_4 c l, p, q, r, s))
