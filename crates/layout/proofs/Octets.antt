-- What is laid out is of bytes.
use Prim.Native.Nat.{ℕ, zero, suc, ◌/◌}
use mathlib.Core.List.{List, [], ◌∷◌, ◌++◌}
use native.Mathlib.Omega.{arith}
use Rattle.layout.specs.Bytes.{bytes, Field, fields}
use Rattle.layout.specs.Octets.{Octets}

pub octets_none : Octets []
octets_none i = omega arith

pub octets_append : (a b : List ℕ) → Octets a → Octets b → Octets (a ++ b)
octets_append [] b p q i = q i
octets_append (x ∷ a) b p q zero = p 0
octets_append (x ∷ a) b p q (suc i) = octets_append a b (λ j. p (suc j)) q i

octets_bytes : (w x : ℕ) → Octets (bytes w x)
unfolding bytes
octets_bytes zero x i = omega arith
octets_bytes (suc w) x zero = omega arith
octets_bytes (suc w) x (suc i) = octets_bytes w (x / 256) i

pub octets_fields : (fs : List Field) → Octets (fields fs)
unfolding fields
octets_fields [] = octets_none
octets_fields (f ∷ fs) = octets_append (bytes f.width f.holds) (fields fs) (octets_bytes f.width f.holds) (octets_fields fs)
