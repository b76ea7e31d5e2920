-- Things that are written one after the other: the fields of a structure, fields that one number holds, elements of an array.
use Prim.Native.Nat.{ℕ, ◌+◌, ◌*◌, ◌^◌, ◌<◌}
use mathlib.Core.List.{List, [], ◌∷◌, ◌++◌, append-nil, append_assoc}
use mathlib.Core.Path.{◌≡◌, sym, ap, ◌∙◌}
use native.Mathlib.Numerals.{add-one}
use native.Mathlib.Omega.{arith}
use lib.ListN.{length}
use Rattle.layout.specs.Bytes.{bytes, Field, ◌is◌, fields}
use Rattle.layout.specs.Many.{many}
use Rattle.layout.proofs.Laws.{length_bytes}
use Rattle.layout.proofs.Many.{many_none, many_suc}
use Rattle.buffer.specs.Over.{over}
use Rattle.buffer.proofs.Laws.{over_none, over_append}
use Rattle.put.proofs.Bytes.{halves}

pub over_last : (out : List ℕ) (at w x : ℕ) → over out at (fields (w is x ∷ [])) ≡ over out at (bytes w x)
unfolding fields
over_last out at w x = rw append-nil

pub over_field : (out : List ℕ) (at w x : ℕ) (fs : List Field) → over out at (fields (w is x ∷ fs)) ≡ over (over out at (bytes w x)) (at + w) (fields fs)
unfolding fields
over_field out at w x fs = rw (over_append (bytes w x) (fields fs) out at, length_bytes)

-- a field and zeros behind it are one wider number
pub zeros_behind : (a b x : ℕ) (fs : List Field) → x < 256 ^ a → fields (a is x ∷ b is 0 ∷ fs) ≡ fields ((a + b) is x ∷ fs)
unfolding fields
zeros_behind a b x fs l =
    let e : x + 256 ^ a * 0 ≡ x = omega arith in
    let h : bytes (a + b) x ≡ bytes a x ++ bytes b 0 = ap (bytes (a + b)) (sym e) ∙ halves a b x 0 l in
    rw (h, append_assoc)

-- elements, one after the other
module _ (e : ℕ → List ℕ) (out : List ℕ) (at : ℕ) where
  pub over_many_none : out ≡ over out at (many e 0)
  over_many_none = rw (many_none, over_none)

  pub over_many_more : (k : ℕ) → over out at (many e (k + 1)) ≡ over (over out at (many e k)) (at + length (many e k)) (e k)
  over_many_more k = rw (add-one, many_suc) (over_append (many e k) (e k) out at)

-- one that has no bytes
pub many_skip : (e : ℕ → List ℕ) (k : ℕ) → e k ≡ [] → many e (k + 1) ≡ many e k
many_skip e k h = rw (add-one, many_suc, h, append-nil)
