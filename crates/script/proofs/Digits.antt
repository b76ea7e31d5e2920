-- The digits passed so far write a number; one more digit makes it the next.
use Prim.Native.Nat.{ℕ, ◌+◌, ◌-◌, ◌*◌, ◌^◌, ◌%◌, min}
use mathlib.Core.List.{List, [], ◌∷◌, ◌++◌}
use mathlib.Core.Path.{◌≡◌, refl}
use Rattle.script.specs.Line.{decimal_from}

pub decimal_none : 0 ≡ decimal_from 0 []
unfolding decimal_from
decimal_none = refl

pub decimal_push : (n : ℕ) (text : List ℕ) (c : ℕ) → decimal_from n (text ++ c ∷ []) ≡ min (decimal_from n text * 10 + c % 16) (2 ^ 64 - 1)
unfolding decimal_from
decimal_push n [] c = refl
decimal_push n (b ∷ text) c = decimal_push (min (n * 10 + b % 16) (2 ^ 64 - 1)) text c
