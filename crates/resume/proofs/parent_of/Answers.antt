-- Below no context they are the roots; else the word of the context above them.
use Prim.Native.Nat.{ℕ, zero, suc}
use mathlib.Core.List.{List}
use mathlib.Core.Path.{◌≡◌, refl}
use native.Mathlib.Omega.{arith}
use lib.ListN.{get_or}
use Rattle.resume.specs.Way.{parent_below}
use Rattle.resume.proofs.parent_of.Goals as goal

above-none : (way : List ℕ) (up : ℕ) → up ≡ 0 → 0 ≡ parent_below way up
above-none way zero z = refl
above-none way (suc d) z = absurd (omega arith)

above-some : (way : List ℕ) (up : ℕ) → (up ≡ 0 → ⊥) → get_or way up 0 ≡ parent_below way up
above-some way zero n = absurd (n refl)
above-some way (suc d) n = refl

pub returns-then-up-eq0 : goal.returns-then-up-eq0
returns-then-up-eq0 c =
    above-none c.args.way.now c.args.up c.if-up-eq0.true

pub returns-else-up-eq0 : goal.returns-else-up-eq0
returns-else-up-eq0 c =
    above-some c.args.way.now c.args.up c.if-up-eq0.false
