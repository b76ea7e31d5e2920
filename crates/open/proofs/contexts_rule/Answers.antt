-- By whether there are bytes: then the rest is asked, and else the place alone.
use Prim.Native.Nat.{◌+◌}
use mathlib.Core.Bool.{Bool, true, false, ◌&&◌, ◌||◌, not}
use mathlib.Core.Path.{◌≡◌, refl}
use native.Mathlib.Nat.{mul-one}
use borrow.Author.Tests.{eq-eqb, ne_eqb}
use lib.Dec.{eqb}
use Rattle.range.specs.Range.{within, multiple}
use Rattle.open.specs.Opening.{contexts_rule}
use Rattle.open.proofs.contexts_rule.Goals as goal

without-bytes : (none rest : Bool) → none ≡ ((none && true) || ((not none && false) && rest))
without-bytes true rest = refl
without-bytes false rest = refl

with-bytes : (none rest : Bool) → (not none && rest) ≡ ((none && false) || ((not none && true) && rest))
with-bytes true rest = refl
with-bytes false rest = refl

pub returns-then-bytes-eq0 : goal.returns-then-bytes-eq0
unfolding contexts_rule
returns-then-bytes-eq0 c =
    let inside = within (c.args.at + c.args.end) (c.args.at + c.args.size) c.args.place c.args.bytes in
    rw (eq-eqb c.args.bytes 0 c.if-bytes-eq0.true) (without-bytes (eqb c.args.place 0) (inside && multiple c.args.place 8))

pub returns : goal.returns
unfolding contexts_rule
returns c =
    let inside = within (c.args.at + c.args.end) (c.args.at + c.args.size) c.args.place c.args.bytes in
    rw (ne_eqb c.args.bytes 0 c.if-bytes-eq0.false, c.multiple.ensures, c.in_section.ensures, mul-one)
    (with-bytes (eqb c.args.place 0) (inside && multiple c.args.place 8))
