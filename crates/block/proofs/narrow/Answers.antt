-- By the width.
use Rattle.block.specs.Block.{id_at}
use Rattle.block.specs.Sound.{ElementsInside}
use Rattle.block.proofs.Parts.{not_two}
use Rattle.seq.specs.Sequence.{position, Sorted, Window}
use Prim.Native.Nat.{ℕ, ◌<◌}
use mathlib.Core.List.{List}
use mathlib.Core.Path.{sym, ap, subst, ◌∙◌}
use Rattle.block.proofs.narrow.Goals as goal

-- what either loop requires
abbrev Required : List ℕ → (at n key from count w : ℕ) → Type 0
Required file at n key from count w =
    ElementsInside file at w n × (Sorted (id_at w file at) n × ((key < 4294967296) × Window (id_at w file at) n key from count))

pub halve-requires : goal.halve-requires
halve-requires c =
    let here : Required c.args.file.now c.args.at c.args.n c.args.key c.args.from c.args.count c.args.w =
    (c.requires.elements_inside, (c.requires.sorted, (c.requires.key_bound, c.requires.window))) in
    let all = subst (Required c.args.file.now c.args.at c.args.n c.args.key c.args.from c.args.count)
    c.if-w-eq2.true here in
    record { elements_inside = all.0; sorted = all.1.0; key_bound = all.1.1.0; window = all.1.1.1 }

pub returns-then-w-eq2 : goal.returns-then-w-eq2
returns-then-w-eq2 c =
    c.halve.ensures ∙ ap (λ (w : ℕ). position (id_at w c.args.file.now c.args.at) c.args.key c.args.n) (sym c.if-w-eq2.true)

pub halve-requires-2 : goal.halve-requires-2
halve-requires-2 c =
    let here : Required c.args.file.now c.args.at c.args.n c.args.key c.args.from c.args.count c.args.w =
    (c.requires.elements_inside, (c.requires.sorted, (c.requires.key_bound, c.requires.window))) in
    let all = subst (Required c.args.file.now c.args.at c.args.n c.args.key c.args.from c.args.count)
    (not_two c.requires.elements_inside.width c.if-w-eq2.false) here in
    record { elements_inside = all.0; sorted = all.1.0; key_bound = all.1.1.0; window = all.1.1.1 }

pub returns : goal.returns
returns c =
    let four = not_two c.requires.elements_inside.width c.if-w-eq2.false in
    c.halve-2.ensures ∙ ap (λ (w : ℕ). position (id_at w c.args.file.now c.args.at) c.args.key c.args.n) (sym four)
