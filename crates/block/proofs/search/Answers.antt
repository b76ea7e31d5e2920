-- The hint is right, or near, or all ids are searched.
use Rattle.block.specs.Block.{id_at}
use Rattle.block.proofs.Steps.{id_small, none_there, some_there}
use Rattle.seq.proofs.Search.{window_all, position_none, position_at}
use Prim.Native.Nat.{ℕ}
use mathlib.Core.Path.{sym}
use Rattle.block.proofs.search.Goals as goal

pub returns-then-is_at : goal.returns-then-is_at
returns-then-is_at c =
    let found = c.is_at.ensures c.if-is_at.true in
    sym (position_at (id_at c.args.w c.args.file.now c.args.at) c.args.key c.args.n c.requires.sorted c.args.hint found.0 found.1)

pub narrow-requires : goal.narrow-requires
narrow-requires c =
    let near = c.is_near.ensures c.if-is_near.true in
    record {
      elements_inside = c.requires.elements_inside;
      sorted = c.requires.sorted;
      key_bound = near.0;
      window = near.1;
    }

pub returns-then-is_near : goal.returns-then-is_near
returns-then-is_near c =
    c.narrow.ensures

pub returns-then-n-key : goal.returns-then-n-key
returns-then-n-key c =
    let f : ℕ → ℕ = id_at c.args.w c.args.file.now c.args.at in
    let small = id_small c.args.file.now (λ i. (c.type_inv.file i).fits) c.requires.elements_inside.width c.args.at in
    sym (position_none f c.args.key c.args.n (none_there f c.args.n c.args.key small c.if-n-key.true))

pub narrow-requires-2 : goal.narrow-requires-2
narrow-requires-2 c =
    let f : ℕ → ℕ = id_at c.args.w c.args.file.now c.args.at in
    let some = some_there f c.args.n c.args.key c.if-n-key.false in
    record {
      elements_inside = c.requires.elements_inside;
      sorted = c.requires.sorted;
      key_bound = some.1;
      window = window_all f c.args.n c.args.key some.0;
    }

pub returns : goal.returns
returns c =
    c.narrow-2.ensures
