-- Field after field.
use Prim.Native.Nat.{ℕ, ◌%◌, ◌<◌}
use mathlib.Core.List.{[], ◌∷◌}
use mathlib.Core.Path.{◌≡◌}
use native.Mathlib.Omega.{arith}
use borrow.Author.Rules.{rules}
use lib.ListN.{length-set}
use Rattle.layout.specs.Bytes.{bytes, ◌is◌}
use Rattle.buffer.specs.Over.{over}
use Rattle.buffer.proofs.Laws.{over_one}
use Rattle.put.proofs.Fields.{over_field, over_last}
use Rattle.mark.specs.Mark.{mark_size, mark_kind}
use Rattle.mark.proofs.put_head.Goals as goal

one_byte : (x : ℕ) → x < 256 → bytes 1 x ≡ x ∷ []
unfolding bytes
one_byte x l = let e : x % 256 ≡ x = omega arith in rw e

pub shape_of-out : goal.shape_of-out
shape_of-out c =
    rw length-set (search rules)

pub returns : goal.returns
returns c =
    rw (
      over_field c.args.out.now 0 2 (mark_size c.args.depth) (2 is mark_kind ∷ 1 is c.args.depth ∷ []),
      over_field (over c.args.out.now 0 (bytes 2 (mark_size c.args.depth))) 2 2 mark_kind (1 is c.args.depth ∷ []),
      over_last (over (over c.args.out.now 0 (bytes 2 (mark_size c.args.depth))) 2 (bytes 2 mark_kind)) 4 1 c.args.depth,
      one_byte c.args.depth (omega (arith, c.requires.depth_le_deepest)),
      over_one,
      c.store_u16-2.ensures,
      c.store_u16.ensures,
    )
