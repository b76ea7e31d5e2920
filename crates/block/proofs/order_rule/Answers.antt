-- By the widths.
use mathlib.Core.Path.{refl}
use Rattle.block.proofs.Parts.{not_two}
use Rattle.block.proofs.order_rule.Goals as goal

pub returns-in-2-default : goal.returns-in-2-default
returns-in-2-default c = c.keeps_order-in-2-default.ensures c.args.h c.in-2-default.is-0 (not_two c.requires.values.width c.in-2-default.is-1.1) refl
