-- By the rule.
use mathlib.Core.Path.{ap}
use mathlib.Core.Bool.{not}
use Rattle.tuple.proofs.Fits.{rule_kept, told_kept, told_broken, fits}
use Rattle.tuple.specs.Tuple.{identifiers}
use native.Mathlib.Nat.{add-zero}
use native.Mathlib.Omega.{arith}
use lib.ListN.{get_or}
use Rattle.tuple.proofs.tuple_of.Goals as goal

pub returns-then-not-multiple-fits : goal.returns-then-not-multiple-fits
returns-then-not-multiple-fits c =
    told_broken c.args.file.now (get_or c.args.section 0 0) (get_or c.args.section 1 0) c.args.at c.u16_at-n.ensures c.multiple.ensures
    c.in_section-fits.ensures
    (ap not c.if-not-multiple-fits.true)

pub overflow_add-result : goal.overflow_add-result
overflow_add-result c =
    let kept = told_kept c.args.file.now (get_or c.args.section 0 0) (get_or c.args.section 1 0) c.args.at c.u16_at-n.ensures
    c.multiple.ensures
    c.in_section-fits.ensures (ap not c.if-not-multiple-fits.false) in
    omega (arith, fits c.args.file.now (get_or c.args.section 0 0) (get_or c.args.section 1 0) c.args.at c.requires kept)

pub returns : goal.returns
unfolding identifiers
returns c =
    let kept = told_kept c.args.file.now (get_or c.args.section 0 0) (get_or c.args.section 1 0) c.args.at c.u16_at-n.ensures
    c.multiple.ensures
    c.in_section-fits.ensures (ap not c.if-not-multiple-fits.false) in
    rw (c.u16_at-n.ensures, add-zero) (rule_kept c.args.file.now (get_or c.args.section 0 0) (get_or c.args.section 1 0) c.args.at kept)
