-- Each digit makes the number of those before it the next.
use Rattle.std.proofs.Common.{◌≡◌, subst, rules, arith}
use Rattle.std.proofs.lemmas.Fn.{fold_over, slice_gives, fronts}
use Rattle.script.specs.Line.{decimal}
use Rattle.script.proofs.Digits.{decimal_none, decimal_push}
use Rattle.script.proofs.decimal.Goals as goal

pub returns : goal.returns
returns c = subst (λ text. c.fold.result ≡ decimal text) c.iter.ensures.rest
    (fold_over fronts (λ y. y.now) _ (λ ys n. n ≡ decimal ys) _ (λ ys a x b f' j k. let more = decimal_push 0 ys x.now in search (rules, arith))
    _ _ _ _ (slice_gives c.iter.result) decimal_none c.fold.ensures.ran)
