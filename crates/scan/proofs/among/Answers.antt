-- Found so far exactly if one of the bytes passed is the stop.
use Rattle.std.proofs.Common.{◌≡◌, ◌∷◌, [], ◌∙◌, ap, refl, rules, tests}
use Rattle.std.specs.List.{list_any}
use Rattle.std.proofs.lemmas.List.Folds.{list_any-append}
use Rattle.std.proofs.lemmas.Fn.{fold_over, slice_gives, fronts}
use lib.Dec.{eqb, ltb}
use Rattle.scan.specs.Until.{until}
use Rattle.scan.proofs.Laws.{any_until}
use Rattle.scan.proofs.among.Goals as goal

pub returns : goal.returns
returns c =
    let any = fold_over fronts (λ y. y.now) _ (λ ys found. found ≡ list_any (λ b. eqb b c.args.stop) ys) _
    (λ ys a x b f' j k. let more = list_any-append (λ b. eqb b c.args.stop) ys (x.now ∷ []) in search (rules, tests)) _ _ _ _ (slice_gives c.iter.result) refl c.fold.ensures.ran in
    any ∙ (ap (list_any (λ b. eqb b c.args.stop)) c.iter.ensures.rest ∙ (any_until _ _ ∙ ap (ltb (until c.args.stop c.args.group.now)) c.told-group))
