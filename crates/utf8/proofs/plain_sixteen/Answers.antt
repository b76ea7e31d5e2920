-- Plain so far exactly if all the bytes passed are.
use Rattle.std.proofs.Common.{◌≡◌, ◌∷◌, [], ◌∙◌, ap, refl, rules, tests}
use Rattle.std.specs.List.{list_all}
use Rattle.std.proofs.lemmas.List.Folds.{list_all-append}
use Rattle.std.proofs.lemmas.Fn.{fold_over, slice_gives, fronts}
use Rattle.utf8.specs.Progress.{is_plain}
use Rattle.utf8.proofs.plain_sixteen.Goals as goal

pub returns : goal.returns
returns c =
    fold_over fronts (λ y. y.now) _ (λ ys plain. plain ≡ list_all is_plain ys) _
    (λ ys a x b f' j k. let more = list_all-append is_plain ys (x.now ∷ []) in search (rules, tests)) _ _ _ _ (slice_gives c.iter.result) refl c.fold.ensures.ran
    ∙ ap (list_all is_plain) c.iter.ensures.rest
