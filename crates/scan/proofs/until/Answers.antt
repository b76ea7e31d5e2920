-- The bytes passed and those before the first stop in the rest make up the answer.
use Rattle.std.proofs.Common.{◌≡◌, ◌∙◌, sym, ◌-◌, not, take, drop, length, rules, tests, arith}
use Rattle.std.proofs.lemmas.Iterator.{YieldsList-from_slice}
use Rattle.std.proofs.lemmas.Iterator.Consumers.{count_from_yields_List}
use Rattle.std.proofs.lemmas.Iterator.Search.{YieldsList-from_take_while}
use Rattle.std.proofs.lemmas.List.Folds.{length-prefix_len}
use Rattle.std.proofs.lemmas.List.{take_all, length-drop}
use Rattle.scan.specs.Until.{until}
use lib.Dec.{eqb}
use Rattle.scan.proofs.Laws.{until_position}
use Rattle.scan.proofs.until.Goals as goal

pub returns : goal.returns
returns c =
    let before = count_from_yields_List c.take_while.result _ c.count.ensures.ran
    (YieldsList-from_take_while _ (λ b. not (eqb b c.args.stop))
    (YieldsList-from_slice (take (length c.args.bytes.now - c.skip-at.result) (drop c.skip-at.result c.args.bytes.now)) (cc))
    c.take_while.ensures.closure c.take_while.ensures.done (λ x b q k. search (rules, tests))) in
    let rest : take (length c.args.bytes.now - c.skip-at.result) (drop c.skip-at.result c.args.bytes.now) ≡ drop c.skip-at.result c.args.bytes.now =
    take_all _ _ (omega (arith, length-drop c.skip-at.result c.args.bytes.now)) in
    let n : c.count.result ≡ until c.args.stop (drop c.skip-at.result c.args.bytes.now) =
    (rw rest at before)
    ∙ (length-prefix_len (λ b. not (eqb b c.args.stop)) (drop c.skip-at.result c.args.bytes.now) ∙ sym (until_position c.args.stop _)) in
    omega (arith, n, c.skip-at.ensures.bytes_value)
