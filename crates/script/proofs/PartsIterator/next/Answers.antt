-- The first part comes, and those behind it are left.
use Rattle.std.proofs.Common.{◌<◌, ◌∙◌, sym, length, ap, rules, arith}
use Rattle.script.proofs.Cuts.{next_part, no_parts}
use Rattle.script.proofs.PartsIterator.next.Goals as goal

pub returns-then-is_empty-clause-steps : goal.returns-then-is_empty-clause-steps
returns-then-is_empty-clause-steps c = search (rules, no_parts)

pub returns-clause-steps : goal.returns-clause-steps
returns-clause-steps c =
    let some : 0 < length c.self.inside.rest.now = search rules in
    sym c.self.view_is ∙ next_part c.self.inside.stop c.self.inside.rest.now some _ _ c.part-part.ensures.result_value c.rest_from-self-inside.ensures

pub returns-clause-goes : goal.returns-clause-goes
returns-clause-goes c =
    let fewer = ap length (returns-clause-steps c) in
    record {
      on = λ _. (tt, tt, omega (arith, fewer));
      keeps = tt;
      rests = λ _. tt;
    }
