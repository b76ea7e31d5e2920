-- Up to the first stop byte of the rest, which may be its end.
use Rattle.std.proofs.Common.{sym, rules}
use Rattle.script.proofs.Cuts.{length_part}
use Rattle.script.specs.Line.{part_at}
use Rattle.script.proofs.part.Goals as goal

pub slice_bounds-result-end : goal.slice_bounds-result-end
slice_bounds-result-end c = rw (c.until.ensures) (sym (length_part c.args.stop c.rest_from-rest.result.now))

pub returns-clause-result_value : goal.returns-clause-result_value
unfolding part_at
returns-clause-result_value c = search rules
