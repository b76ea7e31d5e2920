-- A group that is all plain is passed.
use Rattle.std.proofs.Common.{◌≡◌, ◌∙◌, sym, true, take, drop, arith}
use Rattle.std.proofs.lemmas.List.{length-drop}
use Rattle.std.specs.List.{list_all}
use Rattle.utf8.specs.Progress.{is_plain}
use Rattle.utf8.proofs.Progress.{spans_on, plain_all, rest_bytes}
use Rattle.utf8.proofs.skip_groups.Goals as goal

pub loop-group-preserved : goal.loop-group-preserved
loop-group-preserved c =
    let chunk = rw rest_bytes at c.in-Some.ensures.cases in
    let plain : list_all is_plain (take 16 (drop c.loop-group.i c.args.bytes.now)) ≡ true =
    rw chunk.same at (sym c.plain_sixteen.ensures ∙ c.if-plain_sixteen.true) in
    spans_on c.args.bytes.now c.loop-group.invariant
    (plain_all c.args.bytes.now 16 c.loop-group.i (omega (arith, chunk.enough, length-drop c.loop-group.i c.args.bytes.now)) plain)
