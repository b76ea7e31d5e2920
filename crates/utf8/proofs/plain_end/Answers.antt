-- The first byte, then group by group, then byte by byte.
use Rattle.std.proofs.Common.{◌≡◌, ◌∙◌, ◌-◌, take, drop, length, rules, tests, arith}
use Rattle.std.proofs.lemmas.Iterator.{YieldsList-from_slice}
use Rattle.std.proofs.lemmas.Iterator.Consumers.{count_from_yields_List}
use Rattle.std.proofs.lemmas.Iterator.Search.{YieldsList-from_take_while}
use Rattle.std.proofs.lemmas.List.Folds.{length-prefix_len}
use Rattle.std.specs.List.{prefix_len}
use Rattle.utf8.specs.Progress.{is_plain}
use Rattle.utf8.proofs.Progress.{spans_none, spans_on, tested_yes, tested_no, plain_prefix, rest_bytes}
use Rattle.utf8.proofs.plain_end.Goals as goal

pub returns-then-not-is_plain : goal.returns-then-not-is_plain
returns-then-not-is_plain c =
    record {
      spans = spans_none c.args.bytes.now c.args.from (omega arith);
      end = tested_no c.args.bytes.now c.args.from c.is_plain.result c.is_plain.ensures c.if-not-is_plain.true;
    }

pub returns : goal.returns
returns c =
    let before = count_from_yields_List c.take_while.result _ c.count.ensures.ran
    (YieldsList-from_take_while _ is_plain
    (YieldsList-from_slice (take (length c.args.bytes.now - c.skip_groups-at.result) (drop c.skip_groups-at.result c.args.bytes.now)) (cc))
    c.take_while.ensures.closure c.take_while.ensures.done (λ x b q k. search (rules, tests))) in
    let n : c.count.result ≡ prefix_len is_plain (drop c.skip_groups-at.result c.args.bytes.now) =
    (rw rest_bytes at before) ∙ length-prefix_len is_plain (drop c.skip_groups-at.result c.args.bytes.now) in
    let first = tested_yes c.args.bytes.now c.args.from c.is_plain.result c.is_plain.ensures c.requires c.if-not-is_plain.false in
    let here = plain_prefix c.args.bytes.now c.skip_groups-at.result c.skip_groups-at.ensures.in_bytes in
    rw n (record { spans = spans_on c.args.bytes.now first (spans_on c.args.bytes.now c.skip_groups-at.ensures here.spans); end = here.end })
