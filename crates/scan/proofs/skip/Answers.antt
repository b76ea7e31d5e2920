-- The chunks before the first with a stop are passed.
use Rattle.std.proofs.Common.{◌≡◌, ◌∙◌, ap, length, rules, tests}
use Rattle.std.proofs.lemmas.Iterator.{YieldsList-from_slice}
use Rattle.std.proofs.lemmas.Iterator.Search.{position_from_yields_List}
use Rattle.std.specs.List.{position_or_len}
use Rattle.std.specs.Option.{unwrap_or}
use lib.Dec.{ltb}
use Rattle.scan.specs.Until.{until}
use Rattle.scan.proofs.Laws.{past_chunks, first_or_all}
use Rattle.scan.proofs.skip.Goals as goal

pub returns-clause-bytes_value : goal.returns-clause-bytes_value
returns-clause-bytes_value c =
    let found = position_from_yields_List (λ group. ltb (until c.args.stop group) 16) _ _ c.position-whole.result c.position-whole.ensures.ran
    (YieldsList-from_slice _ c.iter.ensures.rest) (λ x b q k. search (rules, tests)) in
    let n : c.unwrap_or.result ≡ position_or_len (λ group. ltb (until c.args.stop group) 16) c.as_chunks.result.0.now =
    c.unwrap_or.ensures ∙ (ap (λ r. unwrap_or r (length c.as_chunks.result.0.now)) found ∙ first_or_all (λ group. ltb (until c.args.stop group) 16) _) in
    rw (n, c.as_chunks.ensures.front) (past_chunks c.args.stop 16 _ c.args.bytes.now)
