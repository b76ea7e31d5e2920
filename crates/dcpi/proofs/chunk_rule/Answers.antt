-- The three tests, as `chunk_rule_is` has them.
use Rattle.dcpi.proofs.Rules.{chunk_rule_is}
use Rattle.dcpi.proofs.chunk_rule.Goals as goal

pub returns : goal.returns
returns c =
    chunk_rule_is c.args.samples.now c.args.p c.load_u32-offset.result c.load_u32-size.result c.requires
    c.load_u32-offset.ensures c.load_u32-size.ensures
