-- Every read and test, put for its definition.
use Prim.Native.Nat.{ℕ, ◌+◌, ◌*◌, ◌≤◌}
use mathlib.Core.List.{List}
use mathlib.Core.Path.{◌≡◌}
use lib.ListN.{length}
use Rattle.le.specs.Number.{number}
use Rattle.open.specs.Opening.{field}
use Rattle.flex.specs.Packing.{words}
use Rattle.context.specs.Context.{links_rule, flex_at}
use Rattle.context.specs.Sound.{Readable}
use Rattle.context.proofs.links_rule.Goals as goal

ends_in_file : (file : List ℕ) (p given : ℕ) → given ≡ number 1 file (p + 20) → Readable file p → p + 24 + 8 * words given ≤ length file
unfolding field
ends_in_file file p given e h = rw e h.ends

pub link_rule-requires : goal.link_rule-requires
link_rule-requires c = record {
  flags_in_bounds = ends_in_file c.args.file.now c.args.p c.load_u8-flags.result c.load_u8-flags.ensures c.requires;
  present_value = c.has_function-has_function.ensures;
}

pub link_rule-requires-2 : goal.link_rule-requires-2
link_rule-requires-2 c = record {
  flags_in_bounds = ends_in_file c.args.file.now c.args.p c.load_u8-flags.result c.load_u8-flags.ensures c.requires;
  present_value = c.has_source-has_source.ensures.0;
}

pub link_rule-requires-3 : goal.link_rule-requires-3
link_rule-requires-3 c = record {
  flags_in_bounds = ends_in_file c.args.file.now c.args.p c.load_u8-flags.result c.load_u8-flags.ensures c.requires;
  present_value = c.has_point-has_point.ensures.0;
}

pub returns : goal.returns
unfolding links_rule flex_at field
returns c = rw (
  c.link_rule.ensures,
  c.link_rule-2.ensures,
  c.link_rule-3.ensures,
  c.array_in-functions.ensures,
  c.array_in-files.ensures,
  c.array_in-modules.ensures,
  c.load_u8-flags.ensures,
)
