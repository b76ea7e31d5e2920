-- Every read, put for its definition.
use Prim.Native.Nat.{ℕ, ◌+◌, ◌*◌, ◌≤◌}
use mathlib.Core.List.{List}
use mathlib.Core.Path.{◌≡◌}
use lib.ListN.{length}
use Rattle.le.specs.Number.{number}
use Rattle.open.specs.Opening.{field}
use Rattle.flex.specs.Packing.{words}
use Rattle.context.specs.Entry.{entry_at, entry_words}
use Rattle.context.specs.Context.{flex_at}
use Rattle.context.specs.Sound.{Readable}
use Rattle.context.proofs.entry_words.Goals as goal

ends_in_file : (file : List ℕ) (p given : ℕ) → given ≡ number 1 file (p + 20) → Readable file p → p + 24 + 8 * words given ≤ length file
unfolding field
ends_in_file file p given e h = rw e h.ends

pub flex_word-function-requires : goal.flex_word-function-requires
flex_word-function-requires c = record {
  flags_in_bounds = ends_in_file c.args.file.now c.args.p c.load_u8-flags.result c.load_u8-flags.ensures c.requires;
  present_value = c.has_function.ensures;
}

pub flex_word-source-requires : goal.flex_word-source-requires
flex_word-source-requires c = record {
  flags_in_bounds = ends_in_file c.args.file.now c.args.p c.load_u8-flags.result c.load_u8-flags.ensures c.requires;
  present_value = c.has_source-has_source.ensures.0;
}

pub line-line-requires : goal.line-line-requires
line-line-requires c = ends_in_file c.args.file.now c.args.p c.load_u8-flags.result c.load_u8-flags.ensures c.requires

pub flex_word-load_module-requires : goal.flex_word-load_module-requires
flex_word-load_module-requires c = record {
  flags_in_bounds = ends_in_file c.args.file.now c.args.p c.load_u8-flags.result c.load_u8-flags.ensures c.requires;
  present_value = c.has_point-has_point.ensures.0;
}

pub flex_word-offset-requires : goal.flex_word-offset-requires
flex_word-offset-requires c = record {
  flags_in_bounds = ends_in_file c.args.file.now c.args.p c.load_u8-flags.result c.load_u8-flags.ensures c.requires;
  present_value = c.has_point-has_point.ensures.1;
}

pub returns : goal.returns
unfolding entry_words entry_at flex_at field
returns c = λ path depth. rw (
  depth,
  c.load_u8-lexical_type.ensures,
  c.load_u8-relation.ensures,
  c.load_u32-ctx_id.ensures,
  c.flex_word-offset.ensures,
  c.flex_word-load_module.ensures,
  c.line-line.ensures,
  c.flex_word-source.ensures,
  c.flex_word-function.ensures,
  c.load_u8-flags.ensures,
)
