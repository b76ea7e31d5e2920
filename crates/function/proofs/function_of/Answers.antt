-- The fields read; by the links, then by the name.
use mathlib.Core.Path.{◌∙◌}
use Rattle.std.specs.Prelude.{Err}
use Rattle.std.proofs.Common.{◌≡◌}
use Rattle.function.specs.Function.{function_of, given_function}
use Rattle.refusal.specs.Check.{rule, on_answer}
use Rattle.refusal.proofs.Checks.{handed_on}
use Rattle.function.proofs.function_of.Goals as goal
use Rattle.function.proofs.function_of.Goals.{After-name_text}

-- once the links are kept
by_name : (c : After-name_text) → let a = c.args in
    function_of a.file.now a.strings a.modules a.files a.at ≡ on_answer Err c.name_text.result (λ t.
    given_function t.place t.length c.u64_at-module_link.result c.u64_at-offset.result c.u64_at-file_link.result c.u32_at-line.result)
unfolding function_of on_answer rule
by_name c =
    rw (
      ← c.u32_at-line.ensures,
      ← c.u64_at-file_link.ensures,
      ← c.u64_at-offset.ensures,
      ← c.u64_at-module_link.ensures,
      ← c.name_text.ensures,
      ← c.u64_at-name.ensures,
      ← c.links_kept.ensures,
      c.if-not-links_kept.false,
    )

pub returns : goal.returns
unfolding on_answer
returns c = rw (by_name (goal.at.returns c).After-name_text, c.in_ok-name_text.was)

pub returns-in_err-name_text : goal.returns-in_err-name_text
unfolding on_answer
returns-in_err-name_text c =
    handed_on c.from_residual.ensures.1 ∙ rw (by_name (goal.at.returns-in_err-name_text c).After-name_text, c.in_err-name_text.was)

pub returns-then-not-links_kept : goal.returns-then-not-links_kept
unfolding function_of on_answer rule
returns-then-not-links_kept c =
    rw (
      ← c.u64_at-file_link.ensures,
      ← c.u64_at-module_link.ensures,
      ← c.u64_at-name.ensures,
      ← c.links_kept.ensures,
      c.if-not-links_kept.true,
    )
