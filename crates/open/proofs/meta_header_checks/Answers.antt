-- Header by header; General and Strings have none, and a check that passed adds nothing.
use Rattle.open.specs.Opening.{in_order, header_check}
use Rattle.open.specs.Format.{meta}
use Rattle.open.proofs.Answer.{no_header}
use Rattle.open.proofs.Stages.{kept_headers}
use Rattle.refusal.proofs.Checks.{passed_first, first_passed}
use native.Mathlib.Omega.{arith}
use Rattle.open.proofs.meta_header_checks.Goals as goal

pub names_header-names-requires : goal.names_header-names-requires
names_header-names-requires c =
    kept_headers 144 _ _ meta.sections 1 c.requires (omega arith) (omega arith)

pub metrics_header-metrics-requires : goal.metrics_header-metrics-requires
metrics_header-metrics-requires c =
    kept_headers 144 _ _ meta.sections 2 c.requires (omega arith) (omega arith)

pub contexts_header-contexts-requires : goal.contexts_header-contexts-requires
contexts_header-contexts-requires c =
    kept_headers 144 _ _ meta.sections 3 c.requires (omega arith) (omega arith)

pub specs_header-modules-requires : goal.specs_header-modules-requires
specs_header-modules-requires c =
    kept_headers 144 _ _ meta.sections 5 c.requires (omega arith) (omega arith)

pub specs_header-files-requires : goal.specs_header-files-requires
specs_header-files-requires c =
    kept_headers 144 _ _ meta.sections 6 c.requires (omega arith) (omega arith)

pub specs_header-functions-requires : goal.specs_header-functions-requires
specs_header-functions-requires c =
    kept_headers 144 _ _ meta.sections 7 c.requires (omega arith) (omega arith)

pub returns : goal.returns
unfolding in_order header_check
returns c =
    rw (
      c.and-4.ensures,
      c.and-3.ensures,
      c.and-2.ensures,
      c.and-last.ensures,
      c.and.ensures,
      c.specs_header-functions.ensures,
      c.specs_header-files.ensures,
      c.specs_header-modules.ensures,
      c.contexts_header-contexts.ensures,
      c.metrics_header-metrics.ensures,
      c.names_header-names.ensures,
    )
    (simp (no_header, passed_first, first_passed))
