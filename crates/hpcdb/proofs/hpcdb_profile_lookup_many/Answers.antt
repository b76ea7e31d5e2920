-- The batch says all of it.
use mathlib.Core.Path.{ap, ◌∙◌}
use Rattle.refusal.specs.Check.{code_of}
use Rattle.hpcdb.proofs.hpcdb_profile_lookup_many.Goals as goal

pub returns : goal.returns
returns c =
    record {
      value = c.code.ensures ∙ ap code_of c.profile_lookups.ensures.value;
      answers_after = c.profile_lookups.ensures.answers_after;
    }
