-- Two stages that refuse by 7, and then both rules that are left.
use mathlib.Core.Path.{sym, ◌∙◌}
use Rattle.profile_file.specs.Check.{sizes_fit}
use Rattle.profile_lists.specs.Lists.{survey_of}
use Rattle.profile_lists.proofs.Stages.{many_profiles, large_tuples, sizes_measured, sizes_refused}
use Rattle.refusal.proofs.Checks.{handed_on}
use Rattle.profile_lists.proofs.check_sizes.Goals as goal

pub returns-then-profiles-ge4294967296 : goal.returns-then-profiles-ge4294967296
returns-then-profiles-ge4294967296 c =
    let survey = survey_of c.args.profiles.now c.args.tuples.now c.args.identifiers.now c.args.entries.now in
    many_profiles survey c.args.room c.if-profiles-ge4294967296.true

pub returns-then-not-all_below : goal.returns-then-not-all_below
unfolding sizes_fit
returns-then-not-all_below c =
    let survey = survey_of c.args.profiles.now c.args.tuples.now c.args.identifiers.now c.args.entries.now in
    large_tuples survey c.args.room (sym c.all_below.ensures ∙ c.if-not-all_below.true)

pub returns : goal.returns
unfolding sizes_fit
returns c =
    let survey = survey_of c.args.profiles.now c.args.tuples.now c.args.identifiers.now c.args.entries.now in
    c.rule.ensures ∙ rw (c.has_room.ensures, c.requires.identifications_value)
    (sizes_measured survey c.args.room c.if-profiles-ge4294967296.false (sym c.all_below.ensures ∙ c.if-not-all_below.false) c.in_ok-blocks.ensures)

pub returns-in_err-blocks : goal.returns-in_err-blocks
unfolding sizes_fit
returns-in_err-blocks c =
    let survey = survey_of c.args.profiles.now c.args.tuples.now c.args.identifiers.now c.args.entries.now in
    handed_on c.from_residual.ensures.1
    ∙ sizes_refused survey c.args.room c.if-profiles-ge4294967296.false (sym c.all_below.ensures ∙ c.if-not-all_below.false) c.in_err-blocks.ensures
