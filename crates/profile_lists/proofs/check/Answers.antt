-- Three stages: the lists but for the entries, the entries, and the sizes.
use mathlib.Core.Path.{sym, ◌∙◌}
use lib.ListN.{length}
use Rattle.refusal.proofs.Checks.{after_passed, after_refused, handed_on}
use Rattle.profile_file.specs.Check.{sizes_check}
use Rattle.profile_lists.specs.Lists.{entries_in, survey_of}
use Rattle.profile_lists.proofs.Stages.{passed_sorted, lists_broken, all_claimed, lists_kept}
use Rattle.profile_lists.proofs.check.Goals as goal

pub returns-then-not-all_below-identifications : goal.returns-then-not-all_below-identifications
returns-then-not-all_below-identifications c =
    lists_broken c.args.profiles.now c.args.tuples.now c.args.identifiers.now c.args.entries.now c.args.room c.all_below.ensures
    c.claimed-identifications.ensures (c.if-not-all_below-identifications.true)

pub check_sizes-requires : goal.check_sizes-requires
check_sizes-requires c =
    let sums = all_claimed c.args.profiles.now c.args.tuples.now c.args.identifiers.now c.args.entries.now c.args.room c.all_below.ensures
    c.claimed-identifications.ensures (c.if-not-all_below-identifications.false) in
    let passed = sym c.in_ok-check_entries.ensures in
    record {
      ascending = passed_sorted (entries_in c.args.entries.now) (length c.args.profiles.now) passed;
      identifications_value = sums.0;
      identifications_in_bounds = sums.1;
    }

pub returns : goal.returns
returns c =
    let left = lists_kept c.args.profiles.now c.args.tuples.now c.args.identifiers.now c.args.entries.now c.args.room c.all_below.ensures
    c.claimed-identifications.ensures (c.if-not-all_below-identifications.false) in
    let passed = sym c.in_ok-check_entries.ensures in
    after_passed passed c.check_sizes.ensures ∙ sym left

pub returns-in_err-check_entries : goal.returns-in_err-check_entries
returns-in_err-check_entries c =
    let left = lists_kept c.args.profiles.now c.args.tuples.now c.args.identifiers.now c.args.entries.now c.args.room c.all_below.ensures
    c.claimed-identifications.ensures (c.if-not-all_below-identifications.false) in
    let refused = sym c.in_err-check_entries.ensures in
    handed_on c.from_residual.ensures.1 ∙ after_refused (sizes_check (survey_of c.args.profiles.now c.args.tuples.now c.args.identifiers.now c.args.entries.now) c.args.room)
    refused ∙ sym left
