-- By the totals, of which the first is how many entries there are.
use mathlib.Core.Path.{sym, ◌∙◌}
use native.Mathlib.Omega.{arith}
use Rattle.refusal.proofs.Checks.{handed_on}
use Rattle.dcpi_entries.proofs.Answers.{totals_passed, totals_count, too_few, enough, not_listed}
use Rattle.dcpi_entries.proofs.list.Goals as goal

pub returns-then-entries-count : goal.returns-then-entries-count
returns-then-entries-count c =
    let told = sym c.in_ok-count.ensures in
    let all = too_few c.args.samples.now told c.args.profile c.args.metric c.args.entries.now c.if-entries-count.true in
    record { answer = all.0; bytes = all.1 }

pub put_chunks-requires : goal.put_chunks-requires
put_chunks-requires c =
    let told = sym c.in_ok-count.ensures in
    let count = totals_count c.args.samples.now told in
    record {
      samples_value = totals_passed c.args.samples.now told;
      count_value = count;
      count_in_bounds = omega (arith, c.if-entries-count.false);
    }

pub returns : goal.returns
returns c =
    let told = sym c.in_ok-count.ensures in
    let all = enough c.args.samples.now told c.args.profile c.args.metric c.args.entries.now c.if-entries-count.false in
    record { answer = all.0; bytes = c.put_chunks.ensures ∙ all.1 }

pub returns-in_err-count : goal.returns-in_err-count
returns-in_err-count c =
    let all = not_listed c.args.samples.now (sym c.in_err-count.ensures) c.args.profile c.args.metric c.args.entries.now in
    record { answer = handed_on c.from_residual.ensures.1 ∙ all.0; bytes = all.1 }
