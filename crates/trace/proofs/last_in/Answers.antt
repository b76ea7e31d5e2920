-- By whether there is one.
use Rattle.refusal.specs.Check.{Found}
use Rattle.refusal.proofs.Checks.{ok_same}
use Rattle.trace.specs.declared.Sample.{Sample}
use Rattle.trace.specs.Trace.{time_at, last_in, sample_of, sample_position}
use Rattle.seq.proofs.Search.{last_below}
use mathlib.Core.Path.{sym, ap, ◌∙◌}
use Rattle.trace.proofs.last_in.Goals as goal

pub returns-in_err-k : goal.returns-in_err-k
unfolding last_in sample_position
returns-in_err-k c =
    rw (c.from_residual.ensures, ← c.last_until.ensures, c.in_err-k.was)

pub sample_of-requires : goal.sample_of-requires
sample_of-requires c =
    record {
      samples_inside = c.requires.samples;
      k_lt_n = last_below (time_at c.args.file.now c.args.place) c.args.time c.args.samples _ (sym c.last_until.ensures ∙ c.in_ok-k.was);
    }

pub returns : goal.returns
unfolding last_in sample_position sample_of
returns c =
    rw (← c.in_ok-k.ensures) (ap (λ (s : Sample). Found s) (ok_same c.sample_of.ensures))
