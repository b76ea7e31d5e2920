-- Level by level: the places found so far, and the way from there on.
use mathlib.Core.Path.{◌≡◌, refl, sym, ap, ◌∙◌}
use native.Mathlib.Omega.{arith}
use lib.ListN.{length-set}
use Rattle.std.specs.Prelude.{Ok}
use Rattle.refusal.proofs.Checks.{handed_on}
use Rattle.hot_path.proofs.Descending.{descending_start, descending_more, descending_end, descending_refused, descending_bottom}
use Rattle.hot_path.proofs.descend.Goals as goal

pub loop-n-init : goal.loop-n-init
loop-n-init c =
    (refl, λ l k. rw c.requires.roots_value (descending_start c.args.meta.now _ l k c.args.places.now))

pub hottest_at-requires : goal.hottest_at-requires
hottest_at-requires c =
    record {
      array_inside = (c.loop-n.invariant.1 c.requires.children.0 c.requires.children.1).stands.array;
      sound_block = c.requires.sound_block;
    }

pub loop-n-preserved : goal.loop-n-preserved
loop-n-preserved c =
    let long = length-set c.loop-n.places c.loop-n.n c.in-Some.place in (
      long ∙ c.loop-n.invariant.0,
      λ l k. descending_more c.args.meta.now _ l k (c.loop-n.invariant.1 l k) (omega (arith, c.loop-n-test.true))
          (omega (arith, c.loop-n-test.true, c.loop-n.invariant.0, c.requires.depth_limit_in_bounds)) _
          (ap Ok (sym c.in-Some.is) ∙ c.in_ok-hottest.ensures),
    )

pub returns-in_default : goal.returns-in_default
returns-in_default c =
    record {
      l_value = (λ l k. descending_end c.args.meta.now _ l k (c.loop-n.invariant.1 l k) (omega (arith, c.loop-n-test.true)) (ap Ok (sym c.in_default.is) ∙ c.in_ok-hottest.ensures));
      words_for = omega (arith, c.loop-n.invariant.0, c.requires.depth_limit_in_bounds);
    }

pub returns-in_err-hottest : goal.returns-in_err-hottest
returns-in_err-hottest c =
    let e = handed_on c.from_residual.ensures.1 in
    record {
      l_value = (λ l k. rw e (descending_refused c.args.meta.now _ l k (c.loop-n.invariant.1 l k) (omega (arith, c.loop-n-test.true)) _ c.in_err-hottest.ensures));
      words_for = rw e tt;
    }

pub returns : goal.returns
returns c =
    let all : c.loop-n.n ≡ 200 = omega arith in
    record {
      l_value = (λ l k. rw all at (descending_bottom c.args.meta.now _ l k (c.loop-n.invariant.1 l k) (omega arith)));
      words_for = omega (arith, c.loop-n.invariant.0, c.requires.depth_limit_in_bounds);
    }
