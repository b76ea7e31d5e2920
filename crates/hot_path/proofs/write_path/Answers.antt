-- By what was found on the way down.
use native.Mathlib.Omega.{arith}
use lib.Seq.{length-take-le}
use mathlib.Core.Path.{sym, ◌∙◌}
use mathlib.Core.List.{List}
use Rattle.context.specs.Entry.{Entry}
use Rattle.traversal.specs.Children.{Children}
use Rattle.refusal.proofs.Checks.{handed_on}
use Rattle.hot_path.proofs.Answers.{roots_read, found_refused, found_words, found_short, found_fits}
use Rattle.hot_path.proofs.write_path.Goals as goal

pub descend-requires : goal.descend-requires
descend-requires c =
    record {
      roots_value = roots_read c.args.meta.now c.requires.meta_value c.meta_sections-sections.ensures;
      depth_limit_in_bounds = omega arith;
      children = c.requires.children;
      sound_block = c.requires.sound_block;
    }

pub returns-in_err-n : goal.returns-in_err-n
returns-in_err-n c =
    let e = handed_on c.from_residual.ensures.1 in
    let told : (l : List Entry) (k : Children c.args.meta.now l) → _ =
    λ l k. found_refused c.args.path.now c.descend.new.places (c.descend.ensures.l_value l k) c.in_err-n.was in
    record {
      answer = (λ l k. e ∙ sym c.in_err-n.was ∙ (told l k).0);
      words = (λ l k. (told l k).1);
    }

pub returns-then-path-n : goal.returns-then-path-n
returns-then-path-n c =
    let told : (l : List Entry) (k : Children c.args.meta.now l) → _ =
    λ l k. found_short c.args.path.now c.descend.new.places (c.descend.ensures.l_value l k) c.in_ok-n.n c.in_ok-n.was
    c.descend.ensures.words_for c.if-path-n.true in
    record {
      answer = (λ l k. (told l k).0);
      words = (λ l k. (told l k).1);
    }

pub slice_bounds-places-end : goal.slice_bounds-places-end
slice_bounds-places-end c =
    found_words c.descend.new.places c.in_ok-n.was c.descend.ensures.words_for

pub slice_bounds-store-end : goal.slice_bounds-store-end
slice_bounds-store-end c =
    sym (length-take-le _ _ (found_words c.descend.new.places c.in_ok-n.was c.descend.ensures.words_for))

pub store-requires : goal.store-requires
store-requires c =
    let enough = found_words c.descend.new.places c.in_ok-n.was c.descend.ensures.words_for in
    omega (arith, length-take-le c.in_ok-n.n c.descend.new.places enough, c.if-path-n.false)

pub returns : goal.returns
returns c =
    let told : (l : List Entry) (k : Children c.args.meta.now l) → _ =
    λ l k. found_fits c.args.path.now c.descend.new.places (c.descend.ensures.l_value l k) c.in_ok-n.n c.in_ok-n.was
    c.descend.ensures.words_for c.if-path-n.false in
    record {
      answer = (λ l k. (told l k).0);
      words = (λ l k. c.store.ensures ∙ (told l k).1);
    }
