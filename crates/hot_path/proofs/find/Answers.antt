-- By the walk's answer, and by the block.
use mathlib.Core.Path.{sym}
use Rattle.refusal.proofs.Checks.{handed_on}
use Rattle.lookup.proofs.Laws.{profile_sound}
use Rattle.hot_path.specs.HotPath.{question, path_slices}
use Rattle.hot_path.proofs.Answers.{whole_known, leaves_walk_refused, leaves_walk_cut, leaves_block_refused, leaves_found}
use Rattle.hot_path.proofs.find.Goals as goal

pub write_path-requires : goal.write_path-requires
write_path-requires c =
    let known = whole_known (question c.args.meta.now c.args.db.now c.args.profile c.args.metric)
    (path_slices c.args.listing.now c.args.table.now c.args.path.now) c.walk.ensures c.in-Complete.is in
    record {
      children = known.0;
      meta_value = known.1;
      sound_block = profile_sound c.args.db.now c.args.profile _ (sym c.in_ok-b-in-Complete.ensures);
    }

pub returns-in_ok-b-in-Complete : goal.returns-in_ok-b-in-Complete
returns-in_ok-b-in-Complete c =
    leaves_found (question c.args.meta.now c.args.db.now c.args.profile c.args.metric)
    (path_slices c.args.listing.now c.args.table.now c.args.path.now) c.walk.ensures c.in-Complete.is
    (sym c.in_ok-b-in-Complete.ensures) c.write_path.ensures.answer c.write_path.ensures.words

pub returns-in_err-b-in-Complete : goal.returns-in_err-b-in-Complete
returns-in_err-b-in-Complete c =
    rw (handed_on c.from_residual.ensures.1) (leaves_block_refused (question c.args.meta.now c.args.db.now c.args.profile c.args.metric)
    (path_slices c.args.listing.now c.args.table.now c.args.path.now) c.walk.ensures c.in-Complete.is
    (sym c.in_err-b-in-Complete.ensures))

pub returns-in-Truncated : goal.returns-in-Truncated
returns-in-Truncated c =
    leaves_walk_cut (question c.args.meta.now c.args.db.now c.args.profile c.args.metric)
    (path_slices c.args.listing.now c.args.table.now c.args.path.now) c.walk.ensures c.in-Truncated.is

pub returns-in-Refused : goal.returns-in-Refused
returns-in-Refused c =
    leaves_walk_refused (question c.args.meta.now c.args.db.now c.args.profile c.args.metric)
    (path_slices c.args.listing.now c.args.table.now c.args.path.now) c.walk.ensures c.in-Refused.is
