-- No bytes name the path of depth 0; else the depth stands behind length and kind.
use mathlib.Core.Path.{sym, ◌∙◌}
use native.Mathlib.Omega.{arith}
use Rattle.mark.proofs.Bytes.{no_path, path-of}
use Rattle.mark.proofs.depth.Goals as goal

pub returns-then-mark-eq0 : goal.returns-then-mark-eq0
returns-then-mark-eq0 c =
    sym (no_path c.args.mark.now c.if-mark-eq0.true)

pub load_u8-requires : goal.load_u8-requires
load_u8-requires c =
    let p = path-of c.args.mark.now (omega (arith, c.if-mark-eq0.false)) c.requires in
    omega (arith, p.long)

pub returns : goal.returns
returns c =
    let p = path-of c.args.mark.now (omega (arith, c.if-mark-eq0.false)) c.requires in
    c.load_u8.ensures ∙ sym p.depth_there
