-- The field that is read is the ctx_id.
use mathlib.Core.Path.{refl}
use native.Mathlib.Omega.{arith}
use Rattle.visit.proofs.Checks.{id_read}
use Rattle.resume.proofs.store_visit.Goals as goal

pub bounds-table-id : goal.bounds-table-id
bounds-table-id c =
    let id = id_read c.args.file.now c.args.here.p c.load_u32-id.result c.load_u32-id.ensures in
    omega (arith, c.requires.ctx_id_in_bounds.0, id)

pub returns : goal.returns
returns c =
    let id = id_read c.args.file.now c.args.here.p c.load_u32-id.result c.load_u32-id.ensures in
    record {
      table_after = rw id;
      way_after = refl;
    }
