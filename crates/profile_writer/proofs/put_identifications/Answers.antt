-- Identification after identification; the first of tuple t is behind those of the tuples before it.
use mathlib.Core.Path.{refl}
use Rattle.buffer.proofs.Laws.{length_over}
use Rattle.profile_file.specs.File.{identification_bytes}
use Rattle.profile_file.proofs.Lengths.{length_identifications}
use Rattle.profile_lists.specs.Lists.{tuples_in}
use Rattle.put.proofs.Fields.{over_many_none, over_many_more}
use Rattle.profile_writer.proofs.put_identifications.Goals as goal

pub loop-j-init : goal.loop-j-init
loop-j-init c = (
  refl,
  over_many_none (identification_bytes (tuples_in c.args.tuples.now c.args.identifiers.now) c.args.t) c.args.file.now c.args.at,
)

pub loop-j-preserved : goal.loop-j-preserved
unfolding identification_bytes
loop-j-preserved c =
    let ts = tuples_in c.args.tuples.now c.args.identifiers.now in (
      rw (c.put_identification.ensures, length_over) c.loop-j.invariant.0,
      rw (
        c.put_identification.ensures,
        over_many_more (identification_bytes ts c.args.t) c.args.file.now c.args.at c.loop-j.j,
        length_identifications ts c.args.t c.loop-j.j,
        ← c.loop-j.invariant.1,
        c.requires.first_value,
      ),
    )
