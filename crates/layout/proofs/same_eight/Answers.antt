-- Both numbers tell the bytes that they are read from.
use Rattle.layout.proofs.Words.{same_stands}
use Rattle.layout.proofs.same_eight.Goals as goal

pub returns : goal.returns
returns c =
    rw (c.load_u64.ensures, c.load_u64-2.ensures)
    (same_stands c.args.file.now (λ k. (c.type_inv.file k).fits) 8 c.args.at c.requires.at_in_bounds c.args.text.now
    (λ k. (c.type_inv.text k).fits) c.args.i c.requires.i_in_bounds)
