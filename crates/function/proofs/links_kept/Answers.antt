-- The tests, put for their definitions.
use Rattle.function.specs.Function.{links_kept}
use Rattle.function.proofs.links_kept.Goals as goal

pub returns : goal.returns
unfolding links_kept
returns c =
    rw (c.is_element-2.ensures, c.is_element.ensures)
