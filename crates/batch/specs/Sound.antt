-- What the code relies on: a block that is handed on has been checked.
use Rattle.refusal.specs.Check.{Answer}
use Rattle.std.specs.Prelude.{ℕ, List, ◌≡◌, Ok}
use Rattle.block.specs.declared.Shape.{Shape}
use Rattle.block.specs.declared.Block.{Block}
use Rattle.block.specs.Sound.{SoundBlock}

abbrev pub SoundIn : List ℕ → Shape → Answer Block → Type 0
SoundIn file h c = (b : Block) → c ≡ Ok b → SoundBlock file h b
