-- What the code relies on once the rules have been checked: ids of two or four bytes, and arrays inside the file.
use Rattle.std.specs.Prelude.{ℕ, ◌+◌, ◌*◌, ◌≤◌, ◌<◌, true, List, ◌⊎◌, ◌≡◌, length}
use Rattle.seq.specs.Sequence.{Sorted}
use Rattle.block.specs.declared.Shape.{Shape}
use Rattle.block.specs.declared.Block.{Block}
use Rattle.block.specs.declared.Part.{Part}
use Rattle.block.specs.Block.{id_at, order_rule}

abbrev pub IdWidth : ℕ → Type 0
IdWidth w = (w ≡ 2) ⊎ (w ≡ 4)

abbrev pub Widths : Shape → Type 0
Widths h = IdWidth h.outer × IdWidth h.inner

-- n elements from a place on
pub record ElementsInside (file : List ℕ) (at w n : ℕ) : Type 0 where
  pub width : IdWidth w
  pub ends : at + n * (w + 8) ≤ length file

-- both arrays of a block that has indices
pub record ArraysInside (file : List ℕ) (h : Shape) (b : Block) : Type 0 where
  pub indices : ElementsInside file b.indices h.outer b.count
  pub values : ElementsInside file b.values h.inner b.total
  pub some_index : 0 < b.count

-- a block that has been checked
pub record SoundBlock (file : List ℕ) (h : Shape) (b : Block) : Type 0 where
  pub inside : 0 < b.count → ArraysInside file h b
  pub order : 0 < b.count → order_rule file h b ≡ true

-- a sub-array of it
pub record SoundPart (file : List ℕ) (h : Shape) (p : Part) : Type 0 where
  pub elements : ElementsInside file p.place h.inner p.length
  pub sorted : Sorted (id_at h.inner file p.place) p.length
  pub some : 0 < p.length
