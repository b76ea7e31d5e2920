-- What a written block rests on: pairs that are sorted and fit their fields, and a place for it in a file.
use Rattle.std.specs.Prelude.{ℕ, ◌%◌, ◌^◌, ◌≤◌, ◌<◌, List, ◌≡◌, length}
use Rattle.layout.specs.Stands.{Stands}
use Rattle.outside.specs.Facts.{LiesOutside}
use Rattle.block.specs.declared.Shape.{Shape}
use Rattle.block_file.specs.Pairs.{Pairs, written}

-- sorted by the outer id, and then strictly by the inner; each number fits its field
pub record PairsFit (h : Shape) (e : Pairs) : Type 0 where
  pub outer_order : (a b : ℕ) → a ≤ b → b < e.count → e.outer a ≤ e.outer b
  pub inner_order : (a b : ℕ) → a < b → b < e.count → e.outer a ≡ e.outer b → e.inner a < e.inner b
  pub outer_fits : (k : ℕ) → k < e.count → e.outer k < 256 ^ h.outer
  pub inner_fits : (k : ℕ) → k < e.count → e.inner k < 256 ^ h.inner
  pub inner_least : (k : ℕ) → k < e.count → h.least ≤ e.inner k
  pub bits_fit : (k : ℕ) → k < e.count → e.bits k < 2 ^ 64
  pub count_fits : e.count < 2 ^ 64

-- its bytes stand at a multiple of four, between the file's header and its last eight bytes, sharing none with a section
pub record BlockStands (file : List ℕ) (h : Shape) (sections : List (List ℕ)) (e : Pairs) (at : ℕ) : Type 0 where
  pub bytes_at : Stands file at (written h e)
  pub aligned : at % 4 ≡ 0
  pub outside : LiesOutside file h.header sections at (length (written h e))

-- there is a pair of two ids with these bits
pub record HasPair (e : Pairs) (outer inner bits : ℕ) : Type 0 where
  pub pair : ℕ
  pub below : pair < e.count
  pub outer_is : e.outer pair ≡ outer
  pub inner_is : e.inner pair ≡ inner
  pub bits_are : e.bits pair ≡ bits
