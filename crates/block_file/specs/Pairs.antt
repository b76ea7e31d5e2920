-- A sparse block as bytes, once over `Shape`: values, zeros up to a multiple of four, indices, zeros up to a multiple of four.
-- Its pairs of ids are sorted, so those of one outer id stand together: a group. The first of a group differs from the pair before it.
use Rattle.std.specs.Prelude.{ℕ, zero, suc, ◌+◌, ◌-◌, ◌*◌, Bool, true, not, List, [], ◌∷◌, eqb}
use Rattle.refusal.specs.Check.{either}
use Rattle.layout.specs.Bytes.{◌is◌, fields, join}
use Rattle.layout.specs.Many.{many, to_four, zeros}
use Rattle.open.specs.Opening.{place_for}
use Rattle.block.specs.declared.Shape.{Shape}
use Rattle.block.specs.declared.Block.{Block}

-- pairs of ids: how many, and of pair k the outer id, the inner id and the bits of its value
pub record Pairs : Type 0 where
  pub count : ℕ
  pub outer : ℕ → ℕ
  pub inner : ℕ → ℕ
  pub bits : ℕ → ℕ

-- ---- groups, by the outer ids

-- pair k is the first of its group
unfoldable pub leads : (outer : ℕ → ℕ) (k : ℕ) → Bool
leads outer zero = true
leads outer (suc k) = not (eqb (outer k) (outer (suc k)))

-- how many groups start below n
unfoldable pub groups : (outer : ℕ → ℕ) (n : ℕ) → ℕ
groups outer zero = 0
groups outer (suc n) = groups outer n + either (leads outer n) 1 0

-- ---- bytes: a value for each pair, an index for each group

unfoldable pub value_element : (w : ℕ) (inner bits : ℕ → ℕ) (k : ℕ) → List ℕ
value_element w inner bits k = fields (w is inner k ∷ 8 is bits k ∷ [])

unfoldable pub index_element : (w : ℕ) (outer : ℕ → ℕ) (k : ℕ) → List ℕ
index_element w outer k = either (leads outer k) (fields (w is outer k ∷ 8 is k ∷ [])) []

abbrev pub value_array : Shape → Pairs → List ℕ
value_array h e = many (value_element h.inner e.inner e.bits) e.count

abbrev pub index_array : Shape → Pairs → List ℕ
index_array h e = many (index_element h.outer e.outer) e.count

abbrev pub groups_of : Pairs → ℕ
groups_of e = groups e.outer e.count

abbrev pub block_parts : Shape → Pairs → List (List ℕ)
block_parts h e =
    value_array h e
    ∷ zeros (to_four (e.count * (h.inner + 8)))
    ∷ index_array h e
    ∷ zeros (to_four (groups_of e * (h.outer + 8)))
    ∷ []

unfoldable pub written : Shape → Pairs → List ℕ
written h e = join (block_parts h e)

-- ---- its header

-- where the indices are, of a block at a place
unfoldable pub indices_from : Shape → Pairs → (at : ℕ) → ℕ
indices_from h e at = at + (e.count * (h.inner + 8) + to_four (e.count * (h.inner + 8)))

-- what the header says; without pairs the pointers are ignored, and 0
unfoldable pub block_of : Shape → Pairs → (at : ℕ) → Block
block_of h e at = record {
  total = e.count;
  values = place_for e.count at;
  count = groups_of e;
  indices = place_for e.count (indices_from h e at);
}

-- a header as bytes: the number of indices is as wide as their ids, with zeros up to eight
unfoldable pub header_bytes : Shape → Block → List ℕ
header_bytes h b = fields (8 is b.total ∷ 8 is b.values ∷ h.outer is b.count ∷ (8 - h.outer) is 0 ∷ 8 is b.indices ∷ [])
