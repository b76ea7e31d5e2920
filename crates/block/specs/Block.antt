-- Sparse blocks: document 01's "Sparse blocks and totals", once over the widths of their ids. An element of either array is an id of
-- w bytes and then a word of eight: an index has an outer id and a start, a value an inner id and the bits of an f64.
use Rattle.std.specs.Prelude.{ℕ, ◌+◌, ◌-◌, ◌*◌, Bool, ◌&&◌, List, [], ◌∷◌, ltb, leb, eqb, Err, None, Option, Some, Ok}
use Rattle.le.specs.Number.{number}
use Rattle.range.specs.Range.{multiple}
use Rattle.outside.specs.Outside.{lies}
use Rattle.refusal.specs.declared.Refusal.TheVariants as No
use Rattle.refusal.specs.Check.{either, rule, first, Check, Answer}
use Rattle.refusal.specs.Words.{refused_words}
use Rattle.open.specs.Format.{profile, cct}
use Rattle.seq.specs.Sequence.{every, rises, position}
use Rattle.block.specs.declared.Shape.{Shape}
use Rattle.block.specs.declared.Block.{Block}
use Rattle.block.specs.declared.Part.{Part}

-- ---- the two files: widths of outer and inner ids, the least inner id, and where the file's header ends

-- values of a u16 metric, indices of a u32 context
abbrev pub profile_shape : Shape
profile_shape = record { outer = 4; inner = 2; least = 0; header = profile.header }

-- values of a u32 profile, which is not 0; indices of a u16 metric
abbrev pub cct_shape : Shape
cct_shape = record { outer = 2; inner = 4; least = 1; header = cct.header }

-- a block's header in document 004: the number of indices is as wide as their ids
unfoldable pub block_at : List ℕ → Shape → (at : ℕ) → Block
block_at file h at = record {
  total = number 8 file at;
  values = number 8 file (at + 8);
  count = number h.outer file (at + 16);
  indices = number 8 file (at + 24);
}

-- element k of the array at a place: its id, and its word
unfoldable pub id_at : (w : ℕ) → List ℕ → (at k : ℕ) → ℕ
id_at w file at k = number w file (at + k * (w + 8))

unfoldable pub word_at : (w : ℕ) → List ℕ → (at k : ℕ) → ℕ
word_at w file at k = number 8 file (at + k * (w + 8) + w)

-- ---- 7

unfoldable pub range_rule : List ℕ → Shape → (sections : List (List ℕ)) → Block → Bool
range_rule file h sections b =
    (multiple b.values 2 && multiple b.indices 4)
    && ((lies file h.header sections b.values (b.total * (h.inner + 8)) && lies file h.header sections b.indices (b.count * (h.outer + 8)))
    && (leb (b.values + b.total * (h.inner + 8)) b.indices && leb 1 b.total))

-- ---- 11

module _ (file : List ℕ) (h : Shape) (b : Block) where
  -- sub-array i: its first value, the one past its last, and the place of its first
  unfoldable pub start_of : (i : ℕ) → ℕ
  start_of i = word_at h.outer file b.indices i

  unfoldable pub end_of : (i : ℕ) → ℕ
  end_of i = either (ltb (i + 1) b.count) (start_of (i + 1)) b.total

  unfoldable pub part_of : (i : ℕ) → ℕ
  part_of i = b.values + start_of i * (h.inner + 8)

  unfoldable pub part_at : (i : ℕ) → Part
  part_at i = record { place = part_of i; length = end_of i - start_of i }

  -- the outer ids, and the inner ids of sub-array i
  abbrev pub outer_ids : ℕ → ℕ
  outer_ids = id_at h.outer file b.indices

  abbrev pub inner_ids : (i : ℕ) → ℕ → ℕ
  inner_ids i = id_at h.inner file (part_of i)

  -- first start 0, starts strictly increasing, all below nValues; index ids strictly increasing; ids strictly increasing inside each
  -- sub-array, from the least on
  unfoldable pub order_rule : Bool
  order_rule =
      eqb (start_of 0) 0
      && (rises 0 1 start_of b.count
      && (every (λ i. ltb (start_of i) b.total) b.count
      && (rises 0 1 outer_ids b.count && every (λ i. rises h.least 1 (inner_ids i) (end_of i - start_of i)) b.count)))

-- ---- a block

-- without indices there may be no values, and the pointers are ignored
unfoldable pub block_check : List ℕ → Shape → (sections : List (List ℕ)) → Block → Check
block_check file h sections b =
    either (eqb b.count 0) (rule (eqb b.total 0) No.Array)
    (first (rule (range_rule file h sections b) No.Array) (rule (order_rule file h b) No.Order))

-- what a well-formed block holds of two ids
module _ (file : List ℕ) (h : Shape) (b : Block) where
  unfoldable pub value_at : (at : ℕ) → Option ℕ → Option ℕ
  value_at at (Some k) = Some (word_at h.inner file at k)
  value_at at None = None

  unfoldable pub in_part : (inner : ℕ) → Option ℕ → Option ℕ
  in_part inner (Some i) = value_at (part_at file h b i).place (position (id_at h.inner file (part_at file h b i).place) inner (part_at file h b i).length)
  in_part inner None = None

  -- where the index of an outer id is
  unfoldable pub index_of : (outer : ℕ) → Option ℕ
  index_of outer = position (outer_ids file h b) outer b.count

  unfoldable pub lookup_in : (outer inner : ℕ) → Option ℕ
  lookup_in outer inner = in_part inner (index_of outer)

-- what was found in words, two for each pair of a batch: 0 and the bits, or 100 and 0
unfoldable pub found_words : Option ℕ → List ℕ
found_words (Some bits) = 0 ∷ bits ∷ []
found_words None = 100 ∷ 0 ∷ []

-- an answer in words: these, or the refusal's number
unfoldable pub lookup_words : Answer (Option ℕ) → List ℕ
lookup_words (Ok found) = found_words found
lookup_words (Err r) = refused_words r
