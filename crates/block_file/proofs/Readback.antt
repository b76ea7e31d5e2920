-- What is read of a written block where its bytes stand: element k of the values is pair k, index i is the leader of group i.
use Prim.Native.Nat.{ℕ, zero, suc, ◌+◌, ◌-◌, ◌*◌, ◌%◌, ◌^◌, ◌≤◌, ◌<◌}
use mathlib.Core.Bool.{Bool, true, false}
use mathlib.Core.List.{List, [], ◌∷◌}
use mathlib.Core.Path.{◌≡◌, refl, ap, ◌∙◌}
use native.Mathlib.Nat.{zero-mul, add-mul}
use native.Mathlib.Omega.{arith}
use lib.ListN.{length, length-append}
use Rattle.le.specs.Number.{number}
use Rattle.refusal.specs.Check.{either}
use Rattle.layout.specs.Bytes.{◌is◌, fields}
use Rattle.layout.specs.Stands.{Stands}
use Rattle.layout.proofs.Laws.{length_fields, length_join, field-at, part-at, moved}
use Rattle.block.specs.declared.Shape.{Shape}
use Rattle.block.specs.declared.Block.{Block}
use Rattle.block.specs.Block.{profile_shape, id_at, word_at, block_at}
use Rattle.layout.specs.Many.{many, to_four}
use Rattle.layout.proofs.Many.{many_at, length_many, length_zeros}
use Rattle.block_file.specs.Pairs.{Pairs, leads, groups, value_element, index_element, value_array, index_array, groups_of, block_parts, written, indices_from, header_bytes}
use Rattle.block_file.proofs.Groups.{leader, leader_of}

-- an element: an id, and a word
element_read : {file : List ℕ} {at : ℕ} → (w a b : ℕ) → Stands file at (fields (w is a ∷ 8 is b ∷ [])) → a < 256 ^ w → b < 2 ^ 64
    → (number w file at ≡ a) × (number 8 file (at + w) ≡ b)
element_read {file} {at} w a b h l m =
    let fs = w is a ∷ 8 is b ∷ [] in
    let z : at ≡ at + 0 = omega arith in
    let y : at + w ≡ at + (w + 0) = omega arith in
    (ap (number w file) z ∙ field-at fs 0 h (omega arith) l, ap (number 8 file) y ∙ field-at fs 1 h (omega arith) m)

-- ---- lengths

module _ (w : ℕ) where
  length_value : (inner bits : ℕ → ℕ) (k : ℕ) → length (value_element w inner bits k) ≡ w + 8
  unfolding value_element
  length_value inner bits k = length_fields _

  pub length_values : (inner bits : ℕ → ℕ) (n : ℕ) → length (many (value_element w inner bits) n) ≡ n * (w + 8)
  length_values inner bits n = length_many (value_element w inner bits) (w + 8) n (λ k l. length_value inner bits k)

  pub index_yes : (outer : ℕ → ℕ) (k : ℕ) → leads outer k ≡ true → index_element w outer k ≡ fields (w is outer k ∷ 8 is k ∷ [])
  unfolding index_element either
  index_yes outer k e = rw e

  pub index_no : (outer : ℕ → ℕ) (k : ℕ) → leads outer k ≡ false → index_element w outer k ≡ []
  unfolding index_element either
  index_no outer k e = rw e

  pub length_indices : (outer : ℕ → ℕ) (n : ℕ) → length (many (index_element w outer) n) ≡ groups outer n * (w + 8)
  unfolding many groups either
  length_indices outer zero = rw zero-mul
  length_indices outer (suc n) = go (leads outer n) refl (length_indices outer n)
    where
      go : (t : Bool) → leads outer n ≡ t → length (many (index_element w outer) n) ≡ groups outer n * (w + 8)
          → length (many (index_element w outer) (suc n)) ≡ groups outer (suc n) * (w + 8)
      go true e r =
          let f : length (index_element w outer n) ≡ w + 8 = ap length (index_yes outer n e) ∙ length_fields (w is outer n ∷ 8 is n ∷ []) in
          let g : (groups outer n + 1) * (w + 8) ≡ groups outer n * (w + 8) + 1 * (w + 8) = add-mul (groups outer n) 1 (w + 8) in
          rw (length-append, f, r, e, g) (omega arith)
      go false e r =
          let f : length (index_element w outer n) ≡ 0 = ap length (index_no outer n e) in
          let g : (groups outer n + 0) * (w + 8) ≡ groups outer n * (w + 8) = ap (λ (k : ℕ). k * (w + 8)) (omega arith) in
          rw (length-append, f, r, e, g) (omega arith)

-- ---- elements

module _ (file : List ℕ) (at w : ℕ) where
  pub value_read : (inner bits : ℕ → ℕ) (n : ℕ) → Stands file at (many (value_element w inner bits) n) → (k : ℕ) → k < n → inner k < 256 ^ w
      → bits k < 2 ^ 64 → (id_at w file at k ≡ inner k) × (word_at w file at k ≡ bits k)
  unfolding value_element id_at word_at
  value_read inner bits n h k l m q =
      element_read w (inner k) (bits k)
      (moved (at + k * (w + 8)) (ap (λ (z : ℕ). at + z) (length_values w inner bits k)) (many_at (value_element w inner bits) n h k l)) m q

  pub index_read : (outer : ℕ → ℕ) (n : ℕ) → Stands file at (many (index_element w outer) n) → (i : ℕ) → i < groups outer n
      → outer (leader outer n i) < 256 ^ w → n < 2 ^ 64 → (id_at w file at i ≡ outer (leader outer n i)) × (word_at w file at i ≡ leader outer n i)
  unfolding id_at word_at
  index_read outer n h i l m q =
      let p = leader_of outer n i l in
      let k = leader outer n i in
      let e : at + length (many (index_element w outer) k) ≡ at + i * (w + 8) =
      ap (λ (z : ℕ). at + z) (length_indices w outer k ∙ ap (λ (z : ℕ). z * (w + 8)) p.nth) in
      let g : Stands file (at + i * (w + 8)) (fields (w is outer k ∷ 8 is k ∷ [])) =
      rw (index_yes w outer k p.leading) at (moved (at + i * (w + 8)) e (many_at (index_element w outer) n h k p.below)) in
      element_read w (outer k) k g m (omega (arith, p.below))

-- ---- the block, by its parts

module _ (h : Shape) (e : Pairs) where
  pub length_written : length (written h e)
      ≡ e.count * (h.inner + 8) + to_four (e.count * (h.inner + 8)) + (groups_of e * (h.outer + 8) + to_four (groups_of e * (h.outer + 8)))
  unfolding written
  length_written =
      length_join (block_parts h e)
      ∙ omega (
        arith,
        length_values h.inner e.inner e.bits e.count,
        length_zeros (to_four (e.count * (h.inner + 8))),
        length_indices h.outer e.outer e.count,
        length_zeros (to_four (groups_of e * (h.outer + 8))),
      )

  module _ (file : List ℕ) (at : ℕ) (s : Stands file at (written h e)) where
    pub values_stand : Stands file at (value_array h e)
    unfolding written
    values_stand = moved at (omega arith) (part-at (block_parts h e) 0 s (omega arith))

    pub indices_stand : Stands file (indices_from h e at) (index_array h e)
    unfolding written indices_from
    indices_stand =
        moved (indices_from h e at)
        (omega (arith, length_values h.inner e.inner e.bits e.count, length_zeros (to_four (e.count * (h.inner + 8)))))
        (part-at (block_parts h e) 2 s (omega arith))

-- ten bytes for each pair of profile.db, two zeros where they are odd, twelve for each context
pub length_profile : (e : Pairs) → length (written profile_shape e) ≡ e.count * 10 + 2 * (e.count % 2) + groups_of e * 12
unfolding to_four
length_profile e = omega (arith, length_written profile_shape e)

-- ---- the header

-- what fits a header's fields
pub record HeaderFits (h : Shape) (b : Block) : Type 0 where
  pub width : h.outer ≤ 8
  pub total : b.total < 2 ^ 64
  pub values : b.values < 2 ^ 64
  pub count : b.count < 256 ^ h.outer
  pub indices : b.indices < 2 ^ 64

pub length_header : (h : Shape) (b : Block) → h.outer ≤ 8 → length (header_bytes h b) ≡ 32
unfolding header_bytes
length_header h b l = length_fields _ ∙ omega arith

pub header_read : (file : List ℕ) (h : Shape) (b : Block) (at : ℕ) → HeaderFits h b → Stands file at (header_bytes h b) → block_at file h at ≡ b
unfolding header_bytes block_at
header_read file h b at f s =
    let fs = 8 is b.total ∷ 8 is b.values ∷ h.outer is b.count ∷ (8 - h.outer) is 0 ∷ 8 is b.indices ∷ [] in
    let y : at + 24 ≡ at + (8 + (8 + (h.outer + ((8 - h.outer) + 0)))) = omega (arith, f.width) in
    let t : number 8 file at ≡ b.total = ap (number 8 file) (omega arith) ∙ field-at fs 0 s (omega arith) f.total in
    let v : number 8 file (at + 8) ≡ b.values = field-at fs 1 s (omega arith) f.values in
    let c : number h.outer file (at + 16) ≡ b.count = field-at fs 2 s (omega arith) f.count in
    let x : number 8 file (at + 24) ≡ b.indices = ap (number 8 file) y ∙ field-at fs 4 s (omega arith) f.indices in
    rw (t, v, c, x)
