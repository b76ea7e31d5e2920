-- A written block that stands in a file outside its sections is well formed, and holds exactly its pairs.
-- Group i of the pairs is sub-array i of the block: it starts at its leader, and its element k is pair leader + k.
use Prim.Native.Nat.{ℕ, suc, ◌+◌, ◌-◌, ◌*◌, ◌%◌, ◌≤◌, ◌<◌}
use mathlib.Core.Bool.{Bool, true, false}
use mathlib.Core.List.{List}
use mathlib.Core.Logic.{◌↔◌, inl, inr, ⊎_elim}
use mathlib.Core.Path.{◌≡◌, refl, sym, ap, ◌∙◌}
use native.Mathlib.Nat.{add-mul}
use native.Mathlib.Omega.{arith}
use borrow.Author.Tests.{ltb-true}
use lib.Dec.{ltb}
use lib.ListN.{length}
use Rattle.refusal.specs.Check.{either}
use Rattle.layout.specs.Stands.{Stands}
use Rattle.layout.proofs.Many.{to-four}
use Rattle.outside.specs.Facts.{LiesOutside}
use Rattle.open.proofs.Pointers.{place_some}
use Rattle.seq.specs.Sequence.{Sorted}
use Rattle.block.specs.declared.Shape.{Shape}
use Rattle.block.specs.declared.Block.{Block}
use Rattle.block.specs.Block.{id_at, word_at, start_of, end_of, part_of, inner_ids}
use Rattle.block.specs.OrderKept.{OrderKept}
use Rattle.block.specs.Facts.{RangesKept, WellFormed, Holds}
use Rattle.block.proofs.Facts.{none_or_some}
use Rattle.block_file.specs.Pairs.{Pairs, groups, value_array, index_array, groups_of, written, indices_from, block_of}
use Rattle.block_file.specs.Facts.{PairsFit, BlockStands, HasPair}
use Rattle.block_file.proofs.Groups.{leader, stop, groups_le, groups_one, leader_of, leader_zero, leader_lt, Member, member_of}
use Rattle.block_file.proofs.Distinct.{outer_rise, in_all, in_outer, leader_has}
use Rattle.block_file.proofs.Readback.{value_read, index_read, length_written, values_stand, indices_stand}

-- a block with values and indices at two places
abbrev plain : Pairs → (at to : ℕ) → Block
plain e at to = record { total = e.count; values = at; count = groups_of e; indices = to }

module _ (file : List ℕ) (h : Shape) (e : Pairs) (at to : ℕ) (s : PairsFit h e) (vs : Stands file at (value_array h e)) (xs : Stands file to (index_array h e)) where
  abbrev O : ℕ → ℕ
  O = e.outer

  abbrev n : ℕ
  n = e.count

  abbrev b : Block
  b = plain e at to

  leader_index : (i : ℕ) → i < groups O n → (id_at h.outer file to i ≡ O (leader O n i)) × (word_at h.outer file to i ≡ leader O n i)
  leader_index i l = index_read file to h.outer O n xs i l (s.outer_fits (leader O n i) (leader_of O n i l).below) s.count_fits

  value_is : (k : ℕ) → k < n → (id_at h.inner file at k ≡ e.inner k) × (word_at h.inner file at k ≡ e.bits k)
  value_is k l = value_read file at h.inner e.inner e.bits n vs k l (s.inner_fits k l) (s.bits_fit k l)

  start_is : (i : ℕ) → i < groups O n → start_of file h b i ≡ leader O n i
  unfolding start_of
  start_is i l = (leader_index i l).1

  end_is : (i : ℕ) → i < groups O n → end_of file h b i ≡ stop O n i
  unfolding end_of stop either
  end_is i l = go (ltb (i + 1) (groups O n)) refl
    where
      go : (t : Bool) → ltb (i + 1) (groups O n) ≡ t → end_of file h b i ≡ stop O n i
      go true q = rw q (start_is (i + 1) (ltb-true _ _ q))
      go false q = rw q

  span_is : (i : ℕ) → i < groups O n → end_of file h b i - start_of file h b i ≡ stop O n i - leader O n i
  span_is i l = rw (end_is i l, start_is i l)

  -- element k of group i is pair leader i + k
  part_place : (i k : ℕ) → i < groups O n → part_of file h b i + k * (h.inner + 8) ≡ at + (leader O n i + k) * (h.inner + 8)
  unfolding part_of
  part_place i k l = rw (start_is i l, add-mul) (omega arith)

  part_id : (i k : ℕ) → i < groups O n → leader O n i + k < n → inner_ids file h b i k ≡ e.inner (leader O n i + k)
  unfolding id_at
  part_id i k l m = rw (part_place i k l) (value_is (leader O n i + k) m).0

  part_word : (i k : ℕ) → i < groups O n → leader O n i + k < n → word_at h.inner file (part_of file h b i) k ≡ e.bits (leader O n i + k)
  unfolding word_at
  part_word i k l m = rw (part_place i k l) (value_is (leader O n i + k) m).1

  part_sorted : (i : ℕ) → i < groups O n → Sorted (inner_ids file h b i) (stop O n i - leader O n i)
  part_sorted i l p q u v =
      let a = in_all h e s i p l (omega arith) in
      let c = in_all h e s i q l v in
      rw (part_id i p l a, part_id i q l c)
      (s.inner_order (leader O n i + p) (leader O n i + q) (omega arith) c (in_outer h e s i p l (omega arith) ∙ sym (in_outer h e s i q l v)))

  order_kept : 0 < n → OrderKept file h b
  order_kept some = record {
    first_start = start_is 0 (omega (arith, groups_one O, groups_le O 1 n some)) ∙ leader_zero O n some;
    starts_increase = λ i j l m. rw (start_is i (omega arith), start_is j m) (leader_lt O n i j l m);
    starts_below = λ i l. rw (start_is i l) (leader_of O n i l).below;
    outer_increase = λ i j l m. rw ((leader_index i (omega arith)).0, (leader_index j m).0) (outer_rise h e s i j l m);
    inner_increase = λ i l. rw (span_is i l) (part_sorted i l);
    inner_least = λ i l. rw (span_is i l) (λ k m. rw (part_id i k l (in_all h e s i k l m)) (s.inner_least (leader O n i + k) (in_all h e s i k l m)));
  }

  -- what the block holds is a pair
  held_pair : (outer inner bits : ℕ) → Holds file h b outer inner bits → HasPair e outer inner bits
  held_pair outer inner bits k =
      let i = k.i in
      let m : k.k < stop O n i - leader O n i = rw (span_is i k.index) at k.value in
      let a = in_all h e s i k.k k.index m in
      record {
        pair = leader O n i + k.k;
        below = a;
        outer_is = in_outer h e s i k.k k.index m ∙ sym (leader_index i k.index).0 ∙ k.outer_id;
        inner_is = sym (part_id i k.k k.index a) ∙ k.inner_id;
        bits_are = sym (part_word i k.k k.index a) ∙ k.stored;
      }

  -- and every pair is held
  pair_held : (outer inner bits : ℕ) → HasPair e outer inner bits → Holds file h b outer inner bits
  pair_held outer inner bits w =
      let k = w.pair in
      let i = groups O (suc k) - 1 in
      let g : i < groups O n = (member_of O n k w.below).0 in
      let m : Member O n i k = (member_of O n k w.below).1 in
      let d : k - leader O n i < stop O n i - leader O n i = omega (arith, m.from, m.before) in
      let r : leader O n i + (k - leader O n i) ≡ k = omega (arith, m.from) in
      let a = in_all h e s i (k - leader O n i) g d in
      record {
        i = i;
        index = g;
        outer_id = (leader_index i g).0 ∙ leader_has h e s k w.below ∙ w.outer_is;
        k = k - leader O n i;
        value = rw (span_is i g) d;
        inner_id = part_id i (k - leader O n i) g a ∙ ap e.inner r ∙ w.inner_is;
        stored = part_word i (k - leader O n i) g a ∙ ap e.bits r ∙ w.bits_are;
      }

-- ---- the block in its place

-- a part of what lies outside the sections does so too
lies_part : (file : List ℕ) (header : ℕ) (sections : List (List ℕ)) (at n a m : ℕ) → LiesOutside file header sections at n → at ≤ a → a + m ≤ at + n
    → LiesOutside file header sections a m
lies_part file header sections at n a m l u v = record {
  after = omega (arith, l.after);
  before = omega (arith, l.before);
  shares_none = λ k q p w x. l.shares_none k q p (omega arith) (omega arith);
}

module _ (file : List ℕ) (h : Shape) (sections : List (List ℕ)) (e : Pairs) (at : ℕ) (s : PairsFit h e) (p : BlockStands file h sections e at) where
  abbrev to : ℕ
  to = indices_from h e at

  header_is : 0 < e.count → block_of h e at ≡ plain e at (indices_from h e at)
  unfolding block_of
  header_is some = rw (place_some e.count at some, place_some e.count (indices_from h e at) some)

  header_none : e.count ≡ 0 → ((block_of h e at).count ≡ 0) × ((block_of h e at).total ≡ 0)
  unfolding block_of groups
  header_none z = rw z (refl, refl)

  indices_after : at + e.count * (h.inner + 8) ≤ to
  unfolding indices_from
  indices_after = omega arith

  indices_end : to + groups_of e * (h.outer + 8) ≤ at + length (written h e)
  unfolding indices_from
  indices_end = omega (arith, length_written h e)

  indices_four : to % 4 ≡ 0
  unfolding indices_from
  indices_four = omega (arith, p.aligned, to-four (e.count * (h.inner + 8)))

  ranges_kept : 0 < e.count → RangesKept file h sections (plain e at to)
  ranges_kept some = record {
    values_aligned = omega (arith, p.aligned);
    indices_aligned = indices_four;
    values_lie = lies_part file h.header sections at (length (written h e)) at (e.count * (h.inner + 8)) p.outside (omega arith)
        (omega (arith, indices_after, indices_end));
    indices_lie = lies_part file h.header sections at (length (written h e)) to (groups_of e * (h.outer + 8)) p.outside
        (omega (arith, indices_after)) indices_end;
    values_first = indices_after;
    some_value = some;
  }

  pub written_well_formed : WellFormed file h sections (block_of h e at)
  written_well_formed = ⊎_elim (λ z. inl (header_none z)) some (none_or_some e.count)
    where
      some : 0 < e.count → WellFormed file h sections (block_of h e at)
      some l = rw (header_is l) (inr (record {
        some_index = omega (arith, groups_one e.outer, groups_le e.outer 1 e.count l);
        ranges = ranges_kept l;
        order = order_kept file h e at to s (values_stand h e file at p.bytes_at) (indices_stand h e file at p.bytes_at) l;
      }))

  pub written_holds_iff : (outer inner bits : ℕ) → Holds file h (block_of h e at) outer inner bits ↔ HasPair e outer inner bits
  written_holds_iff outer inner bits = ⊎_elim none some (none_or_some e.count)
    where
      none : e.count ≡ 0 → Holds file h (block_of h e at) outer inner bits ↔ HasPair e outer inner bits
      none z = (λ k. absurd (omega (arith, k.index, (header_none z).0)), λ w. absurd (omega (arith, w.below)))

      some : 0 < e.count → Holds file h (block_of h e at) outer inner bits ↔ HasPair e outer inner bits
      some l = rw (header_is l) (
        held_pair file h e at to s (values_stand h e file at p.bytes_at) (indices_stand h e file at p.bytes_at) outer inner bits,
        pair_held file h e at to s (values_stand h e file at p.bytes_at) (indices_stand h e file at p.bytes_at) outer inner bits,
      )
