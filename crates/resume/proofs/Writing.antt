-- The mark of the context that the way leads to: behind its head the numbers of the levels, each that of the way's place in its array.
use Prim.Native.Nat.{ℕ, ◌+◌, ◌*◌, ◌%◌, ◌≤◌, ◌<◌}
use mathlib.Core.List.{List, [], ◌∷◌, ◌++◌, append-nil, append_assoc}
use mathlib.Core.Path.{◌≡◌, refl, sym, ap, ◌∙◌, subst}
use native.Mathlib.Numerals.{add-one}
use native.Mathlib.Omega.{arith}
use lib.ListN.{length, get_or, take, length-append}
use lib.Seq.{length-take-le, take_all, take-suc, drop-cons}
use Rattle.seq.specs.Lists.{Below}
use Rattle.seq.proofs.Lists.{all_drop}
use Rattle.layout.specs.Bytes.{bytes, fields}
use Rattle.layout.proofs.Laws.{length_fields, fields_append}
use Rattle.buffer.specs.Over.{over}
use Rattle.buffer.proofs.Laws.{over_none, over_append, length_over}
use Rattle.mark.specs.Mark.{number_fields, head_fields, encode, Encodable}
use Rattle.mark.proofs.Bytes.{encoded_length}
use Rattle.open.specs.Opening.{field}
use Rattle.context.specs.Context.{children_place, sibling_place}
use Rattle.resume.specs.Way.{WayTo, NumberOf, MarkPut}
use Rattle.resume.proofs.Places.{start_below, place_at, start_next}

-- ---- bytes

over_mark : (was path : List ℕ)
    → over was 0 (encode path) ≡ over (over was 0 (fields (head_fields (length path)))) 5 (fields (number_fields path))
unfolding encode
over_mark was path =
    let head = fields (head_fields (length path)) in
    let five : 0 + length head ≡ 5 = omega (arith, length_fields (head_fields (length path))) in
    rw (fields_append (head_fields (length path)) (number_fields path), over_append head (fields (number_fields path)) was 0, five)

numbers_length : (path : List ℕ) → length (fields (number_fields path)) ≡ 4 * length path
unfolding encode
numbers_length path =
    let head = head_fields (length path) in
    omega (
      arith,
      encoded_length path,
      ap length (fields_append head (number_fields path)),
      length-append (fields head) (fields (number_fields path)),
      length_fields head,
    )

numbers_snoc : (path : List ℕ) (x : ℕ) → fields (number_fields (path ++ (x ∷ []))) ≡ fields (number_fields path) ++ bytes 4 x
unfolding number_fields fields
numbers_snoc [] x = append-nil (bytes 4 x)
numbers_snoc (y ∷ path) x = rw (numbers_snoc path x, append_assoc)

-- ---- the way

module _ (file : List ℕ) (start : ℕ) (way : List ℕ) where
  -- behind a head stand the numbers of the first d levels; the array on the next starts at `from`
  pub record Marked (head out : List ℕ) (from d : ℕ) : Type 0 where
    pub long : length out ≡ length head
    pub starts_at : (path : List ℕ) → WayTo file start path way → from ≡ start_below file start (take d path)
    pub wrote : (path : List ℕ) → WayTo file start path way → Encodable path → out ≡ over head 5 (fields (number_fields (take d path)))

  pub marked_start : (head : List ℕ) → Marked head head start 0
  unfolding number_fields fields
  marked_start head = record { long = refl; starts_at = λ path w. refl; wrote = λ path w can. sym (over_none head 5) }

  module _ {head out : List ℕ} {from d : ℕ} (h : Marked head out from d) where
    pub marked_more : (n : ℕ) (after : List ℕ) (next : ℕ) → d < get_or way 0 0 → NumberOf file from (get_or way (d + 1) 0) n
        → after ≡ over out (5 + 4 * d) (bytes 4 (n % 4294967296)) → next ≡ field file (get_or way (d + 1) 0) children_place
        → Marked head after next (d + 1)
    marked_more n after next l number e f = record {
      long = ap length e ∙ length_over out (5 + 4 * d) (bytes 4 (n % 4294967296)) ∙ h.long;
      starts_at = λ path w.
          let in_path : d < length path = omega (arith, w.depth) in
          f ∙ rw (add-one d, w.stands d in_path) (sym (start_next file start path d in_path));
      wrote = λ path w can.
          let in_path : d < length path = omega (arith, w.depth) in
          let x = get_or path d 0 in
          let so_far = fields (number_fields (take d path)) in
          let there : sibling_place file from x ≡ get_or way (d + 1) 0 =
          rw (h.starts_at path w, add-one d) (sym (w.stands d in_path ∙ place_at file start path d in_path)) in
          let rest = all_drop (λ y. y < 4294967296) d path can.small in
          let small : x < 4294967296 = (subst (Below 4294967296) (drop-cons path d 0 in_path) rest).0 in
          let same : n % 4294967296 ≡ x = omega (arith, number x there, small) in
          let place : 5 + 4 * d ≡ 5 + length so_far = omega (arith, numbers_length (take d path), length-take-le d path (omega arith)) in
          e
          ∙ rw (same, h.wrote path w can, place, add-one d, take-suc path d 0 in_path, numbers_snoc (take d path) x)
          (sym (over_append so_far (bytes 4 x) head 5));
    }

    pub marked_end : (was : List ℕ) → head ≡ over was 0 (fields (head_fields (get_or way 0 0))) → get_or way 0 0 ≤ d → MarkPut file start way was out
    marked_end was e l path w can =
        h.wrote path w can ∙ rw (take_all d path (omega (arith, w.depth)), e, w.depth) (sym (over_mark was path))
