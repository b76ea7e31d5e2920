-- Entries one after the other, of 24 bytes each.
use Prim.Native.Nat.{ℕ, ◌+◌, ◌*◌, ◌^◌, ◌<◌}
use mathlib.Core.List.{List, [], ◌∷◌, ◌++◌, append_assoc}
use mathlib.Core.Path.{◌≡◌, refl, sym, ◌∙◌}
use native.Mathlib.Omega.{arith}
use lib.ListN.{length, length-append}
use Rattle.layout.specs.Bytes.{bytes, ◌is◌}
use Rattle.layout.proofs.Laws.{length_fields}
use Rattle.buffer.specs.Over.{over}
use Rattle.put.proofs.Fields.{over_field, over_last, zeros_behind}
use Rattle.float.specs.Float.{integer_bits}
use Rattle.dcpi.specs.Samples.{OffsetCount}
use Rattle.dcpi_entries.specs.Entries.{entry_bytes, entries_of}

module _ (profile metric : ℕ) where
  pub length_entry : (x : OffsetCount) → length (entry_bytes profile metric x) ≡ 24
  unfolding entry_bytes
  length_entry x = length_fields (4 is profile ∷ 4 is x.offset ∷ 2 is metric ∷ 6 is 0 ∷ 8 is integer_bits x.count ∷ [])

  pub length_entries : (xs : List OffsetCount) → length (entries_of profile metric xs) ≡ length xs * 24
  unfolding entries_of
  length_entries [] = omega arith
  length_entries (x ∷ xs) = rw (length-append (entry_bytes profile metric x) (entries_of profile metric xs)) (omega (arith, length_entry x, length_entries xs))

  pub entries_append : (xs ys : List OffsetCount) → entries_of profile metric (xs ++ ys) ≡ entries_of profile metric xs ++ entries_of profile metric ys
  unfolding entries_of
  entries_append [] ys = refl
  entries_append (x ∷ xs) ys = rw (entries_append xs ys) (sym (append_assoc (entry_bytes profile metric x) (entries_of profile metric xs) (entries_of profile metric ys)))

  -- by four stores
  pub over_entry : metric < 2 ^ 16 → (out : List ℕ) (at : ℕ) (x : OffsetCount)
      → over (over (over (over out at (bytes 4 profile)) (at + 4) (bytes 4 x.offset)) (at + 8) (bytes 8 metric)) (at + 16) (bytes 8 (integer_bits x.count))
      ≡ over out at (entry_bytes profile metric x)
  unfolding entry_bytes
  over_entry l out at x =
      let a : at + 4 + 4 ≡ at + 8 = omega arith in
      let b : at + 8 + 8 ≡ at + 16 = omega arith in
      sym (
      over_field out at 4 profile (4 is x.offset ∷ 2 is metric ∷ 6 is 0 ∷ 8 is integer_bits x.count ∷ [])
      ∙ over_field (over out at (bytes 4 profile)) (at + 4) 4 x.offset (2 is metric ∷ 6 is 0 ∷ 8 is integer_bits x.count ∷ [])
      ∙ rw (a, zeros_behind 2 6 metric (8 is integer_bits x.count ∷ []) l)
      (over_field (over (over out at (bytes 4 profile)) (at + 4) (bytes 4 x.offset)) (at + 8) 8 metric (8 is integer_bits x.count ∷ [])
      ∙ rw b (over_last _ (at + 16) 8 (integer_bits x.count)))
      )
