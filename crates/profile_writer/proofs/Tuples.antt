-- Tuples one after the other, each in two parts: its size, and its identifications.
use Prim.Native.Nat.{ℕ, ◌+◌, ◌*◌, ◌^◌, ◌≤◌, ◌<◌}
use mathlib.Core.Bool.{true}
use mathlib.Core.List.{List, [], ◌∷◌, append-nil}
use mathlib.Core.Path.{◌≡◌, ◌∙◌}
use native.Mathlib.Numerals.{add-one}
use native.Mathlib.Omega.{arith}
use borrow.Author.Tests.{ltb-true}
use lib.Dec.{ltb}
use lib.ListN.{length}
use Rattle.layout.specs.Bytes.{◌is◌, bytes, fields, join}
use Rattle.layout.specs.Many.{many}
use Rattle.layout.proofs.Laws.{length_bytes}
use Rattle.layout.proofs.Many.{length_next, many_ends}
use Rattle.buffer.specs.Over.{over}
use Rattle.buffer.proofs.Laws.{over_append}
use Rattle.put.proofs.Fields.{zeros_behind}
use Rattle.seq.proofs.Every.{every_at}
use Rattle.profile_file.specs.Survey.{Tuples}
use Rattle.profile_file.specs.File.{identification_bytes, tuple_bytes}
use Rattle.profile_file.specs.Check.{sizes_fit}
use Rattle.profile_file.proofs.Lengths.{length_tuple}

module _ (ts : Tuples) where
  pub size_fits : sizes_fit ts ≡ true → (t : ℕ) → t < ts.count → ts.size t < 2 ^ 16
  unfolding sizes_fit
  size_fits h t l = ltb-true _ _ (every_at (λ (k : ℕ). ltb (ts.size k) (2 ^ 16)) ts.count h t l)

  pub tuples_more : (t : ℕ) → length (many (tuple_bytes ts) (t + 1)) ≡ length (many (tuple_bytes ts) t) + 8 + ts.size t * 16
  tuples_more t = rw add-one (omega (arith, length_next (tuple_bytes ts) t, length_tuple ts t))

  pub tuple_inside : (t n : ℕ) → t < n → length (many (tuple_bytes ts) t) + 8 + ts.size t * 16 ≤ length (many (tuple_bytes ts) n)
  tuple_inside t n l = omega (arith, many_ends (tuple_bytes ts) t n l, length_tuple ts t)

  -- its size as one number of eight bytes, then its identifications
  pub over_tuple : (t : ℕ) → ts.size t < 2 ^ 16 → (out : List ℕ) (at : ℕ)
      → over out at (tuple_bytes ts t) ≡ over (over out at (bytes 8 (ts.size t))) (at + 8) (many (identification_bytes ts t) (ts.size t))
  unfolding tuple_bytes join fields
  over_tuple t l out at =
      let head : fields (2 is ts.size t ∷ 6 is 0 ∷ []) ≡ bytes 8 (ts.size t) = zeros_behind 2 6 (ts.size t) [] (omega arith) ∙ append-nil _ in
      rw (append-nil (many (identification_bytes ts t) (ts.size t)), head, over_append (bytes 8 (ts.size t)), length_bytes)
