-- Each profile of the file has its tuple as given: as many identifications, and each with its four fields, all 16 bits of the flags.
-- The profile's structure says where the tuple stands, the tuple keeps its rule there, and identification j is read as it was laid out.
use Rattle.std.specs.Prelude.{Err, Ok}
use Rattle.refusal.specs.Check.{on_answer}
use Prim.Native.Nat.{ℕ, ◌+◌, ◌*◌, ◌≤◌, ◌<◌}
use mathlib.Core.Bool.{true}
use mathlib.Core.List.{List, [], ◌∷◌}
use mathlib.Core.Path.{◌≡◌, refl, sym, ap, ◌∙◌}
use native.Mathlib.Nat.{add-zero}
use native.Mathlib.Omega.{arith}
use Rattle.le.specs.Number.{number}
use Rattle.layout.specs.Bytes.{◌is◌, fields}
use Rattle.layout.specs.Stands.{Stands}
use Rattle.layout.proofs.Laws.{length_fields, field-at, part-at, moved}
use Rattle.layout.proofs.Many.{many_at}
use Rattle.refusal.specs.declared.Refusal.TheVariants as No
use Rattle.open.specs.Opening.{place_for}
use Rattle.open.proofs.Pointers.{place_some}
use Rattle.array.specs.declared.Array.{Array}
use Rattle.array.proofs.Bounds.{is_there, not_there}
use Rattle.block.specs.Block.{profile_shape}
use Rattle.tuple.specs.Tuple.{identifiers, tuple_rule, tuple_of, tuple_in, tuple_at, identifier_of, identifier_in, identifier_at}
use Rattle.tuple.proofs.Facts.{tuple_iff}
use Rattle.tuple.proofs.Fits.{rule_kept}
use Rattle.block_file.proofs.Readback.{length_header}
use Rattle.profile_file.specs.Survey.{Tuples, Survey}
use Rattle.profile_file.specs.File.{identification_bytes, tuple_bytes, tuples_from, tuples_size, tuple_from, block_header, info_bytes, profile_file, section_pairs}
use Rattle.profile_file.specs.Facts.{Writable}
use Rattle.profile_file.specs.ReadsBack.{identification_of}
use Rattle.profile_file.proofs.Lengths.{length_identifications}
use Rattle.profile_file.proofs.Places.{info_at, tuple_stands, tuple_eight, tuple_after, tuple_ends}
use Rattle.profile_file.proofs.Opens.{tuples_fit, opened_with, element_is, no_element}

module _ (s : Survey) (a : Writable s) where
  abbrev file : List ℕ
  file = profile_file s

  abbrev ts : Tuples
  ts = s.tuples

  -- the array that tuple t is read as
  abbrev identifications_of : (t : ℕ) → Array
  identifications_of t = record { place = tuple_from s t + 8; count = ts.size t; stride = 16 }

  -- ---- tuple t

  module _ (t : ℕ) (m : t < ts.count) where
    size_read : number 2 file (tuple_from s t) ≡ ts.size t
    unfolding tuple_bytes
    size_read =
        ap (number 2 file) (sym (add-zero (tuple_from s t)) ∙ sym (add-zero (tuple_from s t + 0)))
        ∙ field-at _ 0 (part-at _ 0 (tuple_stands s t m) (omega arith)) (omega arith) (a.counted.sizes-fit t m)

    keeps_rule : tuple_rule file (place_for (tuples_size s) (tuples_from s)) (tuples_size s) (tuple_from s t) ≡ true
    keeps_rule =
        let e = tuple_ends s t m in
        rw (place_some (tuples_size s) (tuples_from s) (omega (arith, tuple_after s t)))
        ((tuple_iff file (tuples_from s) (tuples_size s) (tuple_from s t)).1
        (record { aligned = tuple_eight s t; starts = tuple_after s t; fits = rw size_read e }))

    tuple_read : tuple_of file (place_for (tuples_size s) (tuples_from s)) (tuples_size s) (tuple_from s t) ≡ Ok (identifications_of t)
    unfolding identifiers
    tuple_read = sym (rule_kept file (place_for (tuples_size s) (tuples_from s)) (tuples_size s) (tuple_from s t) keeps_rule) ∙ rw size_read

    identification_stands : (j : ℕ) → j < ts.size t → Stands file (tuple_from s t + 8 + j * 16) (identification_bytes ts t j)
    unfolding tuple_bytes
    identification_stands j l =
        moved (tuple_from s t + 8 + j * 16) (omega (arith, length_fields (2 is ts.size t ∷ 6 is 0 ∷ []), length_identifications ts t j))
        (many_at (identification_bytes ts t) (ts.size t) (part-at _ 1 (tuple_stands s t m) (omega arith)) j l)

    identification_read : (j : ℕ) → j < ts.size t → identifier_of file (tuple_from s t + 8 + j * 16) ≡ identification_of ts t j
    unfolding identification_bytes identifier_of
    identification_read j l =
        let at = tuple_from s t + 8 + j * 16 in
        let h = identification_stands j l in
        let k : number 1 file at ≡ ts.kind t j = ap (number 1 file) (sym (add-zero at)) ∙ field-at _ 0 h (omega arith) (a.fields_fit.kind_fits t j m l) in
        let f : number 2 file (at + 2) ≡ ts.flags t j = field-at _ 2 h (omega arith) (a.fields_fit.flags_fit t j m l) in
        let g : number 4 file (at + 4) ≡ ts.logical t j = field-at _ 3 h (omega arith) (a.fields_fit.logical_fits t j m l) in
        let p : number 8 file (at + 8) ≡ ts.physical t j = field-at _ 4 h (omega arith) (a.fields_fit.physical_fits t j m l) in
        rw (k, f, g, p)

  -- ---- profile p

  pointer_read : (p : ℕ) → p < s.profiles → number 8 file (64 + p * 40 + 32) ≡ tuple_from s (s.named p)
  unfolding info_bytes
  pointer_read p l =
      let t = s.named p in
      let h : Stands file (64 + p * 40 + 32) (fields (8 is tuple_from s t ∷ [])) =
      moved (64 + p * 40 + 32) (omega (arith, length_header profile_shape (block_header s p) (omega arith))) (part-at _ 1 (info_at s p l) (omega arith)) in
      ap (number 8 file) (sym (add-zero (64 + p * 40 + 32)))
      ∙ field-at _ 0 h (omega arith) (omega (arith, tuple_ends s t (a.listed.tuple_listed p l), tuples_fit s a))

  tuple_is : (p : ℕ) → p < s.profiles → tuple_at file p ≡ Ok (identifications_of (s.named p))
  unfolding tuple_at tuple_in on_answer section_pairs
  tuple_is p l = rw (opened_with s a, element_is s a p l, pointer_read p l) (tuple_read (s.named p) (a.listed.tuple_listed p l))

  pub tuple_given : (p : ℕ) → p < s.profiles → (t : Array) × ((tuple_at file p ≡ Ok t) × (t.count ≡ ts.size (s.named p)))
  tuple_given p l = (identifications_of (s.named p), (tuple_is p l, refl))

  pub tuple_unlisted : (p : ℕ) → s.profiles ≤ p → tuple_at file p ≡ Err No.Index
  unfolding tuple_at tuple_in on_answer
  tuple_unlisted p l = rw (opened_with s a, no_element s a p l)

  pub identifier_is : (p j : ℕ) → p < s.profiles → j < ts.size (s.named p) → identifier_at file p j ≡ identification_of ts (s.named p) j
  unfolding identifier_at identifier_in on_answer
  identifier_is p j l q =
      rw (tuple_is p l, ← is_there (identifications_of (s.named p)) j q) (identification_read (s.named p) (a.listed.tuple_listed p l) j q)

  -- 15 past the tuple's last, and for a profile that is not listed
  pub no_more_identifiers : (p j : ℕ) → p < s.profiles → ts.size (s.named p) ≤ j → identifier_at file p j ≡ Err No.Index
  unfolding identifier_at identifier_in on_answer
  no_more_identifiers p j l q = rw (tuple_is p l, ← not_there (identifications_of (s.named p)) j q)

  pub identifier_unlisted : (p j : ℕ) → s.profiles ≤ p → identifier_at file p j ≡ Err No.Index
  unfolding identifier_at on_answer
  identifier_unlisted p j l = rw (tuple_unlisted p l)
