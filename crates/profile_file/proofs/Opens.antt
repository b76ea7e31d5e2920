-- The file of a writable survey opens: what stands in its headers is read back, and each opening rule follows as a fact.
-- Every reader that opens it is then handed the sections as they were written, and the array of its profiles.
use Rattle.std.specs.Prelude.{Err, Ok}
use Prim.Native.Nat.{ℕ, zero, suc, ◌+◌, ◌*◌, ◌^◌, ◌≤◌, ◌<◌}
use mathlib.Core.List.{List}
use mathlib.Core.Path.{◌≡◌, refl, sym, ap, ◌∙◌}
use native.Mathlib.Omega.{arith}
use Rattle.le.specs.Number.{number}
use Rattle.layout.proofs.Laws.{field-at}
use Rattle.refusal.specs.declared.Refusal.{Refusal}
use Rattle.refusal.specs.declared.Refusal.TheVariants as No
use Rattle.refusal.specs.Check.{Passed, on_answer}
use Rattle.open.specs.Format as Format
use Rattle.open.specs.Names as Section
use Rattle.open.specs.Opening.{place_for, pair_at, pairs_from, pairs, place_in, size_in, field, number_at, opening, on_opened}
use Rattle.open.specs.Kept.{AllKept, Opens}
use Rattle.open.proofs.Pointers.{place_some, place_below, place_again}
use Rattle.open.proofs.Keeps.{opens_iff}
use Rattle.array.specs.declared.Array.{Array}
use Rattle.array.specs.Element.{element_at}
use Rattle.array.specs.Stored.{array_of, array_in}
use Rattle.array.proofs.Bounds.{is_there, not_there}
use Rattle.count.specs.Count.{count_of}
use Rattle.profile_file.specs.Survey.{Survey}
use Rattle.profile_file.specs.File.{tuples_from, tuples_size, file_header, infos_header, profile_file, section_pairs}
use Rattle.profile_file.specs.Facts.{Writable}
use Rattle.profile_file.proofs.Lengths.{length_file}
use Rattle.profile_file.proofs.Places.{magic_at, header_at, infos_header_at, footer_at, tuples_eight}

module _ (s : Survey) (a : Writable s) where
  abbrev file : List ℕ
  file = profile_file s

  pub tuples_fit : tuples_from s + tuples_size s < 2 ^ 64
  tuples_fit = omega (arith, a.length_fits, length_file s)

  -- ---- the header

  pub major_is : number 1 file 14 ≡ 4
  unfolding file_header
  major_is = field-at _ 0 (header_at s) (omega arith) (omega arith)

  pub minor_is : number 1 file 15 ≡ 0
  unfolding file_header
  minor_is = field-at _ 1 (header_at s) (omega arith) (omega arith)

  infos_size : number 8 file 16 ≡ 16 + s.profiles * 40
  unfolding file_header
  infos_size = field-at _ 2 (header_at s) (omega arith) (omega (arith, a.counted.profiles_fit))

  infos_place : number 8 file 24 ≡ 48
  unfolding file_header
  infos_place = field-at _ 3 (header_at s) (omega arith) (omega arith)

  tuples-size : number 8 file 32 ≡ tuples_size s
  unfolding file_header
  tuples-size = field-at _ 4 (header_at s) (omega arith) (omega (arith, tuples_fit))

  tuples_place : number 8 file 40 ≡ place_for (tuples_size s) (tuples_from s)
  unfolding file_header
  tuples_place = field-at _ 5 (header_at s) (omega arith) (omega (arith, tuples_fit, place_below (tuples_size s) (tuples_from s)))

  pub sections_are : pairs Format.profile file ≡ section_pairs s
  unfolding pairs pairs_from pair_at section_pairs
  sections_are =
      rw (infos_size, infos_place, tuples-size, tuples_place, place_again (tuples_size s) (tuples_from s), place_some (16 + s.profiles * 40) 48 (omega arith))

  -- ---- the profiles' header

  array_place : number 8 file 48 ≡ place_for s.profiles 64
  unfolding infos_header
  array_place = field-at _ 0 (infos_header_at s) (omega arith) (omega (arith, place_below s.profiles 64))

  array_count : number 4 file 56 ≡ s.profiles
  unfolding infos_header
  array_count = field-at _ 1 (infos_header_at s) (omega arith) a.counted.profiles_fit

  pub stride_is : number 1 file 60 ≡ 40
  unfolding infos_header
  stride_is = field-at _ 2 (infos_header_at s) (omega arith) (omega arith)

  -- ---- the rules

  infos_kept : AllKept 48 file (Format.infos_section 40) 48 (16 + s.profiles * 40)
  unfolding field number_at tuples_from
  infos_kept = record {
    section = record {
      large = omega arith;
      after = λ h. omega arith;
      inside = λ h. omega (arith, length_file s);
      aligned = λ h. refl;
    };
    strides = (rw stride_is (record { large = omega arith; eights = refl }), tt);
    content = rw (array_place, array_count, stride_is) (record {
      after = λ h. rw (place_some s.profiles 64 h) (omega arith);
      inside = λ h. rw (place_some s.profiles 64 h) (omega arith);
      aligned = λ h. rw (place_some s.profiles 64 h);
    });
  }

  tuples_kept : AllKept 48 file Format.id_tuples_section (place_for (tuples_size s) (tuples_from s)) (tuples_size s)
  unfolding tuples_from
  tuples_kept = record {
    section = record {
      large = omega arith;
      after = λ h. rw (place_some (tuples_size s) (tuples_from s) h) (omega arith);
      inside = λ h. rw (place_some (tuples_size s) (tuples_from s) h) (omega (arith, length_file s));
      aligned = λ h. rw (place_some (tuples_size s) (tuples_from s) h) (tuples_eight s);
    };
    strides = tt;
    content = tt;
  }

  each_kept : (k : ℕ) → k < 2 → AllKept 48 file (Format.section_at Format.profile k) (place_in (section_pairs s) k) (size_in (section_pairs s) k)
  unfolding section_pairs
  each_kept zero l = infos_kept
  each_kept (suc zero) l = tuples_kept
  each_kept (suc (suc k)) l = absurd (omega arith)

  pub file_opens : Opens Format.profile file
  unfolding tuples_from
  file_opens = record {
    long = omega (arith, length_file s);
    magic = magic_at s;
    version = major_is;
    footer = footer_at s;
    section = rw sections_are each_kept;
  }

  pub opening_passes : opening Format.profile file ≡ Passed
  opening_passes = (opens_iff Format.profile file).1 file_opens

  -- ---- what its readers go on from

  pub opened_with : {A : Type 0} (refused : Refusal → A) (answer : List (List ℕ) → A)
      → on_opened refused Format.profile file answer ≡ answer (section_pairs s)
  unfolding on_opened on_answer
  opened_with refused answer = rw (opening_passes, sections_are)

  abbrev pub profiles_array : Array
  profiles_array = record { place = place_for s.profiles 64; count = s.profiles; stride = 40 }

  pub array_is : array_in Format.profile file (section_pairs s) Section.infos ≡ profiles_array
  unfolding array_of field number_at section_pairs
  array_is = rw (array_place, array_count, stride_is)

  pub element-place : (p : ℕ) → p < s.profiles → profiles_array.place + p * profiles_array.stride ≡ 64 + p * 40
  element-place p l = rw (place_some s.profiles 64 (omega arith))

  pub element_is : (p : ℕ) → p < s.profiles → element_at (array_in Format.profile file (section_pairs s) Section.infos) p ≡ Ok (64 + p * 40)
  element_is p l = ap (λ (x : Array). element_at x p) array_is ∙ sym (is_there profiles_array p l) ∙ ap Ok (element-place p l)

  pub no_element : (p : ℕ) → s.profiles ≤ p → element_at (array_in Format.profile file (section_pairs s) Section.infos) p ≡ Err No.Index
  no_element p l = ap (λ (x : Array). element_at x p) array_is ∙ sym (not_there profiles_array p l)

  pub count_is : count_of Format.profile file ≡ Ok s.profiles
  unfolding count_of
  count_is = opened_with Err _ ∙ ap (λ (x : Array). Ok x.count) array_is
