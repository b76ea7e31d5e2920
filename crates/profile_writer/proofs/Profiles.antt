-- Profiles one after the other: structures from byte 64 on and blocks behind the tuples grow together, and neither touches the places of the
-- tuples that stand between them.
use Rattle.refusal.specs.Check.{Passed}
use Prim.Native.Nat.{ℕ, ◌+◌, ◌*◌, ◌%◌, ◌^◌, ◌≤◌, ◌<◌}
use mathlib.Core.Bool.{true}
use mathlib.Core.List.{List, [], ◌∷◌, append-nil}
use mathlib.Core.Path.{◌≡◌, refl, sym, ap, ◌∙◌}
use native.Mathlib.Numerals.{add-one}
use native.Mathlib.Omega.{arith}
use borrow.Author.Tests.{leb-true}
use lib.ListN.{length}
use Rattle.le.specs.Number.{number}
use Rattle.layout.specs.Bytes.{bytes, ◌is◌, fields, join}
use Rattle.layout.specs.Many.{many, to_four}
use Rattle.layout.specs.Stands.{Stands}
use Rattle.layout.proofs.Laws.{length_bytes, fields_append, read, moved}
use Rattle.layout.proofs.Many.{many_none, many_at, many_ends, length_next, length_many}
use Rattle.buffer.specs.Over.{over}
use Rattle.buffer.proofs.Laws.{over_swap, length_over}
use Rattle.put.proofs.Fields.{over_many_none, over_many_more}
use Rattle.put.proofs.Stands.{stands_behind, stands_before}
use Rattle.seq.specs.Sequence.{sum}
use Rattle.open.specs.Opening.{place_for}
use Rattle.block_file.specs.Pairs.{groups_of, indices_from, block_of, header_bytes}
use Rattle.profile_file.specs.Survey.{Survey, Ascending, run_start, run_length, pairs_of}
use Rattle.profile_file.specs.File.{tuple_bytes, block_bytes, tuples_from, tuples_size, tuple_from, block_from, block_header, info_bytes, profile_file}
use Rattle.profile_file.specs.Facts.{AllListed, CountsFit}
use Rattle.profile_file.specs.Check.{sizes_fit}
use Rattle.profile_file.proofs.Runs.{first_run}
use Rattle.profile_file.proofs.Lengths.{length_tuple, length_tuples, length_info, length_infos, length_file, padding_of}
use Rattle.profile_file.proofs.Places.{block_ends}
use Rattle.profile_file.proofs.Checks.{every_iff, check_decides}
use Rattle.profile_lists.specs.Lists.{word_of, tuples_in, survey_of, all_there, lists_check}
use Rattle.profile_writer.specs.Table.{place_of_tuple, places_of}

-- ---- what a check that passed says

pub record Ready (s : Survey) (room : ℕ) : Type 0 where
  pub listed : AllListed s
  pub sorted : Ascending s.entries
  pub counted : CountsFit s
  pub has_room : length (profile_file s) ≤ room

module _ (profiles tuples identifiers entries : List ℕ) (room : ℕ) (e : lists_check profiles tuples identifiers entries room ≡ Passed) where
  pub ready : Ready (survey_of profiles tuples identifiers entries) room
  unfolding lists_check
  ready =
      let d = (check_decides (survey_of profiles tuples identifiers entries) (all_there tuples identifiers) room).passes.0 e in
      record { listed = d.0.0; sorted = d.1.0; counted = d.1.1.0; has_room = d.1.1.1 }

  all-there : all_there tuples identifiers ≡ true
  unfolding lists_check
  all-there = ((check_decides (survey_of profiles tuples identifiers entries) (all_there tuples identifiers) room).passes.0 e).0.1

  pub claims_there : sum (word_of tuples) (length tuples) * 16 ≤ length identifiers
  unfolding all_there
  claims_there = leb-true (sum (word_of tuples) (length tuples) * 16) (length identifiers) all-there

pub sizes_kept : (s : Survey) → CountsFit s → sizes_fit s.tuples ≡ true
unfolding sizes_fit
sizes_kept s c = (every_iff s.tuples.size (λ t. 2 ^ 16) s.tuples.count).1 c.sizes-fit

-- ---- a profile's structure, field by field

pub info_fields : (s : Survey) (p : ℕ)
    → info_bytes s p
    ≡ fields
    (8 is run_length s.entries p
    ∷ 8 is place_for (run_length s.entries p) (block_from s p)
    ∷ 4 is groups_of (pairs_of s.entries p)
    ∷ 4 is 0
    ∷ 8 is place_for (run_length s.entries p) (block_from s p + run_length s.entries p * 10 + 2 * (run_length s.entries p % 2))
    ∷ 8 is tuple_from s (s.named p)
    ∷ [])
unfolding info_bytes join header_bytes block_header block_of indices_from
info_fields s p =
    let n = run_length s.entries p in
    let at = block_from s p in
    let indices : at + (n * 10 + to_four (n * 10)) ≡ at + n * 10 + 2 * (n % 2) = omega (arith, padding_of n) in
    rw (append-nil, indices)
    (sym (fields_append
    (8 is n ∷ 8 is place_for n at ∷ 4 is groups_of (pairs_of s.entries p) ∷ 4 is 0 ∷ 8 is place_for n (at + n * 10 + 2 * (n % 2)) ∷ [])
    (8 is tuple_from s (s.named p) ∷ [])))

-- ---- the places of the tuples

pub length_places : (tuples : List ℕ) (at n : ℕ) → length (places_of tuples at n) ≡ n * 8
length_places tuples at n = length_many (λ t. bytes 8 (place_of_tuple tuples at t)) 8 n (λ t l. length_bytes 8 (place_of_tuple tuples at t))

places_read : (tuples : List ℕ) (out : List ℕ) (at n t : ℕ) → Stands out at (places_of tuples at n) → t < n → place_of_tuple tuples at t < 2 ^ 64
    → number 8 out (at + t * 8) ≡ place_of_tuple tuples at t
places_read tuples out at n t h l small =
    read 8 (place_of_tuple tuples at t)
    (moved (at + t * 8) (ap (λ (z : ℕ). at + z) (length_places tuples at t)) (many_at (λ k. bytes 8 (place_of_tuple tuples at k)) n h t l)) small

module _ (profiles tuples identifiers entries : List ℕ) where
  abbrev survey : Survey
  survey = survey_of profiles tuples identifiers entries

  place_is : (t : ℕ) → place_of_tuple tuples (tuples_from survey) t ≡ tuple_from survey t
  unfolding tuple_from
  place_is t = omega (arith, length_tuples (tuples_in tuples identifiers) t)

  -- they have room where the tuples will be, and each leads there
  pub places_fit : (t : ℕ) → t < length tuples → (length tuples * 8 ≤ tuples_size survey) × (tuple_from survey t < tuples_from survey + tuples_size survey)
  unfolding tuple_from tuples_size
  places_fit t l =
      let ts = tuples_in tuples identifiers in
      (omega (arith, length_tuples ts (length tuples)), omega (arith, many_ends (tuple_bytes ts) t (length tuples) l, length_tuple ts t))

pub tuples-from : (s : Survey) → tuples_from s ≡ 64 + s.profiles * 40
unfolding tuples_from
tuples-from s = refl

pub tuples_long : (s : Survey) → tuples_size s ≡ s.tuples.count * 8 + sum s.tuples.size s.tuples.count * 16
unfolding tuples_size
tuples_long s = length_tuples s.tuples s.tuples.count

pub block-from : (s : Survey) (p : ℕ) → block_from s p ≡ tuples_from s + tuples_size s + length (many (block_bytes s.entries) p)
unfolding block_from
block-from s p = refl

-- ---- the loop

module _ (s : Survey) (out₀ : List ℕ) where
  -- the structures and blocks of the profiles below p are written
  pub record Growing (out : List ℕ) (p start at : ℕ) : Type 0 where
    pub within : p ≤ s.profiles
    pub start_is : start ≡ run_start s.entries p
    pub at_is : at ≡ block_from s p
    pub out_is : out ≡ over (over out₀ 64 (many (info_bytes s) p)) (tuples_from s + tuples_size s) (many (block_bytes s.entries) p)

  module _ (r : Ready s (length out₀)) where
    pub front_room : 64 + s.profiles * 40 + tuples_size s + 8 ≤ length out₀
    unfolding tuples_from
    front_room = omega (arith, length_file s, r.has_room)

    pub growing_none : Growing out₀ 0 0 (tuples_from s + tuples_size s)
    unfolding block_from
    growing_none = record {
      within = omega arith;
      start_is = sym (first_run s.entries r.sorted);
      at_is = rw many_none (omega arith);
      out_is = rw (← over_many_none (info_bytes s) out₀ 64) (over_many_none (block_bytes s.entries) out₀ (tuples_from s + tuples_size s));
    }

    module _ {out : List ℕ} {p start at : ℕ} (f : Growing out p start at) where
      pub growing_length : length out ≡ length out₀
      growing_length = rw (f.out_is, length_over, length_over)

      -- the places of the tuples stand still
      pub places_stand : (places : List ℕ) → Stands out₀ (tuples_from s) places → length places ≤ tuples_size s → Stands out (tuples_from s) places
      unfolding tuples_from
      places_stand places t l =
          let infos = many (info_bytes s) p in
          let blocks = many (block_bytes s.entries) p in
          rw f.out_is
          (stands_before (over out₀ 64 infos) (tuples_from s + tuples_size s) blocks (tuples_from s) places
          (stands_behind out₀ 64 infos (tuples_from s) places t (omega (arith, length_infos s p, f.within))) (omega arith))

      module _ (l : p < s.profiles) where
        -- a block has room, and ends before the footer
        pub block_room : at + length (block_bytes s.entries p) + 8 ≤ length out₀
        unfolding tuples_from
        block_room = omega (arith, f.at_is, block_ends s p l, r.has_room, length_file s)

        pub next_at : at + length (block_bytes s.entries p) ≡ block_from s (p + 1)
        unfolding block_from
        next_at = rw (add-one p) (omega (arith, f.at_is, length_next (block_bytes s.entries) p))

        pub growing_more : (end next : ℕ) (x y : List ℕ) → end ≡ run_start s.entries (p + 1) → next ≡ block_from s (p + 1)
            → x ≡ over out at (block_bytes s.entries p) → y ≡ over x (64 + p * 40) (info_bytes s p) → Growing y (p + 1) end next
        unfolding tuples_from block_from
        growing_more end next x y e n hx hy = record {
          within = omega arith;
          start_is = e;
          at_is = n;
          out_is = hy ∙ ap (λ (z : List ℕ). over z (64 + p * 40) (info_bytes s p)) grown ∙ swapped;
        }
          where
            infos : List ℕ
            infos = many (info_bytes s) p

            from : ℕ
            from = tuples_from s + tuples_size s

            grown : x ≡ over (over out₀ 64 infos) from (many (block_bytes s.entries) (p + 1))
            grown = hx ∙ rw (f.out_is, f.at_is) (sym (over_many_more (block_bytes s.entries) (over out₀ 64 infos) from p))

            swapped : over (over (over out₀ 64 infos) from (many (block_bytes s.entries) (p + 1))) (64 + p * 40) (info_bytes s p)
                ≡ over (over out₀ 64 (many (info_bytes s) (p + 1))) from (many (block_bytes s.entries) (p + 1))
            swapped =
                over_swap (over out₀ 64 infos) (64 + p * 40) (info_bytes s p) from (many (block_bytes s.entries) (p + 1)) (omega (arith, length_info s p))
                ∙ rw (over_many_more (info_bytes s) out₀ 64 p, length_infos s p)

-- the place of a tuple is read behind a block that is written
module _ (profiles tuples identifiers entries out₀ : List ℕ) (r : Ready (survey_of profiles tuples identifiers entries) (length out₀)) (fits : length out₀ < 2 ^ 64) where
  abbrev whole : Survey
  whole = survey_of profiles tuples identifiers entries

  pub place_behind : {out : List ℕ} {p start at : ℕ} → Growing (survey_of profiles tuples identifiers entries) out₀ out p start at
      → (table : ℕ) → table ≡ tuples_from (survey_of profiles tuples identifiers entries) → Stands out₀ table (places_of tuples table (length tuples))
      → (x : List ℕ) → x ≡ over out at (block_bytes whole.entries p) → (t : ℕ) → t < length tuples
      → number 8 x (table + t * 8) ≡ tuple_from (survey_of profiles tuples identifiers entries) t
  unfolding tuples_from block_from
  place_behind {out} {p} {start} {at} f table e h x hx t l =
      let places = places_of tuples (tuples_from whole) (length tuples) in
      let fit = places_fit profiles tuples identifiers entries t l in
      let n = length_places tuples (tuples_from whole) (length tuples) in
      let stood = places_stand whole out₀ r f places (rw e at h) (omega (arith, fit.0, n)) in
      let stands : Stands x (tuples_from whole) places = rw hx
      (stands_before out at (block_bytes whole.entries p) (tuples_from whole) places stood (omega (arith, f.at_is, fit.0, n))) in
      let small : place_of_tuple tuples (tuples_from whole) t < 2 ^ 64 =
      omega (arith, place_is profiles tuples identifiers entries t, fit.1, front_room whole out₀ r) in
      rw e (places_read tuples x (tuples_from whole) (length tuples) t stands l small ∙ place_is profiles tuples identifiers entries t)
