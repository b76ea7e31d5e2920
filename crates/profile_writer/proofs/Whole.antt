-- The parts of a file, each written in its place, are the file: what stands behind may be written before, and the tuples leave no trace of
-- the places that stood there.
use Prim.Native.Nat.{ℕ, ◌+◌, ◌≤◌}
use mathlib.Core.List.{List, [], ◌∷◌, ◌++◌, append-nil, append_assoc}
use mathlib.Core.Path.{◌≡◌, refl, sym, ap, ◌∙◌}
use native.Mathlib.Omega.{arith}
use lib.ListN.{length, length-append}
use Rattle.layout.specs.Bytes.{join}
use Rattle.layout.specs.Many.{many}
use Rattle.buffer.specs.Over.{over}
use Rattle.buffer.proofs.Laws.{over_append, over_swap, over_again}
use Rattle.open.specs.Format as Format
use Rattle.profile_file.specs.Survey.{Survey}
use Rattle.profile_file.specs.File.{tuple_bytes, block_bytes, tuples_from, tuples_size, info_bytes, file_header, infos_header, profile_file}
use Rattle.profile_file.proofs.Lengths.{length_front, length_infos_header, length_infos}

regrouped : (m h i a t b f : List ℕ) → join (m ∷ h ∷ i ∷ a ∷ t ∷ b ∷ f ∷ []) ≡ ((m ++ h ++ i) ++ (a ++ (t ++ b))) ++ f
unfolding join
regrouped m h i a t b f =
    rw (append-nil f, append_assoc (m ++ h ++ i) (a ++ (t ++ b)) f, append_assoc (m ++ h) i, append_assoc m h, append_assoc a (t ++ b) f, append_assoc t b f)

module _ (s : Survey) where
  abbrev infos : List ℕ
  infos = many (info_bytes s) s.profiles

  abbrev tuples : List ℕ
  tuples = many (tuple_bytes s.tuples) s.tuples.count

  abbrev blocks : List ℕ
  blocks = many (block_bytes s.entries) s.profiles

  abbrev front : List ℕ
  front = (Format.profile).magic ++ file_header s

  abbrev from : ℕ
  from = tuples_from s

  abbrev to : ℕ
  to = tuples_from s + tuples_size s

  infos_end : 64 + length infos ≡ from
  unfolding tuples_from
  infos_end = omega (arith, length_infos s s.profiles)

  tuples_end : from + length tuples ≡ to
  unfolding tuples_size
  tuples_end = refl

  front_long : length front ≡ 48
  front_long = length-append (Format.profile).magic (file_header s) ∙ omega (arith, length_front s)

  head_long : length (front ++ infos_header s) ≡ 64
  head_long = length-append front (infos_header s) ∙ omega (arith, front_long, length_infos_header s)

  body_long : length (infos ++ (tuples ++ blocks)) ≡ length infos + (length tuples + length blocks)
  body_long = rw (length-append, length-append)

  in_order : profile_file s ≡ ((front ++ infos_header s) ++ (infos ++ (tuples ++ blocks))) ++ (Format.profile).footer
  unfolding profile_file
  in_order = regrouped (Format.profile).magic (file_header s) (infos_header s) infos tuples blocks (Format.profile).footer

  module _ (out places : List ℕ) (few : length places ≤ tuples_size s) where
    -- structures, tuples over their places, and blocks
    body_written : over (over (over (over out from places) 64 infos) to blocks) from tuples ≡ over out 64 (infos ++ (tuples ++ blocks))
    unfolding tuples_size
    body_written =
        over_swap (over (over out from places) 64 infos) from tuples to blocks (omega arith)
        ∙ ap (λ (z : List ℕ). over (over z from tuples) to blocks) (over_swap out 64 infos from places (omega (arith, infos_end)))
        ∙ ap (λ (z : List ℕ). over z to blocks) (over_again (over out 64 infos) from places tuples few)
        ∙ sym (rw (over_append infos (tuples ++ blocks) out 64, infos_end, over_append tuples blocks (over out 64 infos) from, tuples_end))

    -- with the headers before them
    head_written : over (over (over out 64 (infos ++ (tuples ++ blocks))) 0 front) 48 (infos_header s)
        ≡ over out 0 ((front ++ infos_header s) ++ (infos ++ (tuples ++ blocks)))
    head_written =
        let body = infos ++ (tuples ++ blocks) in
        let behind : 48 ≡ 0 + length front = omega (arith, front_long) in
        let last : 64 ≡ 0 + length (front ++ infos_header s) = omega (arith, head_long) in
        ap (λ (z : ℕ). over (over (over out 64 body) 0 front) z (infos_header s)) behind
        ∙ sym (over_append front (infos_header s) (over out 64 body) 0)
        ∙ over_swap out 0 (front ++ infos_header s) 64 body (omega (arith, head_long))
        ∙ ap (λ (z : ℕ). over (over out 0 (front ++ infos_header s)) z body) last
        ∙ sym (over_append (front ++ infos_header s) body out 0)

    pub file_written : (end : ℕ) → end ≡ to + length blocks
        → over (over (over (over (over (over (over out from places) 64 infos) to blocks) from tuples) 0 front) 48 (infos_header s)) end (Format.profile).footer
        ≡ over out 0 (profile_file s)
    file_written end e =
        let whole = (front ++ infos_header s) ++ (infos ++ (tuples ++ blocks)) in
        let last : end ≡ 0 + length whole =
        omega (arith, e, length-append (front ++ infos_header s) (infos ++ (tuples ++ blocks)), head_long, body_long, infos_end, tuples_end) in
        ap (λ (z : List ℕ). over (over (over z 0 front) 48 (infos_header s)) end (Format.profile).footer) body_written
        ∙ ap (λ (z : List ℕ). over z end (Format.profile).footer) head_written
        ∙ ap (λ (z : ℕ). over (over out 0 whole) z (Format.profile).footer) last
        ∙ sym (over_append whole (Format.profile).footer out 0)
        ∙ ap (over out 0) (sym in_order)
