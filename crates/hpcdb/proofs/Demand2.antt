-- What a C program learns of a lookup when it lends eight bytes: the code tells found from absent from refused, and what is written are
-- the value's very bytes.
use Rattle.std.specs.Prelude.{Err, Option}
use Prim.Native.Nat.{ℕ, ◌+◌, ◌≤◌}
use mathlib.Core.List.{List, ◌++◌}
use mathlib.Core.Logic.{◌↔◌}
use mathlib.Core.Path.{◌≡◌, refl, ap, ◌∙◌}
use native.Mathlib.Omega.{arith}
use borrow.Author.Tests.{le-leb}
use lib.ListN.{length, take, drop}
use lib.Seq.{take-append_seam, drop-append_seam}
use Rattle.le.specs.Number.{number}
use Rattle.refusal.specs.declared.Refusal.{Refusal}
use Rattle.refusal.specs.Number.{number_of}
use Rattle.refusal.specs.Check.{either, Answer, Found, Absent}
use Rattle.refusal.specs.Words.{code_in}
use Rattle.layout.specs.Bytes.{bytes}
use Rattle.layout.proofs.Laws.{length_bytes}
use Rattle.layout.specs.Octets.{Octets}
use Rattle.layout.proofs.Words.{bytes_number}
use Rattle.buffer.proofs.Laws.{over_eq}
use Rattle.refusal.proofs.Numbers.{positive, small}
use Rattle.open.specs.Format as Format
use Rattle.block.specs.declared.Shape.{Shape}
use Rattle.block.specs.declared.Block.{Block}
use Rattle.block.specs.Block.{profile_shape, cct_shape, lookup_words, found_words}
use Rattle.block.specs.Facts.{Holds}
use Rattle.lookup.specs.Lookup.{profile_lookup, cct_lookup}
use Rattle.lookup.specs.Demand2.{There, Says}
use Rattle.lookup.proofs.Demand2.{demand2}
use Rattle.hpcdb.specs.Value.{value_in, value_code, value_bytes}

module _ (out : List ℕ) (l : 8 ≤ length out) where
  -- with room, the code is the answer's own
  code_is : (answer : Answer (Option ℕ)) {n : ℕ} → code_in (lookup_words answer) ≡ n → value_code out answer ≡ n
  unfolding value_code either
  code_is answer e = rw (le-leb 8 (length out) l) e

  refused_code : (r : Refusal) {n : ℕ} → value_code out (Err r) ≡ n → number_of r ≡ n
  unfolding value_code either lookup_words found_words code_in
  refused_code r e = rw (le-leb 8 (length out) l) at e

  -- 0 exactly if a value is found
  pub code_0_iff : (answer : Answer (Option ℕ)) → (value_code out answer ≡ 0) ↔ ((bits : ℕ) × (answer ≡ Found bits))
  unfolding lookup_words found_words code_in
  code_0_iff (Found bits) = (λ e. (bits, refl), λ k. code_is (Found bits) refl)
  code_0_iff Absent = (
    λ e. absurd (let z = code_is Absent {n = 100} refl in omega arith),
    λ k. absurd (let q = k.1 in let z : ◌≡◌ {A = ℕ} 0 1 = cc in omega arith),
  )
  code_0_iff (Err r) = (
    λ e. absurd (omega (arith, positive r, refused_code r e)),
    λ k. absurd (let q = k.1 in let z : ◌≡◌ {A = ℕ} 0 1 = cc in omega arith),
  )

  -- 100 exactly if the pair is absent
  pub code_100_iff : (answer : Answer (Option ℕ)) → (value_code out answer ≡ 100) ↔ (answer ≡ Absent)
  unfolding lookup_words found_words code_in
  code_100_iff (Found bits) = (
    λ e. absurd (let z = code_is (Found bits) {n = 0} refl in omega arith),
    λ q. absurd (let z : ◌≡◌ {A = ℕ} 0 1 = cc in omega arith),
  )
  code_100_iff Absent = (λ e. refl, λ q. code_is Absent refl)
  code_100_iff (Err r) = (
    λ e. absurd (omega (arith, small r, refused_code r e)),
    λ q. absurd (let z : ◌≡◌ {A = ℕ} 0 1 = cc in omega arith),
  )

  written : (bits : ℕ) → value_bytes out (Found bits) ≡ bytes 8 bits ++ drop 8 out
  unfolding value_bytes value_in either
  written bits =
      let n : length (bytes 8 bits) ≡ 8 = length_bytes 8 bits in
      rw (le-leb 8 (length out) l) (rw n at (over_eq out 0 (bytes 8 bits) (rw n l)))

  -- the eight bytes written are those that stand in the file; the bytes behind them stay
  pub very_bytes : (file : List ℕ) → Octets file → (p : ℕ) → p + 8 ≤ length file
      → (take 8 (value_bytes out (Found (number 8 file p))) ≡ take 8 (drop p file))
      × (drop 8 (value_bytes out (Found (number 8 file p))) ≡ drop 8 out)
  very_bytes file octets p h =
      let x = bytes 8 (number 8 file p) in
      let n : length x ≡ 8 = length_bytes 8 (number 8 file p) in
      let front : take 8 (x ++ drop 8 out) ≡ x = rw n at (take-append_seam x (drop 8 out)) in
      let back : drop 8 (x ++ drop 8 out) ≡ drop 8 out = rw n at (drop-append_seam x (drop 8 out)) in (
        ap (take 8) (written (number 8 file p)) ∙ front ∙ bytes_number file octets 8 p h,
        ap (drop 8) (written (number 8 file p)) ∙ back,
      )

  -- ---- the customer's sentence, from C: by what a lookup says of its block (lookup/specs/Demand2.antt)

  module _ {f : Format.Format} {h : Shape} {file : List ℕ} {i outer inner : ℕ} {answer : Answer (Option ℕ)} (s : Says f h file i outer inner answer) where
    -- 0 exactly if the file opens and the asked block is there, well formed and holds the pair
    found_code : (value_code out answer ≡ 0) ↔ ((bits : ℕ) × ((b : Block) × (There f h file i b × Holds file h b outer inner bits)))
    found_code = (
      λ e. let k = (code_0_iff answer).0 e in (k.0, (s.found k.0).0 k.1),
      λ k. (code_0_iff answer).1 (k.0, (s.found k.0).1 k.1),
    )

    -- 100 exactly if it is there, well formed and does not hold it
    absent_code : (value_code out answer ≡ 100) ↔ ((b : Block) × (There f h file i b × ((bits : ℕ) → Holds file h b outer inner bits → ⊥)))
    absent_code = (λ e. s.absent.0 ((code_100_iff answer).0 e), λ k. (code_100_iff answer).1 (s.absent.1 k))

  module _ (file : List ℕ) (profile context metric : ℕ) where
    pub profile_found : (value_code out (profile_lookup file profile context metric) ≡ 0)
        ↔ ((bits : ℕ) × ((b : Block) × (There Format.profile profile_shape file profile b × Holds file profile_shape b context metric bits)))
    profile_found = found_code (demand2.in_profile_db file profile context metric)

    pub profile_absent : (value_code out (profile_lookup file profile context metric) ≡ 100)
        ↔ ((b : Block) × (There Format.profile profile_shape file profile b × ((bits : ℕ) → Holds file profile_shape b context metric bits → ⊥)))
    profile_absent = absent_code (demand2.in_profile_db file profile context metric)

    pub cct_found : (value_code out (cct_lookup file profile context metric) ≡ 0)
        ↔ ((bits : ℕ) × ((b : Block) × (There Format.cct cct_shape file context b × Holds file cct_shape b metric profile bits)))
    cct_found = found_code (demand2.in_cct_db file profile context metric)

    pub cct_absent : (value_code out (cct_lookup file profile context metric) ≡ 100)
        ↔ ((b : Block) × (There Format.cct cct_shape file context b × ((bits : ℕ) → Holds file cct_shape b metric profile bits → ⊥)))
    cct_absent = absent_code (demand2.in_cct_db file profile context metric)
