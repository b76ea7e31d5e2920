-- The elements of an array that lies in a section stand in the file, so that their places are u64.
use Rattle.std.specs.Prelude.{Err, Ok}
use Prim.Native.Nat.{ℕ, zero, suc, ◌+◌, ◌*◌, ◌^◌, ◌≤◌, ◌<◌}
use mathlib.Core.List.{List, [], ◌∷◌}
use mathlib.Core.Logic.{◌↔◌}
use mathlib.Core.Path.{◌≡◌, refl}
use native.Mathlib.Nat.{mul-le-mul_right, suc-mul}
use native.Mathlib.Numerals.{add-one}
use native.Mathlib.Decide.{dec_lt}
use native.Mathlib.Omega.{arith}
use borrow.Author.Tests.{lt-ltb, le-ltb}
use lib.ListN.{length, get_or}
use Rattle.refusal.specs.declared.Refusal.{Refusal}
use Rattle.refusal.specs.declared.Refusal.TheVariants as No
use Rattle.refusal.specs.Check.{either, on_answer}
use Rattle.open.specs.Format.{Content, nothing, array, roots, Section, Format, strings_section, section_at}
use Rattle.open.specs.Opening.{pairs, place_in, opened}
use Rattle.open.specs.Kept.{Sections}
use Rattle.open.proofs.Keeps.{opens_iff}
use Rattle.open.proofs.Answer.{sections}
use Rattle.open.proofs.Inside.{header_inside, array_inside}
use Rattle.array.specs.declared.Array.{Array}
use Rattle.array.specs.Element.{element_at, Bounded}
use Rattle.array.specs.Stored.{array_of, array_in}

module _ (a : Array) (i : ℕ) where
  -- element i ends where the array does at the latest
  pub element_ends : i < a.count → a.place + i * a.stride + a.stride ≤ a.place + a.count * a.stride
  element_ends h =
      let m : (i + 1) * a.stride ≤ a.count * a.stride = mul-le-mul_right a.stride (omega arith) in
      let n : (i + 1) * a.stride ≡ i * a.stride + a.stride = rw (add-one i) (suc-mul i a.stride) in
      omega arith

  pub place_fits : Bounded a → i < a.count → a.place + i * a.stride < 2 ^ 64
  place_fits b h = omega (arith, b.ends (omega arith), element_ends h)

  pub is_there : i < a.count → Ok (a.place + i * a.stride) ≡ element_at a i
  unfolding element_at either
  is_there h = rw (lt-ltb i a.count h)

  pub not_there : a.count ≤ i → Err No.Index ≡ element_at a i
  unfolding element_at either
  not_there h = rw (le-ltb i a.count h)

  -- an answer other than 15 is that of an element which is there
  pub on_element_answers : {A : Type 0} (refused : Refusal → A) (answer : ℕ → A) (y : A) → (refused No.Index ≡ y → ⊥)
      → (on_answer refused (element_at a i) answer ≡ y) ↔ ((i < a.count) × (answer (a.place + i * a.stride) ≡ y))
  unfolding on_answer
  on_element_answers refused answer y other = (
    λ e. elim (dec_lt i a.count) [ yes l ↦ (l, rw (← is_there l) at e) | no l ↦ absurd (other (rw (← not_there (omega arith)) at e)) ],
    λ h. rw (← is_there h.0) h.1,
  )

  -- 15 says that it is not there, where the answer is never 15
  pub on_element_refuses : {A : Type 0} (refused : Refusal → A) (answer : ℕ → A) → ((at : ℕ) → answer at ≡ refused No.Index → ⊥)
      → (on_answer refused (element_at a i) answer ≡ refused No.Index) ↔ (a.count ≤ i)
  unfolding on_answer
  on_element_refuses refused answer never = (
    λ e. elim (dec_lt i a.count) [ yes l ↦ absurd (never _ (rw (← is_there l) at e)) | no l ↦ omega arith ],
    λ l. rw (← not_there l),
  )

-- a section that has a header is one of the format's
has_header : (ss : List Section) (k : ℕ) → 0 < (get_or ss k strings_section).end → k < length ss
has_header [] k z = absurd (omega arith)
has_header (s ∷ ss) zero z = omega arith
has_header (s ∷ ss) (suc k) z = omega (arith, has_header ss k z)

-- the header of section k of an opened file, and its array
pub header_in : (f : Format) (file : List ℕ) {ps : List (List ℕ)} → Sections f file ps → (k : ℕ) → 0 < (section_at f k).end
    → place_in ps k + (section_at f k).end ≤ length file
header_in f file o k z = rw o.same (header_inside f file ((opens_iff f file).0 o.passed) k (has_header f.sections k z) z)

module _ (f : Format) (file : List ℕ) (l : length file < 2 ^ 64) {ps : List (List ℕ)} (o : Sections f file ps) where
  pub bounded : (k : ℕ) → 0 < (section_at f k).end → {a : Array} → a ≡ array_in f file ps k → Bounded a
  unfolding array_of
  bounded k z q = rw (q, o.same) (go (section_at f k).content refl)
    where
      go : (c : Content) → (section_at f k).content ≡ c → Bounded (array_of file (place_in (pairs f file) k) c)
      go nothing e = record { ends = λ c. absurd (omega arith) }
      go (array n s) e = record { ends = λ c. omega (arith, array_inside f file ((opens_iff f file).0 o.passed) k (has_header f.sections k z) n s e z c) }
      go roots e = record { ends = λ c. absurd (omega arith) }

-- its header and its array, in a file that opens
module _ (f : Format) (file : List ℕ) {ps : List (List ℕ)} (e : Ok ps ≡ opened f file) (k : ℕ) (z : 0 < (section_at f k).end) where
  pub header_there : place_in ps k + (section_at f k).end ≤ length file
  header_there = header_in f file (sections e) k z

  pub array_there : length file < 2 ^ 64 → {a : Array} → a ≡ array_in f file ps k → Bounded a
  array_there l q = bounded f file l (sections e) k z q
