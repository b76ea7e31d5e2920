-- Answers that come to a string by way of checks: each check passes, and then the answer is that of the rest, or it refuses by another number
-- than a string's 8 and 19.
use Rattle.std.specs.Prelude.{Ok, Err}
use Rattle.refusal.specs.Check.{Answer, on_answer}
use Rattle.text.specs.declared.Text.{Text}
use Prim.Native.Nat.{ℕ}
use mathlib.Core.List.{List, []}
use mathlib.Core.Logic.Iff
use mathlib.Core.Logic.{◌↔◌}
use mathlib.Core.Path.{◌≡◌, refl, sym, ap, subst}
use native.Mathlib.Omega.{arith}
use lib.ListN.{take, drop}
use Rattle.refusal.specs.declared.Refusal.{Refusal}
use Rattle.refusal.specs.declared.Refusal.TheVariants as No
use Rattle.refusal.specs.Number.{number_of}
use Rattle.refusal.specs.Words.{code_in}
use Rattle.refusal.proofs.Numbers.{positive, same_number}
use Rattle.utf8.specs.Encoding.{Encoded, encodings}
use Rattle.text.specs.String.{string_at, text_code, text_bytes, given_text}
use Rattle.text.specs.Facts.{Sited, PlaceSays, CodeSays, StringSays}
use Rattle.refusal.proofs.Checks.{err_same}
use Rattle.text.proofs.Facts.{string_says}

-- an answer that comes of a string: no refusal, 8 or 19
abbrev pub OfString : {A : Type 0} → (refused : Refusal → A) → A → Type 0
OfString refused y = (r : Refusal) → (number_of r ≡ 8 → ⊥) → (number_of r ≡ 19 → ⊥) → refused r ≡ y → ⊥

module _ {A : Type 0} (refused : Refusal → A) (own : (r s : Refusal) → refused r ≡ refused s → r ≡ s) where
  pub 8-of-string : OfString refused (refused No.String)
  8-of-string r k m e = k (ap number_of (own r No.String e))

  pub 19-of-string : OfString refused (refused No.Spelling)
  19-of-string r k m e = m (ap number_of (own r No.Spelling e))

at_of_string : (p n : ℕ) → OfString Err (given_text p n)
at_of_string p n r k m e = let z : ◌≡◌ {A = ℕ} 0 1 = cc in omega arith

same_refusal : (r s : Refusal) → ◌≡◌ {A = Answer Text} (Err r) (Err s) → r ≡ s
same_refusal r s e = err_same e

-- an answer gives such a one exactly if it is read, and the rest gives it
abbrev pub LeadsTo : (Read : Type 0) (rest answer : Answer Text) → Type 0
LeadsTo Read rest answer = (y : Answer Text) → OfString Err y → (answer ≡ y) ↔ (Read × (rest ≡ y))

pub leads_then : {P Q : Type 0} {last rest answer : Answer Text} → LeadsTo P rest answer → LeadsTo Q last rest → LeadsTo (P × Q) last answer
leads_then a b y o = (
  λ e. let h = (a y o).0 e in let k = (b y o).0 h.1 in ((h.0, k.0), k.1),
  λ h. (a y o).1 (h.0.0, (b y o).1 (h.0.1, h.1)),
)

place_says : (file : List ℕ) (at : Sited) {answer : Answer Text} → LeadsTo at.Read (string_at file at.section at.place) answer
    → PlaceSays file at answer
place_says file at reads =
    let s = string_says file at.section at.place in
    record {
      handed-back = λ p n. (
        λ e. let h = (reads (given_text p n) (at_of_string p n)).0 e in (h.0, ((s.handed-back p n).0 h.1).1),
        λ h. (reads (given_text p n) (at_of_string p n)).1 (h.0, (s.handed-back p n).1 (tt, h.1)),
      );
      is_8 = (
        λ e. let h = (reads (Err No.String) (8-of-string Err same_refusal)).0 e in (h.0, (s.is_8.0 h.1).1),
        λ h. (reads (Err No.String) (8-of-string Err same_refusal)).1 (h.0, s.is_8.1 (tt, h.1)),
      );
      is_19 = (
        λ e. let h = (reads (Err No.Spelling) (19-of-string Err same_refusal)).0 e in (h.0, (s.is_19.0 h.1).1),
        λ h. (reads (Err No.Spelling) (19-of-string Err same_refusal)).1 (h.0, s.is_19.1 (tt, h.1)),
      );
    }

-- of an answer that has more in it, the string is that of the text it was made from
pub text_in : {A : Type 0} (refused : Refusal → A) (textIn : A → Answer Text) (answer : Text → A) → ((r : Refusal) → textIn (refused r) ≡ Err r)
    → ((t : Text) → textIn (answer t) ≡ Ok t) → (t : Answer Text) → textIn (on_answer refused t answer) ≡ t
unfolding on_answer
text_in refused textIn answer own found (Ok it) = found it
text_in refused textIn answer own found (Err r) = own r

-- ---- by its number

text_refused_code : (t : Answer Text) (r : Refusal) → (text_code t ≡ number_of r) ↔ (t ≡ Err r)
unfolding code_in
text_refused_code (Ok it) r = (
  λ e. absurd (omega (arith, positive r)),
  λ e. absurd (let z : ◌≡◌ {A = ℕ} 0 1 = cc in omega arith),
)
text_refused_code (Err s) r = (λ e. ap Err (same_number s r e), λ e. let z : s ≡ r = cc in ap number_of z)

text_code_0 : (t : Answer Text) → (text_code t ≡ 0) ↔ ((p : ℕ) × ((n : ℕ) × (t ≡ given_text p n)))
unfolding code_in
text_code_0 (Ok it) = (λ e. (it.place, (it.length, refl)), λ h. refl)
text_code_0 (Err s) = (λ e. absurd (omega (arith, positive s)), λ h. absurd (let y = h.1.1 in let z : ◌≡◌ {A = ℕ} 0 1 = cc in omega arith))

module _ (file : List ℕ) (at : Sited) {answer : Answer Text} (s : PlaceSays file at answer) where
  code_says : CodeSays file at (text_code answer)
  code_says = record {
    code_0 = (
      λ e. let h = (text_code_0 answer).0 e in let k = (s.handed-back h.0 h.1.0).0 h.1.1 in (k.0, (h.1.0, k.1.1)),
      λ h. (text_code_0 answer).1 (at.place, (h.1.0, (s.handed-back at.place h.1.0).1 (h.0, (refl, h.1.1)))),
    );
    code_8 = Iff.trans (text_refused_code answer No.String) s.is_8;
    code_19 = Iff.trans (text_refused_code answer No.Spelling) s.is_19;
  }

  refused_bytes : (t : Answer Text) → (text_code t ≡ 0 → ⊥) → text_bytes file t ≡ []
  unfolding text_bytes code_in
  refused_bytes (Ok it) h = absurd (h refl)
  refused_bytes (Err r) h = refl

  encoded_of : (t : Answer Text) → answer ≡ t → Encoded (text_bytes file t)
  unfolding text_bytes encodings
  encoded_of (Ok it) e = let k = (s.handed-back it.place it.length).0 e in subst (λ (q : ℕ). Encoded (take it.length (drop q file))) (sym k.1.0) k.1.1.1
  encoded_of (Err r) e = record { codes = []; scalars = tt; same = refl }

  both_forms : StringSays file at answer
  unfolding text_bytes
  both_forms = record {
    place = s;
    part = record {
      codes = code_says;
      bytes = λ n read text. rw ((s.handed-back at.place n).1 (read, (refl, text)));
      no_bytes = refused_bytes answer;
      encoded = encoded_of answer refl;
    };
  }

-- ---- what is read

pub says_read : (file : List ℕ) (at : Sited) {answer : Answer Text} → LeadsTo at.Read (string_at file at.section at.place) answer
    → StringSays file at answer
says_read file at reads = both_forms file at (place_says file at reads)
