-- What the strings of meta.db say, in facts: the file opens, the element is there, and then the string decides. Of answers with more in
-- them, `textIn` takes the string.
use Rattle.std.specs.Prelude.{Err, Ok}
use Rattle.text.specs.declared.Text.{Text}
use Prim.Native.Nat.{ℕ, ◌<◌}
use mathlib.Core.List.{List}
use mathlib.Core.Path.{◌≡◌, refl}
use native.Mathlib.Omega.{arith}
use Rattle.refusal.specs.declared.Refusal.{Refusal}
use Rattle.refusal.specs.declared.Refusal.TheVariants as No
use Rattle.refusal.specs.Check.{if_passed, Check, Answer, on_answer, Passed}
use Rattle.open.specs.Format.{meta}
use Rattle.open.specs.Names as Section
use Rattle.open.specs.Opening.{pairs, opening, on_opened}
use Rattle.open.specs.Kept.{Opens}
use Rattle.open.proofs.Given.{on_opened_answers}
use Rattle.text.specs.Facts.{StringSays}
use Rattle.text.proofs.Says.{LeadsTo, leads_then, text_in, says_read}
use Rattle.array.specs.declared.Array.{Array}
use Rattle.array.specs.Element.{element_at}
use Rattle.array.proofs.Bounds.{on_element_answers}
use Rattle.meta.specs.Names.{string_of, element_text, general_in, general_text, kind_in, kind_at, module_in, module_at, is_copied, source_of, source_in, source_at, source_text, given_source}
use Rattle.meta.specs.Facts.{section_of, array_at, element_place, general_string, element_string, source_string, NamesSay}

-- ---- the checks on the way

-- an answer's string, taken behind a check or before it
module _ {A : Type 0} (refused : Refusal → A) (textIn : A → Answer Text) (own : (r : Refusal) → textIn (refused r) ≡ Err r) where
  behind_check : (c : Check) (x : A) → textIn (if_passed refused c x) ≡ if_passed Err c (textIn x)
  unfolding on_answer
  behind_check Passed x = refl
  behind_check (Err r) x = own r

  behind_element : (e : Answer ℕ) (answer : ℕ → A) → textIn (on_answer refused e answer) ≡ on_answer Err e (λ p. textIn (answer p))
  unfolding on_answer
  behind_element (Ok p) answer = refl
  behind_element (Err r) answer = own r

  pub opened_leads : (file : List ℕ) (answer : List (List ℕ) → A)
      → LeadsTo (Opens meta file) (textIn (answer (pairs meta file))) (textIn (on_opened refused meta file answer))
  unfolding on_opened
  opened_leads file answer y o =
      rw (behind_check (opening meta file) (answer (pairs meta file)))
      (on_opened_answers Err meta file (λ ps. textIn (answer ps)) y (λ r k. o r (λ z. omega arith) (λ z. omega arith)))

  pub element_leads : (a : Array) (i : ℕ) (answer : ℕ → A)
      → LeadsTo (i < a.count) (textIn (answer (element_place a i))) (textIn (on_answer refused (element_at a i) answer))
  element_leads a i answer y o =
      rw (behind_element (element_at a i) answer)
      (on_element_answers a i Err (λ p. textIn (answer p)) y (o No.Index (λ z. omega arith) (λ z. omega arith)))

-- ---- the string itself, alone or with more beside it

source-text : (file section : List ℕ) (at : ℕ) → source_text (source_of file section at) ≡ string_of file section at 8
unfolding source_of source_text
source-text file section at =
    text_in Err source_text (λ t. given_source t.place t.length (is_copied file at)) (λ r. refl) (λ t. refl) (string_of file section at 8)

-- ---- all of them

-- an answer of a file that opens
module _ (file : List ℕ) where
  of_general : (offset : ℕ) → StringSays file (general_string file offset) (general_text file offset)
  unfolding general_text string_of
  of_general offset = says_read file (general_string file offset) (opened_leads Err (λ t. t) (λ r. refl) file (λ ps. general_in file ps offset))

  of_element : (k t i offset : ℕ) (answer : List (List ℕ) → Answer Text)
      → answer (pairs meta file) ≡ element_text file (section_of file t) (array_at file k) i offset
      → StringSays file (element_string file k t i offset) (on_opened Err meta file answer)
  unfolding element_text string_of
  of_element k t i offset answer e =
      says_read file (element_string file k t i offset)
      (leads_then (opened_leads Err (λ t. t) (λ r. refl) file answer)
      (rw e (element_leads Err (λ t. t) (λ r. refl) (array_at file k) i (λ p. string_of file (section_of file t) p offset))))

  of_source : (i : ℕ) → StringSays file (source_string file i) (source_text (source_at file i))
  unfolding source_at source_text string_of
  of_source i =
      says_read file (source_string file i)
      (leads_then (opened_leads Err source_text (λ r. refl) file (λ ps. source_in file ps i))
      (λ y o.
      rw (source-text file (section_of file Section.strings) (element_place (array_at file Section.files) i)) at
      (element_leads Err source_text (λ r. refl) (array_at file Section.files) i (λ p. source_of file (section_of file Section.strings) p) y o)))

  pub names_say : NamesSay file
  unfolding kind_at module_at
  names_say = record {
    title = of_general 0;
    description = of_general 8;
    kind = λ i. of_element Section.id_names Section.id_names i 0 (λ ps. kind_in file ps i) refl;
    module_path = λ i. of_element Section.modules Section.strings i 8 (λ ps. module_in file ps i) refl;
    source_path = of_source;
  }
