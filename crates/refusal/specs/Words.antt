-- Answers in words: an answer's number, and then its values. A refusal hands back its number and nothing else.
use Rattle.std.specs.Prelude.{ℕ, List, [], ◌∷◌, Ok, Err}
use Rattle.refusal.specs.declared.Refusal.{Refusal}
use Rattle.refusal.specs.Number.{number_of}
use Rattle.refusal.specs.Check.{Answer}

abbrev pub refused_words : Refusal → List ℕ
refused_words r = number_of r ∷ []

unfoldable pub code_in : (answer : List ℕ) → ℕ
code_in [] = 0
code_in (code ∷ values) = code

-- the answer of a number: 0, then the number
abbrev pub number_words : Answer ℕ → List ℕ
number_words (Ok n) = 0 ∷ n ∷ []
number_words (Err r) = refused_words r
