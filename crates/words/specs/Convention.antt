-- The C convention: the answer's number is the result, and its values go to lent words.
use Rattle.std.specs.Prelude.{ℕ, zero, suc, List, [], ◌∷◌, ◌++◌}
use Rattle.refusal.specs.Words.{refused_words}
use Rattle.open.specs.Format.{Format, meta}
use Rattle.open.specs.Opening.{on_opened}
use Rattle.meta.specs.Names.{counts_in}

-- lent words after an answer: the values where its number is 0, and else as they were
unfoldable pub words_in : (was answer : List ℕ) → List ℕ
words_in was [] = was
words_in was (zero ∷ values) = values
words_in was (suc n ∷ values) = was

-- place and size of each section, in header order
unfoldable pub flat : List (List ℕ) → List ℕ
flat [] = []
flat (p ∷ ps) = p ++ flat ps

-- what an opened file answers, by its pairs, or the refusal
abbrev pub open_words : Format → List ℕ → (List (List ℕ) → List ℕ) → List ℕ
open_words f file answer = on_opened refused_words f file (λ ps. 0 ∷ answer ps)

abbrev pub sections_words : Format → List ℕ → List ℕ
sections_words f file = open_words f file flat

abbrev pub counts_words : List ℕ → List ℕ
counts_words file = open_words meta file (counts_in file)
