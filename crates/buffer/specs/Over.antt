-- Lent words, written over.
use Rattle.std.specs.Prelude.{ℕ, List}
use Rattle.std.proofs.lemmas.List.Edits.{sets}

-- a list with some words written over it from a place on; what would be past its end is left out
unfoldable pub over : List ℕ → (at : ℕ) → (words : List ℕ) → List ℕ
over out at words = sets out at words
