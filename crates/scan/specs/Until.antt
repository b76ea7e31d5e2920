-- The search for a byte.
use Rattle.std.specs.Prelude.{ℕ, suc, List, [], ◌∷◌, eqb}
use Rattle.refusal.specs.Check.{either}

-- how many bytes stand before the first that is `stop`; all where none is
unfoldable pub until : (stop : ℕ) → List ℕ → ℕ
until stop [] = 0
until stop (b ∷ bytes) = either (eqb b stop) 0 (suc (until stop bytes))
