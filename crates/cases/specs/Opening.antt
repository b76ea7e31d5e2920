-- What opening answers to W: document 01's places and sizes.
use Rattle.std.specs.Prelude.{ℕ, List, [], ◌∷◌}

unfoldable pub w_sections : List (List ℕ)
w_sections =
    (144 ∷ 18 ∷ [])
    ∷ (168 ∷ 9 ∷ [])
    ∷ (184 ∷ 15 ∷ [])
    ∷ (200 ∷ 112 ∷ [])
    ∷ (0 ∷ 0 ∷ [])
    ∷ (312 ∷ 14 ∷ [])
    ∷ (328 ∷ 14 ∷ [])
    ∷ (344 ∷ 14 ∷ [])
    ∷ []
