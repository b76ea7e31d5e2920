-- Request 2026-07 on file W, computed through the definitions that the promises cite: "For file W the column reads 0, 216, 216, 0."
use Prim.Native.Nat.{ℕ}
use mathlib.Core.List.{List, [], ◌∷◌, ◌++◌}
use mathlib.Core.Path.{◌≡◌, refl}
use lib.ListN.{set, replicate}
use Rattle.cases.specs.Walks.{walked_records}
use Rattle.cases.specs.W.{w}
use Rattle.cases.proofs.FromMark.{mark_of_c}

-- a record of W, whose contexts have no flex
abbrev shown : (place depth ctx_id relation lexical_type parent : ℕ) → List ℕ
shown place depth ctx_id relation lexical_type parent = place ∷ depth ∷ ctx_id ∷ relation ∷ lexical_type ∷ 0 ∷ 0 ∷ 0 ∷ 0 ∷ 0 ∷ 0 ∷ parent ∷ []

abbrev of_a : List ℕ
of_a = shown 216 1 1 1 0 0

abbrev of_c : List ℕ
of_c = shown 264 2 2 0 1 216

abbrev of_d : List ℕ
of_d = shown 288 2 3 0 2 216

abbrev of_b : List ℕ
of_b = shown 240 1 4 1 0 0

-- W with one root, A, and B as the child of C: a third level, and D after a sibling that has a child
abbrev deeper : List ℕ
deeper = set (set (set w 200 24) 264 24) 272 240

pub cases_parents :
    (walked_records w [] 4 5 48 ≡ (0 ∷ 4 ∷ []) ∷ (of_a ++ of_c ++ of_d ++ of_b) ∷ [])
    -- on from C, whose parent A is not listed
    × (walked_records w mark_of_c 4 5 48 ≡ (0 ∷ 2 ∷ []) ∷ (of_d ++ of_b ++ replicate 24 9) ∷ [])
    × (walked_records deeper [] 4 5 48 ≡ (0 ∷ 4 ∷ []) ∷ (of_a ++ of_c ++ shown 240 3 4 1 0 264 ++ of_d) ∷ [])
    -- whole records only
    × (walked_records w [] 4 5 11 ≡ (0 ∷ 4 ∷ []) ∷ replicate 11 9 ∷ [])
    × (walked_records w [] 4 5 12 ≡ (0 ∷ 4 ∷ []) ∷ of_a ∷ [])
    × (walked_records w [] 4 5 23 ≡ (0 ∷ 4 ∷ []) ∷ (of_a ++ replicate 11 9) ∷ [])
    × (walked_records w [] 4 5 24 ≡ (0 ∷ 4 ∷ []) ∷ (of_a ++ of_c) ∷ [])
unfolding w walked_records
cases_parents = (refl, refl, refl, refl, refl, refl, refl)
