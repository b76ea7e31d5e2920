-- Request 2026-03 on file W, computed through the definitions that the promises cite: what a walk from a mark says and leaves. The trail is A,
-- its children C and D, then B, with ctxIds 1, 2, 3, 4.
use Prim.Native.Nat.{ℕ}
use mathlib.Core.Bool.{true, false}
use mathlib.Core.List.{List, [], ◌∷◌, ◌++◌}
use mathlib.Core.Path.{◌≡◌, refl}
use lib.ListN.{get_or, set, take, replicate}
use Rattle.le.specs.Number.{number}
use Rattle.cases.specs.Walks.{walked_from}
use Rattle.cases.specs.W.{w}

-- ---- marks: their length, the kind, the depth, and the number of each level

abbrev mark_of_none : List ℕ
mark_of_none = 5 ∷ 0 ∷ 1 ∷ 0 ∷ 0 ∷ []

-- of a root with a number
abbrev mark_of_root : (number : ℕ) → List ℕ
mark_of_root number = 9 ∷ 0 ∷ 1 ∷ 0 ∷ 1 ∷ number ∷ 0 ∷ 0 ∷ 0 ∷ []

abbrev mark_of_a : List ℕ
mark_of_a = mark_of_root 0

abbrev mark_of_b : List ℕ
mark_of_b = mark_of_root 1

-- of the child of A with a number, with a length field
abbrev pub mark_of_child : (length number : ℕ) → List ℕ
mark_of_child length number = length ∷ 0 ∷ 1 ∷ 0 ∷ 2 ∷ 0 ∷ 0 ∷ 0 ∷ 0 ∷ number ∷ 0 ∷ 0 ∷ 0 ∷ []

abbrev pub mark_of_c : List ℕ
mark_of_c = mark_of_child 13 0

abbrev mark_of_d : List ℕ
mark_of_d = mark_of_child 13 1

-- A has no third
abbrev mark_of_missing : List ℕ
mark_of_missing = mark_of_child 13 2

abbrev malformed_mark : List ℕ
malformed_mark = mark_of_child 12 0

-- ---- from a mark, with one asked for and 805 bytes for it

abbrev from : (given : List ℕ) (listing table : ℕ) → List (List ℕ)
from given listing table = walked_from w given true listing table 805

pub cases_from_mark :
    (from mark_of_c 1 5 ≡ (101 ∷ 1 ∷ []) ∷ (288 ∷ []) ∷ (0 ∷ 216 ∷ 264 ∷ 288 ∷ 0 ∷ []) ∷ (mark_of_d ++ replicate 792 9) ∷ [])
    × (from mark_of_missing 1 5 ≡ (18 ∷ 0 ∷ []) ∷ (8 ∷ []) ∷ replicate 5 0 ∷ replicate 805 9 ∷ [])
    × (from mark_of_missing 1 4 ≡ (13 ∷ 0 ∷ []) ∷ (8 ∷ []) ∷ replicate 4 0 ∷ replicate 805 9 ∷ [])
    × (from mark_of_d 1 4 ≡ (13 ∷ 0 ∷ []) ∷ (8 ∷ []) ∷ (0 ∷ 216 ∷ 264 ∷ 288 ∷ []) ∷ (mark_of_d ++ replicate 792 9) ∷ [])
    -- the context that it names is refused itself
    × (from mark_of_b 1 4 ≡ (13 ∷ 0 ∷ []) ∷ (8 ∷ []) ∷ replicate 4 0 ∷ replicate 805 9 ∷ [])
    × (from [] 0 5 ≡ (101 ∷ 0 ∷ []) ∷ [] ∷ replicate 5 0 ∷ (mark_of_none ++ replicate 800 9) ∷ [])
    × (from [] 1 0 ≡ (13 ∷ 0 ∷ []) ∷ (8 ∷ []) ∷ [] ∷ (mark_of_none ++ replicate 800 9) ∷ [])
    × (from mark_of_b 1 5 ≡ (0 ∷ 0 ∷ []) ∷ (8 ∷ []) ∷ (0 ∷ 216 ∷ 264 ∷ 288 ∷ 240 ∷ []) ∷ (mark_of_b ++ replicate 796 9) ∷ [])
    × (from malformed_mark 1 5 ≡ (18 ∷ 0 ∷ []) ∷ (8 ∷ []) ∷ replicate 5 7 ∷ replicate 805 9 ∷ [])
unfolding w walked_from
cases_from_mark = (refl, refl, refl, refl, refl, refl, refl, refl, refl)

-- ---- 17, then opening, then 18

-- W but for the first byte of its magic
abbrev spoilt : List ℕ
spoilt = set w 0 0

pub cases_in_order :
    (walked_from w malformed_mark true 1 5 804 ≡ (17 ∷ 0 ∷ []) ∷ (8 ∷ []) ∷ replicate 5 7 ∷ replicate 804 9 ∷ [])
    × (walked_from spoilt malformed_mark true 1 5 805 ≡ (2 ∷ 0 ∷ []) ∷ (8 ∷ []) ∷ replicate 5 7 ∷ replicate 805 9 ∷ [])
    × (walked_from spoilt malformed_mark true 1 5 804 ≡ (17 ∷ 0 ∷ []) ∷ (8 ∷ []) ∷ replicate 5 7 ∷ replicate 804 9 ∷ [])
    -- where none is asked for, the room is not looked at, and nothing is written there
    × (walked_from w mark_of_c false 1 5 3 ≡ (101 ∷ 1 ∷ []) ∷ (288 ∷ []) ∷ (0 ∷ 216 ∷ 264 ∷ 288 ∷ 0 ∷ []) ∷ replicate 3 9 ∷ [])
unfolding w walked_from
cases_in_order = (refl, refl, refl, refl)

-- ---- parts: each from the mark that the one before it left

-- as many of the bytes left for a mark as its length says
abbrev handed_on : List (List ℕ) → List ℕ
handed_on left = take (number 2 (get_or left 3 []) 0) (get_or left 3 [])

abbrev listing_in : List (List ℕ) → List ℕ
listing_in left = get_or left 1 []

abbrev part1 : List (List ℕ)
part1 = from [] 1 5

abbrev part2 : List (List ℕ)
part2 = from mark_of_a 1 5

abbrev part3 : List (List ℕ)
part3 = from mark_of_c 2 5

abbrev whole : List (List ℕ)
whole = from [] 4 5

pub cases_joined :
    (handed_on part1 ≡ mark_of_a)
    × (handed_on part2 ≡ mark_of_c)
    × (listing_in part1 ++ listing_in part2 ++ listing_in part3 ≡ listing_in whole)
    × (part3 ≡ (0 ∷ 2 ∷ []) ∷ (288 ∷ 240 ∷ []) ∷ (0 ∷ 216 ∷ 264 ∷ 288 ∷ 240 ∷ []) ∷ (mark_of_b ++ replicate 796 9) ∷ [])
    × (whole ≡ (0 ∷ 4 ∷ []) ∷ (216 ∷ 264 ∷ 288 ∷ 240 ∷ []) ∷ (0 ∷ 216 ∷ 264 ∷ 288 ∷ 240 ∷ []) ∷ (mark_of_b ++ replicate 796 9) ∷ [])
unfolding w walked_from
cases_joined = (refl, refl, refl, refl, refl)
