-- The hot path: document 02, request 2026-08. "from the dearest root down, always the child with the greatest value of one metric in one
-- profile, the first among equals, roots too, until no child has a value".
use Rattle.total.specs.declared.Totals.{Totals}
use Rattle.std.specs.Prelude.{ℕ, zero, suc, List, [], ◌∷◌, ◌++◌, ◌≡◌, leb, length, get_or, Err, Ok, Option, Some}
use Rattle.refusal.specs.declared.Refusal.{Refusal}
use Rattle.refusal.specs.declared.Refusal.TheVariants as No
use Rattle.refusal.specs.Check.{either, Answer, on_answer, Absent, Found}
use Rattle.refusal.specs.Words.{number_words, code_in}
use Rattle.buffer.specs.Over.{over}
use Rattle.total.specs.Totals.{totals_of}
use Rattle.lookup.specs.Lookup.{profile_block, profile_lookup}
use Rattle.context.specs.Entry.{Entry}
use Rattle.traversal.specs.Traversal.{Asked, Outcome, on, cut, refused, depth_limit}
use Rattle.traversal.specs.Children.{children_of}
use Rattle.traversal.specs.Walk as Walk
use Rattle.traversal.specs.Walk.{walk_of, walked_of, place_of, ask_with, unmarked, Leaves}

-- ---- the hottest of some contexts

-- a context that has a value: its place, and the value by its bits
pub record Candidate : Type 0 where
  pub place : ℕ
  pub bits : ℕ

-- a checked block refuses no lookup
unfoldable pub candidate : (place : ℕ) → Answer (Option ℕ) → List Candidate
candidate place (Found bits) = record { place = place; bits = bits } ∷ []
candidate place Absent = []
candidate place (Err r) = []

-- those of some contexts, by the place and the value of each
unfoldable pub candidates : {A : Type 0} → (place : A → ℕ) (value : A → Answer (Option ℕ)) → List A → List Candidate
candidates place value [] = []
candidates place value (e ∷ es) = candidate (place e) (value e) ++ candidates place value es

abbrev no_candidate : Candidate
no_candidate = record { place = 0; bits = 0 }

abbrev pub places_of : List Candidate → ℕ → ℕ
places_of cs k = (get_or cs k no_candidate).place

abbrev pub bits_of : List Candidate → ℕ → ℕ
bits_of cs k = (get_or cs k no_candidate).bits

-- the first greatest as totals have it; 16 where a value is not finite
unfoldable pub hottest_in : Answer (Option Totals) → Answer (Option ℕ)
hottest_in (Ok (Some it)) = Found it.greatest_of
hottest_in Absent = Absent
hottest_in (Err r) = Err r

unfoldable pub hottest_of : List Candidate → Answer (Option ℕ)
hottest_of cs = hottest_in (totals_of (places_of cs) (bits_of cs) (length cs))

-- ---- the way down

-- the places that it leads along to its end, or the refusal that stops it
pub data Descent : Type 0 where
  along : List ℕ → Descent
  stopped : Refusal → Descent

-- with one place before it
unfoldable pub with_place : (place : ℕ) → Descent → Descent
with_place place (along ps) = along (place ∷ ps)
with_place place (stopped r) = stopped r

unfoldable pub follow : Answer (Option ℕ) → (below : ℕ → Descent) → Descent
follow (Found place) below = with_place place (below place)
follow Absent below = along []
follow (Err r) below = stopped r

-- the hottest of the contexts on a trail with this parent; of the roots for 0. Values are looked up by the ctxId
abbrev pub hottest_below : (value : ℕ → Answer (Option ℕ)) → List Entry → (parent : ℕ) → Answer (Option ℕ)
hottest_below value l parent = hottest_of (candidates place_of (λ e. value e.ctx_id) (children_of parent l))

-- from there on, at most so many levels
unfoldable pub descent_from : (value : ℕ → Answer (Option ℕ)) → List Entry → (levels parent : ℕ) → Descent
descent_from value l zero parent = along []
descent_from value l (suc levels) parent = follow (hottest_below value l parent) (descent_from value l levels)

-- ---- of two files

-- "The metadata is walked first and must end whole: a cut walk gives 17."
unfoldable pub on_whole : {A : Type 0} → (Refusal → A) → Outcome → (List Entry → A) → A
on_whole refuse (on l) answer = answer l
on_whole refuse (cut l) answer = refuse No.Room
on_whole refuse (refused r l) answer = refuse r

-- what is asked, and the lent slices
pub record Question : Type 0 where
  pub meta : List ℕ
  pub db : List ℕ
  pub profile : ℕ
  pub metric : ℕ

abbrev pub question : (meta db : List ℕ) (profile metric : ℕ) → Question
question meta db profile metric = record { meta = meta; db = db; profile = profile; metric = metric }

pub record PathSlices : Type 0 where
  pub listing : List ℕ
  pub table : List ℕ
  pub path : List ℕ

abbrev pub path_slices : (listing table path : List ℕ) → PathSlices
path_slices listing table path = record { listing = listing; table = table; path = path }

-- those of the walk
abbrev pub walk_slices : PathSlices → Walk.Slices
walk_slices s = Walk.slices s.listing s.table []

abbrev pub walk_asked : Question → PathSlices → Asked
walk_asked q s = ask_with q.meta unmarked (walk_slices s)

-- "the greatest value of one metric in one profile"
abbrev pub value_of : Question → (id : ℕ) → Answer (Option ℕ)
value_of q id = profile_lookup q.db q.profile id q.metric

-- "Refusals: the walk's, then those of opening profile.db, 15 for the profile, those of its block, then 16 if a value looked up on the way
-- down is not finite". No context is deeper than the limit
unfoldable pub hot_descent : Question → PathSlices → Descent
hot_descent q s =
    on_whole stopped (walk_of (walk_asked q s))
    (λ l. on_answer stopped (profile_block q.db q.profile) (λ b. descent_from (value_of q) l depth_limit 0))

-- "then 17 if the path slice is too short"
unfoldable pub hot_answer : (room : ℕ) → Descent → Answer ℕ
hot_answer room (along ps) = either (leb (length ps) room) (Ok (length ps)) (Err No.Room)
hot_answer room (stopped r) = Err r

-- "whose first words receive the path's places ..; the rest is untouched"; "the path slice is untouched then"
unfoldable pub path_after : (was : List ℕ) → Descent → List ℕ
path_after was (along ps) = either (leb (length ps) (length was)) (over was 0 ps) was
path_after was (stopped r) = was

abbrev pub hot_path_of : Question → PathSlices → Answer ℕ
hot_path_of q s = hot_answer (length s.path) (hot_descent q s)

-- what is left: the answer, as `say` puts it; the listing and the table as the walk leaves them; the path
pub record LeavesPath {A : Type 0} (say : Answer ℕ → A) (q : Question) (was : PathSlices) (answer : A) (now : PathSlices) : Type 0 where
  pub answers : answer ≡ say (hot_path_of q was)
  pub walked : Leaves Walk.itself q.meta (walk_slices was) (walked_of (walk_of (walk_asked q was))) (walk_slices now)
  pub placed : now.path ≡ path_after was.path (hot_descent q was)

-- by the answer itself
abbrev pub the_answer : Answer ℕ → Answer ℕ
the_answer a = a

-- an answer in words: its number, then the number of places
abbrev pub hot_path_words : Answer ℕ → List ℕ
hot_path_words a = number_words a

abbrev pub hot_path_code : Answer ℕ → ℕ
hot_path_code a = code_in (hot_path_words a)
