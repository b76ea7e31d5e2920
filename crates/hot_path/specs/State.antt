-- What holds while the hottest of some contexts is looked for, and on the way down: for the contracts of the code.
use Rattle.std.specs.Prelude.{ℕ, ◌≤◌, List, length, take, Err, Ok, Option, Some, None}
use Rattle.refusal.specs.Check.{either, Answer}
use Rattle.float.specs.Float.{less}
use Rattle.open.specs.Opening.{field}
use Rattle.block.specs.declared.Block.{Block}
use Rattle.block.specs.Block.{profile_shape, lookup_in}
use Rattle.context.specs.Context.{ctx_id}
use Rattle.context.specs.Entry.{Entry}
use Rattle.traversal.specs.Traversal.{depth_limit}
use Rattle.traversal.specs.Children.{places_at}
use Rattle.hot_path.specs.declared.Lead.{Lead}
use Rattle.hot_path.specs.HotPath.{Candidate, candidates, Descent, along, stopped, descent_from}

-- the value of a ctxId in a checked block
abbrev pub block_value : (db : List ℕ) → Block → (metric : ℕ) → (id : ℕ) → Answer (Option ℕ)
block_value db b metric id = Ok (lookup_in db profile_shape b id metric)

-- the candidates in an array of contexts, by the place where its size and place stand
abbrev pub candidates_at : (meta : List ℕ) → (value : ℕ → Answer (Option ℕ)) → (at : ℕ) → List Candidate
candidates_at meta value at = candidates (λ p. p) (λ p. value (field meta p ctx_id)) (places_at meta at)

-- the way down a trail, by a checked block
abbrev pub descent_by : (db : List ℕ) → Block → (metric : ℕ) → List Entry → Descent
descent_by db b metric l = descent_from (block_value db b metric) l depth_limit 0

-- one candidate more: it leads if it is the first, or if it is greater
unfoldable pub lead_with : Option Lead → (place bits : ℕ) → Option Lead
lead_with None place bits = Some (record { place = place; bits = bits })
lead_with (Some t) place bits = either (less t.bits bits) (Some (record { place = place; bits = bits })) (Some t)

-- the way down by an answer, and by the words of which the first are its places
unfoldable pub descent_in : Answer ℕ → (words : List ℕ) → Descent
descent_in (Ok n) words = along (take n words)
descent_in (Err r) words = stopped r

-- there are so many words
abbrev pub WordsFor : Answer ℕ → (words : List ℕ) → Type 0
WordsFor (Ok n) words = n ≤ length words
WordsFor (Err r) words = Unit
