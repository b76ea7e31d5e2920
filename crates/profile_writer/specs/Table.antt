-- The places of the tuples, which stand for a while where the tuples will be: eight bytes each, and a tuple has at least eight.
use Rattle.std.specs.Prelude.{ℕ, ◌+◌, ◌*◌, List}
use Rattle.layout.specs.Bytes.{bytes}
use Rattle.layout.specs.Many.{many}
use Rattle.seq.specs.Sequence.{sum}
use Rattle.profile_lists.specs.Lists.{word_of}

-- where tuple t is, of tuples that are at a place
abbrev pub place_of_tuple : (tuples : List ℕ) (at t : ℕ) → ℕ
place_of_tuple tuples at t = at + t * 8 + sum (word_of tuples) t * 16

abbrev pub places_of : (tuples : List ℕ) (at n : ℕ) → List ℕ
places_of tuples at n = many (λ t. bytes 8 (place_of_tuple tuples at t)) n
