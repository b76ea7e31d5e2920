-- Many lookups in one block, which is checked once. Pairs of an outer and an inner id stand one after the other.
use Rattle.std.specs.Prelude.{ℕ, zero, suc, ◌+◌, ◌*◌, ◌/◌, List, [], ◌++◌, leb, length, get_or, Err}
use Rattle.refusal.specs.declared.Refusal.{Refusal}
use Rattle.refusal.specs.declared.Refusal.TheVariants as No
use Rattle.refusal.specs.Check.{rule, if_passed, Check, Answer, on_answer, Passed}
use Rattle.buffer.specs.Over.{over}
use Rattle.block.specs.declared.Shape.{Shape}
use Rattle.block.specs.declared.Block.{Block}
use Rattle.block.specs.Block.{profile_shape, cct_shape, lookup_in, found_words}
use Rattle.lookup.specs.Lookup.{profile_block, cct_block}

-- an odd last word is no pair
abbrev pub pairs_in : (asked : List ℕ) → ℕ
pairs_in asked = length asked / 2

-- the answers to the first n pairs, two words each: 0 and the bits, or 100 and 0
module _ (file : List ℕ) (h : Shape) (b : Block) (asked : List ℕ) where
  unfoldable pub answers_to : (n : ℕ) → List ℕ
  answers_to zero = []
  answers_to (suc n) = answers_to n ++ found_words (lookup_in file h b (get_or asked (2 * n) 0) (get_or asked (2 * n + 1) 0))

  unfoldable pub answers_in : (was : List ℕ) → List ℕ
  answers_in was = over was 0 (answers_to (pairs_in asked))

-- what a batch comes to: its check, and the answers after it
pub record Batch : Type 0 where
  pub check : Check
  pub answers : List ℕ

abbrev pub refused_batch : (was : List ℕ) → Refusal → Batch
refused_batch was r = record { check = Err r; answers = was }

-- in a block, or untouched by its refusal
unfoldable pub batch_in : List ℕ → Shape → Answer Block → (asked was : List ℕ) → Batch
batch_in file h c asked was = on_answer (refused_batch was) c (λ b. record { check = Passed; answers = answers_in file h b asked was })

-- 17, first of all, where there are not two words for each pair
unfoldable pub batch_of : List ℕ → Shape → Answer Block → (asked was : List ℕ) → Batch
batch_of file h c asked was =
    if_passed (refused_batch was) (rule (leb (2 * pairs_in asked) (length was)) No.Room) (batch_in file h c asked was)

-- of a profile of profile.db, and of a context of cct.db
abbrev pub profile_batch : List ℕ → (profile : ℕ) → (asked was : List ℕ) → Batch
profile_batch file profile asked was = batch_of file profile_shape (profile_block file profile) asked was

abbrev pub cct_batch : List ℕ → (context : ℕ) → (asked was : List ℕ) → Batch
cct_batch file context asked was = batch_of file cct_shape (cct_block file context) asked was
