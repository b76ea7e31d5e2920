-- Lookups in profile.db and cct.db. The block of an element is checked, and then asked for an outer and an inner id.
use Rattle.std.specs.Prelude.{ℕ, List, Err, Ok, Option}
use Rattle.refusal.specs.Check.{if_passed, Answer, on_answer}
use Rattle.open.specs.Format as Format
use Rattle.open.specs.Names as Section
use Rattle.open.specs.Opening.{place_in, on_opened}
use Rattle.array.specs.Element.{element_at}
use Rattle.array.specs.Stored.{array_of}
use Rattle.block.specs.declared.Shape.{Shape}
use Rattle.block.specs.declared.Block.{Block}
use Rattle.block.specs.Block.{profile_shape, cct_shape, block_at, block_check, lookup_in}

-- the block of element i: 15 where there is none, before the block is read; then the block's own rules
unfoldable pub checked_block : List ℕ → Shape → (sections : List (List ℕ)) → Block → Answer Block
checked_block file h sections b = if_passed Err (block_check file h sections b) (Ok b)

unfoldable pub checked_at : List ℕ → Shape → (sections : List (List ℕ)) → (i : ℕ) → Answer Block
checked_at file h sections i =
    on_answer Err (element_at (array_of file (place_in sections Section.infos) Format.infos_array) i) (λ at. checked_block file h sections (block_at file h at))

-- of a profile of profile.db, and of a context of cct.db
unfoldable pub profile_block : List ℕ → (profile : ℕ) → Answer Block
profile_block file profile = on_opened Err Format.profile file (λ ps. checked_at file profile_shape ps profile)

unfoldable pub cct_block : List ℕ → (context : ℕ) → Answer Block
cct_block file context = on_opened Err Format.cct file (λ ps. checked_at file cct_shape ps context)

-- in profile.db the outer ids are contexts and the inner ids metrics; in cct.db they are metrics and profiles
unfoldable pub profile_lookup : List ℕ → (profile context metric : ℕ) → Answer (Option ℕ)
profile_lookup file profile context metric =
    on_answer Err (profile_block file profile) (λ b. Ok (lookup_in file profile_shape b context metric))

unfoldable pub cct_lookup : List ℕ → (profile context metric : ℕ) → Answer (Option ℕ)
cct_lookup file profile context metric = on_answer Err (cct_block file context) (λ b. Ok (lookup_in file cct_shape b metric profile))
