-- Demand 2 of lookups: "A lookup with room for its answer hands back a value exactly if the file opens and the asked block is there, well
-- formed and holds that pair, and then the very bits stored; in such a block without the pair it says absent."
use Rattle.refusal.specs.Check.{Answer, Found, Absent}
use Rattle.std.specs.Prelude.{ℕ, ◌+◌, ◌*◌, ◌≤◌, ◌<◌, List, ◌↔◌, ◌⊎◌, ◌≡◌, Err, Option}
use Rattle.refusal.specs.declared.Refusal.{Refusal}
use Rattle.refusal.specs.declared.Refusal.TheVariants as No
use Rattle.refusal.specs.Number.{number_of}
use Rattle.open.specs.Format as Format
use Rattle.open.specs.Names as Section
use Rattle.open.specs.Opening.{pairs}
use Rattle.open.specs.Kept.{Opens}
use Rattle.array.specs.Stored.{array_in}
use Rattle.block.specs.declared.Shape.{Shape}
use Rattle.block.specs.declared.Block.{Block}
use Rattle.block.specs.Block.{profile_shape, cct_shape, block_at}
use Rattle.block.specs.Facts.{WellFormed, Holds}
use Rattle.lookup.specs.Lookup.{profile_lookup, cct_lookup}

-- the file opens, and the asked block is there and well formed
pub record There (f : Format.Format) (h : Shape) (file : List ℕ) (i : ℕ) (b : Block) : Type 0 where
  pub opens : Opens f file
  pub element : i < (array_in f file (pairs f file) Section.infos).count
  pub block : b ≡ block_at file h ((array_in f file (pairs f file) Section.infos).place + i * (array_in f file (pairs f file) Section.infos).stride)
  pub well-formed : WellFormed file h (pairs f file) b

-- what a lookup of two ids in the block of element i says
pub record Says (f : Format.Format) (h : Shape) (file : List ℕ) (i outer inner : ℕ) (answer : Answer (Option ℕ)) : Type 0 where
  pub found : (bits : ℕ) → (answer ≡ Found bits) ↔ ((b : Block) × (There f h file i b × Holds file h b outer inner bits))
  pub absent : (answer ≡ Absent) ↔ ((b : Block) × (There f h file i b × ((bits : ℕ) → Holds file h b outer inner bits → ⊥)))
  -- it is refused by 1 to 7, 11 or 15: it reads no string, and gives no 19
  pub numbers : (r : Refusal) → answer ≡ Err r → (number_of r ≤ 7) ⊎ ((r ≡ No.Order) ⊎ (r ≡ No.Index))

-- in profile.db the block of a profile is asked for a context and a metric; in cct.db that of a context for a metric and a profile
pub record Demand2 : Type 0 where
  pub in_profile_db : (file : List ℕ) (profile context metric : ℕ)
      → Says Format.profile profile_shape file profile context metric (profile_lookup file profile context metric)
  pub in_cct_db : (file : List ℕ) (profile context metric : ℕ) → Says Format.cct cct_shape file context metric profile (cct_lookup file profile context metric)
