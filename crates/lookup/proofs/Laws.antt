-- An element that is not there is refused with 15 alone; what a checked block is known to be; the section of cct.db as one of two.
use Rattle.std.specs.Prelude.{Ok}
use Prim.Native.Nat.{ℕ}
use mathlib.Core.List.{List, [], ◌∷◌}
use mathlib.Core.Logic.{inl, inr}
use mathlib.Core.Path.{◌≡◌, refl}
use Rattle.open.specs.Format as Format
use Rattle.open.specs.Opening.{pairs}
use Rattle.block.specs.declared.Shape.{Shape}
use Rattle.block.specs.declared.Block.{Block}
use Rattle.outside.specs.Outside.{apart, apart_all, lies}
use Rattle.block.specs.Block.{profile_shape, cct_shape, range_rule, block_check}
use Rattle.block.specs.Sound.{SoundBlock}
use Rattle.block.proofs.Ranges.{sound}
use Rattle.lookup.specs.Lookup.{checked_block, checked_at, profile_block, cct_block}
use Rattle.lookup.proofs.Demand2.{profile_there_iff, cct_there_iff}

module _ (file : List ℕ) (i : ℕ) (b : Block) where
  pub profile_sound : profile_block file i ≡ Ok b → SoundBlock file profile_shape b
  profile_sound e = sound file profile_shape (pairs Format.profile file) b (inr refl, inl refl) ((profile_there_iff file i b).0 e).well-formed

  pub cct_sound : cct_block file i ≡ Ok b → SoundBlock file cct_shape b
  cct_sound e = sound file cct_shape (pairs Format.cct file) b (inl refl, inr refl) ((cct_there_iff file i b).0 e).well-formed

-- beside the section of cct.db, one of size 0 counts for nothing
pub one_section : (file : List ℕ) (h : Shape) (p : List ℕ) (i : ℕ) → checked_at file h (p ∷ (0 ∷ 0 ∷ []) ∷ []) i ≡ checked_at file h (p ∷ []) i
unfolding checked_at checked_block block_check range_rule lies apart_all apart
one_section file h p i = refl
