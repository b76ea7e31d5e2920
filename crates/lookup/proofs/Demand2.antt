-- Demand 2 of lookups, for any format whose first section has the array of blocks: a checked block is there exactly if the file opens,
-- the element is there and its block is well formed; what a lookup says of it is what the block holds.
use Rattle.std.specs.Prelude.{Err, Ok, Some, None, Option}
use Prim.Native.Nat.{ℕ, ◌+◌, ◌*◌, ◌≤◌, ◌<◌}
use mathlib.Core.List.{List}
use mathlib.Core.Logic.{◌↔◌, ◌⊎◌, inl, inr, ⊎_map}
use mathlib.Core.Path.{◌≡◌, refl, sym, ap, ◌∙◌}
use native.Mathlib.Decide.{dec_lt}
use native.Mathlib.Omega.{arith}
use Rattle.refusal.specs.declared.Refusal.{Refusal}
use Rattle.refusal.specs.declared.Refusal.TheVariants as No
use Rattle.refusal.specs.Number.{number_of}
use Rattle.refusal.specs.Check.{if_passed, Check, Answer, on_answer, Passed}
use Rattle.refusal.proofs.Checks.{ok_same, if_passed_answers}
use Rattle.open.specs.Format as Format
use Rattle.open.specs.Names as Section
use Rattle.open.specs.Opening.{pairs, place_in, opening, on_opened}
use Rattle.open.specs.Kept.{Opens}
use Rattle.open.proofs.Given.{one_to_seven, on_opened_answers}
use Rattle.array.specs.declared.Array.{Array}
use Rattle.array.specs.Stored.{array_of, array_in}
use Rattle.array.proofs.Bounds.{is_there, not_there, on_element_answers}
use Rattle.block.specs.declared.Shape.{Shape}
use Rattle.block.specs.declared.Block.{Block}
use Rattle.block.specs.Block.{profile_shape, cct_shape, block_at, block_check, lookup_in}
use Rattle.block.specs.Facts.{WellFormed, Holds}
use Rattle.block.proofs.Facts.{well_formed_iff, 7-or-11, found_iff, absent_iff}
use Rattle.lookup.specs.Lookup.{checked_block, checked_at, profile_block, cct_block, profile_lookup, cct_lookup}
use Rattle.lookup.specs.Demand2.{There, Says, Demand2}

-- ---- a checked block

-- a valid block is no refusal
refused_not_valid : {b : Block} (r : Refusal) → Err r ≡ Ok b → ⊥
refused_not_valid r e = let z : ◌≡◌ {A = ℕ} 0 1 = cc in omega arith

module _ (f : Format.Format) (content : (Format.section_at f Section.infos).content ≡ Format.infos_array) (h : Shape) (file : List ℕ) (i : ℕ) where
  abbrev sections : List (List ℕ)
  sections = pairs f file

  abbrev checked : Answer Block
  checked = on_opened Err f file (λ ps. checked_at file h ps i)

  -- the array of blocks, and the block of element i
  abbrev blocks : Array
  blocks = array_of file (place_in sections Section.infos) Format.infos_array

  abbrev asked : Block
  asked = block_at file h (blocks.place + i * blocks.stride)

  same_array : array_in f file sections Section.infos ≡ blocks
  same_array = ap (array_of file (place_in sections Section.infos)) content

  asked_there : Opens f file → i < blocks.count → block_check file h sections asked ≡ Passed → There f h file i asked
  asked_there o l w = record {
    opens = o;
    element = rw same_array l;
    block = rw same_array;
    well-formed = (well_formed_iff file h sections asked).0 w;
  }

  -- step by step: the file opens, the element is there, its block passes
  module _ (b : Block) where
    opened_iff : (checked ≡ Ok b) ↔ (Opens f file × (checked_at file h sections i ≡ Ok b))
    opened_iff = on_opened_answers Err f file (λ ps. checked_at file h ps i) (Ok b) (λ r l. refused_not_valid r)

    element_iff : (checked_at file h sections i ≡ Ok b) ↔ ((i < blocks.count) × (checked_block file h sections asked ≡ Ok b))
    unfolding checked_at
    element_iff = on_element_answers blocks i Err (λ at. checked_block file h sections (block_at file h at)) (Ok b) (refused_not_valid No.Index)

    block_iff : (checked_block file h sections asked ≡ Ok b) ↔ ((block_check file h sections asked ≡ Passed) × (◌≡◌ {A = Answer Block} (Ok asked) (Ok b)))
    unfolding checked_block
    block_iff = if_passed_answers Err (block_check file h sections asked) (Ok asked) (Ok b) (λ r l. refused_not_valid r)

  there_iff : (b : Block) → (checked ≡ Ok b) ↔ There f h file i b
  there_iff b = (to, from)
    where
      to : checked ≡ Ok b → There f h file i b
      to e =
          let o = (opened_iff b).0 e in
          let l = (element_iff b).0 o.1 in
          let w = (block_iff b).0 l.1 in
          let v = w.1 in
          let q : asked ≡ b = cc in
          rw q at (asked_there o.0 l.0 w.0)

      from : There f h file i b → checked ≡ Ok b
      from t =
          let q : b ≡ asked = rw same_array at t.block in
          let w : WellFormed file h sections asked = rw q at t.well-formed in
          (opened_iff b).1 (
            t.opens,
            (element_iff b).1 (rw same_array at t.element, (block_iff b).1 ((well_formed_iff file h sections asked).1 w, ap Ok (sym q))),
          )

  -- its refusals: opening's, 15, and the block's
  block_refusals : (r : Refusal) → checked ≡ Err r → (number_of r ≤ 7) ⊎ ((r ≡ No.Order) ⊎ (r ≡ No.Index))
  unfolding on_opened on_answer checked_at checked_block
  block_refusals r e = opened (opening f file) refl e
    where
      block : (c : Check) → block_check file h sections asked ≡ c → if_passed Err c (Ok asked) ≡ Err r
          → (number_of r ≤ 7) ⊎ ((r ≡ No.Order) ⊎ (r ≡ No.Index))
      block Passed p x = absurd (let z : ◌≡◌ {A = ℕ} 0 1 = cc in omega arith)
      block (Err s) p x =
          let same : s ≡ r = cc in
          ⊎_map (λ k. omega (arith, ap number_of k)) (λ k. inl k) (7-or-11 file h sections asked r (p ∙ ap Err same))

      element : checked_at file h sections i ≡ Err r → (number_of r ≤ 7) ⊎ ((r ≡ No.Order) ⊎ (r ≡ No.Index))
      element x =
          elim (dec_lt i blocks.count) [
            | yes l ↦ block (block_check file h sections asked) refl (rw (← is_there blocks i l) at x)
            | no l ↦ let told = rw (← not_there blocks i (omega arith)) at x in let same : No.Index ≡ r = cc in inr (inr (sym same))
          ]

      opened : (c : Check) → opening f file ≡ c → if_passed Err c (checked_at file h sections i) ≡ Err r
          → (number_of r ≤ 7) ⊎ ((r ≡ No.Order) ⊎ (r ≡ No.Index))
      opened Passed p x = element x
      opened (Err s) p x = let same : s ≡ r = cc in inl (omega (arith, one_to_seven f file s p, ap number_of same))

  -- ---- a lookup in it

  module _ (outer inner : ℕ) where
    abbrev lookup_of : Answer (Option ℕ)
    lookup_of = on_answer Err checked (λ b. Ok (lookup_in file h b outer inner))

    -- an answer that is no refusal comes from a block that is there
    answer_iff : (x : Option ℕ) → (P : Block → Type 0)
        → ((b : Block) → There f h file i b → (lookup_in file h b outer inner ≡ x) ↔ P b)
        → (lookup_of ≡ Ok x) ↔ ((b : Block) × (There f h file i b × P b))
    unfolding on_answer
    answer_iff x P says_of = (go checked refl, λ k. rw ((there_iff k.0).1 k.1.0) (ap Ok ((says_of k.0 k.1.0).1 k.1.1)))
      where
        go : (c : Answer Block) → checked ≡ c → on_answer Err c (λ b. Ok (lookup_in file h b outer inner)) ≡ Ok x
            → (b : Block) × (There f h file i b × P b)
        go (Ok b) e a = let t = (there_iff b).0 e in (b, (t, (says_of b t).0 (ok_same a)))
        go (Err r) e a = absurd (let z : ◌≡◌ {A = ℕ} 0 1 = cc in omega arith)

    refused_so : (r : Refusal) (c : Answer Block) → checked ≡ c → on_answer Err c (λ b. Ok (lookup_in file h b outer inner)) ≡ Err r
        → (number_of r ≤ 7) ⊎ ((r ≡ No.Order) ⊎ (r ≡ No.Index))
    unfolding on_answer
    refused_so r (Ok b) e x = absurd (let z : ◌≡◌ {A = ℕ} 0 1 = cc in omega arith)
    refused_so r (Err s) e x = let same : s ≡ r = cc in block_refusals r (e ∙ ap Err same)

    -- it says a value exactly if the file opens and the asked block is there, well formed and holds the pair; so with absent
    pub says : Says f h file i outer inner
        (on_answer Err (on_opened Err f file (λ ps. checked_at file h ps i)) (λ b. Ok (lookup_in file h b outer inner)))
    says = record {
      found = λ bits. answer_iff (Some bits) (λ b. Holds file h b outer inner bits) (λ b t. found_iff file h b outer inner sections t.well-formed bits);
      absent = answer_iff None (λ b. (bits : ℕ) → Holds file h b outer inner bits → ⊥) (λ b t. absent_iff file h b outer inner sections t.well-formed);
      numbers = λ r e. refused_so r checked refl e;
    }

-- a block passes its checks exactly if it is there and well formed, in a file that opens: of a profile, of a context
pub profile_there_iff : (file : List ℕ) (i : ℕ) (b : Block) → (profile_block file i ≡ Ok b) ↔ There Format.profile profile_shape file i b
unfolding profile_block
profile_there_iff = there_iff Format.profile refl profile_shape

pub cct_there_iff : (file : List ℕ) (i : ℕ) (b : Block) → (cct_block file i ≡ Ok b) ↔ There Format.cct cct_shape file i b
unfolding cct_block
cct_there_iff = there_iff Format.cct refl cct_shape

-- and it is refused by 1 to 7, 11 or 15
pub profile_block_numbers : (file : List ℕ) (i : ℕ) (r : Refusal) → profile_block file i ≡ Err r → (number_of r ≤ 7) ⊎ ((r ≡ No.Order) ⊎ (r ≡ No.Index))
unfolding profile_block
profile_block_numbers = block_refusals Format.profile refl profile_shape

pub cct_block_numbers : (file : List ℕ) (i : ℕ) (r : Refusal) → cct_block file i ≡ Err r → (number_of r ≤ 7) ⊎ ((r ≡ No.Order) ⊎ (r ≡ No.Index))
unfolding cct_block
cct_block_numbers = block_refusals Format.cct refl cct_shape

-- lookups in profile.db and cct.db say a value exactly if the file opens and the asked block is there, well formed and holds that pair
pub demand2 : Demand2
unfolding profile_lookup profile_block cct_lookup cct_block
demand2 = record {
  in_profile_db = λ file profile context metric. says Format.profile refl profile_shape file profile context metric;
  in_cct_db = λ file profile context metric. says Format.cct refl cct_shape file context metric profile;
}
