-- An array's elements, by position and by place.
use Rattle.std.specs.Prelude.{ℕ, zero, suc, ◌+◌, ◌*◌, ◌^◌, ◌<◌, Bool, false, ◌||◌, ltb, eqb, Err, Ok}
use Rattle.refusal.specs.declared.Refusal.TheVariants as No
use Rattle.refusal.specs.Check.{either, Answer}
use Rattle.array.specs.declared.Array.{Array}

-- the place of element i; 15 for a position that is not below the count
unfoldable pub element_at : Array → (i : ℕ) → Answer ℕ
element_at a i = either (ltb i a.count) (Ok (a.place + i * a.stride)) (Err No.Index)

-- a link: there is an index below the count whose element stands at this place
unfoldable pub linked_below : (from stride count place : ℕ) → Bool
linked_below from stride zero place = false
linked_below from stride (suc n) place = eqb place (from + n * stride) || linked_below from stride n place

unfoldable pub linked : Array → (place : ℕ) → Bool
linked a place = linked_below a.place a.stride a.count place

-- every element's place is a u64
pub record Bounded (a : Array) : Type 0 where
  pub ends : 0 < a.count → a.place + a.count * a.stride < 2 ^ 64
