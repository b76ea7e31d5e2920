-- The search for a byte, one at a time and in groups.
use Prim.Native.Nat.{ℕ, zero, suc, ◌+◌, ◌*◌, ◌≤◌, ◌<◌}
use mathlib.Core.Bool.{Bool, true, false, not, cond, ◌||◌}
use mathlib.Core.List.{List, [], ◌∷◌}
use mathlib.Core.Path.{◌≡◌, refl, sym, ◌∙◌}
use native.Mathlib.Numerals.{add-one}
use native.Mathlib.Nat.{zero-add}
use native.Mathlib.Decide.{dec_le}
use native.Mathlib.Omega.{arith}
use borrow.Author.Tests.{le-leb, lt-leb, ltb-false, eq-eqb, ne_eqb}
use lib.Dec.{ltb, eqb}
use lib.ListN.{length, get_or, take, drop}
use lib.Seq.{drop-cons, drop-drop}
use Rattle.std.proofs.Common.{Some, None}
use Rattle.std.specs.Option.{unwrap_or}
use Rattle.std.specs.List.{list_any, position_or_len}
use Rattle.std.specs.Simd.{first_chunks}
use Rattle.std.proofs.lemmas.List.Recursion.{is_position_or_len}
use Rattle.std.proofs.lemmas.List.Sums.{prefix_len-le-length}
use Rattle.refusal.specs.Check.{either}
use Rattle.scan.specs.Until.{until}

-- past bytes of which none is the stop
farther : (stop n : ℕ) (s : List ℕ) → n ≤ until stop s → until stop s ≡ n + until stop (drop n s)
unfolding until either
farther stop zero s h = omega arith
farther stop (suc n) [] h = absurd (omega arith)
farther stop (suc n) (b ∷ s) h = go (eqb b stop) (farther stop n s) h
  where
    go : (t : Bool) → (n ≤ until stop s → until stop s ≡ n + until stop (drop n s)) → suc n ≤ either t 0 (suc (until stop s))
        → either t 0 (suc (until stop s)) ≡ suc n + until stop (drop n s)
    go true next h = absurd (omega arith)
    go false next h = omega (arith, next (omega arith))

module _ (stop : ℕ) (bytes : List ℕ) (i : ℕ) where
  pub found_here : i < length bytes → get_or bytes i 0 ≡ stop → until stop (drop i bytes) ≡ 0
  unfolding until either
  found_here h e = rw (drop-cons bytes i 0 h, eq-eqb (get_or bytes i 0) stop e)

  pub found_later : i < length bytes → (get_or bytes i 0 ≡ stop → ⊥) → until stop (drop i bytes) ≡ 1 + until stop (drop (i + 1) bytes)
  unfolding until either
  found_later h n = rw (add-one i, drop-cons bytes i 0 h, ne_eqb (get_or bytes i 0) stop n) (omega arith)

-- the search as std's iterators have it
pub until_position : (stop : ℕ) (s : List ℕ) → until stop s ≡ position_or_len (λ b. eqb b stop) s
unfolding until either
until_position stop s = is_position_or_len (until stop) (λ b. eqb b stop) refl (λ b rest. go (eqb b stop) (until stop rest)) s
  where
    go : (t : Bool) (n : ℕ) → either t 0 (suc n) ≡ cond t 0 (1 + n)
    go true n = refl
    go false n = omega arith

ltb_suc : (m n : ℕ) → ltb (suc m) (suc n) ≡ ltb m n
ltb_suc m n = elim (dec_le (suc m) n) [
  | yes h ↦ le-leb (suc (suc m)) (suc n) (omega arith) ∙ sym (le-leb (suc m) n h)
  | no h ↦ lt-leb (suc (suc m)) (suc n) (omega arith) ∙ sym (lt-leb (suc m) n (omega arith))
]

-- whether it ends before the end
pub any_until : (stop : ℕ) (s : List ℕ) → list_any (λ b. eqb b stop) s ≡ ltb (until stop s) (length s)
unfolding until either
any_until stop [] = refl
any_until stop (b ∷ s) = go (eqb b stop) (any_until stop s)
  where
    go : (t : Bool) → list_any (λ x. eqb x stop) s ≡ ltb (until stop s) (length s) → t || list_any (λ x. eqb x stop) s ≡ ltb (either t 0 (suc (until stop s))) (suc (length s))
    go true e = sym (le-leb 1 (suc (length s)) (omega arith))
    go false e = e ∙ sym (ltb_suc (until stop s) (length s))

-- in the first n bytes it ends no later
until_front : (stop n : ℕ) (s : List ℕ) → until stop (take n s) ≤ until stop s
unfolding until either
until_front stop zero s = omega arith
until_front stop (suc n) [] = omega arith
until_front stop (suc n) (b ∷ s) = go (eqb b stop) (until_front stop n s)
  where
    go : (t : Bool) → until stop (take n s) ≤ until stop s → either t 0 (suc (until stop (take n s))) ≤ either t 0 (suc (until stop s))
    go true h = omega arith
    go false h = omega arith

-- past the chunks of n bytes before the first with a stop
pub past_chunks : (stop n m : ℕ) (s : List ℕ)
    → let k = position_or_len (λ chunk. ltb (until stop chunk) n) (first_chunks n m s) in n * k + until stop (drop (n * k) s) ≡ until stop s
past_chunks stop n zero s =
    let z : n * 0 ≡ 0 = omega arith in
    rw (z, zero-add)
past_chunks stop n (suc m) s = go (ltb (until stop (take n s)) n) refl (past_chunks stop n m (drop n s))
  where
    more : ℕ
    more = position_or_len (λ chunk. ltb (until stop chunk) n) (first_chunks n m (drop n s))

    go : (t : Bool) → ltb (until stop (take n s)) n ≡ t → n * more + until stop (drop (n * more) (drop n s)) ≡ until stop (drop n s)
        → let k = cond (not t) (1 + more) 0 in n * k + until stop (drop (n * k) s) ≡ until stop s
    go true e r =
        let z : n * 0 ≡ 0 = omega arith in
        rw (z, zero-add)
    go false e r =
        let none : n ≤ until stop s = omega (arith, ltb-false (until stop (take n s)) n e, until_front stop n s) in
        let size : n * (1 + more) ≡ n + n * more = omega arith in
        rw (size, ← drop-drop (n * more) n s) (omega (arith, r, farther stop n s none))

-- the first chunk that passes, or how many there are
pub first_or_all : (test : List ℕ → Bool) (s : List (List ℕ))
    → let k = position_or_len test s in unwrap_or (cond (ltb k (length s)) (Some k) None) (length s) ≡ k
first_or_all test s = go (ltb (position_or_len test s) (length s)) refl
  where
    go : (t : Bool) → ltb (position_or_len test s) (length s) ≡ t → unwrap_or (cond t (Some (position_or_len test s)) None) (length s) ≡ position_or_len test s
    go true e = refl
    go false e = omega (arith, ltb-false (position_or_len test s) (length s) e, prefix_len-le-length (λ x. not (test x)) s)

pub until_most : (stop : ℕ) (bytes : List ℕ) → until stop bytes ≤ length bytes
unfolding until either
until_most stop [] = omega arith
until_most stop (b ∷ bytes) = go (eqb b stop) (until_most stop bytes)
  where
    go : (t : Bool) → until stop bytes ≤ length bytes → either t 0 (suc (until stop bytes)) ≤ suc (length bytes)
    go true h = omega arith
    go false h = omega arith
