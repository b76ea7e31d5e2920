-- Words written one after the other, without a condition on their range.
use Prim.Native.Nat.{ℕ, suc, ◌+◌, ◌≤◌, ◌<◌}
use mathlib.Core.List.{List, [], ◌∷◌, ◌++◌, append_assoc}
use mathlib.Core.Path.{◌≡◌, refl, sym, ap, ◌∙◌}
use native.Mathlib.Nat.{add-zero, not-suc-le-zero, le_of_suc-le-suc}
use native.Mathlib.Omega.{arith}
use lib.ListN.{length, set, take, drop}
use lib.Seq.{sets, length-sets, sets-eq, set-set, set_comm, take-set-le, drop-set-lt}
use borrow.Rule.Slice.PartMut.{put_mid}
use Rattle.std.proofs.lemmas.Slice.{put_mid-paste}
use Rattle.std.proofs.lemmas.List.Edits.{paste_all}
use Rattle.buffer.specs.Over.{over}

pub over_none : (out : List ℕ) (at : ℕ) → over out at [] ≡ out
unfolding over
over_none out at = refl

sets_append : (x y out : List ℕ) (at : ℕ) → sets out at (x ++ y) ≡ sets (sets out at x) (at + length x) y
sets_append [] y out at = rw add-zero
sets_append (a ∷ x) y out at =
    let e : at + suc (length x) ≡ suc at + length x = omega arith in
    rw e (sets_append x y (set out at a) (suc at))

pub over_append : (x y out : List ℕ) (at : ℕ) → over out at (x ++ y) ≡ over (over out at x) (at + length x) y
unfolding over
over_append x y out at = sets_append x y out at

pub over_one : (out : List ℕ) (at w : ℕ) → over out at (w ∷ []) ≡ set out at w
unfolding over
over_one out at w = refl

pub length_over : (out : List ℕ) (at : ℕ) (x : List ℕ) → length (over out at x) ≡ length out
unfolding over
length_over out at x = length-sets out at x

-- what is before and behind stays
pub over_eq : (out : List ℕ) (at : ℕ) (x : List ℕ) → at + length x ≤ length out → over out at x ≡ take at out ++ x ++ drop (at + length x) out
unfolding over
over_eq out at x l = sets-eq x out at l

-- a part that holds some words now
pub over_part : (out : List ℕ) (at size : ℕ) (x : List ℕ) {part : List ℕ} → part ≡ x → size ≡ length x → at + length x ≤ length out → put_mid at size out part ≡ over out at x
over_part out at size x e f l =
    rw (over_eq out at x l, append_assoc) (put_mid-paste at size out _ x (length x) e (sym f) refl ∙ paste_all out at x _ refl)

-- ---- what stands elsewhere

take_sets : (x out : List ℕ) (at n : ℕ) → n ≤ at → take n (sets out at x) ≡ take n out
take_sets [] out at n l = refl
take_sets (w ∷ x) out at n l = take_sets x (set out at w) (suc at) n (omega arith) ∙ take-set-le n out at w l

pub take_over : (out : List ℕ) (at : ℕ) (x : List ℕ) (n : ℕ) → n ≤ at → take n (over out at x) ≡ take n out
unfolding over
take_over out at x n l = take_sets x out at n l

drop_sets : (x out : List ℕ) (at n : ℕ) → at + length x ≤ n → drop n (sets out at x) ≡ drop n out
drop_sets [] out at n l = refl
drop_sets (w ∷ x) out at n l = drop_sets x (set out at w) (suc at) n (omega arith) ∙ drop-set-lt n out at w (omega arith)

pub drop_over : (out : List ℕ) (at : ℕ) (x : List ℕ) (n : ℕ) → at + length x ≤ n → drop n (over out at x) ≡ drop n out
unfolding over
drop_over out at x n l = drop_sets x out at n l

-- ---- words written twice, and in another order

set_sets : (x out : List ℕ) (at i w : ℕ) → i < at → sets (set out i w) at x ≡ set (sets out at x) i w
set_sets [] out at i w l = refl
set_sets (a ∷ x) out at i w l =
    ap (λ (s : List ℕ). sets s (suc at) x) (set_comm out i at w a (λ e. omega arith)) ∙ set_sets x (set out at a) (suc at) i w (omega arith)

sets_swap : (x y out : List ℕ) (at to : ℕ) → at + length x ≤ to → sets (sets out to y) at x ≡ sets (sets out at x) to y
sets_swap [] y out at to l = refl
sets_swap (w ∷ x) y out at to l =
    ap (λ (s : List ℕ). sets s (suc at) x) (sym (set_sets y out to at w (omega arith))) ∙ sets_swap x y (set out at w) (suc at) to (omega arith)

-- what is written before is the same written afterwards
pub over_swap : (out : List ℕ) (at : ℕ) (x : List ℕ) (to : ℕ) (y : List ℕ) → at + length x ≤ to
    → over (over out to y) at x ≡ over (over out at x) to y
unfolding over
over_swap out at x to y l = sets_swap x y out at to l

sets_again : (x y out : List ℕ) (at : ℕ) → length x ≤ length y → sets (sets out at x) at y ≡ sets out at y
sets_again [] y out at l = refl
sets_again (w ∷ x) [] out at l = absurd (not-suc-le-zero l)
sets_again (w ∷ x) (v ∷ y) out at l =
    ap (λ (s : List ℕ). sets s (suc at) y) (sym (set_sets x (set out at w) (suc at) at v (omega arith)) ∙ ap (λ (s : List ℕ). sets s (suc at) x) (set-set out at w v))
    ∙ sets_again x y (set out at v) (suc at) (le_of_suc-le-suc l)

-- what is written over leaves no trace
pub over_again : (out : List ℕ) (at : ℕ) (x y : List ℕ) → length x ≤ length y → over (over out at x) at y ≡ over out at y
unfolding over
over_again out at x y l = sets_again x y out at l
