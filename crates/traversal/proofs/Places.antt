-- Marks by number: on a list of contexts with distinct paths mark n is that of the n-th context (0: before the first); it is passed, and
-- passes over n contexts. The last path of k contexts from mark n on is that of mark n + k.
use Prim.Native.Nat.{ℕ, zero, suc, ◌+◌, ◌≤◌, ◌<◌}
use mathlib.Core.Bool.{Bool, true, false, ◌&&◌, true≢false}
use mathlib.Core.List.{List, [], ◌∷◌, ◌++◌, map}
use mathlib.Core.Path.{◌≡◌, refl, sym, ap, ap₂}
use native.Mathlib.Omega.{arith}
use native.Mathlib.Nat.{not-suc-le-zero, le_of_suc-le-suc}
use borrow.Author.Tests.{eqb-true, eq-eqb, le-leb}
use lib.Dec.{eqb}
use lib.ListN.{length, take, drop, get_or}
use Rattle.seq.specs.Lists.{All, Differs, Distinct}
use Rattle.refusal.specs.Check.{either}
use Rattle.context.specs.Entry.{Entry}
use Rattle.traversal.specs.From.{path_of, same_path, marks_of, path_index, skipped, is_passed, last_path}
use Rattle.traversal.proofs.Passing.{length_marks}

-- ---- paths compared

pub same_refl : (p : List ℕ) → same_path p p ≡ true
unfolding same_path
same_refl [] = refl
same_refl (x ∷ p) = rw (eq-eqb x x refl) (same_refl p)

same_equal : (p q : List ℕ) → same_path p q ≡ true → p ≡ q
unfolding same_path
same_equal [] [] h = refl
same_equal [] (y ∷ q) h = absurd (true≢false (sym h))
same_equal (x ∷ p) [] h = absurd (true≢false (sym h))
same_equal (x ∷ p) (y ∷ q) h = go (eqb x y) refl (same_equal p q) h
  where
    go : (b : Bool) → eqb x y ≡ b → (same_path p q ≡ true → p ≡ q) → (b && same_path p q) ≡ true → x ∷ p ≡ y ∷ q
    go true e r k = ap₂ ◌∷◌ (eqb-true x y e) (r k)
    go false e r k = absurd (true≢false (sym k))

differs_same : (p q : List ℕ) → Differs p q → same_path p q ≡ false
differs_same p q d = go (same_path p q) refl
  where
    go : (b : Bool) → same_path p q ≡ b → same_path p q ≡ false
    go true e = absurd (d (same_equal p q e))
    go false e = e

-- ---- the number of a path among some

all_get_d : (P : List ℕ → Type 0) (qs : List (List ℕ)) (n : ℕ) → n < length qs → All P qs → P (get_or qs n [])
all_get_d P [] n l h = absurd (not-suc-le-zero l)
all_get_d P (q ∷ qs) zero l h = h.0
all_get_d P (q ∷ qs) (suc n) l h = all_get_d P qs n (le_of_suc-le-suc l) h.1

-- where they are distinct, each has its own
index_get_d : (qs : List (List ℕ)) (n : ℕ) → Distinct qs → n < length qs → path_index (get_or qs n []) qs ≡ n
unfolding path_index either
index_get_d [] n d l = absurd (not-suc-le-zero l)
index_get_d (q ∷ qs) zero d l = rw (same_refl q)
index_get_d (q ∷ qs) (suc n) d l =
    let ne : Differs (get_or qs n []) q = λ e. all_get_d (Differs q) qs n (le_of_suc-le-suc l) d.0 (sym e) in
    rw (differs_same (get_or qs n []) q ne) (ap suc (index_get_d qs n d.1 (le_of_suc-le-suc l)))

-- and at its number it stands
get_d_index : (path : List ℕ) (qs : List (List ℕ)) → path_index path qs < length qs → get_or qs (path_index path qs) [] ≡ path
unfolding path_index either
get_d_index path [] h = absurd (not-suc-le-zero h)
get_d_index path (q ∷ qs) h = go (same_path path q) refl (get_d_index path qs) h
  where
    go : (b : Bool) → same_path path q ≡ b → (path_index path qs < length qs → get_or qs (path_index path qs) [] ≡ path)
        → either b 0 (suc (path_index path qs)) < suc (length qs) → get_or (q ∷ qs) (either b 0 (suc (path_index path qs))) [] ≡ path
    go true e r k = sym (same_equal path q e)
    go false e r k = r (le_of_suc-le-suc k)

-- ---- marks of a list of contexts

abbrev pub mark_at : List Entry → ℕ → List ℕ
mark_at l n = get_or (marks_of l) n []

pub skipped_mark : (l : List Entry) (n : ℕ) → Distinct (marks_of l) → n ≤ length l → skipped (mark_at l n) l ≡ n
unfolding skipped
skipped_mark l n d h = index_get_d (marks_of l) n d (omega (arith, length_marks l))

pub passed_mark : (l : List Entry) (n : ℕ) → Distinct (marks_of l) → n ≤ length l → is_passed (mark_at l n) l ≡ true
unfolding is_passed
passed_mark l n d h = rw (skipped_mark l n d h) (le-leb n (length l) h)

pub mark_skipped : (path : List ℕ) (l : List Entry) → skipped path l ≤ length l → mark_at l (skipped path l) ≡ path
unfolding skipped
mark_skipped path l h = get_d_index path (marks_of l) (omega (arith, length_marks l))

-- ---- the last of some contexts

pub last_append : (path : List ℕ) (a b : List Entry) → last_path path (a ++ b) ≡ last_path (last_path path a) b
unfolding last_path
last_append path [] b = refl
last_append path (e ∷ a) b = last_append e.path a b

-- what holds of the path given and of all contexts' holds of it
pub last_all : (P : List ℕ → Type 0) (path : List ℕ) (l : List Entry) → P path → All (λ e. P e.path) l → P (last_path path l)
unfolding last_path
last_all P path [] h k = h
last_all P path (e ∷ l) h k = last_all P e.path l k.0 k.1

-- of the first k
last_take : (path : List ℕ) (l : List Entry) (k : ℕ) → k ≤ length l → last_path path (take k l) ≡ get_or (path ∷ map path_of l) k []
unfolding last_path
last_take path l zero h = refl
last_take path [] (suc k) h = absurd (not-suc-le-zero h)
last_take path (e ∷ l) (suc k) h = last_take e.path l k (le_of_suc-le-suc h)

-- of k from the n-th on, whatever stands before the first
last_from : (path : List ℕ) (l : List Entry) (n k : ℕ) → n + k ≤ length l
    → last_path (get_or (path ∷ map path_of l) n []) (take k (drop n l)) ≡ get_or (path ∷ map path_of l) (n + k) []
last_from path l zero k h =
    let z : 0 + k ≡ k = omega arith in
    rw z (last_take path l k (omega arith))
last_from path [] (suc n) k h = absurd (let z : suc n + k ≤ 0 = h in omega arith)
last_from path (e ∷ l) (suc n) k h =
    let z : suc n + k ≡ suc (n + k) = omega arith in
    rw z (last_from e.path l n k (omega arith))

pub last_mark : (l : List Entry) (n k : ℕ) → n + k ≤ length l → last_path (mark_at l n) (take k (drop n l)) ≡ mark_at l (n + k)
last_mark l n k h = last_from [] l n k h
