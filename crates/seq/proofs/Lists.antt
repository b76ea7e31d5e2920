-- Facts of all elements of a list, and of every two, put together and taken apart; what is in a list, and where.
use Prim.Native.Nat.{ℕ, zero, suc, ◌<◌}
use mathlib.Core.List.{List, [], ◌∷◌, ◌++◌, map, map-append, append_assoc}
use mathlib.Core.Logic.{◌⊎◌, inl, inr}
use mathlib.Core.Path.{◌≡◌, refl, sym, ap, ◌∙◌, subst}
use native.Mathlib.Nat.{le_of_suc-le-suc, not-suc-le-zero}
use native.Mathlib.Omega.{arith}
use lib.ListN.{length, get_or, take, drop, length-append, take-append-drop}
use lib.Seq.{get_or-append_seam}
use Rattle.seq.specs.Lists.{All, In, Ordered, Differs, Distinct}

module _ {A : Type 0} where
  pub all_imp : {P Q : A → Type 0} → ((x : A) → P x → Q x) → (l : List A) → All P l → All Q l
  all_imp f [] h = tt
  all_imp f (x ∷ xs) h = (f x h.0, all_imp f xs h.1)

  pub all_append : (P : A → Type 0) (a b : List A) → All P a → All P b → All P (a ++ b)
  all_append P [] b h k = k
  all_append P (x ∷ a) b h k = (h.0, all_append P a b h.1 k)

  pub all_left : (P : A → Type 0) (a b : List A) → All P (a ++ b) → All P a
  all_left P [] b h = tt
  all_left P (x ∷ a) b h = (h.0, all_left P a b h.1)

  pub all_right : (P : A → Type 0) (a b : List A) → All P (a ++ b) → All P b
  all_right P [] b h = h
  all_right P (x ∷ a) b h = all_right P a b h.1

  pub all_take : (P : A → Type 0) (n : ℕ) (l : List A) → All P l → All P (take n l)
  all_take P zero l h = tt
  all_take P (suc n) [] h = tt
  all_take P (suc n) (x ∷ l) h = (h.0, all_take P n l h.1)

  pub all_drop : (P : A → Type 0) (n : ℕ) (l : List A) → All P l → All P (drop n l)
  all_drop P zero l h = h
  all_drop P (suc n) [] h = tt
  all_drop P (suc n) (x ∷ l) h = all_drop P n l h.1

  pub ordered_imp : {R S : A → A → Type 0} → ((x y : A) → R x y → S x y) → (l : List A) → Ordered R l → Ordered S l
  ordered_imp f [] h = tt
  ordered_imp f (x ∷ xs) h = (all_imp (f x) xs h.0, ordered_imp f xs h.1)

  pub ordered_snoc : (R : A → A → Type 0) (l : List A) (x : A) → Ordered R l → All (λ y. R y x) l → Ordered R (l ++ (x ∷ []))
  ordered_snoc R [] x h k = (tt, tt)
  ordered_snoc R (y ∷ l) x h k = (all_append (R y) l (x ∷ []) h.0 (k.0, tt), ordered_snoc R l x h.1 k.1)

  pub ordered_append : (R : A → A → Type 0) (a b : List A) → Ordered R a → Ordered R b → All (λ x. All (R x) b) a → Ordered R (a ++ b)
  ordered_append R [] b h k m = k
  ordered_append R (x ∷ a) b h k m = (all_append (R x) a b h.0 m.0, ordered_append R a b h.1 k m.1)

  -- ---- what is in a list

  pub in_first : (x : A) (l : List A) → In x (x ∷ l)
  in_first x l = ([], l, refl)

  pub in_rest : {x : A} (y : A) {l : List A} → In x l → In x (y ∷ l)
  in_rest y (a, b, e) = (y ∷ a, b, ap (λ (l : List A). y ∷ l) e)

  pub in_none : {x : A} → In x [] → ⊥
  in_none ([], b, e) = let z : ◌≡◌ {A = ℕ} 0 1 = cc in omega arith
  in_none (y ∷ a, b, e) = let z : ◌≡◌ {A = ℕ} 0 1 = cc in omega arith

  pub in_cases : {x y : A} {l : List A} → In x (y ∷ l) → (x ≡ y) ⊎ In x l
  in_cases ([], b, e) = inl (cc)
  in_cases (z ∷ a, b, e) = inr (a, b, (cc))

  pub all_in : (P : A → Type 0) {x : A} (l : List A) → All P l → In x l → P x
  all_in P [] h i = absurd (in_none i)
  all_in P {x} (y ∷ l) h i = go (in_cases i) (all_in P l h.1)
    where
      go : (x ≡ y) ⊎ In x l → (In x l → P x) → P x
      go (inl e) r = subst P (sym e) h.0
      go (inr j) r = r j

  pub all_of : (P : A → Type 0) (l : List A) → ((x : A) → In x l → P x) → All P l
  all_of P [] h = tt
  all_of P (y ∷ l) h = (h y (in_first y l), all_of P l (λ x i. h x (in_rest y i)))

  pub in_left : {x : A} (l m : List A) → In x l → In x (l ++ m)
  in_left {x} l m (a, b, e) = (a, b ++ m, ap (λ (k : List A). k ++ m) e ∙ append_assoc a (x ∷ b) m)

  pub in_right : {x : A} (l m : List A) → In x m → In x (l ++ m)
  in_right {x} l m (a, b, e) = (l ++ a, b, ap (λ (k : List A). l ++ k) e ∙ sym (append_assoc l a (x ∷ b)))

  pub in_append : {x : A} (l m : List A) → In x (l ++ m) → In x l ⊎ In x m
  in_append [] m i = inr i
  in_append {x} (y ∷ l) m i = go (in_cases i) (in_append l m)
    where
      rest : In x l ⊎ In x m → In x (y ∷ l) ⊎ In x m
      rest (inl j) = inl (in_rest y j)
      rest (inr j) = inr j

      go : (x ≡ y) ⊎ In x (l ++ m) → (In x (l ++ m) → In x l ⊎ In x m) → In x (y ∷ l) ⊎ In x m
      go (inl e) r = inl (subst (λ (z : A). In x (z ∷ l)) e (in_first x l))
      go (inr j) r = rest (r j)

  pub in_take : {x : A} (n : ℕ) (l : List A) → In x (take n l) → In x l
  in_take {x} n l h = subst (In x) (take-append-drop n l) (in_left (take n l) (drop n l) h)

  pub in_drop : {x : A} (n : ℕ) (l : List A) → In x (drop n l) → In x l
  in_drop {x} n l h = subst (In x) (take-append-drop n l) (in_right (take n l) (drop n l) h)

  -- ---- by position

  pub in_at : (i : ℕ) (l : List A) → i < length l → (x : A) × (h : In x l) × (i ≡ length h.0)
  unfolding in_first in_rest
  in_at i [] h = absurd (not-suc-le-zero h)
  in_at zero (x ∷ l) h = (x, in_first x l, refl)
  in_at (suc i) (y ∷ l) h = let r = in_at i l (le_of_suc-le-suc h) in (r.0, in_rest y r.1, ap suc r.2)

  pub nth_in : (d : A) (l : List A) (k : ℕ) → k < length l → In (get_or l k d) l
  nth_in d [] k h = absurd (not-suc-le-zero h)
  nth_in d (x ∷ l) zero h = in_first x l
  nth_in d (x ∷ l) (suc k) h = in_rest x (nth_in d l k (le_of_suc-le-suc h))

  pub in_nth : (d : A) {x : A} (l : List A) → In x l → (k : ℕ) × ((k < length l) × (get_or l k d ≡ x))
  in_nth d {x} l (a, b, e) = (
    length a,
    (subst (λ (m : List A). length a < length m) (sym e) (rw length-append (omega arith)), ap (λ (m : List A). get_or m (length a) d) e ∙ get_or-append_seam a x b d),
  )

  pub ordered_nth : (R : A → A → Type 0) (d : A) (l : List A) → Ordered R l → (j k : ℕ) → j < k → k < length l → R (get_or l j d) (get_or l k d)
  ordered_nth R d [] h j k m n = absurd (not-suc-le-zero n)
  ordered_nth R d (x ∷ l) h zero zero m n = absurd (omega arith)
  ordered_nth R d (x ∷ l) h zero (suc k) m n = all_in (R x) l h.0 (nth_in d l k (le_of_suc-le-suc n))
  ordered_nth R d (x ∷ l) h (suc j) zero m n = absurd (omega arith)
  ordered_nth R d (x ∷ l) h (suc j) (suc k) m n = ordered_nth R d l h.1 j k (le_of_suc-le-suc m) (le_of_suc-le-suc n)

-- of two that divide a list, either they are the same or one stands before the other
pub same_or_before : {A : Type 0} (x y : A) (a b c d : List A) → a ++ (x ∷ b) ≡ c ++ (y ∷ d) → (x ≡ y) ⊎ (In x c ⊎ In y a)
same_or_before x y [] b [] d e = inl (cc)
same_or_before x y [] b (z ∷ c) d e = let s : x ≡ z = cc in inr (inl (subst (λ w. In x (w ∷ c)) s (in_first x c)))
same_or_before x y (z ∷ a) b [] d e = let s : y ≡ z = cc in inr (inr (subst (λ w. In y (w ∷ a)) s (in_first y a)))
same_or_before x y (z ∷ a) b (w ∷ c) d e = let s : a ++ (x ∷ b) ≡ c ++ (y ∷ d) = cc in go (same_or_before x y a b c d s)
  where
    go : (x ≡ y) ⊎ (In x c ⊎ In y a) → (x ≡ y) ⊎ (In x (w ∷ c) ⊎ In y (z ∷ a))
    go (inl q) = inl q
    go (inr (inl i)) = inr (inl (in_rest w i))
    go (inr (inr i)) = inr (inr (in_rest z i))

-- ---- by what each is mapped to

module _ {A B : Type 0} (f : A → B) where
  pub all_map : (P : B → Type 0) (l : List A) → All (λ x. P (f x)) l → All P (map f l)
  all_map P [] h = tt
  all_map P (x ∷ l) h = (h.0, all_map P l h.1)

  pub map_all : (P : B → Type 0) (l : List A) → All P (map f l) → All (λ x. P (f x)) l
  map_all P [] h = tt
  map_all P (x ∷ l) h = (h.0, map_all P l h.1)

  pub map_ordered : (R : B → B → Type 0) (l : List A) → Ordered R (map f l) → Ordered (λ x y. R (f x) (f y)) l
  map_ordered R [] h = tt
  map_ordered R (x ∷ l) h = (map_all (R (f x)) l h.0, map_ordered R l h.1)

  in_map : {x : A} (l : List A) → In x l → In (f x) (map f l)
  in_map {x} l h = (map f h.0, map f h.1, ap (map f) h.2 ∙ map-append f h.0 (x ∷ h.1))

  -- where no two are mapped to the same, what they are mapped to tells them
  pub distinct_one : (l : List A) → Distinct (map f l) → (x y : A) → In x l → In y l → f x ≡ f y → x ≡ y
  distinct_one [] k x y hx hy s = absurd (in_none hx)
  distinct_one (z ∷ l) k x y hx hy s = go (in_cases hx) (in_cases hy) (λ a b. distinct_one l k.1 x y a b s)
    where
      apart : (w : A) → In w l → f z ≡ f w → ⊥
      apart w h = all_in (Differs (f z)) (map f l) k.0 (in_map l h)

      go : (x ≡ z) ⊎ In x l → (y ≡ z) ⊎ In y l → (In x l → In y l → x ≡ y) → x ≡ y
      go (inl a) (inl b) later = a ∙ sym b
      go (inl a) (inr b) later = absurd (apart y b (ap f (sym a) ∙ s))
      go (inr a) (inl b) later = absurd (apart x a (ap f (sym b) ∙ sym s))
      go (inr a) (inr b) later = later a b
