-- A profile's run: exactly the entries that name it, in their order, since sorted entries of one profile stand together.
use Prim.Native.Nat.{ℕ, zero, suc, ◌+◌, ◌-◌, ◌≤◌, ◌<◌}
use mathlib.Core.Logic.{◌⊎◌, inl, inr}
use mathlib.Core.Path.{◌≡◌, refl, sym, ◌∙◌}
use native.Mathlib.Decide.{dec_le}
use native.Mathlib.Nat.{eq-or-lt_of_le, le_of_suc-le-suc, not-suc-le-zero}
use native.Mathlib.Omega.{arith}
use borrow.Author.Tests.{lt-ltb, le-ltb}
use Rattle.refusal.specs.Check.{either}
use Rattle.profile_file.specs.Survey.{Entries, Before, Ascending, count_below, run_start, run_length}

module _ (f : ℕ → ℕ) (p : ℕ) where
  below_yes : (n : ℕ) → f n < p → count_below f p (suc n) ≡ count_below f p n + 1
  unfolding count_below either
  below_yes n l = rw (lt-ltb _ _ l)

  below_no : (n : ℕ) → p ≤ f n → count_below f p (suc n) ≡ count_below f p n
  unfolding count_below either
  below_no n l = rw (le-ltb _ _ l) (omega arith)

  below_none : count_below f p 0 ≡ 0
  unfolding count_below
  below_none = refl

  below_le : (n : ℕ) → count_below f p n ≤ n
  below_le zero = omega (arith, below_none)
  below_le (suc n) =
      elim (dec_le p (f n)) [
        | yes l ↦ omega (arith, below_no n l, below_le n)
        | no l ↦ omega (arith, below_yes n (omega arith), below_le n)
      ]

  next_le : (n : ℕ) → count_below f p n ≤ count_below f p (suc n)
  unfolding count_below
  next_le n = omega arith

  below_mono : (a b : ℕ) → a ≤ b → count_below f p a ≤ count_below f p b
  below_mono a zero l = let z : a ≡ 0 = omega arith in rw z (omega arith)
  below_mono a (suc b) l = last (eq-or-lt_of_le l) (below_mono a b)
    where
      last : (a ≡ suc b) ⊎ (a < suc b) → (a ≤ b → count_below f p a ≤ count_below f p b) → count_below f p a ≤ count_below f p (suc b)
      last (inl e) r = rw e (omega arith)
      last (inr m) r = omega (arith, r (le_of_suc-le-suc m), next_le b)

  below_all : (n : ℕ) → ((k : ℕ) → k < n → f k < p) → count_below f p n ≡ n
  below_all zero h = below_none
  below_all (suc n) h = omega (arith, below_yes n (h n (omega arith)), below_all n (λ k l. h k (omega arith)))

  below_in : (n : ℕ) → ((a b : ℕ) → a ≤ b → b < n → f a ≤ f b) → (k : ℕ) → k < n → f k < p → k < count_below f p n
  below_in n mono k l m = omega (arith, below_all (suc k) (λ a q. omega (arith, mono a k (le_of_suc-le-suc q) l)), below_mono (suc k) n l)

  below_out : (n : ℕ) → ((a b : ℕ) → a ≤ b → b < n → f a ≤ f b) → (k : ℕ) → k < n → p ≤ f k → count_below f p n ≤ k
  below_out zero mono k l m = absurd (not-suc-le-zero l)
  below_out (suc n) mono k l m = last (eq-or-lt_of_le (le_of_suc-le-suc l)) (below_out n (λ a b u v. mono a b u (omega arith)) k)
    where
      same : count_below f p (suc n) ≡ count_below f p n
      same = below_no n (omega (arith, mono k n (le_of_suc-le-suc l) (omega arith)))

      last : (k ≡ n) ⊎ (k < n) → (k < n → p ≤ f k → count_below f p n ≤ k) → count_below f p (suc n) ≤ k
      last (inl e) r = omega (arith, same, below_le n)
      last (inr q) r = omega (arith, same, r q m)

first_none : (f : ℕ → ℕ) (n : ℕ) → count_below f 0 n ≡ 0
first_none f zero = below_none f 0
first_none f (suc n) = below_no f 0 n (omega arith) ∙ first_none f n

below_wider : (f : ℕ → ℕ) (p n : ℕ) → count_below f p n ≤ count_below f (p + 1) n
below_wider f p zero = omega (arith, below_none f p)
below_wider f p (suc n) =
    elim (dec_le p (f n)) [
      | yes l ↦ omega (arith, below_no f p n l, below_wider f p n, next_le f (p + 1) n)
      | no l ↦ omega (arith, below_yes f p n (omega arith), below_yes f (p + 1) n (omega arith), below_wider f p n)
    ]

-- ---- neighbours in order, and then any two

before_trans : (e : Entries) (i j k : ℕ) → Before e i j → Before e j k → Before e i k
before_trans e i j k a b = record {
  profile_order = omega (arith, a.profile_order, b.profile_order);
  context_order = λ p.
      let u : e.profile i ≡ e.profile j = omega (arith, a.profile_order, b.profile_order) in
      let v : e.profile j ≡ e.profile k = omega (arith, a.profile_order, b.profile_order) in
      omega (arith, a.context_order u, b.context_order v);
  metric_order = λ p c.
      let u : e.profile i ≡ e.profile j = omega (arith, a.profile_order, b.profile_order) in
      let v : e.profile j ≡ e.profile k = omega (arith, a.profile_order, b.profile_order) in
      let w : e.context i ≡ e.context j = omega (arith, a.context_order u, b.context_order v) in
      let x : e.context j ≡ e.context k = omega (arith, a.context_order u, b.context_order v) in
      omega (arith, a.metric_order u w, b.metric_order v x);
}

pub neighbours_sorted : (e : Entries) → ((k : ℕ) → suc k < e.count → Before e k (suc k)) → Ascending e
neighbours_sorted e h j zero l m = absurd (not-suc-le-zero l)
neighbours_sorted e h j (suc k) l m = last (eq-or-lt_of_le (le_of_suc-le-suc l)) (neighbours_sorted e h j k)
  where
    last : (j ≡ k) ⊎ (j < k) → (j < k → k < e.count → Before e j k) → Before e j (suc k)
    last (inl q) r = rw q (h k m)
    last (inr q) r = before_trans e j k (suc k) (r q (omega arith)) (h k m)

-- ---- the entries of a profile

module _ (e : Entries) (sorted : Ascending e) where
  profile_mono : (j k : ℕ) → j ≤ k → k < e.count → e.profile j ≤ e.profile k
  profile_mono j k l m = last (eq-or-lt_of_le l)
    where
      last : (j ≡ k) ⊎ (j < k) → e.profile j ≤ e.profile k
      last (inl q) = rw q (omega arith)
      last (inr q) = (sorted j k q m).profile_order

  pub run_le : (p : ℕ) → run_start e p ≤ e.count
  unfolding run_start
  run_le p = below_le e.profile p e.count

  pub run_in : (p k : ℕ) → k < e.count → e.profile k < p → k < run_start e p
  unfolding run_start
  run_in p k l m = below_in e.profile p e.count profile_mono k l m

  run_out : (p k : ℕ) → k < e.count → p ≤ e.profile k → run_start e p ≤ k
  unfolding run_start
  run_out p k l m = below_out e.profile p e.count profile_mono k l m

  -- the runs of the profiles stand one after the other
  pub first_run : run_start e 0 ≡ 0
  unfolding run_start
  first_run = first_none e.profile e.count

  run_rises : (p : ℕ) → run_start e p ≤ run_start e (p + 1)
  unfolding run_start
  run_rises p = below_wider e.profile p e.count

  pub run_next : (p : ℕ) → run_start e (p + 1) ≡ run_start e p + run_length e p
  unfolding run_length
  run_next p = omega (arith, run_rises p)

  -- each of them is an entry of profile p
  pub entry_in : (p k : ℕ) → k < run_length e p → (run_start e p + k < e.count) × (e.profile (run_start e p + k) ≡ p)
  unfolding run_length
  entry_in p k l =
      let n : run_start e p + k < e.count = omega (arith, run_le (p + 1)) in
      let low : p ≤ e.profile (run_start e p + k) =
      elim (dec_le p (e.profile (run_start e p + k))) [ yes u ↦ u | no u ↦ absurd (omega (arith, run_in p (run_start e p + k) n (omega arith))) ] in
      let high : e.profile (run_start e p + k) ≤ p =
      elim (dec_le (p + 1) (e.profile (run_start e p + k))) [ yes u ↦ absurd (omega (arith, run_out (p + 1) (run_start e p + k) n u)) | no u ↦ omega arith ] in
      (n, omega arith)

  -- where the next entry is none of its profile's, a run ends
  pub run_ends : (p k : ℕ) → run_start e p ≤ k → k ≤ run_start e (p + 1) → (k < e.count → e.profile k ≡ p → ⊥) → k ≡ run_start e (p + 1)
  run_ends p k l m other =
      elim (dec_le (run_start e (p + 1)) k) [
        | yes u ↦ omega arith
        | no u ↦
            (let i = entry_in p (k - run_start e p) (omega (arith, run_next p)) in
            let z : run_start e p + (k - run_start e p) ≡ k = omega arith in
            absurd (other (rw z at i.0) (rw z at i.1)))
      ]

  -- and every entry is among its profile's
  pub entry_of : (k : ℕ) → k < e.count → (run_start e (e.profile k) ≤ k) × (k - run_start e (e.profile k) < run_length e (e.profile k))
  unfolding run_length
  entry_of k l =
      let p = e.profile k in
      let u : run_start e p ≤ k = run_out p k l (omega arith) in
      let v : k < run_start e (p + 1) = run_in (p + 1) k l (omega arith) in
      (u, omega arith)

  -- two of them, in order
  pub both_before : (p j k : ℕ) → j < k → k < run_length e p → Before e (run_start e p + j) (run_start e p + k)
  both_before p j k l m = sorted (run_start e p + j) (run_start e p + k) (omega arith) (entry_in p k m).0

  pub same_profile : (p j k : ℕ) → j < run_length e p → k < run_length e p → e.profile (run_start e p + j) ≡ e.profile (run_start e p + k)
  same_profile p j k l m = (entry_in p j l).1 ∙ sym (entry_in p k m).1
