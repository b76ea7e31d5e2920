-- Groups of pairs that stand together: each has a first pair, ends where the next begins, and every pair is in exactly one.
use Prim.Native.Nat.{ℕ, zero, suc, ◌+◌, ◌-◌, ◌≤◌, ◌<◌}
use mathlib.Core.Path.{◌≡◌, refl, sym, ap, ◌∙◌}
use mathlib.Core.Bool.{Bool, true, false, ◌&&◌}
use mathlib.Core.Logic.{◌⊎◌, inl, inr}
use native.Mathlib.Nat.{eq-or-lt_of_le, le_of_suc-le-suc, not-suc-le-zero}
use native.Mathlib.Decide.{dec_le}
use native.Mathlib.Omega.{arith}
use borrow.Author.Tests.{eq-eqb, ne_eqb, eqb-true, eqb-false, not-true, not-false, lt-ltb, le-ltb}
use lib.Dec.{eqb, ltb}
use Rattle.refusal.specs.Check.{either}
use Rattle.block_file.specs.Pairs.{leads, groups}

-- the first pair of group i, and the pair past its last
unfoldable pub leader : (outer : ℕ → ℕ) (n i : ℕ) → ℕ
leader outer zero i = 0
leader outer (suc n) i = either (leads outer n && eqb (groups outer n) i) n (leader outer n i)

unfoldable pub stop : (outer : ℕ → ℕ) (n i : ℕ) → ℕ
stop outer n i = either (ltb (i + 1) (groups outer n)) (leader outer n (i + 1)) n

module _ (O : ℕ → ℕ) where
  pub group_yes : (n : ℕ) → leads O n ≡ true → groups O (suc n) ≡ groups O n + 1
  unfolding groups either
  group_yes n e = rw e

  pub group_no : (n : ℕ) → leads O n ≡ false → groups O (suc n) ≡ groups O n
  unfolding groups either
  group_no n e = rw e (omega arith)

  next_le : (n : ℕ) → groups O n ≤ groups O (suc n)
  unfolding groups either
  next_le n = omega arith

  pub groups_le : (a b : ℕ) → a ≤ b → groups O a ≤ groups O b
  groups_le a zero l = let z : a ≡ 0 = omega arith in rw z (omega arith)
  groups_le a (suc b) l = last (eq-or-lt_of_le l) (groups_le a b)
    where
      last : (a ≡ suc b) ⊎ (a < suc b) → (a ≤ b → groups O a ≤ groups O b) → groups O a ≤ groups O (suc b)
      last (inl e) r = rw e (omega arith)
      last (inr m) r = omega (arith, r (le_of_suc-le-suc m), next_le b)

  pub groups_none : groups O 0 ≡ 0
  unfolding groups
  groups_none = refl

  pub groups_one : groups O 1 ≡ 1
  unfolding groups leads either
  groups_one = refl

  -- a group has a pair
  pub groups_most : (n : ℕ) → groups O n ≤ n
  groups_most zero = omega (arith, groups_none)
  groups_most (suc n) = go (leads O n) refl (groups_most n)
    where
      go : (t : Bool) → leads O n ≡ t → groups O n ≤ n → groups O (suc n) ≤ suc n
      go true e r = omega (arith, group_yes n e)
      go false e r = omega (arith, group_no n e)

  -- the first pair of group i
  pub record Leader (n i : ℕ) : Type 0 where
    pub leading : leads O (leader O n i) ≡ true
    pub nth : groups O (leader O n i) ≡ i
    pub below : leader O n i < n

  pub leader_of : (n i : ℕ) → i < groups O n → Leader n i
  unfolding groups leader either
  leader_of zero i l = absurd (not-suc-le-zero l)
  leader_of (suc n) i l = go (leads O n) refl (leader_of n i)
    where
      Goal : ℕ → Type 0
      Goal k = (leads O k ≡ true) × (groups O k ≡ i) × (k < suc n)

      pack : (leads O (leader O (suc n) i) ≡ true) × (groups O (leader O (suc n) i) ≡ i) × (leader O (suc n) i < suc n) → Leader (suc n) i
      pack g = record { leading = g.0; nth = g.1; below = g.2 }

      down : (i < groups O n → Leader n i) → i < groups O n → (leads O (leader O n i) ≡ true) × (groups O (leader O n i) ≡ i) × (leader O n i < suc n)
      down r m = let q = r m in (q.leading, q.nth, omega (arith, q.below))

      go : (t : Bool) → leads O n ≡ t → (i < groups O n → Leader n i) → Leader (suc n) i
      go true e r = found (eq-or-lt_of_le (le_of_suc-le-suc m))
        where
          m : i < suc (groups O n)
          m = omega (arith, l, group_yes n e)

          found : (i ≡ groups O n) ⊎ (i < groups O n) → Leader (suc n) i
          found (inl q) = pack (rw (e, eq-eqb (groups O n) i (sym q)) (e, sym q, omega arith))
          found (inr k) = pack (rw (e, ne_eqb (groups O n) i (λ z. omega arith)) (down r k))
      go false e r = pack (rw e (down r (omega (arith, l, group_no n e))))

  -- pairs of one group have one outer identifier
  stays : (k : ℕ) → leads O (suc k) ≡ false → O k ≡ O (suc k)
  unfolding leads
  stays k e = eqb-true _ _ (not-false _ e)

  -- and a leader differs from the pair before it
  pub leads_anew : (k : ℕ) → leads O (suc k) ≡ true → O k ≡ O (suc k) → ⊥
  unfolding leads
  leads_anew k e q = eqb-false (O k) (O (suc k)) (not-true _ e) q

  pub same_group : (a b : ℕ) → a ≤ b → groups O (suc b) ≤ groups O (suc a) → O a ≡ O b
  same_group a zero l g = let z : a ≡ 0 = omega arith in ap O z
  same_group a (suc b) l g = last (eq-or-lt_of_le l) (same_group a b)
    where
      go : (t : Bool) → leads O (suc b) ≡ t → a ≤ b → (a ≤ b → groups O (suc b) ≤ groups O (suc a) → O a ≡ O b) → O a ≡ O (suc b)
      go true e m r = absurd (omega (arith, group_yes (suc b) e, groups_le (suc a) (suc b) (omega arith)))
      go false e m r = r m (omega (arith, group_no (suc b) e)) ∙ stays b e

      last : (a ≡ suc b) ⊎ (a < suc b) → (a ≤ b → groups O (suc b) ≤ groups O (suc a) → O a ≡ O b) → O a ≡ O (suc b)
      last (inl e) r = ap O e
      last (inr m) r = go (leads O (suc b)) refl (le_of_suc-le-suc m) r

  -- ---- groups of the pairs below n

  module _ (n : ℕ) where
    pub leader_zero : 0 < n → leader O n 0 ≡ 0
    leader_zero l =
        let z = leader_of n 0 (omega (arith, groups_one, groups_le 1 n l)) in
        elim (dec_le 1 (leader O n 0)) [
          | yes m ↦ absurd (omega (arith, z.nth, groups_one, groups_le 1 (leader O n 0) m))
          | no m ↦ omega arith
        ]

    pub leader_lt : (i j : ℕ) → i < j → j < groups O n → leader O n i < leader O n j
    leader_lt i j l m =
        let p = leader_of n i (omega arith) in
        let q = leader_of n j m in
        elim (dec_le (leader O n j) (leader O n i)) [
          | yes u ↦ absurd (omega (arith, p.nth, q.nth, groups_le (leader O n j) (leader O n i) u))
          | no u ↦ omega arith
        ]

    stop_inner : (i : ℕ) → i + 1 < groups O n → stop O n i ≡ leader O n (i + 1)
    unfolding stop either
    stop_inner i l = rw (lt-ltb _ _ l)

    stop_last : (i : ℕ) → groups O n ≤ i + 1 → stop O n i ≡ n
    unfolding stop either
    stop_last i l = rw (le-ltb _ _ l)

    -- a pair of group i
    pub record Member (i k : ℕ) : Type 0 where
      pub from : leader O n i ≤ k
      pub before : k < stop O n i

    pub member_group : (i k : ℕ) → i < groups O n → Member i k → (groups O (suc k) ≡ i + 1) × (k < n)
    member_group i k l m =
        elim (dec_le (groups O n) (i + 1)) [
          | yes u ↦ (let b : k < n = rw (stop_last i u) at m.before in (omega (arith, low, groups_le (suc k) n b), b))
          | no u ↦
              (let v : i + 1 < groups O n = omega arith in
              let q = leader_of n (i + 1) v in
              let b : k < leader O n (i + 1) = rw (stop_inner i v) at m.before in
              (omega (arith, low, q.nth, groups_le (suc k) (leader O n (i + 1)) b), omega (arith, q.below)))
        ]
      where
        low : i + 1 ≤ groups O (suc k)
        low =
            let p = leader_of n i l in
            omega (arith, group_yes (leader O n i) p.leading, p.nth, groups_le (suc (leader O n i)) (suc k) (omega (arith, m.from)))

    -- every pair is in one
    pub member_of : (k : ℕ) → k < n → (groups O (suc k) - 1 < groups O n) × Member (groups O (suc k) - 1) k
    member_of k l = (small, record { from = from_le; before = before_lt })
      where
        some : 1 ≤ groups O (suc k)
        some = omega (arith, groups_one, groups_le 1 (suc k) (omega arith))

        small : groups O (suc k) - 1 < groups O n
        small = omega (arith, some, groups_le (suc k) n l)

        from_le : leader O n (groups O (suc k) - 1) ≤ k
        from_le =
            let p = leader_of n (groups O (suc k) - 1) small in
            elim (dec_le (leader O n (groups O (suc k) - 1)) k) [
              | yes u ↦ u
              | no u ↦ absurd (omega (arith, some, p.nth, groups_le (suc k) (leader O n (groups O (suc k) - 1)) (omega arith)))
            ]

        before_lt : k < stop O n (groups O (suc k) - 1)
        before_lt =
            elim (dec_le (groups O n) (groups O (suc k) - 1 + 1)) [
              | yes u ↦ rw (stop_last (groups O (suc k) - 1) u) l
              | no u ↦
                  (let v : groups O (suc k) - 1 + 1 < groups O n = omega arith in
                  let q = leader_of n (groups O (suc k) - 1 + 1) v in
                  rw (stop_inner (groups O (suc k) - 1) v)
                  (elim (dec_le (leader O n (groups O (suc k) - 1 + 1)) k) [
                    | yes w ↦ absurd (omega (arith, some, q.nth, group_yes (leader O n (groups O (suc k) - 1 + 1)) q.leading, groups_le (suc (leader O n (groups O (suc k) - 1 + 1))) (suc k) (omega arith)))
                    | no w ↦ omega arith
                  ]))
            ]
