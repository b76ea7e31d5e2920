-- Groups of sorted pairs are their distinct outer ids: those of the leaders increase strictly, and every pair has its leader's.
use Prim.Native.Nat.{ℕ, zero, suc, ◌+◌, ◌-◌, ◌≤◌, ◌<◌}
use mathlib.Core.Bool.{true}
use mathlib.Core.Path.{◌≡◌, refl, sym, ap, ◌∙◌}
use native.Mathlib.Omega.{arith}
use Rattle.block.specs.declared.Shape.{Shape}
use Rattle.block_file.specs.Pairs.{Pairs, leads, groups}
use Rattle.block_file.specs.Facts.{PairsFit}
use Rattle.block_file.proofs.Groups.{leader, stop, group_yes, leads_anew, same_group, Leader, leader_of, leader_lt, Member, member_group, member_of}

module _ (h : Shape) (e : Pairs) (s : PairsFit h e) where
  abbrev O : ℕ → ℕ
  O = e.outer

  abbrev n : ℕ
  n = e.count

  -- the outer ids of leaders increase
  pub outer_rise : (i j : ℕ) → i < j → j < groups e.outer e.count
      → e.outer (leader e.outer e.count i) < e.outer (leader e.outer e.count j)
  outer_rise i j l m = go (leader O n j) refl
    where
      q : Leader O n j
      q = leader_of O n j m

      go : (k : ℕ) → leader O n j ≡ k → O (leader O n i) < O (leader O n j)
      go zero z = absurd (omega (arith, leader_lt O n i j l m))
      go (suc k) z =
          let d : leads O (suc k) ≡ true = rw z at q.leading in
          let u : suc k < n = rw z at q.below in
          let v : leader O n i ≤ k = omega (arith, leader_lt O n i j l m) in
          let x : O k ≤ O (suc k) = s.outer_order k (suc k) (omega arith) u in
          let y : O (leader O n i) ≤ O k = s.outer_order (leader O n i) k v (omega arith) in
          let a : O k ≡ O (suc k) → ⊥ = leads_anew O k d in
          rw z (omega (arith, x, y, a))

  -- an element of group i is a pair, with the group's outer id
  in_group : (i k : ℕ) → i < groups O n → k < stop O n i - leader O n i → Member O n i (leader O n i + k)
  in_group i k l m = record { from = omega arith; before = omega arith }

  pub in_all : (i k : ℕ) → i < groups e.outer e.count → k < stop e.outer e.count i - leader e.outer e.count i
      → leader e.outer e.count i + k < e.count
  in_all i k l m = (member_group O n i (leader O n i + k) l (in_group i k l m)).1

  pub in_outer : (i k : ℕ) → i < groups e.outer e.count → k < stop e.outer e.count i - leader e.outer e.count i
      → e.outer (leader e.outer e.count i + k) ≡ e.outer (leader e.outer e.count i)
  in_outer i k l m =
      let p = leader_of O n i l in
      let g = (member_group O n i (leader O n i + k) l (in_group i k l m)).0 in
      sym (same_group O (leader O n i) (leader O n i + k) (omega arith) (omega (arith, g, group_yes O (leader O n i) p.leading, p.nth)))

  -- every pair has the outer id of a leader
  pub leader_has : (k : ℕ) → k < e.count → e.outer (leader e.outer e.count (groups e.outer (suc k) - 1)) ≡ e.outer k
  leader_has k l =
      let i = groups O (suc k) - 1 in
      let g : i < groups O n = (member_of O n k l).0 in
      let m : Member O n i k = (member_of O n k l).1 in
      let d : k - leader O n i < stop O n i - leader O n i = omega (arith, m.from, m.before) in
      let r : leader O n i + (k - leader O n i) ≡ k = omega (arith, m.from) in
      sym (in_outer i (k - leader O n i) g d) ∙ ap O r
