-- A loop over the counts of a chunk, which counts the zeros: what is counted with what is left is the same at every turn.
use Prim.Native.Nat.{ℕ, suc, ◌+◌, ◌-◌, ◌*◌, ◌≤◌, ◌<◌}
use mathlib.Core.List.{List, [], ◌∷◌}
use mathlib.Core.Path.{◌≡◌, sym, ap, ◌∙◌}
use native.Mathlib.Omega.{arith}
use lib.ListN.{length}
use Rattle.le.specs.Number.{number}
use Rattle.dcpi.specs.Samples.{counts_from, non_zero, sum_of}
use Rattle.dcpi.proofs.Counts.{counts_after, count_at, after_more, after_all, nonzero_skip, nonzero_take}

module _ (s : List ℕ) (place n : ℕ) where
  pub record Summed (zeros sum i : ℕ) : Type 0 where
    pub within : i ≤ n
    pub zeros_left : (offset : ℕ) → i + length (non_zero (counts_after s place offset n i)) ≡ zeros + length (non_zero (counts_from s place offset n))
    pub sum_left : (offset : ℕ) → sum + sum_of (counts_after s place offset n i) ≡ sum_of (counts_from s place offset n)
    pub few : zeros ≤ i
    pub small : sum ≤ i * 0xffff_ffff

  module _ {zeros sum i : ℕ} (h : Summed zeros sum i) where
    pub summed_all : n ≤ i → (offset : ℕ)
        → (n - zeros ≡ length (non_zero (counts_from s place offset n))) × (sum ≡ sum_of (counts_from s place offset n))
    unfolding non_zero sum_of
    summed_all l offset =
        let a : i + length (non_zero []) ≡ zeros + length (non_zero (counts_from s place offset n)) = rw (after_all s place offset n i l) at (h.zeros_left offset) in
        let b : sum + sum_of [] ≡ sum_of (counts_from s place offset n) = rw (after_all s place offset n i l) at (h.sum_left offset) in
        (omega (arith, h.within), omega arith)

    module _ (l : i < n) (count : ℕ) (e : count ≡ number 4 s (place + i * 4)) (m : count ≤ 0xffff_ffff) {more : ℕ} (t : more ≡ sum + count) where
      nonzero_here : (offset : ℕ)
          → i + length (non_zero (count_at s place offset i ∷ counts_after s place offset n (i + 1))) ≡ zeros + length (non_zero (counts_from s place offset n))
      nonzero_here offset = rw (after_more s place offset n i l) at (h.zeros_left offset)

      sum_next : (offset : ℕ) → more + sum_of (counts_after s place offset n (i + 1)) ≡ sum_of (counts_from s place offset n)
      unfolding sum_of
      sum_next offset =
          let a : sum + (number 4 s (place + i * 4) + sum_of (counts_after s place offset n (i + 1))) ≡ sum_of (counts_from s place offset n) =
          rw (after_more s place offset n i l) at (h.sum_left offset) in
          omega arith

      pub summed_zero : count ≡ 0 → Summed (zeros + 1) more (i + 1)
      summed_zero z = record {
        within = omega arith;
        zeros_left = λ offset.
            let b : length (non_zero (count_at s place offset i ∷ counts_after s place offset n (i + 1))) ≡ length (non_zero (counts_after s place offset n (i + 1))) =
            ap length (nonzero_skip (count_at s place offset i) (counts_after s place offset n (i + 1)) (sym e ∙ z)) in
            omega (arith, nonzero_here offset);
        sum_left = sum_next;
        few = omega (arith, h.few);
        small = omega (arith, h.small);
      }

      pub summed_more : (count ≡ 0 → ⊥) → Summed zeros more (i + 1)
      summed_more z = record {
        within = omega arith;
        zeros_left = λ offset.
            let b : length (non_zero (count_at s place offset i ∷ counts_after s place offset n (i + 1))) ≡ suc (length (non_zero (counts_after s place offset n (i + 1)))) =
            ap length (nonzero_take (count_at s place offset i) (counts_after s place offset n (i + 1)) (λ q. z (e ∙ q))) in
            omega (arith, nonzero_here offset);
        sum_left = sum_next;
        few = omega (arith, h.few);
        small = omega (arith, h.small);
      }
