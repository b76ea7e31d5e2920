-- Totals by facts: what each answer says of the entries.
use Rattle.total.specs.declared.Totals.{Totals}
use Rattle.refusal.proofs.Checks.{found_same}
use Rattle.std.specs.Prelude.{Err}
use Prim.Native.Nat.{ℕ, zero, suc, ◌<◌}
use mathlib.Core.Bool.{Bool, true, false}
use mathlib.Core.Logic.{◌↔◌}
use mathlib.Core.Path.{◌≡◌, refl, ◌∙◌, ap, sym}
use native.Mathlib.Omega.{arith}
use lib.Dec.{T}
use lib.Ieee.{binary64, of_bits, to_bits, fits}
use lib.Ieee.Bits.{of_bits-to_bits, of_bits-fits}
use lib.Ieee.Fits.{add-fits}
use Rattle.refusal.specs.declared.Refusal.{Refusal}
use Rattle.refusal.specs.declared.Refusal.TheVariants as No
use Rattle.refusal.specs.Check.{either, Absent}
use Rattle.seq.proofs.Every.{every_not, every_broken}
use Rattle.float.specs.Float.{finite}
use Rattle.total.specs.Totals.{start_of, step_of, tally_to, all_finite, finish, totals_of, given_totals}
use Rattle.total.specs.Facts.{sum_to, Totalled}
use Rattle.total.proofs.Firsts.{finite_at, first_least, first_greatest}

module _ (ids bits : ℕ → ℕ) where
  -- the sum of a tally has bits, from which it is read back
  sum_fits : (k : ℕ) → T (fits binary64 (tally_to ids bits k).sum)
  unfolding tally_to start_of step_of
  sum_fits zero = of_bits-fits binary64 (bits 0)
  sum_fits (suc k) = add-fits binary64 (tally_to ids bits k).sum (of_bits binary64 (bits (suc k)))

  sum_is : (k : ℕ) → to_bits binary64 (tally_to ids bits k).sum ≡ sum_to bits k
  unfolding tally_to start_of step_of
  sum_is zero = refl
  sum_is (suc k) = rw (← sum_is k, of_bits-to_bits binary64 (tally_to ids bits k).sum (sum_fits k))

  -- there is no entry exactly if the totals are absent
  pub absent_iff : (n : ℕ) → (totals_of ids bits n ≡ Absent) ↔ (n ≡ 0)
  unfolding totals_of either finish
  absent_iff zero = (λ e. refl, λ e. refl)
  absent_iff (suc k) = (λ e. absurd (go (all_finite bits (suc k)) e), λ z. absurd (omega arith))
    where
      go : (t : Bool) → either t (finish (suc k) (tally_to ids bits k)) (Err No.NotFinite) ≡ Absent → ⊥
      go true e = let z : ◌≡◌ {A = ℕ} 0 1 = cc in omega arith
      go false e = let z : ◌≡◌ {A = ℕ} 0 1 = cc in omega arith

  -- totals are refused with 16 exactly if the value of some entry is not finite
  pub refused_16 : (n : ℕ) → (totals_of ids bits n ≡ Err No.NotFinite) ↔ ((0 < n) × ((i : ℕ) × ((i < n) × (finite (bits i) ≡ false))))
  unfolding totals_of either finish
  refused_16 zero = (λ e. absurd (let z : ◌≡◌ {A = ℕ} 0 1 = cc in omega arith), λ k. absurd (omega (arith, k.0)))
  refused_16 (suc k) = (
    go (all_finite bits (suc k)) refl,
    λ s. rw (every_not (λ i. finite (bits i)) (suc k) s.1.0 s.1.1.0 s.1.1.1),
  )
    where
      go : (t : Bool) → all_finite bits (suc k) ≡ t → either t (finish (suc k) (tally_to ids bits k)) (Err No.NotFinite) ≡ Err No.NotFinite
          → (0 < suc k) × ((i : ℕ) × ((i < suc k) × (finite (bits i) ≡ false)))
      go true f e = absurd (let z : ◌≡◌ {A = ℕ} 0 1 = cc in omega arith)
      go false f e = (omega arith, every_broken (λ i. finite (bits i)) (suc k) f)

  -- totals are refused by 16 alone
  pub only_16 : (n : ℕ) (r : Refusal) → totals_of ids bits n ≡ Err r → r ≡ No.NotFinite
  unfolding totals_of either finish
  only_16 zero r e = absurd (let z : ◌≡◌ {A = ℕ} 0 1 = cc in omega arith)
  only_16 (suc k) r e = go (all_finite bits (suc k)) e
    where
      go : (t : Bool) → either t (finish (suc k) (tally_to ids bits k)) (Err No.NotFinite) ≡ Err r → r ≡ No.NotFinite
      go true e = absurd (let z : ◌≡◌ {A = ℕ} 0 1 = cc in omega arith)
      go false e = cc

  -- totals that are answered are those of all entries, each of them finite
  pub totalled : (n count least_of least greatest_of greatest sum : ℕ) → totals_of ids bits n ≡ given_totals count least_of least greatest_of greatest sum
      → (count ≡ n) × Totalled ids bits n least_of least greatest_of greatest sum
  unfolding totals_of either finish
  totalled zero count least_of least greatest_of greatest sum e = absurd (let z : ◌≡◌ {A = ℕ} 0 1 = cc in omega arith)
  totalled (suc k) count least_of least greatest_of greatest sum e = go (all_finite bits (suc k)) refl e
    where
      go : (t : Bool) → all_finite bits (suc k) ≡ t
          → either t (finish (suc k) (tally_to ids bits k)) (Err No.NotFinite) ≡ given_totals count least_of least greatest_of greatest sum
          → (count ≡ suc k) × Totalled ids bits (suc k) least_of least greatest_of greatest sum
      go true f q =
          let same = found_same q in
          let c : count ≡ suc k = ap (λ (t : Totals). t.count) (sym same) in
          let a : (tally_to ids bits k).least_of ≡ least_of = ap (λ (t : Totals). t.least_of) same in
          let b : (tally_to ids bits k).least ≡ least = ap (λ (t : Totals). t.least) same in
          let g : (tally_to ids bits k).greatest_of ≡ greatest_of = ap (λ (t : Totals). t.greatest_of) same in
          let h : (tally_to ids bits k).greatest ≡ greatest = ap (λ (t : Totals). t.greatest) same in
          let s : sum ≡ to_bits binary64 (tally_to ids bits k).sum = ap (λ (t : Totals). t.sum) (sym same) in (
            c,
            record {
              some = omega arith;
              all-finite = finite_at ids bits (suc k) f;
              first_least = rw (← a, ← b) (first_least ids bits k f);
              first_greatest = rw (← g, ← h) (first_greatest ids bits k f);
              summed = (k, (refl, s ∙ sum_is k));
            },
          )
      go false f q = absurd (let z : ◌≡◌ {A = ℕ} 0 1 = cc in omega arith)
