-- The string that the first NUL ends, by plain facts: where the NUL is, and whether the bytes before it are the encodings of code points.
use Rattle.std.specs.Prelude.{Ok, Err}
use Prim.Native.Nat.{ℕ, ◌≤◌}
use mathlib.Core.Bool.{Bool, true, false, true≢false}
use mathlib.Core.List.{List}
use mathlib.Core.Logic.{◌↔◌}
use mathlib.Core.Path.{◌≡◌, refl, sym, subst, ◌∙◌}
use native.Mathlib.Omega.{arith}
use native.Mathlib.Decide.{dec_le}
use borrow.Author.Tests.{lt-ltb, le-ltb}
use lib.ListN.{length, take}
use Rattle.refusal.specs.Check.{either}
use Rattle.scan.specs.Until.{until}
use Rattle.scan.specs.Facts.{FirstIs}
use Rattle.scan.proofs.Facts.{until_iff}
use Rattle.utf8.specs.Grammar.{is_utf8}
use Rattle.utf8.specs.Encoding.{Encoded}
use Rattle.utf8.specs.Terminated.{before_nul, terminated}
use Rattle.utf8.specs.declared.Fault.TheVariants.{Invalid, Unterminated}
use Rattle.utf8.proofs.Encoding.{utf8_iff}

not_encoded_iff : (bytes : List ℕ) → (is_utf8 bytes ≡ false) ↔ (Encoded bytes → ⊥)
not_encoded_iff bytes = (λ e h. true≢false (sym ((utf8_iff bytes).1 h) ∙ e), λ n. go (is_utf8 bytes) refl n)
  where
    go : (t : Bool) → is_utf8 bytes ≡ t → (Encoded bytes → ⊥) → t ≡ false
    go true e n = absurd (n ((utf8_iff bytes).0 e))
    go false e n = refl

module _ (bytes : List ℕ) where
  by_nul : (n : ℕ) → FirstIs 0 bytes n → (t : Bool) → is_utf8 (take n bytes) ≡ t → terminated bytes ≡ either t (Ok n) (Err Invalid)
  unfolding terminated before_nul either
  by_nul n f t e = let z = (until_iff 0 bytes n).1 f in rw (z.0, lt-ltb n (length bytes) z.1, e)

  is_valid : (n : ℕ) → FirstIs 0 bytes n → Encoded (take n bytes) → terminated bytes ≡ Ok n
  unfolding either
  is_valid n f h = by_nul n f true ((utf8_iff (take n bytes)).1 h)

  is_invalid : (n : ℕ) → FirstIs 0 bytes n → (Encoded (take n bytes) → ⊥) → terminated bytes ≡ Err Invalid
  unfolding either
  is_invalid n f h = by_nul n f false ((not_encoded_iff (take n bytes)).1 h)

  is_unterminated : length bytes ≤ until 0 bytes → terminated bytes ≡ Err Unterminated
  unfolding terminated either
  is_unterminated h = rw (le-ltb (until 0 bytes) (length bytes) h)

  -- there is a NUL and the bytes before it are UTF-8, or they are not, or there is none
  by_cases : {A : Type 0} → ((n : ℕ) → FirstIs 0 bytes n → Encoded (take n bytes) → A)
      → ((n : ℕ) → FirstIs 0 bytes n → (Encoded (take n bytes) → ⊥) → A) → (length bytes ≤ until 0 bytes → A) → A
  by_cases {A} good bad none =
      elim (dec_le (length bytes) (until 0 bytes)) [
        | yes h ↦ none h
        | no h ↦ go ((until_iff 0 bytes (until 0 bytes)).0 (refl, omega arith)) (is_utf8 (take (until 0 bytes) bytes)) refl
      ]
    where
      go : FirstIs 0 bytes (until 0 bytes) → (t : Bool) → is_utf8 (take (until 0 bytes) bytes) ≡ t → A
      go f true e = good (until 0 bytes) f ((utf8_iff (take (until 0 bytes) bytes)).0 e)
      go f false e = bad (until 0 bytes) f ((not_encoded_iff (take (until 0 bytes) bytes)).0 e)

  -- a string of n bytes exactly if the first NUL is byte n and the bytes before it are the encodings of code points
  pub valid_iff : (n : ℕ) → (terminated bytes ≡ Ok n) ↔ (FirstIs 0 bytes n × Encoded (take n bytes))
  valid_iff n = (
    λ e. by_cases
        (λ m f h. let told = is_valid m f h in let z : m ≡ n = cc in subst (λ (k : ℕ). FirstIs 0 bytes k × Encoded (take k bytes)) z (f, h))
        (λ m f h. let told = is_invalid m f h in absurd (let z : ◌≡◌ {A = ℕ} 0 1 = cc in omega arith))
        (λ h. let told = is_unterminated h in absurd (let z : ◌≡◌ {A = ℕ} 0 1 = cc in omega arith)),
    λ h. is_valid n h.0 h.1,
  )

  pub invalid_iff : (terminated bytes ≡ Err Invalid) ↔ ((n : ℕ) × (FirstIs 0 bytes n × (Encoded (take n bytes) → ⊥)))
  invalid_iff = (
    λ e. by_cases
        (λ m f h. let told = is_valid m f h in absurd (let z : ◌≡◌ {A = ℕ} 0 1 = cc in omega arith))
        (λ m f h. (m, (f, h)))
        (λ h. let told = is_unterminated h in absurd (let z : ◌≡◌ {A = ℕ} 0 1 = cc in omega arith)),
    λ h. is_invalid h.0 h.1.0 h.1.1,
  )

  pub unterminated_iff : (terminated bytes ≡ Err Unterminated) ↔ ((n : ℕ) → FirstIs 0 bytes n → ⊥)
  unterminated_iff = (
    λ e n f. by_cases
        (λ m g h. let told = is_valid m g h in let z : ◌≡◌ {A = ℕ} 0 1 = cc in omega arith)
        (λ m g h. let told = is_invalid m g h in let z : ◌≡◌ {A = ℕ} 0 1 = cc in omega arith)
        (λ h. let z = (until_iff 0 bytes n).1 f in omega (arith, z.0, z.1)),
    λ none. by_cases (λ m g h. absurd (none m g)) (λ m g h. absurd (none m g)) is_unterminated,
  )
