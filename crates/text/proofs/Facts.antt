-- Strings by plain facts about bytes: the bytes of a section are those of the file, and the first NUL among them decides.
use Rattle.std.specs.Prelude.{Err, Ok, Result}
use Rattle.utf8.specs.declared.Fault.{Fault}
use Prim.Native.Nat.{ℕ, ◌+◌, ◌-◌, ◌≤◌, ◌<◌}
use mathlib.Core.List.{List}
use mathlib.Core.Logic.{◌↔◌}
use mathlib.Core.Path.{◌≡◌, refl, sym, ap, subst, ◌∙◌}
use native.Mathlib.Decide.{dec_le}
use native.Mathlib.Omega.{arith}
use lib.ListN.{length, get_or, take, drop}
use lib.Seq.{get_or-take, get_or-drop, take-take}
use Rattle.refusal.specs.declared.Refusal.TheVariants as No
use Rattle.scan.specs.Facts.{FirstIs}
use Rattle.utf8.specs.Terminated.{terminated}
use Rattle.utf8.specs.declared.Fault.TheVariants.{Invalid, Unterminated}
use Rattle.utf8.specs.Encoding.{Encoded}
use Rattle.utf8.proofs.Facts.{valid_iff, invalid_iff, unterminated_iff}
use Rattle.refusal.proofs.Checks.{ok_same}
use Rattle.text.specs.declared.Text.{Text}
use Rattle.text.specs.String.{bytes_from, text_of, string_at, given_text}
use Rattle.text.specs.Facts.{IsString, PlaceSays}
use Rattle.text.proofs.Laws.{outside, from_place, count}

-- ---- an answer tells what was found

pub text_fields : {p q m n : ℕ} → given_text p m ≡ given_text q n → (p ≡ q) × (m ≡ n)
text_fields e = (ap (λ (t : Text). t.place) (ok_same e), ap (λ (t : Text). t.length) (ok_same e))

text_at_iff : (place p n : ℕ) (u : Result ℕ Fault) → (text_of place u ≡ given_text p n) ↔ ((p ≡ place) × (u ≡ Ok n))
unfolding text_of
text_at_iff place p n (Ok m) = (
  λ e. let f = text_fields e in (sym f.0, ap Ok f.1),
  λ h. let z : m ≡ n = cc in rw (h.0, z),
)
text_at_iff place p n (Err Invalid) = (
  λ e. absurd (let z : ◌≡◌ {A = ℕ} 0 1 = cc in omega arith),
  λ h. absurd (let y = h.1 in let z : ◌≡◌ {A = ℕ} 0 1 = cc in omega arith),
)
text_at_iff place p n (Err Unterminated) = (
  λ e. absurd (let z : ◌≡◌ {A = ℕ} 0 1 = cc in omega arith),
  λ h. absurd (let y = h.1 in let z : ◌≡◌ {A = ℕ} 0 1 = cc in omega arith),
)

8-iff : (place : ℕ) (u : Result ℕ Fault) → (text_of place u ≡ Err No.String) ↔ (u ≡ Err Unterminated)
unfolding text_of
8-iff place (Ok m) = (λ e. absurd (let z : ◌≡◌ {A = ℕ} 0 1 = cc in omega arith), λ e. absurd (let z : ◌≡◌ {A = ℕ} 0 1 = cc in omega arith))
8-iff place (Err Invalid) = (λ e. absurd (let z : ◌≡◌ {A = ℕ} 0 1 = cc in omega arith), λ e. absurd (let z : ◌≡◌ {A = ℕ} 0 1 = cc in omega arith))
8-iff place (Err Unterminated) = (λ e. refl, λ e. refl)

19-iff : (place : ℕ) (u : Result ℕ Fault) → (text_of place u ≡ Err No.Spelling) ↔ (u ≡ Err Invalid)
unfolding text_of
19-iff place (Ok m) = (λ e. absurd (let z : ◌≡◌ {A = ℕ} 0 1 = cc in omega arith), λ e. absurd (let z : ◌≡◌ {A = ℕ} 0 1 = cc in omega arith))
19-iff place (Err Invalid) = (λ e. refl, λ e. refl)
19-iff place (Err Unterminated) = (λ e. absurd (let z : ◌≡◌ {A = ℕ} 0 1 = cc in omega arith), λ e. absurd (let z : ◌≡◌ {A = ℕ} 0 1 = cc in omega arith))

-- ---- the bytes of a section

module _ (file section : List ℕ) (place : ℕ) where
  abbrev part : List ℕ
  part = bytes_from file section place

  -- where a byte of the part stands in the file
  same_byte : get_or section 0 0 ≤ place → (j : ℕ) → place + j < get_or section 0 0 + get_or section 1 0
      → get_or part j 0 ≡ get_or file (place + j) 0
  same_byte h j l =
      let bytes = get_or section 0 0 + get_or section 1 0 - place in
      rw (from_place file section place h) (get_or-take bytes (drop place file) j 0 (omega arith) ∙ get_or-drop place file j 0)

  inside_iff : (n : ℕ) → get_or section 0 0 ≤ place
      → (n < length part) ↔ ((place + n < get_or section 0 0 + get_or section 1 0) × (place + n < length file))
  inside_iff n h = let e = count file section place h in (λ l. (omega arith, omega arith), λ l. omega (arith, l.0, l.1))

  first_iff : (n : ℕ) → FirstIs 0 part n ↔ IsString file section place n
  first_iff n = (
    λ f. elim (dec_le (get_or section 0 0) place) [
      | yes h ↦
          let l = (inside_iff n h).0 f.inside in
          record {
            starts = h;
            ends = l.0;
            in_file = l.1;
            nul = sym (same_byte h n l.0) ∙ f.here;
            none_before = λ j m e. f.none_before j m (same_byte h j (omega (arith, l.0)) ∙ e);
          }
      | no h ↦ absurd (omega (arith, f.inside, outside file section place (omega arith)))
    ],
    λ s. record {
      inside = (inside_iff n s.starts).1 (s.ends, s.in_file);
      here = same_byte s.starts n s.ends ∙ s.nul;
      none_before = λ j m e. s.none_before j m (sym (same_byte s.starts j (omega (arith, s.ends))) ∙ e);
    },
  )

  -- the string's bytes are the file's
  same_bytes : (n : ℕ) → FirstIs 0 part n → take n part ≡ take n (drop place file)
  same_bytes n f =
      let s = (first_iff n).0 f in
      let most : n ≤ get_or section 0 0 + get_or section 1 0 - place = omega (arith, s.ends, s.starts) in
      rw (from_place file section place s.starts) (take-take n (get_or section 0 0 + get_or section 1 0 - place) (drop place file) most)

  -- a place that is asked for is read
  pub string_says : PlaceSays file (record { section = section; place = place; Read = Unit }) (string_at file section place)
  unfolding string_at
  string_says = record {
    handed-back = λ p n. (
      λ e.
          let told = (text_at_iff place p n (terminated part)).0 e in
          let good = (valid_iff part n).0 told.1 in
          (tt, (told.0, ((first_iff n).0 good.0, subst Encoded (same_bytes n good.0) good.1))),
      λ h.
          let text = h.1.1 in
          let f = (first_iff n).1 text.0 in
          (text_at_iff place p n (terminated part)).1 (h.1.0, (valid_iff part n).1 (f, subst Encoded (sym (same_bytes n f)) text.1)),
    );
    is_8 = (
      λ e. (tt, λ n s. (unterminated_iff part).0 ((8-iff place (terminated part)).0 e) n ((first_iff n).1 s)),
      λ h. (8-iff place (terminated part)).1 ((unterminated_iff part).1 (λ n f. h.1 n ((first_iff n).0 f))),
    );
    is_19 = (
      λ e.
          let bad = (invalid_iff part).0 ((19-iff place (terminated part)).0 e) in
          let f = bad.1.0 in
          (tt, (bad.0, ((first_iff bad.0).0 f, λ u. bad.1.1 (subst Encoded (sym (same_bytes bad.0 f)) u)))),
      λ h.
          let n = h.1.0 in
          let f = (first_iff n).1 h.1.1.0 in
          (19-iff place (terminated part)).1 ((invalid_iff part).1 (n, (f, λ u. h.1.1.1 (subst Encoded (same_bytes n f) u)))),
    );
  }
