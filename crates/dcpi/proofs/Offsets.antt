-- The counts of chunks that keep the rules rise by their offsets, so that at most one is for an offset.
use Rattle.std.specs.Prelude.{Some, None}
use Prim.Native.Nat.{ℕ, zero, suc, ◌+◌, ◌*◌, ◌≤◌, ◌<◌}
use mathlib.Core.Bool.{Bool, true, false}
use mathlib.Core.List.{List, [], ◌∷◌, ◌++◌}
use mathlib.Core.Logic.{◌⊎◌, inl, inr}
use mathlib.Core.Path.{◌≡◌, refl, sym, ap, ◌∙◌, subst}
use native.Mathlib.Omega.{arith}
use borrow.Author.Tests.{eqb-true, eqb-false, eq-eqb, ne_eqb}
use lib.Dec.{eqb}
use Rattle.le.specs.Number.{number}
use Rattle.refusal.specs.Check.{either, Passed}
use Rattle.seq.specs.Lists.{All, In, Ordered}
use Rattle.seq.proofs.Lists.{all_imp, all_append, ordered_append, in_first, in_rest, in_none, in_cases, all_in, all_of}
use Rattle.dcpi.specs.Samples.{spacing, Chunk, last_offset, OffsetCount, counts_from, counts_of, counts_of_all, non_zero}
use Rattle.dcpi.specs.Check.{chunks_check}
use Rattle.dcpi.specs.Answers.{count_for}
use Rattle.dcpi.proofs.Counts.{count_at}
use Rattle.dcpi.proofs.Rules.{check_kept}

abbrev pub RisingOffsets : OffsetCount → OffsetCount → Type 0
RisingOffsets x y = x.offset < y.offset

abbrev pub NotFor : (offset : ℕ) → OffsetCount → Type 0
NotFor offset x = x.offset ≡ offset → ⊥

module _ (s : List ℕ) where
  -- ---- the counts of a chunk, each by its number

  abbrev pub NumberedCount : (place offset n : ℕ) → OffsetCount → Type 0
  NumberedCount place offset n x = (i : ℕ) × ((i < n) × (x ≡ count_at s place offset i))

  next_is : (place offset i : ℕ) → count_at s (place + 4) (offset + spacing) i ≡ count_at s place offset (suc i)
  next_is place offset i =
      let a : place + 4 + i * 4 ≡ place + suc i * 4 = omega arith in
      let b : offset + spacing + i * spacing ≡ offset + suc i * spacing = omega arith in
      rw (a, b)

  first_is : (place offset : ℕ) → record { offset = offset; count = number 4 s place } ≡ count_at s place offset 0
  first_is place offset =
      let a : place + 0 * 4 ≡ place = omega arith in
      let b : offset + 0 * spacing ≡ offset = omega arith in
      rw (a, b)

  pub counts_are : (place offset n : ℕ) → All (NumberedCount place offset n) (counts_from s place offset n)
  unfolding counts_from
  counts_are place offset zero = tt
  counts_are place offset (suc n) = (
    (0, (omega arith, first_is place offset)),
    all_imp (λ x h. (suc h.0, (omega (arith, h.1.0), h.1.1 ∙ next_is place offset h.0))) (counts_from s (place + 4) (offset + spacing) n)
        (counts_are (place + 4) (offset + spacing) n),
  )

  pub counts_at : (place offset n i : ℕ) → i < n → In (count_at s place offset i) (counts_from s place offset n)
  unfolding counts_from
  counts_at place offset zero i l = absurd (omega arith)
  counts_at place offset (suc n) zero l =
      rw (← first_is place offset) (in_first (record { offset = offset; count = number 4 s place }) (counts_from s (place + 4) (offset + spacing) n))
  counts_at place offset (suc n) (suc i) l =
      rw (← next_is place offset i) (in_rest (record { offset = offset; count = number 4 s place }) (counts_at (place + 4) (offset + spacing) n i (omega arith)))

  -- ---- they rise

  chunk_rises : (place offset n : ℕ) → Ordered RisingOffsets (counts_from s place offset n)
  unfolding counts_from
  chunk_rises place offset zero = tt
  chunk_rises place offset (suc n) = (
    all_imp (λ x h. let e : x.offset ≡ offset + spacing + h.0 * spacing = ap (λ (y : OffsetCount). y.offset) h.1.1 in omega arith)
        (counts_from s (place + 4) (offset + spacing) n) (counts_are (place + 4) (offset + spacing) n),
    chunk_rises (place + 4) (offset + spacing) n,
  )

  -- none is below the least offset of the check
  pub from_least : (least : ℕ) (cs : List Chunk) → chunks_check s least cs ≡ Passed → All (λ x. least ≤ x.offset) (counts_of_all s cs)
  unfolding counts_of_all
  from_least least [] e = tt
  from_least least (c ∷ cs) e =
      let k = check_kept s least c cs e in
      all_append (λ x. least ≤ x.offset) (counts_of s c) (counts_of_all s cs)
      (all_imp (λ x h. let o : x.offset ≡ c.offset + h.0 * spacing = ap (λ (y : OffsetCount). y.offset) h.1.1 in omega (arith, k.1.0)) (counts_of s c)
      (counts_are (c.place + 8) c.offset c.size))
      (all_imp (λ x h. omega (arith, k.1.0)) (counts_of_all s cs) (from_least (last_offset c + 1) cs k.1.1))

  pub counts_rise : (least : ℕ) (cs : List Chunk) → chunks_check s least cs ≡ Passed → Ordered RisingOffsets (counts_of_all s cs)
  unfolding counts_of_all
  counts_rise least [] e = tt
  counts_rise least (c ∷ cs) e =
      let k = check_kept s least c cs e in
      ordered_append RisingOffsets (counts_of s c) (counts_of_all s cs) (chunk_rises (c.place + 8) c.offset c.size) (counts_rise (last_offset c + 1) cs k.1.1)
      (all_imp
      (λ x h.
      let o : x.offset ≡ c.offset + h.0 * spacing = ap (λ (y : OffsetCount). y.offset) h.1.1 in
      all_imp (λ y m. omega (arith, h.1.0)) (counts_of_all s cs) (from_least (last_offset c + 1) cs k.1.1))
      (counts_of s c) (counts_are (c.place + 8) c.offset c.size))

-- ---- the count for an offset

module _ (offset : ℕ) where
  pub for_none : (xs : List OffsetCount) → All (NotFor offset) xs → count_for offset xs ≡ None
  unfolding count_for either
  for_none [] h = refl
  for_none (x ∷ xs) h = rw (ne_eqb x.offset offset h.0) (for_none xs h.1)

  pub for_skip : (xs ys : List OffsetCount) → All (NotFor offset) xs → count_for offset (xs ++ ys) ≡ count_for offset ys
  unfolding count_for either
  for_skip [] ys h = refl
  for_skip (x ∷ xs) ys h = rw (ne_eqb x.offset offset h.0) (for_skip xs ys h.1)

  here_or_behind : (n : ℕ) (x : OffsetCount) (xs : List OffsetCount) → All (RisingOffsets x) xs
      → (record { offset = offset; count = n } ≡ x) ⊎ In (record { offset = offset; count = n }) xs
      → (In (record { offset = offset; count = n }) xs → count_for offset xs ≡ Some n) → count_for offset (x ∷ xs) ≡ Some n
  unfolding count_for either
  here_or_behind n x xs o (inl e) r = rw (← e) (rw (eq-eqb offset offset refl))
  here_or_behind n x xs o (inr j) r =
      let l : x.offset < offset = all_in (RisingOffsets x) xs o j in
      rw (ne_eqb x.offset offset (λ q. omega arith)) (r j)

  pub in_for : (n : ℕ) (xs : List OffsetCount) → Ordered RisingOffsets xs → In (record { offset = offset; count = n }) xs → count_for offset xs ≡ Some n
  in_for n [] o i = absurd (in_none i)
  in_for n (x ∷ xs) o i = here_or_behind n x xs o.0 (in_cases i) (in_for n xs o.1)

  abbrev FoundOrNot : OffsetCount → List OffsetCount → Type 0
  FoundOrNot x xs =
      ((x.offset ≡ offset) × (count_for offset (x ∷ xs) ≡ Some x.count)) ⊎ (NotFor offset x × (count_for offset (x ∷ xs) ≡ count_for offset xs))

  found_or_not : (x : OffsetCount) (xs : List OffsetCount) (t : Bool) → eqb x.offset offset ≡ t → FoundOrNot x xs
  unfolding count_for either
  found_or_not x xs true e = inl (eqb-true x.offset offset e, rw e)
  found_or_not x xs false e = inr (eqb-false x.offset offset e, rw e)

  pub for_in : (n : ℕ) (xs : List OffsetCount) → count_for offset xs ≡ Some n → In (record { offset = offset; count = n }) xs
  unfolding count_for
  for_in n [] e = let z : ◌≡◌ {A = ℕ} 0 1 = cc in absurd (omega arith)
  for_in n (x ∷ xs) e = go (found_or_not x xs (eqb x.offset offset) refl) (for_in n xs)
    where
      go : FoundOrNot x xs → (count_for offset xs ≡ Some n → In (record { offset = offset; count = n }) xs) → In (record { offset = offset; count = n }) (x ∷ xs)
      go (inl (o, f)) r = let m : x.count ≡ n = cc in rw (← o, ← m) (in_first x xs)
      go (inr (o, f)) r = in_rest x (r (sym f ∙ e))

  pub absent_none : (xs : List OffsetCount) → count_for offset xs ≡ None → All (NotFor offset) xs
  absent_none [] e = tt
  absent_none (x ∷ xs) e = go (found_or_not x xs (eqb x.offset offset) refl) (absent_none xs)
    where
      go : FoundOrNot x xs → (count_for offset xs ≡ None → All (NotFor offset) xs) → All (NotFor offset) (x ∷ xs)
      go (inl (o, f)) r = let z : ◌≡◌ {A = ℕ} 0 1 = cc in absurd (omega arith)
      go (inr (o, f)) r = (o, r (sym f ∙ e))

-- ---- those that are not zero

pub nonzero_in : (x : OffsetCount) (xs : List OffsetCount) → In x (non_zero xs) → In x xs × (x.count ≡ 0 → ⊥)
unfolding non_zero either
nonzero_in x [] i = absurd (in_none i)
nonzero_in x (y ∷ xs) i = go (eqb y.count 0) refl i (nonzero_in x xs)
  where
    here : (y.count ≡ 0 → ⊥) → (x ≡ y) ⊎ In x (non_zero xs) → (In x (non_zero xs) → In x xs × (x.count ≡ 0 → ⊥)) → In x (y ∷ xs) × (x.count ≡ 0 → ⊥)
    here n (inl e) r = (subst (λ (z : OffsetCount). In x (z ∷ xs)) e (in_first x xs), λ q. n (ap (λ (z : OffsetCount). z.count) (sym e) ∙ q))
    here n (inr j) r = let h = r j in (in_rest y h.0, h.1)

    go : (t : Bool) → eqb y.count 0 ≡ t → In x (either t (non_zero xs) (y ∷ non_zero xs)) → (In x (non_zero xs) → In x xs × (x.count ≡ 0 → ⊥))
        → In x (y ∷ xs) × (x.count ≡ 0 → ⊥)
    go true e j r = let h = r j in (in_rest y h.0, h.1)
    go false e j r = here (eqb-false y.count 0 e) (in_cases j) r

pub in_nonzero : (x : OffsetCount) (xs : List OffsetCount) → In x xs → (x.count ≡ 0 → ⊥) → In x (non_zero xs)
unfolding non_zero either
in_nonzero x [] i n = absurd (in_none i)
in_nonzero x (y ∷ xs) i n = go (eqb y.count 0) refl (in_cases i) (λ j. in_nonzero x xs j n)
  where
    go : (t : Bool) → eqb y.count 0 ≡ t → (x ≡ y) ⊎ In x xs → (In x xs → In x (non_zero xs)) → In x (either t (non_zero xs) (y ∷ non_zero xs))
    go true e (inl q) r = absurd (n (ap (λ (z : OffsetCount). z.count) q ∙ eqb-true y.count 0 e))
    go true e (inr j) r = r j
    go false e (inl q) r = subst (λ (z : OffsetCount). In x (z ∷ non_zero xs)) q (in_first x (non_zero xs))
    go false e (inr j) r = in_rest y (r j)

pub nonzero_rises : (xs : List OffsetCount) → Ordered RisingOffsets xs → Ordered RisingOffsets (non_zero xs)
unfolding non_zero either
nonzero_rises [] o = tt
nonzero_rises (y ∷ xs) o = go (eqb y.count 0) (nonzero_rises xs o.1)
  where
    go : (t : Bool) → Ordered RisingOffsets (non_zero xs) → Ordered RisingOffsets (either t (non_zero xs) (y ∷ non_zero xs))
    go true r = r
    go false r = (all_of (RisingOffsets y) (non_zero xs) (λ x i. all_in (RisingOffsets y) xs o.0 (nonzero_in x xs i).0), r)
