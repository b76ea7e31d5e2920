-- From place to place: a step over one character loses nothing, and steps compose. Characters of several bytes have no byte that is NUL,
-- so that the bytes before the first NUL begin with one exactly if the bytes do.
use Rattle.std.specs.Prelude.{Ok, Err}
use Prim.Native.Nat.{ℕ, zero, suc, ◌+◌, ◌-◌, ◌≤◌, ◌<◌}
use mathlib.Core.Bool.{Bool, true, false, cond, true≢false}
use mathlib.Core.List.{List, [], ◌∷◌}
use mathlib.Core.Path.{◌≡◌, refl, sym, ap, ◌∙◌}
use native.Mathlib.Omega.{arith}
use native.Mathlib.Decide.{dec_le}
use borrow.Author.Tests.{eq-eqb, ne_eqb, lt-ltb, le-ltb, le-leb, leb-true, ltb-true, ltb-false}
use lib.Dec.{leb, ltb}
use lib.ListN.{length, take, drop, get_or, length-drop, length-take, drop_of_length-le}
use lib.Seq.{drop-cons, drop-drop, take_all, take-nil}
use Rattle.std.specs.List.{list_all, prefix_len}
use Rattle.std.proofs.lemmas.List.Sums.{prefix_len-le-length, prefix_len_stops}
use Rattle.std.proofs.lemmas.List.{get_or-drop}
use Rattle.range.proofs.Tests.{both}
use Rattle.refusal.specs.Check.{either}
use Rattle.scan.specs.Until.{until}
use Rattle.scan.proofs.Laws.{found_here, found_later, until_most}
use Rattle.utf8.specs.Grammar.{ByteRange, ◌to◌, CharForm, ◌then◌, multibyte, forms, in_range, in_ranges, size_if, char_size, only_chars, is_utf8}
use Rattle.utf8.specs.Terminated.{before_nul, terminated}
use Rattle.utf8.specs.declared.Fault.TheVariants.{Invalid, Unterminated}
use Rattle.utf8.specs.Progress.{is_plain, Spans, PlainSpan, CharsEnd}
use Rattle.utf8.proofs.Forms.{below_range, range_bounds, rows_passed, its_row, Each, by_rows}
use Rattle.utf8.proofs.Encoding.{next_char, no_char, size_inside}

-- ---- the bytes before the first NUL

before_nul_cons : (b : ℕ) (bytes : List ℕ) → 0 < b → before_nul (b ∷ bytes) ≡ b ∷ before_nul bytes
unfolding before_nul until either
before_nul_cons b bytes h = rw (ne_eqb b 0 (omega arith))

before_nul_nul : (b : ℕ) (bytes : List ℕ) → b ≡ 0 → before_nul (b ∷ bytes) ≡ []
unfolding before_nul until either
before_nul_nul b bytes h = rw (eq-eqb b 0 h)

until_kept : (b : ℕ) (bytes : List ℕ) → 0 < b → until 0 (b ∷ bytes) ≡ suc (until 0 bytes)
unfolding until either
until_kept b bytes h = rw (ne_eqb b 0 (omega arith))

before_length : (bytes : List ℕ) → length (before_nul bytes) ≡ until 0 bytes
unfolding before_nul
before_length bytes = omega (arith, length-take (until 0 bytes) bytes, until_most 0 bytes)

-- ---- rows of bytes that are all 80 or more

abbrev High : List ByteRange → Type 0
High [] = Unit {0}
High (low to high ∷ ranges) = (0x80 ≤ low) × High ranges

abbrev HighRows : List CharForm → Type 0
HighRows [] = Unit {0}
HighRows ((low to high then rest) ∷ rows) = (0x80 ≤ low) × High rest × HighRows rows

high : HighRows multibyte
high = omega arith

in_ranges_before : (ranges : List ByteRange) (bytes : List ℕ) → High ranges → in_ranges ranges (before_nul bytes) ≡ in_ranges ranges bytes
unfolding in_ranges before_nul until
in_ranges_before [] bytes h = refl
in_ranges_before (low to high ∷ ranges) [] h = refl
in_ranges_before (low to high ∷ ranges) (x ∷ bytes) h =
    let more = in_ranges_before ranges bytes h.1 in
    elim (dec_le 1 x) [
      | yes l ↦ rw (before_nul_cons x bytes l, more)
      | no l ↦ rw (before_nul_nul x bytes (omega arith), below_range low high x (omega (arith, h.0)))
    ]

size_before : (rows : List CharForm) (b : ℕ) (bytes : List ℕ) → HighRows rows → char_size rows (b ∷ before_nul bytes) ≡ char_size rows (b ∷ bytes)
unfolding char_size size_if
size_before [] b bytes h = refl
size_before ((low to high then rest) ∷ rows) b bytes h = rw (in_ranges_before rest bytes h.1, size_before rows b bytes h.2)

-- bytes that match are followed by the same, with the NUL and what is behind it cut off or not
matched_drop : (ranges : List ByteRange) (bytes : List ℕ) → High ranges → in_ranges ranges bytes ≡ true
    → (drop (length ranges) (before_nul bytes) ≡ before_nul (drop (length ranges) bytes))
    × (until 0 bytes ≡ length ranges + until 0 (drop (length ranges) bytes))
unfolding in_ranges
matched_drop [] bytes h e = (refl, omega arith)
matched_drop (low to high ∷ ranges) [] h e = absurd (true≢false (sym e))
matched_drop (low to high ∷ ranges) (x ∷ bytes) h e =
    let t = (both (in_range (low to high) x) (in_ranges ranges bytes)).0 e in
    let i = range_bounds low high x t.0 in
    let r = matched_drop ranges bytes h.1 t.1 in
    let z : 0 < x = omega (arith, h.0) in
    rw (before_nul_cons x bytes z) (r.0, omega (arith, until_kept x bytes z))

-- what is known of the k bytes after the first of a character of a row
abbrev TailKept : ℕ → List ℕ → ℕ → Type 0
TailKept b bytes k =
    (0x80 ≤ b) × (drop k (before_nul bytes) ≡ before_nul (drop k bytes)) × (until 0 bytes ≡ k + until 0 (drop k bytes))

each_tail : (rows : List CharForm) (b : ℕ) (bytes : List ℕ) → HighRows rows → Each rows b bytes (TailKept b bytes)
each_tail [] b bytes h = tt
each_tail ((low to high then rest) ∷ rows) b bytes h =
    (λ l m f. let r = matched_drop rest bytes h.1 f in (omega (arith, h.0), r.0, r.1), each_tail rows b bytes h.2)

tail_kept : (b : ℕ) (bytes : List ℕ) (k : ℕ) → char_size multibyte (b ∷ bytes) ≡ suc k → TailKept b bytes k
tail_kept b bytes = by_rows multibyte b bytes (TailKept b bytes) (each_tail multibyte b bytes high)

-- the table's size where the first byte is not ASCII
size_multibyte : (b : ℕ) (bytes : List ℕ) → 0x80 ≤ b → char_size forms (b ∷ before_nul bytes) ≡ char_size multibyte (b ∷ bytes)
size_multibyte b bytes h = rows_passed 1 forms b (before_nul bytes) (omega arith) ∙ size_before multibyte b bytes high

-- ---- from place to place

pub rest_bytes : (s : List ℕ) (i : ℕ) → take (length s - i) (drop i s) ≡ drop i s
rest_bytes s i = take_all (length s - i) (drop i s) (simp length-drop (omega arith))

prefix_all : (s : List ℕ) → list_all is_plain (take (prefix_len is_plain s) s) ≡ true
prefix_all [] = refl
prefix_all (b ∷ s) = go (is_plain b) refl (prefix_all s)
  where
    go : (t : Bool) → is_plain b ≡ t → list_all is_plain (take (prefix_len is_plain s) s) ≡ true
        → list_all is_plain (take (cond t (1 + prefix_len is_plain s) 0) (b ∷ s)) ≡ true
    go true e r =
        let z : 1 + prefix_len is_plain s ≡ suc (prefix_len is_plain s) = omega arith in
        rw (z, e) r
    go false e r = refl

module _ (bytes : List ℕ) where
  pub spans_none : (i : ℕ) → i ≤ length bytes → Spans bytes i i
  spans_none i h = record { onward = omega arith; in_bytes = h; same = refl; count = refl }

  pub spans_on : {i j k : ℕ} → Spans bytes i j → Spans bytes j k → Spans bytes i k
  spans_on p q = record { onward = omega (arith, p.onward, q.onward); in_bytes = q.in_bytes; same = p.same ∙ q.same; count = p.count ∙ q.count }

  -- a character at a place, by its bytes after the first
  char_step : (i k : ℕ) → i < length bytes → k ≤ length (drop (suc i) bytes) → (b : ℕ) → b ≡ get_or bytes i 0 → 0 < b
      → char_size forms (b ∷ before_nul (drop (suc i) bytes)) ≡ suc k
      → drop k (before_nul (drop (suc i) bytes)) ≡ before_nul (drop k (drop (suc i) bytes))
      → until 0 (drop (suc i) bytes) ≡ k + until 0 (drop k (drop (suc i) bytes))
      → Spans bytes i (i + suc k)
  char_step i k h m b v l w d n =
      let rest = drop (suc i) bytes in
      let z : i + suc k ≡ suc i + k = omega arith in
      let c : drop i bytes ≡ b ∷ rest = drop-cons bytes i 0 h ∙ ap (λ (x : ℕ). x ∷ rest) (sym v) in
      let e : drop (i + suc k) bytes ≡ drop k rest = ap (λ (x : ℕ). drop x bytes) z ∙ sym (drop-drop k (suc i) bytes) in
      record {
        onward = omega arith;
        in_bytes = omega (arith, length-drop (suc i) bytes);
        same = rw (c, e, before_nul_cons b rest l) (next_char b (before_nul rest) k w ∙ ap is_utf8 d);
        count = rw (c, e, until_kept b rest l) (omega arith);
      }

  ascii_step : (i : ℕ) → i < length bytes → 0 < get_or bytes i 0 → get_or bytes i 0 < 0x80 → Spans bytes i (i + 1)
  unfolding size_if in_ranges either
  ascii_step i h l m =
      char_step i 0 h (omega arith) (get_or bytes i 0) refl l
      (its_row forms 0 (get_or bytes i 0) (before_nul (drop (suc i) bytes)) refl (omega arith) (omega arith) (omega arith)) refl (omega arith)

  -- a byte that was tested
  module _ (i : ℕ) (t : Bool) (e : t ≡ is_plain (get_or bytes i 0)) where
    pub tested_yes : i < length bytes → t ≡ true → Spans bytes i (i + 1)
    unfolding is_plain
    tested_yes h y =
        let b = get_or bytes i 0 in
        let p = (both (leb 1 b) (ltb b 0x80)).0 (sym e ∙ y) in
        ascii_step i h (leb-true 1 b p.0) (ltb-true b 0x80 p.1)

    pub tested_no : t ≡ false → i < length bytes → 0 < get_or bytes i 0 → 0x80 ≤ get_or bytes i 0
    unfolding is_plain
    tested_no y h l = let b = get_or bytes i 0 in ltb-false b 0x80 (sym (rw (le-leb 1 b l)) ∙ sym e ∙ y)

  -- plain bytes at a place
  pub plain_all : (n i : ℕ) → i + n ≤ length bytes → list_all is_plain (take n (drop i bytes)) ≡ true → Spans bytes i (i + n)
  plain_all zero i h e = let z : i + 0 ≡ i = omega arith in rw z (spans_none i (omega arith))
  plain_all (suc n) i h e =
      let b = get_or bytes i 0 in
      let l : i < length bytes = omega arith in
      let p = (both (is_plain b) (list_all is_plain (take n (drop (suc i) bytes)))).0 (rw (drop-cons bytes i 0 l) at e) in
      let z : i + suc n ≡ i + 1 + n = omega arith in
      let y : suc i ≡ i + 1 = omega arith in
      rw z (spans_on (tested_yes i (is_plain b) refl l p.0) (plain_all n (i + 1) (omega arith) (rw y at p.1)))

  -- bytes one by one, up to the first that is not plain
  pub plain_prefix : (i : ℕ) → i ≤ length bytes → PlainSpan bytes i (i + prefix_len is_plain (drop i bytes))
  plain_prefix i h =
      let n = prefix_len is_plain (drop i bytes) in
      let l : n ≤ length (drop i bytes) = prefix_len-le-length is_plain (drop i bytes) in
      record {
        spans = plain_all n i (omega (arith, length-drop i bytes)) (prefix_all (drop i bytes));
        end = λ m z.
            let stops = prefix_len_stops is_plain (drop i bytes) 0 (omega (arith, length-drop i bytes)) in
            tested_no (i + n) false (sym (rw get_or-drop at stops)) refl m z;
      }

  pub multibyte_step : (i w : ℕ) → i < length bytes → w ≡ char_size multibyte (drop i bytes) → (w ≡ 0 → ⊥) → Spans bytes i (i + w)
  unfolding char_size
  multibyte_step i zero h e n = absurd (n refl)
  multibyte_step i (suc k) h e n =
      let b = get_or bytes i 0 in
      let s = drop (suc i) bytes in
      let f : char_size multibyte (b ∷ s) ≡ suc k = sym (e ∙ rw (drop-cons bytes i 0 h)) in
      let w = tail_kept b s k f in
      char_step i k h (size_inside multibyte b s k f) b refl (omega (arith, w.0)) (size_multibyte b s w.0 ∙ f) w.1 w.2

  pub no_char_here : (i : ℕ) → i < length bytes → (0 < get_or bytes i 0 → 0x80 ≤ get_or bytes i 0) → char_size multibyte (drop i bytes) ≡ 0
      → char_size forms (before_nul (drop i bytes)) ≡ 0
  unfolding char_size
  no_char_here i h a e =
      let b = get_or bytes i 0 in
      let s = drop (suc i) bytes in
      let c = drop-cons bytes i 0 h in
      let f : char_size multibyte (b ∷ s) ≡ 0 = sym (rw c) ∙ e in
      elim (dec_le 1 b) [
        | yes l ↦ rw (c, before_nul_cons b s l) (size_multibyte b s (a l) ∙ f)
        | no l ↦ rw (c, before_nul_nul b s (omega arith))
      ]

  pub no_char_left : (i : ℕ) → length bytes ≤ i → char_size forms (before_nul (drop i bytes)) ≡ 0
  unfolding char_size before_nul
  no_char_left i h = rw (drop_of_length-le bytes h, take-nil)

-- ---- where the characters end

not_utf8 : (s : List ℕ) → char_size forms s ≡ 0 → 0 < length s → is_utf8 s ≡ false
unfolding char_size
not_utf8 [] e h = absurd (omega arith)
not_utf8 (b ∷ s) e h = no_char b s e

empty_utf8 : (s : List ℕ) → length s ≡ 0 → is_utf8 s ≡ true
unfolding is_utf8 only_chars
empty_utf8 [] h = refl
empty_utf8 (b ∷ s) h = absurd (omega arith)

module _ (bytes : List ℕ) (r : ℕ) (at : CharsEnd bytes r) where
  until_rest : until 0 bytes ≡ r + until 0 (drop r bytes)
  until_rest = omega (arith, at.spans.count)

  pub unterminated : length bytes ≤ r + until 0 (drop r bytes) → (Err Unterminated) ≡ terminated bytes
  unfolding terminated either
  unterminated h = rw (le-ltb (until 0 bytes) (length bytes) (omega (arith, until_rest)))

  pub all_passed : length bytes ≤ r → (Err Unterminated) ≡ terminated bytes
  all_passed h = unterminated (omega arith)

  pub valid : r < length bytes → get_or bytes r 0 ≡ 0 → Ok r ≡ terminated bytes
  unfolding terminated either
  valid h e =
      let none = found_here 0 bytes r h e in
      let z : until 0 bytes ≡ r = omega (arith, until_rest, none) in
      let good : is_utf8 (before_nul bytes) ≡ true = at.spans.same ∙ empty_utf8 (before_nul (drop r bytes)) (before_length (drop r bytes) ∙ none) in
      rw (good, z, lt-ltb r (length bytes) h)

  pub invalid : r < length bytes → (get_or bytes r 0 ≡ 0 → ⊥) → r + until 0 (drop r bytes) < length bytes → (Err Invalid) ≡ terminated bytes
  unfolding terminated either
  invalid h m l =
      let bad : is_utf8 (before_nul bytes) ≡ false =
      at.spans.same ∙ not_utf8 (before_nul (drop r bytes)) at.none (omega (arith, before_length (drop r bytes), found_later 0 bytes r h m)) in
      rw (bad, lt-ltb (until 0 bytes) (length bytes) (omega (arith, until_rest)))
