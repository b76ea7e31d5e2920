-- The table's characters are the encodings of the scalar code points, each row and each size by arithmetic; so bytes that are nothing but
-- characters are the encodings of code points, and of one list of them only.
use Prim.Native.Nat.{ℕ, zero, suc, ◌+◌, ◌-◌, ◌*◌, ◌/◌, ◌%◌, ◌≤◌, ◌<◌}
use mathlib.Core.Bool.{true, false, true≢false}
use mathlib.Core.List.{List, [], ◌∷◌, ◌++◌}
use mathlib.Core.Logic.{◌↔◌}
use mathlib.Core.Path.{◌≡◌, refl, sym, ap, ◌∙◌}
use native.Mathlib.Omega.{arith}
use native.Mathlib.Decide.{dec_le}
use borrow.Author.Tests.{lt-ltb}
use lib.ListN.{length, drop, length-drop, length-append}
use lib.Seq.{drop-append_seam}
use Rattle.refusal.specs.Check.{either}
use Rattle.utf8.specs.Grammar.{ByteRange, ◌to◌, CharForm, ◌then◌, continuation, forms, in_ranges, size_if, char_size, only_chars, is_utf8}
use Rattle.utf8.specs.Encoding.{ScalarValue, ScalarValues, encoding, encodings, Encoded, code_point}
use Rattle.utf8.proofs.Forms.{after_rows, its_row, in_ranges_cons, in_ranges_nil, uncons, in_ranges_length, Each, by_rows}
use Rattle.utf8.proofs.Points.{Encodes, encoded_1, encoded_2, encoded_3, encoded_4, scalar_low, scalar_high, code_point_1, code_point_2, code_point_3, code_point_4, encoding_1, encoding_2, encoding_3, encoding_4}

-- ---- a character of the table is an encoding

module _ (b : ℕ) (bytes : List ℕ) where
  two_encode : 0xC2 ≤ b → b ≤ 0xDF → in_ranges (continuation ∷ []) bytes ≡ true → Encodes b bytes 1
  two_encode l h f = uncons (λ (s : List ℕ). Encodes b s 1) 0x80 0xBF [] bytes f (λ x s lx hx g. encoded_2 b x s l h lx hx)

  three_encode : (low high : ℕ) → 0x80 ≤ low → high ≤ 0xBF → 0xE0 ≤ b → b ≤ 0xEF
      → ((x y c : ℕ) → low ≤ x → x ≤ high → 0x80 ≤ y → y ≤ 0xBF → (b - 0xE0) * 4096 + (x - 0x80) * 64 + (y - 0x80) ≡ c → (0x800 ≤ c) × ScalarValue c)
      → in_ranges (low to high ∷ continuation ∷ []) bytes ≡ true → Encodes b bytes 2
  three_encode low high ll hh l h good f =
      uncons (λ (s : List ℕ). Encodes b s 2) low high (continuation ∷ []) bytes f
      (λ x s lx hx g. uncons (λ (t : List ℕ). Encodes b (x ∷ t) 2) 0x80 0xBF [] s g
      (λ y t ly hy k.
      let c : ℕ = (b - 0xE0) * 4096 + (x - 0x80) * 64 + (y - 0x80) in
      let p = good x y c lx hx ly hy refl in
      encoded_3 b x y t l h (omega arith) (omega arith) ly hy c refl p.0 p.1))

  four_encode : (low high : ℕ) → 0x80 ≤ low → high ≤ 0xBF → 0xF0 ≤ b
      → ((x y z c : ℕ) → low ≤ x → x ≤ high → 0x80 ≤ y → y ≤ 0xBF → 0x80 ≤ z → z ≤ 0xBF
      → (b - 0xF0) * 262144 + (x - 0x80) * 4096 + (y - 0x80) * 64 + (z - 0x80) ≡ c → (0x10000 ≤ c) × (c < 0x110000))
      → in_ranges (low to high ∷ continuation ∷ continuation ∷ []) bytes ≡ true → Encodes b bytes 3
  four_encode low high ll hh l good f =
      uncons (λ (s : List ℕ). Encodes b s 3) low high (continuation ∷ continuation ∷ []) bytes f
      (λ x s lx hx g. uncons (λ (t : List ℕ). Encodes b (x ∷ t) 3) 0x80 0xBF (continuation ∷ []) s g
      (λ y t ly hy k. uncons (λ (u : List ℕ). Encodes b (x ∷ y ∷ u) 3) 0x80 0xBF [] t k
      (λ z u lz hz m.
      let c : ℕ = (b - 0xF0) * 262144 + (x - 0x80) * 4096 + (y - 0x80) * 64 + (z - 0x80) in
      let p = good x y z c lx hx ly hy lz hz refl in
      encoded_4 b x y z u l (omega arith) (omega arith) ly hy lz hz c refl p.0 p.1)))

  rows_encode : Each forms b bytes (Encodes b bytes)
  rows_encode = (
    λ l h f. encoded_1 b bytes (omega arith),
    (
      two_encode,
      (
        λ l h. three_encode _ _ (omega arith) (omega arith) (omega arith) (omega arith)
            (λ x y c lx hx ly hy e. (omega arith, scalar_low c (omega arith))),
        (
          λ l h. three_encode _ _ (omega arith) (omega arith) (omega arith) (omega arith)
              (λ x y c lx hx ly hy e. (omega arith, scalar_low c (omega arith))),
          (
            λ l h. three_encode _ _ (omega arith) (omega arith) (omega arith) (omega arith)
                (λ x y c lx hx ly hy e. (omega arith, scalar_low c (omega arith))),
            (
              λ l h. three_encode _ _ (omega arith) (omega arith) (omega arith) (omega arith)
                  (λ x y c lx hx ly hy e. (omega arith, scalar_high c (omega arith) (omega arith))),
              (
                λ l h. four_encode _ _ (omega arith) (omega arith) (omega arith) (λ x y z c lx hx ly hy lz hz e. omega arith),
                (
                  λ l h. four_encode _ _ (omega arith) (omega arith) (omega arith) (λ x y z c lx hx ly hy lz hz e. omega arith),
                  (λ l h. four_encode _ _ (omega arith) (omega arith) (omega arith) (λ x y z c lx hx ly hy lz hz e. omega arith), tt),
                ),
              ),
            ),
          ),
        ),
      ),
    ),
  )

  -- the first character of bytes is the encoding of a scalar code point
  pub is_encoding : (k : ℕ) → char_size forms (b ∷ bytes) ≡ suc k → Encodes b bytes k
  is_encoding = by_rows forms b bytes (Encodes b bytes) rows_encode

-- ---- one character and the rest

each_row : (rows : List CharForm) (b : ℕ) (bytes : List ℕ) (Q : ℕ → Type 0)
    → ((rest : List ByteRange) → in_ranges rest bytes ≡ true → Q (length rest)) → Each rows b bytes Q
each_row [] b bytes Q f = tt
each_row ((low to high then rest) ∷ rows) b bytes Q f = (λ l h g. f rest g, each_row rows b bytes Q f)

pub size_inside : (rows : List CharForm) (b : ℕ) (bytes : List ℕ) (k : ℕ) → char_size rows (b ∷ bytes) ≡ suc k → k ≤ length bytes
size_inside rows b bytes =
    by_rows rows b bytes (λ k. k ≤ length bytes) (each_row rows b bytes (λ k. k ≤ length bytes) (λ rest f. in_ranges_length rest bytes f))

skip_chars : (k : ℕ) (bytes : List ℕ) → k ≤ length bytes → only_chars k bytes ≡ only_chars 0 (drop k bytes)
unfolding only_chars
skip_chars zero bytes h = refl
skip_chars (suc k) [] h = absurd (omega arith)
skip_chars (suc k) (b ∷ bytes) h = skip_chars k bytes (omega arith)

module _ (b : ℕ) (bytes : List ℕ) where
  pub next_char : (k : ℕ) → char_size forms (b ∷ bytes) ≡ suc k → is_utf8 (b ∷ bytes) ≡ is_utf8 (drop k bytes)
  unfolding is_utf8 only_chars
  next_char k e =
      let z : suc k - 1 ≡ k = omega arith in
      rw (e, lt-ltb 0 (suc k) (omega arith), z) (skip_chars k bytes (size_inside forms b bytes k e))

  pub no_char : char_size forms (b ∷ bytes) ≡ 0 → is_utf8 (b ∷ bytes) ≡ false
  unfolding is_utf8 only_chars
  no_char e = rw e

  -- a character by its row
  character : {low high : ℕ} {rest : List ByteRange} (n : ℕ) → drop n forms ≡ (low to high then rest) ∷ drop (suc n) forms → after_rows n forms ≤ low
      → low ≤ b → b ≤ high → in_ranges rest bytes ≡ true → is_utf8 (b ∷ bytes) ≡ is_utf8 (drop (length rest) bytes)
  unfolding size_if either
  character {rest = rest} n e p l h f = next_char (length rest) (its_row forms n b bytes e p l h ∙ rw f)

-- ---- an encoding is a character of the table

add_sub : (k n : ℕ) → k + n - k ≡ n
add_sub k n = omega arith

module _ (c : ℕ) (s : ScalarValue c) where
  -- by how many bytes it has
  by_size : (P : List ℕ → Type 0)
      → (c < 0x80 → P (c ∷ []))
      → (0x80 ≤ c → c < 0x800 → P ((0xC0 + c / 64) ∷ (0x80 + c % 64) ∷ []))
      → (0x800 ≤ c → c < 0x10000 → P ((0xE0 + c / 4096) ∷ (0x80 + c / 64 % 64) ∷ (0x80 + c % 64) ∷ []))
      → (0x10000 ≤ c → c < 0x110000 → P ((0xF0 + c / 262144) ∷ (0x80 + c / 4096 % 64) ∷ (0x80 + c / 64 % 64) ∷ (0x80 + c % 64) ∷ []))
      → P (encoding c)
  by_size P p1 p2 p3 p4 =
      elim (dec_le 0x80 c) [
        | no h ↦ rw (encoding_1 c (omega arith)) (p1 (omega arith))
        | yes h1 ↦ elim (dec_le 0x800 c) [
          | no h ↦ rw (encoding_2 c h1 (omega arith)) (p2 h1 (omega arith))
          | yes h2 ↦ elim (dec_le 0x10000 c) [
            | no h ↦ rw (encoding_3 c h2 (omega arith)) (p3 h2 (omega arith))
            | yes h3 ↦ rw (encoding_4 c h3) (p4 h3 (omega (arith, s.most)))
          ]
        ]
      ]

  encoding_next : (bytes : List ℕ) → is_utf8 (encoding c ++ bytes) ≡ is_utf8 bytes
  encoding_next bytes =
      by_size (λ (e : List ℕ). is_utf8 (e ++ bytes) ≡ is_utf8 bytes)
      (λ h. character c bytes 0 refl (omega arith) (omega arith) (omega arith) (in_ranges_nil bytes))
      (λ l h. character _ _ 1 refl (omega arith) (omega arith) (omega arith) (in_ranges_cons [] bytes (omega arith) (omega arith) (in_ranges_nil bytes)))
      (λ l h.
      let end : in_ranges (continuation ∷ []) ((0x80 + c % 64) ∷ bytes) ≡ true = in_ranges_cons [] bytes (omega arith) (omega arith) (in_ranges_nil bytes) in
      elim (dec_le 0x1000 c) [
        | no m ↦ character _ _ 2 refl (omega arith) (omega arith) (omega arith) (in_ranges_cons _ _ (omega arith) (omega arith) end)
        | yes m ↦ elim (dec_le 0xD000 c) [
          | no n ↦ character _ _ 3 refl (omega arith) (omega arith) (omega arith) (in_ranges_cons _ _ (omega arith) (omega arith) end)
          | yes n ↦ elim (dec_le 0xD800 c) [
            | no o ↦ character _ _ 4 refl (omega arith) (omega arith) (omega arith) (in_ranges_cons _ _ (omega arith) (omega arith) end)
            | yes o ↦
                let p = s.no_surrogate o in
                character _ _ 5 refl (omega arith) (omega arith) (omega arith) (in_ranges_cons _ _ (omega arith) (omega arith) end)
          ]
        ]
      ])
      (λ l h.
      let end : in_ranges (continuation ∷ continuation ∷ []) ((0x80 + c / 64 % 64) ∷ (0x80 + c % 64) ∷ bytes) ≡ true =
      in_ranges_cons _ _ (omega arith) (omega arith) (in_ranges_cons [] bytes (omega arith) (omega arith) (in_ranges_nil bytes)) in
      elim (dec_le 0x40000 c) [
        | no m ↦ character _ _ 6 refl (omega arith) (omega arith) (omega arith) (in_ranges_cons _ _ (omega arith) (omega arith) end)
        | yes m ↦ elim (dec_le 0x100000 c) [
          | no n ↦ character _ _ 7 refl (omega arith) (omega arith) (omega arith) (in_ranges_cons _ _ (omega arith) (omega arith) end)
          | yes n ↦ character _ _ 8 refl (omega arith) (omega arith) (omega arith) (in_ranges_cons _ _ (omega arith) (omega arith) end)
        ]
      ])

  -- an encoding is that of its code point, whatever follows
  pub code_point_encoding : (bytes : List ℕ) → code_point (encoding c ++ bytes) ≡ c
  code_point_encoding bytes =
      by_size (λ (e : List ℕ). code_point (e ++ bytes) ≡ c)
      (λ h. code_point_1 c bytes h)
      (λ l h. omega (arith, code_point_2 (0xC0 + c / 64) (0x80 + c % 64) bytes (omega arith) (omega arith)))
      (λ l h. omega (arith, code_point_3 (0xE0 + c / 4096) (0x80 + c / 64 % 64) (0x80 + c % 64) bytes (omega arith) (omega arith)))
      (λ l h.
      code_point_4 (0xF0 + c / 262144) (0x80 + c / 4096 % 64) (0x80 + c / 64 % 64) (0x80 + c % 64) bytes (omega arith) ∙ simp add_sub (omega arith))

  encoding_some : 0 < length (encoding c)
  encoding_some = by_size (λ (e : List ℕ). 0 < length e) (λ h. omega arith) (λ l h. omega arith) (λ l h. omega arith) (λ l h. omega arith)

-- ---- all of them

complete : (codes : List ℕ) → ScalarValues codes → is_utf8 (encodings codes) ≡ true
unfolding encodings is_utf8 only_chars
complete [] s = refl
complete (c ∷ codes) s = encoding_next c s.0 (encodings codes) ∙ complete codes s.1

sound_within : (n : ℕ) (bytes : List ℕ) → length bytes ≤ n → is_utf8 bytes ≡ true → Encoded bytes
unfolding encodings
sound_within zero [] h e = record { codes = []; scalars = tt; same = refl }
sound_within zero (b ∷ bytes) h e = absurd (omega arith)
sound_within (suc n) [] h e = record { codes = []; scalars = tt; same = refl }
sound_within (suc n) (b ∷ bytes) h e =
    go (char_size forms (b ∷ bytes)) refl (λ (k : ℕ) e2. sound_within n (drop k bytes) (simp length-drop (omega arith)) e2)
  where
    go : (w : ℕ) → char_size forms (b ∷ bytes) ≡ w → ((k : ℕ) → is_utf8 (drop k bytes) ≡ true → Encoded (drop k bytes)) → Encoded (b ∷ bytes)
    go zero p more = absurd (true≢false (sym e ∙ no_char b bytes p))
    go (suc k) p more =
        let rest = more k (sym (next_char b bytes k p) ∙ e) in
        let first = is_encoding b bytes k p in
        record {
          codes = code_point (b ∷ bytes) ∷ rest.codes;
          scalars = (first.0, rest.scalars);
          same = rw rest.same first.1;
        }

-- bytes are UTF-8 exactly if they are the encodings of code points, none a surrogate and none above 10FFFF, each in its shortest form
pub utf8_iff : (bytes : List ℕ) → (is_utf8 bytes ≡ true) ↔ Encoded bytes
utf8_iff bytes = (
  sound_within (length bytes) bytes (omega arith),
  λ encoded. rw encoded.same at (complete encoded.codes encoded.scalars),
)

-- of one list of code points only
pub encodings_unique : (codes others : List ℕ) → ScalarValues codes → ScalarValues others → encodings codes ≡ encodings others → codes ≡ others
unfolding encodings
encodings_unique [] [] s t e = refl
encodings_unique [] (d ∷ others) s t e = absurd (omega (arith, encoding_some d t.0, simp length-append at (ap length e)))
encodings_unique (c ∷ codes) [] s t e = absurd (omega (arith, encoding_some c s.0, simp length-append at (ap length e)))
encodings_unique (c ∷ codes) (d ∷ others) s t e =
    let same : c ≡ d = sym (code_point_encoding c s.0 (encodings codes)) ∙ ap code_point e ∙ code_point_encoding d t.0 (encodings others) in
    let f : encoding c ++ encodings codes ≡ encoding c ++ encodings others = e ∙ ap (λ (x : ℕ). encoding x ++ encodings others) (sym same) in
    let g : encodings codes ≡ encodings others =
    sym (drop-append_seam (encoding c) (encodings codes)) ∙ ap (drop (length (encoding c))) f ∙ drop-append_seam (encoding c) (encodings others) in
    rw (same, encodings_unique codes others s.1 t.1 g)
