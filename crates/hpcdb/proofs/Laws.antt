-- A value by whether there is room for it; sections and counts by whether the file opens.
use Rattle.std.specs.Prelude.{Ok, Err, Option}
use Prim.Native.Nat.{ℕ, ◌≤◌, ◌<◌}
use mathlib.Core.List.{List, [], ◌∷◌}
use mathlib.Core.Path.{◌≡◌, refl, sym, ap}
use native.Mathlib.Omega.{arith}
use borrow.Author.Tests.{le-leb, lt-leb}
use lib.ListN.{length}
use Rattle.refusal.specs.Check.{either, Check, Passed, Answer, on_answer}
use Rattle.refusal.specs.declared.Refusal.{Refusal}
use Rattle.refusal.specs.Number.{number_of}
use Rattle.refusal.specs.Words.{refused_words, code_in}
use Rattle.open.specs.Format.{meta}
use Rattle.open.specs.Format as Format
use Rattle.open.specs.Opening.{opened, opening, pair_at, pairs_from, pairs, place_in, size_in, on_opened}
use Rattle.open.proofs.Answer.{answers, refuses, sections}
use Rattle.meta.specs.Names.{counts, counts_in}
use Rattle.words.specs.Convention.{words_in, flat, sections_words, counts_words}
use Rattle.refusal.proofs.Checks.{ok_same, err_same}
use Rattle.words.proofs.Laws.{answered, refused}
use Rattle.block.specs.Block.{lookup_words}
use Rattle.hpcdb.specs.Value.{value_in, value_code, value_bytes}

module _ (out : List ℕ) (answer : Answer (Option ℕ)) where
  pub no_room : length out < 8 → (17 ≡ value_code out answer) × (out ≡ value_bytes out answer)
  unfolding value_code value_bytes either
  no_room h = rw (lt-leb 8 (length out) h) (refl, refl)

  pub room : 8 ≤ length out → {code : ℕ} {after : List ℕ} → (code ≡ code_in (lookup_words answer)) × (after ≡ value_in out answer)
      → (code ≡ value_code out answer) × (after ≡ value_bytes out answer)
  unfolding value_code value_bytes either
  room h e = rw (le-leb 8 (length out) h) e

module _ (file : List ℕ) where
  -- the sections, word for word
  pub sections_flat : (ps : List (List ℕ)) → ps ≡ pairs meta file
      → place_in ps 0 ∷ size_in ps 0 ∷ place_in ps 1 ∷ size_in ps 1 ∷ place_in ps 2 ∷ size_in ps 2 ∷ place_in ps 3 ∷ size_in ps 3
      ∷ place_in ps 4 ∷ size_in ps 4 ∷ place_in ps 5 ∷ size_in ps 5 ∷ place_in ps 6 ∷ size_in ps 6 ∷ place_in ps 7 ∷ size_in ps 7 ∷ [] ≡ flat ps
  unfolding pairs pairs_from pair_at flat
  sections_flat ps e = rw e

  pub two_flat : (ps : List (List ℕ)) → ps ≡ pairs Format.profile file → place_in ps 0 ∷ size_in ps 0 ∷ place_in ps 1 ∷ size_in ps 1 ∷ [] ≡ flat ps
  unfolding pairs pairs_from pair_at flat
  two_flat ps e = rw e

  pub one_flat : (magic footer : List ℕ) (least : ℕ) (ps : List (List ℕ)) → ps ≡ pairs (Format.single magic footer least) file
      → place_in ps 0 ∷ size_in ps 0 ∷ [] ≡ flat ps
  unfolding pairs pairs_from pair_at flat
  one_flat magic footer least ps e = rw e

  -- the sections of a file, by what opening answers
  module _ (f : Format.Format) (out : List ℕ) where
    pub sections_answered : {ps : List (List ℕ)} → Ok ps ≡ opened f file → {words : List ℕ} → (ps ≡ pairs f file → words ≡ flat ps)
        → (0 ≡ code_in (sections_words f file)) × (words ≡ words_in out (sections_words f file))
    sections_answered o e =
        rw (e (sections {f = f} {file = file} o).same) (answered out (sym (answers f file refused_words (λ ps. 0 ∷ flat ps) o)))

    pub sections_refused : {r : Refusal} → Err r ≡ opened f file → {n : ℕ} → n ≡ number_of r
        → (n ≡ code_in (sections_words f file)) × (out ≡ words_in out (sections_words f file))
    sections_refused {r = r} o e = refused out r [] (sym (refuses f file refused_words (λ ps. 0 ∷ flat ps) o)) e

  -- the counts
  pub counts_told : {ns : List ℕ} → Ok ns ≡ counts file → counts_words file ≡ 0 ∷ ns
  unfolding on_opened counts on_answer
  counts_told {ns = ns} e = by (opening meta file) e
    where
      by : (c : Check) → Ok ns ≡ on_answer Err c (λ _. Ok (counts_in file (pairs meta file)))
          → on_answer refused_words c (λ _. 0 ∷ counts_in file (pairs meta file)) ≡ 0 ∷ ns
      by Passed e = ap (λ (l : List ℕ). 0 ∷ l) (sym (ok_same e))
      by (Err r) e = absurd (let z : ◌≡◌ {A = ℕ} 0 1 = cc in omega arith)

  pub counts_refused : {r : Refusal} → Err r ≡ counts file → {n : ℕ} → n ≡ number_of r → (was : List ℕ)
      → (n ≡ code_in (counts_words file)) × (was ≡ words_in was (counts_words file))
  unfolding on_opened counts on_answer
  counts_refused {r = r} e f was = refused was r [] (by (opening meta file) e) f
    where
      by : (c : Check) → Err r ≡ on_answer Err c (λ _. Ok (counts_in file (pairs meta file)))
          → on_answer refused_words c (λ _. 0 ∷ counts_in file (pairs meta file)) ≡ number_of r ∷ []
      by Passed e = absurd (let z : ◌≡◌ {A = ℕ} 0 1 = cc in omega arith)
      by (Err q) e = ap (λ (x : Refusal). number_of x ∷ []) (sym (err_same e))
