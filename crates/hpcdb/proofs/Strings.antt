-- The codes of the C functions that answer with a string, by what the readers' own answers say: an answer in words has the number of its
-- string, and the string's place and length first.
use Rattle.std.specs.Prelude.{Err, Ok, Option}
use Rattle.text.specs.declared.Text.{Text}
use Rattle.meta.specs.declared.SourceFile.{SourceFile}
use Rattle.metric.specs.declared.Metric.{Metric}
use Rattle.metric.specs.declared.Scope.{Scope}
use Rattle.metric.specs.declared.Summary.{Summary}
use Rattle.function.specs.declared.Function.{Function}
use Rattle.block.specs.declared.Block.{Block}
use Prim.Native.Nat.{ℕ, zero, suc, ◌*◌, ◌≤◌}
use mathlib.Core.Bool.{Bool, true, false}
use mathlib.Core.List.{List, [], ◌∷◌}
use mathlib.Core.Logic.Iff
use mathlib.Core.Logic.{◌↔◌, ◌⊎◌, inl, inr}
use mathlib.Core.Path.{◌≡◌, refl, sym, ap, subst}
use native.Mathlib.Omega.{arith}
use borrow.Author.Tests.{ne_eqb}
use lib.Dec.{leb}
use lib.ListN.{length, take}
use Rattle.refusal.specs.declared.Refusal.{Refusal}
use Rattle.refusal.specs.declared.Refusal.TheVariants as No
use Rattle.refusal.specs.Number.{number_of}
use Rattle.refusal.specs.Check.{code_of, either, rule, if_passed, Answer, on_answer, Absent, Found}
use Rattle.refusal.specs.Words.{code_in}
use Rattle.refusal.proofs.Numbers.{positive, same_number}
use Rattle.text.specs.String.{text_words, text_code, given_text}
use Rattle.text.specs.Facts.{Sited, HasText, StringSays, CodeSays}
use Rattle.meta.specs.Names.{title_at, description_at, kind_at, module_at, source_at, source_words, source_text}
use Rattle.meta.specs.Facts.{title_string, description_string, kind_string, module_string, source_string}
use Rattle.meta.proofs.Says.{names_say}
use Rattle.metric.specs.Levels.{metric_at, scope_at, summary_at, metric_words, scope_words, summary_words, metric_text, scope_text, summary_text}
use Rattle.metric.specs.Facts.{metric_string, scope_string, summary_string}
use Rattle.metric.proofs.Says.{levels_say}
use Rattle.function.specs.Function.{function_at, function_words}
use Rattle.function.specs.Facts.{p_name, FunctionThere, name_string}
use Rattle.function.proofs.Says.{function_says, found_named, found_unnamed}
use Rattle.block.specs.declared.Shape.{Shape}
use Rattle.block.specs.Block.{profile_shape, cct_shape, lookup_words, found_words}
use Rattle.lookup.specs.Lookup.{profile_block, cct_block, profile_lookup, cct_lookup}
use Rattle.lookup.proofs.Demand2.{profile_block_numbers, cct_block_numbers, demand2}
use Rattle.batch.specs.Batch.{pairs_in, refused_batch, batch_in, batch_of}
use Rattle.words.specs.Convention.{words_in}
use Rattle.hpcdb.specs.Value.{value_code}
use Rattle.hpcdb.specs.Strings.{WordsSay, FunctionWordsSay, StringsSay, LookupsNever19}

-- words that have a text's number and, where it is 0, begin with its place and length
record PutAs (t : Answer Text) (words : List ℕ) : Type 0 where
  code : code_in words ≡ text_code t
  first : (was : List ℕ) (p n : ℕ) → t ≡ given_text p n → take 2 (words_in was words) ≡ p ∷ n ∷ []

puts_text : (t : Answer Text) → PutAs t (text_words t)
unfolding code_in words_in
puts_text (Ok it) = record { code = refl; first = λ was p n e. let y : it.place ≡ p = cc in let z : it.length ≡ n = cc in rw (y, z) }
puts_text (Err r) = record { code = refl; first = λ was p n e. absurd (let z : ◌≡◌ {A = ℕ} 0 1 = cc in omega arith) }

puts_source : (a : Answer SourceFile) → PutAs (source_text a) (source_words a)
unfolding source_text code_in words_in
puts_source (Ok it) = record { code = refl; first = λ was p n e. let y : it.path.place ≡ p = cc in let z : it.path.length ≡ n = cc in rw (y, z) }
puts_source (Err r) = record { code = refl; first = λ was p n e. absurd (let z : ◌≡◌ {A = ℕ} 0 1 = cc in omega arith) }

puts_metric : (a : Answer Metric) → PutAs (metric_text a) (metric_words a)
unfolding metric_text code_in words_in
puts_metric (Ok it) = record { code = refl; first = λ was p n e. let y : it.name.place ≡ p = cc in let z : it.name.length ≡ n = cc in rw (y, z) }
puts_metric (Err r) = record { code = refl; first = λ was p n e. absurd (let z : ◌≡◌ {A = ℕ} 0 1 = cc in omega arith) }

puts_scope : (a : Answer Scope) → PutAs (scope_text a) (scope_words a)
unfolding scope_text code_in words_in
puts_scope (Ok it) = record { code = refl; first = λ was p n e. let y : it.name.place ≡ p = cc in let z : it.name.length ≡ n = cc in rw (y, z) }
puts_scope (Err r) = record { code = refl; first = λ was p n e. absurd (let z : ◌≡◌ {A = ℕ} 0 1 = cc in omega arith) }

puts_summary : (a : Answer Summary) → PutAs (summary_text a) (summary_words a)
unfolding summary_text code_in words_in
puts_summary (Ok it) = record { code = refl; first = λ was p n e. let y : it.formula.place ≡ p = cc in let z : it.formula.length ≡ n = cc in rw (y, z) }
puts_summary (Err r) = record { code = refl; first = λ was p n e. absurd (let z : ◌≡◌ {A = ℕ} 0 1 = cc in omega arith) }

as_it_was : (was words : List ℕ) → (code_in words ≡ 0 → ⊥) → words_in was words ≡ was
unfolding code_in words_in
as_it_was was [] h = refl
as_it_was was (zero ∷ values) h = absurd (h refl)
as_it_was was (suc n ∷ values) h = refl

module _ (file : List ℕ) where
  says_words : (at : Sited) {t : Answer Text} (words : List ℕ) → StringSays file at t → PutAs t words → WordsSay file at words
  says_words at words s puts = record {
    codes = subst (CodeSays file at) (sym puts.code) s.part.codes;
    out = λ was n read text. puts.first was at.place n ((s.place.handed-back at.place n).1 (read, (refl, text)));
    untouched = λ was h. as_it_was was words h;
  }

  -- ---- a function

  function_refused : (a : Answer Function) (r : Refusal) → (code_in (function_words a) ≡ number_of r) ↔ (a ≡ Err r)
  unfolding code_in
  function_refused (Ok it) r = (
    λ e. absurd (omega (arith, positive r)),
    λ e. absurd (let z : ◌≡◌ {A = ℕ} 0 1 = cc in omega arith),
  )
  function_refused (Err s) r = (λ e. ap Err (same_number s r e), λ e. let z : s ≡ r = cc in ap number_of z)

  function_0 : (i : ℕ) (a : Answer Function) → function_at file i ≡ a → code_in (function_words a) ≡ 0
      → (FunctionThere file i × (p_name file i ≡ 0))
      ⊎ ((name_string file i).Read × ((n : ℕ) × HasText file (name_string file i) n))
  unfolding code_in
  function_0 i (Ok it) e z =
      let h = ((function_says file i).found it.name.place it.name.length it.load_module it.offset it.file it.line).0 e in
      elim h.its_length [ inl none ↦ inl (h.there, none.0) | inr some ↦ inr ((h.there, some.0), (it.name.length, some.1)) ]
  function_0 i (Err r) e z = absurd (omega (arith, positive r))

  of_function : (i : ℕ) → FunctionWordsSay file i
  unfolding code_in words_in either
  of_function i =
      let says = function_says file i in
      record {
        code_0 = (
          function_0 i (function_at file i) refl,
          λ h. elim h [
            | inl none ↦ rw (found_unnamed file i none.0 none.1)
            | inr some ↦ rw (found_named file i some.1.0 some.0 some.1.1)
          ],
        );
        code_8 = Iff.trans (function_refused (function_at file i) No.String) says.is_8;
        code_19 = Iff.trans (function_refused (function_at file i) No.Spelling) says.is_19;
        with_name = λ was n read text. rw (found_named file i n read text, ne_eqb (p_name file i) 0 read.1);
        without = λ was there none. rw (found_unnamed file i there none);
        untouched = λ was. as_it_was was (function_words (function_at file i));
      }

  -- ---- all of them

  pub strings_say : StringsSay file
  strings_say =
      let names = names_say file in
      let levels = levels_say file in
      record {
        title = says_words (title_string file) (text_words (title_at file)) names.title (puts_text (title_at file));
        description = says_words (description_string file) (text_words (description_at file)) names.description (puts_text (description_at file));
        id_name = λ i. says_words (kind_string file i) (text_words (kind_at file i)) (names.kind i) (puts_text (kind_at file i));
        metric = λ m. says_words (metric_string file m) (metric_words (metric_at file m)) (levels.metric m) (puts_metric (metric_at file m));
        scope = λ m s. says_words (scope_string file m s) (scope_words (scope_at file m s)) (levels.scope m s) (puts_scope (scope_at file m s));
        summary = λ m s k. says_words (summary_string file m s k) (summary_words (summary_at file m s k)) (levels.summary m s k) (puts_summary (summary_at file m s k));
        module_path = λ i. says_words (module_string file i) (text_words (module_at file i)) (names.module_path i) (puts_text (module_at file i));
        source_path = λ i. says_words (source_string file i) (source_words (source_at file i)) (names.source_path i) (puts_source (source_at file i));
        function = of_function;
      }

  -- ---- lookups

  -- 1 to 7, 11 and 15 are not 19
  other : (r : Refusal) → (number_of r ≤ 7) ⊎ ((r ≡ No.Order) ⊎ (r ≡ No.Index)) → number_of r ≡ 19 → ⊥
  other r (inl k) e = omega arith
  other r (inr (inl k)) e = omega (arith, ap number_of k)
  other r (inr (inr k)) e = omega (arith, ap number_of k)

  value_19 : (out : List ℕ) (a : Answer (Option ℕ)) → ((r : Refusal) → a ≡ Err r → (number_of r ≤ 7) ⊎ ((r ≡ No.Order) ⊎ (r ≡ No.Index)))
      → value_code out a ≡ 19 → ⊥
  unfolding value_code either lookup_words found_words code_in
  value_19 out a numbers e = go (leb 8 (length out)) a numbers e
    where
      go : (t : Bool) (a : Answer (Option ℕ)) → ((r : Refusal) → a ≡ Err r → (number_of r ≤ 7) ⊎ ((r ≡ No.Order) ⊎ (r ≡ No.Index)))
          → either t (code_in (lookup_words a)) (number_of No.Room) ≡ 19 → ⊥
      go true (Found bits) numbers e = omega arith
      go true Absent numbers e = omega arith
      go true (Err r) numbers e = other r (numbers r refl) e
      go false a numbers e = omega arith

  batch_19 : (h : Shape) (c : Answer Block) (pairs was : List ℕ)
      → ((r : Refusal) → c ≡ Err r → (number_of r ≤ 7) ⊎ ((r ≡ No.Order) ⊎ (r ≡ No.Index)))
      → code_of (batch_of file h c pairs was).check ≡ 19 → ⊥
  unfolding batch_of batch_in on_answer rule code_of
  batch_19 h c pairs was numbers e = go (leb (2 * pairs_in pairs) (length was)) c numbers e
    where
      go : (t : Bool) (c : Answer Block) → ((r : Refusal) → c ≡ Err r → (number_of r ≤ 7) ⊎ ((r ≡ No.Order) ⊎ (r ≡ No.Index)))
          → code_of (if_passed (refused_batch was) (rule t No.Room) (batch_in file h c pairs was)).check ≡ 19 → ⊥
      go true (Ok b) numbers e = omega arith
      go true (Err r) numbers e = other r (numbers r refl) e
      go false c numbers e = omega arith

  pub lookups_never_19 : LookupsNever19 file
  lookups_never_19 = record {
    profile-lookup = λ profile context metric out.
        value_19 out (profile_lookup file profile context metric) (demand2.in_profile_db file profile context metric).numbers;
    cct-lookup = λ profile context metric out.
        value_19 out (cct_lookup file profile context metric) (demand2.in_cct_db file profile context metric).numbers;
    profile_lookups = λ profile pairs was. batch_19 profile_shape (profile_block file profile) pairs was (profile_block_numbers file profile);
    cct_lookups = λ context pairs was. batch_19 cct_shape (cct_block file context) pairs was (cct_block_numbers file context);
  }
