-- What a C program learns of the strings of meta.db, by the code of each function and by `out`; and who never gives 19.
use Rattle.std.specs.Prelude.{ℕ, List, [], ◌∷◌, ◌↔◌, ◌⊎◌, ◌≡◌, take}
use Rattle.refusal.specs.Check.{code_of}
use Rattle.refusal.specs.Words.{code_in}
use Rattle.text.specs.String.{text_words}
use Rattle.text.specs.Facts.{Sited, HasText, NoString, NotEncoded, CodeSays}
use Rattle.meta.specs.Names.{title_at, description_at, kind_at, module_at, source_at, source_words}
use Rattle.meta.specs.Facts.{title_string, description_string, kind_string, module_string, source_string}
use Rattle.metric.specs.Levels.{metric_at, scope_at, summary_at, metric_words, scope_words, summary_words}
use Rattle.metric.specs.Facts.{metric_string, scope_string, summary_string}
use Rattle.function.specs.Function.{function_at, function_words}
use Rattle.function.specs.Facts.{p_name, FunctionThere, name_string}
use Rattle.lookup.specs.Lookup.{profile_lookup, cct_lookup}
use Rattle.batch.specs.Batch.{profile_batch, cct_batch}
use Rattle.words.specs.Convention.{words_in}
use Rattle.hpcdb.specs.Value.{value_code}

module _ (file : List ℕ) where
  -- of an answer in words that begins with a string's place and length: when each code is given, and `out` after it
  pub record WordsSay (s : Sited) (words : List ℕ) : Type 0 where
    pub codes : CodeSays file s (code_in words)
    pub out : (was : List ℕ) (n : ℕ) → s.Read → HasText file s n → take 2 (words_in was words) ≡ s.place ∷ n ∷ []
    pub untouched : (was : List ℕ) → (code_in words ≡ 0 → ⊥) → words_in was words ≡ was

  -- of a function: its first word is 1 if it has no name, and its code 0 then too
  module _ (i : ℕ) where
    abbrev its_name : Sited
    its_name = name_string file i

    abbrev its_words : List ℕ
    its_words = function_words (function_at file i)

    pub record FunctionWordsSay : Type 0 where
      pub code_0 : (code_in its_words ≡ 0) ↔ ((FunctionThere file i × (p_name file i ≡ 0)) ⊎ (its_name.Read × ((n : ℕ) × HasText file its_name n)))
      pub code_8 : (code_in its_words ≡ 8) ↔ NoString file its_name
      pub code_19 : (code_in its_words ≡ 19) ↔ NotEncoded file its_name
      pub with_name : (was : List ℕ) (n : ℕ) → its_name.Read → HasText file its_name n → take 3 (words_in was its_words) ≡ 0 ∷ p_name file i ∷ n ∷ []
      pub without : (was : List ℕ) → FunctionThere file i → p_name file i ≡ 0 → take 3 (words_in was its_words) ≡ 1 ∷ 0 ∷ 0 ∷ []
      pub untouched : (was : List ℕ) → (code_in its_words ≡ 0 → ⊥) → words_in was its_words ≡ was

  pub record StringsSay : Type 0 where
    pub title : WordsSay (title_string file) (text_words (title_at file))
    pub description : WordsSay (description_string file) (text_words (description_at file))
    pub id_name : (i : ℕ) → WordsSay (kind_string file i) (text_words (kind_at file i))
    pub metric : (m : ℕ) → WordsSay (metric_string file m) (metric_words (metric_at file m))
    pub scope : (m s : ℕ) → WordsSay (scope_string file m s) (scope_words (scope_at file m s))
    pub summary : (m s k : ℕ) → WordsSay (summary_string file m s k) (summary_words (summary_at file m s k))
    pub module_path : (i : ℕ) → WordsSay (module_string file i) (text_words (module_at file i))
    pub source_path : (i : ℕ) → WordsSay (source_string file i) (source_words (source_at file i))
    pub function : (i : ℕ) → FunctionWordsSay i

  -- lookups read no string
  pub record LookupsNever19 : Type 0 where
    pub profile-lookup : (profile context metric : ℕ) (out : List ℕ) → value_code out (profile_lookup file profile context metric) ≡ 19 → ⊥
    pub cct-lookup : (profile context metric : ℕ) (out : List ℕ) → value_code out (cct_lookup file profile context metric) ≡ 19 → ⊥
    pub profile_lookups : (profile : ℕ) (pairs was : List ℕ) → code_of (profile_batch file profile pairs was).check ≡ 19 → ⊥
    pub cct_lookups : (context : ℕ) (pairs was : List ℕ) → code_of (cct_batch file context pairs was).check ≡ 19 → ⊥
