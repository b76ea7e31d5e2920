-- What a profile.db is written from: lists as a number and functions of an index, whatever form they are lent in.
use Rattle.std.specs.Prelude.{ℕ, zero, suc, ◌+◌, ◌-◌, ◌≤◌, ◌<◌, ◌≡◌, ltb}
use Rattle.refusal.specs.Check.{either}
use Rattle.block_file.specs.Pairs.{Pairs}

-- identifier tuples: how many, the number of identifications of each, and what identification j of tuple t has
pub record Tuples : Type 0 where
  pub count : ℕ
  pub size : ℕ → ℕ
  pub kind : (t j : ℕ) → ℕ
  pub flags : (t j : ℕ) → ℕ
  pub logical : (t j : ℕ) → ℕ
  pub physical : (t j : ℕ) → ℕ

-- (profile, context, metric, value bits) entries
pub record Entries : Type 0 where
  pub count : ℕ
  pub profile : ℕ → ℕ
  pub context : ℕ → ℕ
  pub metric : ℕ → ℕ
  pub bits : ℕ → ℕ

-- profiles, the number of each one's tuple, the tuples, and the entries
pub record Survey : Type 0 where
  pub profiles : ℕ
  pub named : ℕ → ℕ
  pub tuples : Tuples
  pub entries : Entries

-- ---- entries as facts

-- entry j comes before entry k: strictly, by profile, then context, then metric
pub record Before (e : Entries) (j k : ℕ) : Type 0 where
  pub profile_order : e.profile j ≤ e.profile k
  pub context_order : e.profile j ≡ e.profile k → e.context j ≤ e.context k
  pub metric_order : e.profile j ≡ e.profile k → e.context j ≡ e.context k → e.metric j < e.metric k

abbrev pub Ascending : Entries → Type 0
Ascending e = (j k : ℕ) → j < k → k < e.count → Before e j k

-- there is an entry of a profile, a context and a metric with these bits
pub record HasEntry (e : Entries) (profile context metric bits : ℕ) : Type 0 where
  pub entry : ℕ
  pub below : entry < e.count
  pub profile_is : e.profile entry ≡ profile
  pub context_is : e.context entry ≡ context
  pub metric_is : e.metric entry ≡ metric
  pub bits_are : e.bits entry ≡ bits

-- ---- a profile's run: sorted entries of one profile stand together

-- how many of f 0, .., f (n - 1) are below a bound
unfoldable pub count_below : (f : ℕ → ℕ) (bound n : ℕ) → ℕ
count_below f bound zero = 0
count_below f bound (suc n) = count_below f bound n + either (ltb (f n) bound) 1 0

-- where the run of profile p starts, and how many entries it has
unfoldable pub run_start : Entries → (p : ℕ) → ℕ
run_start e p = count_below e.profile p e.count

unfoldable pub run_length : Entries → (p : ℕ) → ℕ
run_length e p = run_start e (p + 1) - run_start e p

-- what its block holds
abbrev pub pairs_of : Entries → (p : ℕ) → Pairs
pairs_of e p = record {
  count = run_length e p;
  outer = λ k. e.context (run_start e p + k);
  inner = λ k. e.metric (run_start e p + k);
  bits = λ k. e.bits (run_start e p + k);
}
