-- What holds at each turn of the passes over the entries: from entry to entry, through the run of a profile, and from run to run.
use Prim.Native.Nat.{ℕ, suc, ◌+◌, ◌-◌, ◌*◌, ◌%◌, ◌^◌, ◌≤◌, ◌<◌}
use mathlib.Core.Bool.{Bool, true, false, ◌&&◌}
use mathlib.Core.Path.{◌≡◌, refl, sym, ap, ap₂, ◌∙◌}
use native.Mathlib.Numerals.{add-one}
use native.Mathlib.Omega.{arith}
use lib.Dec.{ltb}
use lib.ListN.{length}
use Rattle.std.specs.Prelude.{Ok, Err}
use Rattle.layout.specs.Many.{many}
use Rattle.layout.proofs.Many.{many_none, length_next}
use Rattle.refusal.specs.declared.Refusal.{Refusal}
use Rattle.refusal.specs.declared.Refusal.TheVariants as No
use Rattle.refusal.specs.Check.{Answer, Passed, rule, first}
use Rattle.refusal.proofs.Checks.{rule_passes, err_same, not_both}
use Rattle.seq.specs.Sequence.{every}
use Rattle.seq.proofs.Every.{every_none, every_next, every_more, every_not}
use Rattle.block_file.specs.Pairs.{leads, groups, groups_of}
use Rattle.block_file.proofs.Groups.{group_yes, group_no, groups_none, groups_most}
use Rattle.profile_file.specs.Survey.{Entries, Ascending, run_start, run_length, pairs_of}
use Rattle.profile_file.specs.File.{block_bytes}
use Rattle.profile_file.specs.Check.{entries_listed, before_rule, sorted_rule, contexts_fit}
use Rattle.profile_file.proofs.Runs.{run_le, run_in, first_run, run_next, run_ends}
use Rattle.profile_file.proofs.Lengths.{length_block}
use Rattle.profile_file.proofs.Most.{blocks_most}

-- ---- each entry

-- entry k is listed; it comes before the next
abbrev pub is_listed : Entries → (profiles k : ℕ) → Bool
is_listed e profiles k = ltb (e.profile k) profiles

abbrev pub is_before : Entries → (k : ℕ) → Bool
is_before e k = before_rule e k (suc k)

-- of the entries up to k: whether all are listed, and whether each comes before the next
pub record Checking (e : Entries) (profiles k : ℕ) (listed sorted : Bool) : Type 0 where
  pub within : k < e.count
  pub listed_is : listed ≡ every (is_listed e profiles) (k + 1)
  pub sorted_is : sorted ≡ every (is_before e) k

pub none_listed : (e : Entries) (profiles : ℕ) → e.count ≡ 0 → entries_listed e profiles ≡ true
unfolding entries_listed
none_listed e profiles z = ap (every (is_listed e profiles)) z ∙ every_none (is_listed e profiles)

pub none_sorted : (e : Entries) → e.count ≡ 0 → sorted_rule e ≡ true
unfolding sorted_rule
none_sorted e z =
    let none : e.count - 1 ≡ 0 = omega arith in
    ap (every (is_before e)) none ∙ every_none (is_before e)

pub checking_first : (e : Entries) (profiles : ℕ) → 0 < e.count → Checking e profiles 0 (is_listed e profiles 0) true
unfolding every
checking_first e profiles l = record { within = l; listed_is = refl; sorted_is = refl }

module _ {e : Entries} {profiles k : ℕ} {listed sorted : Bool} (r : Checking e profiles k listed sorted) where
  pub checking_more : k + 1 < e.count → Checking e profiles (k + 1) (listed && is_listed e profiles (k + 1)) (sorted && is_before e k)
  checking_more l = record {
    within = l;
    listed_is = ap (λ b. b && is_listed e profiles (k + 1)) r.listed_is ∙ sym (every_next (is_listed e profiles) (k + 1));
    sorted_is = ap (λ b. b && is_before e k) r.sorted_is ∙ sym (every_next (is_before e) k);
  }

  pub checking_all : e.count ≤ k + 1 → (listed ≡ entries_listed e profiles) × (sorted ≡ sorted_rule e)
  unfolding entries_listed sorted_rule
  checking_all l =
      let n : k + 1 ≡ e.count = omega (arith, r.within) in
      let m : k ≡ e.count - 1 = omega arith in
      (r.listed_is ∙ ap (every (is_listed e profiles)) n, r.sorted_is ∙ ap (every (is_before e)) m)

-- ---- through the run of a profile

-- the contexts from entry `start` on
abbrev pub contexts_from : Entries → (start j : ℕ) → ℕ
contexts_from e start j = e.context (start + j)

-- k entries of the run of profile p have been passed, and they have so many contexts
pub record Counting (e : Entries) (p start k contexts : ℕ) : Type 0 where
  pub within : start + k ≤ run_start e (p + 1)
  pub contexts_are : contexts ≡ groups (contexts_from e start) k

pub counting_none : (e : Entries) → Ascending e → (p start : ℕ) → start ≡ run_start e p → Counting e p start 0 0
counting_none e sorted p start s = record {
  within = omega (arith, run_next e sorted p);
  contexts_are = sym (groups_none (contexts_from e start));
}

module _ {e : Entries} {p start k contexts : ℕ} (r : Counting e p start k contexts) (sorted : Ascending e) where
  -- none of these numbers is above that of the entries
  pub counting_most : (start + k ≤ e.count) × (contexts ≤ k)
  counting_most = (omega (arith, r.within, run_le e sorted (p + 1)), omega (arith, r.contexts_are, groups_most (contexts_from e start) k))

  -- an entry of profile p is in its run
  module _ (l : start + k < e.count) (of-run : e.profile (start + k) ≡ p) where
    next_within : start + (k + 1) ≤ run_start e (p + 1)
    next_within = omega (arith, run_in e sorted (p + 1) (start + k) l (omega arith))

    pub counting_leader : leads (contexts_from e start) k ≡ true → Counting e p start (k + 1) (contexts + 1)
    counting_leader t = record {
      within = next_within;
      contexts_are = rw (add-one k, group_yes (contexts_from e start) k t) (ap (λ (z : ℕ). z + 1) r.contexts_are);
    }

    pub counting_other : leads (contexts_from e start) k ≡ false → Counting e p start (k + 1) contexts
    counting_other t = record {
      within = next_within;
      contexts_are = rw (add-one k, group_no (contexts_from e start) k t) r.contexts_are;
    }

  -- where the next is not of the run, all of it has been passed
  pub counting_all : start ≡ run_start e p → (start + k < e.count → e.profile (start + k) ≡ p → ⊥)
      → (start + k ≡ run_start e (p + 1)) × (contexts ≡ groups_of (pairs_of e p))
  counting_all s other =
      let ends : start + k ≡ run_start e (p + 1) = run_ends e sorted p (start + k) (omega arith) r.within other in
      let length_is : k ≡ run_length e p = omega (arith, ends, run_next e sorted p) in
      (ends, r.contexts_are ∙ ap₂ groups (ap (contexts_from e) s) length_is)

-- ---- from run to run

-- the contexts of profile p can be counted
abbrev pub is_counted : Entries → (p : ℕ) → Bool
is_counted e p = ltb (groups_of (pairs_of e p)) (2 ^ 32)

-- of the profiles below p: where the next run starts, and how many bytes their blocks have; the contexts of each can be counted
pub record Measured (e : Entries) (profiles p start bytes : ℕ) : Type 0 where
  pub within : p ≤ profiles
  pub start_is : start ≡ run_start e p
  pub bytes_are : bytes ≡ length (many (block_bytes e) p)
  pub counted : contexts_fit e p ≡ true

pub measured_none : (e : Entries) → Ascending e → (profiles : ℕ) → Measured e profiles 0 0 0
unfolding contexts_fit
measured_none e sorted profiles = record {
  within = omega arith;
  start_is = sym (first_run e sorted);
  bytes_are = rw many_none;
  counted = every_none (is_counted e);
}

-- what the blocks of all profiles come to
abbrev pub measure_of : Entries → (profiles : ℕ) → Answer ℕ
measure_of e profiles = first (rule (contexts_fit e profiles) No.Array) (Ok (length (many (block_bytes e) profiles)))

-- a rule that refuses does not hold
rule_refused : (t : Bool) {own r : Refusal} → Err r ≡ rule t own → (t ≡ false) × (r ≡ own)
unfolding rule
rule_refused true e = absurd (not_both (sym e))
rule_refused false e = (refl, err_same e)

module _ {e : Entries} {profiles p start bytes end contexts : ℕ} (r : Measured e profiles p start bytes)
    (sorted : Ascending e) (l : p < profiles) (end_is : end ≡ run_start e (p + 1)) (contexts_are : contexts ≡ groups_of (pairs_of e p)) where
  counted_as : (t : Bool) → ltb contexts (2 ^ 32) ≡ t → is_counted e p ≡ t
  counted_as t fits = ap (λ (z : ℕ). ltb z (2 ^ 32)) (sym contexts_are) ∙ fits

  -- too many contexts of profile p
  pub measured_refused : {no : Refusal} → Err no ≡ rule (ltb contexts (2 ^ 32)) No.Array → Err no ≡ measure_of e profiles
  unfolding contexts_fit rule
  measured_refused refused =
      let broken = rule_refused (ltb contexts (2 ^ 32)) refused in
      rw (broken.1, every_not (is_counted e) profiles p l (counted_as false broken.0))

  grown : end ≡ start + run_length e p
  grown = omega (arith, r.start_is, end_is, run_next e sorted p)

  bytes_next : bytes + (end - start) * 10 + 2 * ((end - start) % 2) + contexts * 12 ≡ length (many (block_bytes e) (p + 1))
  bytes_next =
      let next : length (many (block_bytes e) (p + 1)) ≡ length (many (block_bytes e) p) + length (block_bytes e p) =
      rw (add-one p) (length_next (block_bytes e) p) in
      omega (arith, r.bytes_are, grown, next, length_block e p, contexts_are)

  pub measured_more : Passed ≡ rule (ltb contexts (2 ^ 32)) No.Array
      → Measured e profiles (p + 1) end (bytes + (end - start) * 10 + 2 * ((end - start) % 2) + contexts * 12)
  unfolding contexts_fit
  measured_more passed = record {
    within = omega arith;
    start_is = end_is;
    bytes_are = bytes_next;
    counted = every_more (is_counted e) p r.counted (counted_as true ((rule_passes (ltb contexts (2 ^ 32)) No.Array).0 (sym passed)));
  }

  -- what a turn computes is no more than the bytes of all entries
  pub turn_most : (start ≤ end) × (bytes + (end - start) * 10 + 2 * ((end - start) % 2) + contexts * 12 ≤ e.count * 24)
  turn_most = (omega (arith, grown), omega (arith, bytes_next, blocks_most e sorted (p + 1), run_le e sorted (p + 1)))

-- once all are passed
pub measured_all : {e : Entries} {profiles p start bytes : ℕ} → Measured e profiles p start bytes → profiles ≤ p → Ok bytes ≡ measure_of e profiles
unfolding contexts_fit rule
measured_all {profiles = profiles} {p = p} r end =
    let all : p ≡ profiles = omega (arith, r.within) in
    rw (sym all, r.counted, sym r.bytes_are)
