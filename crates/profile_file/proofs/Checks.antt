-- The check passes exactly if the rules hold, and each refusal is given exactly if its rule is the first that is broken.
use Prim.Native.Nat.{ℕ, suc, ◌-◌, ◌^◌, ◌≤◌, ◌<◌}
use mathlib.Core.Bool.{Bool, true, false, ◌&&◌, ◌||◌}
use mathlib.Core.Logic.{◌↔◌, ◌⊎◌}
use mathlib.Core.Path.{◌≡◌, refl}
use native.Mathlib.Omega.{arith}
use borrow.Author.Tests.{ltb-true, ltb-false, lt-ltb, leb-true, le-leb, eqb-true, eqb-false}
use lib.Dec.{ltb, leb, eqb}
use lib.ListN.{length}
use Rattle.range.proofs.Tests.{both}
use Rattle.refusal.specs.declared.Refusal.TheVariants as No
use Rattle.refusal.specs.Check.{rule}
use Rattle.refusal.proofs.Checks.{Decides, rule_decides, first_decides}
use Rattle.seq.specs.Sequence.{every}
use Rattle.seq.proofs.Every.{every_at, every_of}
use Rattle.block_file.specs.Pairs.{groups_of}
use Rattle.profile_file.specs.Survey.{Entries, Survey, Before, Ascending, pairs_of}
use Rattle.profile_file.specs.File.{profile_file}
use Rattle.profile_file.specs.Facts.{AllListed, CountsFit}
use Rattle.profile_file.specs.Check.{entries_listed, profiles_listed, before_rule, sorted_rule, sizes_fit, contexts_fit, counts_rule, sizes_check, write_check}
use Rattle.profile_file.proofs.Runs.{neighbours_sorted}

pub every_iff : (f g : ℕ → ℕ) (n : ℕ) → (every (λ k. ltb (f k) (g k)) n ≡ true) ↔ ((k : ℕ) → k < n → f k < g k)
every_iff f g n = (
  λ e k l. ltb-true (f k) (g k) (every_at (λ k. ltb (f k) (g k)) n e k l),
  λ h. every_of (λ k. ltb (f k) (g k)) n (λ k l. lt-ltb (f k) (g k) (h k l)),
)

-- by a first number, and then by another test
then_iff : (a b : ℕ) (t : Bool) → ((ltb a b || (eqb a b && t)) ≡ true) ↔ ((a ≤ b) × (a ≡ b → t ≡ true))
then_iff a b t = go (ltb a b) refl (eqb a b) refl
  where
    go : (x : Bool) → ltb a b ≡ x → (y : Bool) → eqb a b ≡ y → ((x || (y && t)) ≡ true) ↔ ((a ≤ b) × (a ≡ b → t ≡ true))
    go true p y q = (λ h. (omega (arith, ltb-true a b p), λ z. absurd (omega (arith, ltb-true a b p))), λ f. refl)
    go false p true q = (λ h. (omega (arith, eqb-true a b q), λ z. h), λ f. f.1 (eqb-true a b q))
    go false p false q = (
      λ h. absurd (let z : ◌≡◌ {A = ℕ} 0 1 = cc in omega arith),
      λ f. absurd (eqb-false a b q (omega (arith, f.0, ltb-false a b p))),
    )

module _ (e : Entries) where
  before_iff : (j k : ℕ) → (before_rule e j k ≡ true) ↔ Before e j k
  unfolding before_rule
  before_iff j k =
      let m = ltb (e.metric j) (e.metric k) in
      let c = then_iff (e.context j) (e.context k) m in
      let p = then_iff (e.profile j) (e.profile k) (ltb (e.context j) (e.context k) || (eqb (e.context j) (e.context k) && m)) in (
        λ t. record {
          profile_order = (p.0 t).0;
          context_order = λ u. (c.0 ((p.0 t).1 u)).0;
          metric_order = λ u v. ltb-true (e.metric j) (e.metric k) ((c.0 ((p.0 t).1 u)).1 v);
        },
        λ b. p.1 (b.profile_order, λ u. c.1 (b.context_order u, λ v. lt-ltb (e.metric j) (e.metric k) (b.metric_order u v))),
      )

  pub sorted_iff : (sorted_rule e ≡ true) ↔ Ascending e
  unfolding sorted_rule
  sorted_iff = (
    λ t. neighbours_sorted e (λ k l. (before_iff k (suc k)).0 (every_at (λ k. before_rule e k (suc k)) (e.count - 1) t k (omega arith))),
    λ h. every_of (λ k. before_rule e k (suc k)) (e.count - 1) (λ k l. (before_iff k (suc k)).1 (h k (suc k) (omega arith) (omega arith))),
  )

module _ (s : Survey) where
  pub listed_iff : (there : Bool)
      → ((profiles_listed s && (there && entries_listed s.entries s.profiles)) ≡ true) ↔ (AllListed s × (there ≡ true))
  unfolding profiles_listed entries_listed
  listed_iff there =
      let p = every_iff s.entries.profile (λ k. s.profiles) s.entries.count in
      let t = every_iff s.named (λ p. s.tuples.count) s.profiles in
      let a = both (profiles_listed s) (there && entries_listed s.entries s.profiles) in
      let b = both there (entries_listed s.entries s.profiles) in (
        λ e. (record { profile_listed = p.0 (b.0 (a.0 e).1).1; tuple_listed = t.0 (a.0 e).0 }, (b.0 (a.0 e).1).0),
        λ l. a.1 (t.1 l.0.tuple_listed, b.1 (l.1, p.1 l.0.profile_listed)),
      )

  pub counts_iff : (counts_rule s ≡ true) ↔ CountsFit s
  unfolding counts_rule sizes_fit contexts_fit
  counts_iff =
      let z = every_iff s.tuples.size (λ t. 2 ^ 16) s.tuples.count in
      let c = every_iff (λ p. groups_of (pairs_of s.entries p)) (λ p. 2 ^ 32) s.profiles in
      let a = both (ltb s.profiles (2 ^ 32)) (sizes_fit s.tuples && contexts_fit s.entries s.profiles) in
      let b = both (sizes_fit s.tuples) (contexts_fit s.entries s.profiles) in (
        λ e. record {
          profiles_fit = ltb-true s.profiles (2 ^ 32) (a.0 e).0;
          sizes-fit = z.0 (b.0 (a.0 e).1).0;
          contexts-fit = c.0 (b.0 (a.0 e).1).1;
        },
        λ k. a.1 (lt-ltb s.profiles (2 ^ 32) k.profiles_fit, b.1 (z.1 k.sizes-fit, c.1 k.contexts-fit)),
      )

  room_iff : (room : ℕ) → (leb (length (profile_file s)) room ≡ true) ↔ (length (profile_file s) ≤ room)
  room_iff room = (leb-true (length (profile_file s)) room, le-leb (length (profile_file s)) room)

  -- 15, 11, 7 and 17 in this order
  pub check_decides : (there : Bool) (room : ℕ)
      → Decides (write_check s there room)
      ((AllListed s × (there ≡ true)) × (Ascending s.entries × (CountsFit s × (length (profile_file s) ≤ room))))
      (λ r. ((No.Index ≡ r) × (AllListed s × (there ≡ true) → ⊥))
      ⊎ ((AllListed s × (there ≡ true)) × (((No.Order ≡ r) × (Ascending s.entries → ⊥))
      ⊎ (Ascending s.entries × (((No.Array ≡ r) × (CountsFit s → ⊥)) ⊎ (CountsFit s × ((No.Room ≡ r) × (length (profile_file s) ≤ room → ⊥))))))))
  unfolding write_check sizes_check
  check_decides there room =
      let listed = profiles_listed s && (there && entries_listed s.entries s.profiles) in
      first_decides (rule listed No.Index) (rule_decides listed (listed_iff there))
      (first_decides (rule (sorted_rule s.entries) No.Order) (rule_decides (sorted_rule s.entries) (sorted_iff s.entries))
      (first_decides (rule (counts_rule s) No.Array) (rule_decides (counts_rule s) counts_iff)
      (rule_decides (leb (length (profile_file s)) room) (room_iff room))))
