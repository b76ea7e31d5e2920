-- Entry 0 of a run leads it; another is compared with the one before it.
use Prim.Native.Nat.{ℕ, zero, suc, ◌+◌, ◌-◌}
use mathlib.Core.Bool.{not}
use mathlib.Core.Path.{◌≡◌, refl, sym}
use native.Mathlib.Omega.{arith}
use lib.Dec.{eqb}
use Rattle.profile_lists.specs.Lists.{entries_in}
use Rattle.block_file.specs.Pairs.{leads}
use Rattle.profile_lists.proofs.leads_at.Goals as goal

-- of a sequence that starts further on
later : (f : ℕ → ℕ) (start k : ℕ) → (k ≡ 0 → ⊥) → leads (λ j. f (start + j)) k ≡ not (eqb (f (start + k - 1)) (f (start + k)))
unfolding leads
later f start zero h = absurd (h refl)
later f start (suc k) h = let e : start + suc k - 1 ≡ start + k = omega arith in rw e

pub returns-then-k-eq0 : goal.returns-then-k-eq0
unfolding leads
returns-then-k-eq0 c =
    rw c.if-k-eq0.true

pub returns : goal.returns
returns c =
    let contexts = (entries_in c.args.entries.now).context in
    rw (c.context_of.ensures, c.context_of-2.ensures) (sym (later contexts c.args.start c.args.k c.if-k-eq0.false))
