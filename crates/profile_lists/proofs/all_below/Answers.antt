-- Either all words are below the limit, or there is one that is not.
use Prim.Native.Nat.{ℕ, ◌≤◌, ◌<◌}
use mathlib.Core.Bool.{Bool, true, false}
use mathlib.Core.List.{List}
use mathlib.Core.Path.{◌≡◌, sym}
use native.Mathlib.Omega.{arith}
use borrow.Author.Tests.{lt-ltb, le-ltb}
use lib.Dec.{ltb}
use lib.ListN.{length}
use Rattle.std.proofs.Common.{rules, tests}
use Rattle.std.specs.Bool.{MatchBool}
use Rattle.std.specs.List.{AllWithin, HoldsAt}
use Rattle.std.proofs.lemmas.Iterator.{cases_from_all, YieldsList-from_slice}
use Rattle.seq.specs.Sequence.{every}
use Rattle.seq.proofs.Every.{every_of, every_not}
use Rattle.profile_lists.specs.Lists.{word_of}
use Rattle.profile_lists.proofs.all_below.Goals as goal

abbrev below : (words : List ℕ) (limit k : ℕ) → Bool
below words limit k = ltb (word_of words k) limit

by_cases : (words : List ℕ) (limit : ℕ) (r : Bool)
    → MatchBool r (AllWithin (λ w. w < limit) words 0 (length words)) ((k : ℕ) × (k < length words) × HoldsAt (λ w. limit ≤ w) words k)
    → r ≡ every (below words limit) (length words)
by_cases words limit true h = sym (every_of (below words limit) (length words) (λ k l. lt-ltb _ _ (h k 0 (omega arith) l)))
by_cases words limit false h = sym (every_not (below words limit) (length words) h.0 h.1 (le-ltb _ _ (h.2 0)))

pub returns : goal.returns
returns c =
    by_cases c.args.words.now c.args.limit _
    (cases_from_all _ _ _ (λ w. w < c.args.limit) (λ w. c.args.limit ≤ w) c.all.ensures.ran (YieldsList-from_slice c.args.words.now cc)
    (λ x q k. search (rules, tests)) (λ x q k. search (rules, tests)))
