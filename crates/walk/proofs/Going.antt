-- The loop over an array: at each turn, the rest of the array remains to be traversed after the contexts so far.
use Prim.Native.Nat.{ℕ, suc, ◌+◌, ◌-◌, ◌≤◌, ◌<◌}
use mathlib.Core.Bool.{false}
use mathlib.Core.List.{List, [], ◌∷◌, ◌++◌}
use mathlib.Core.Path.{◌≡◌, ap, ◌∙◌}
use native.Mathlib.Omega.{arith}
use lib.ListN.{length, length-append}
use Rattle.refusal.specs.declared.Refusal.TheVariants as No
use Rattle.context.specs.Context.{Targets, extent, context_rule}
use Rattle.context.specs.Entry.{Entry}
use Rattle.traversal.specs.declared.Walked.{Walked}
use Rattle.traversal.specs.declared.Walked.TheVariants.{Complete, Truncated, Refused}
use Rattle.traversal.specs.Traversal.{Outcome, on, cut, refused, Parameters, limited, depth_limit, Down, visit, bind, level}
use Rattle.traversal.specs.Walk.{walked_of, Slices, ask_with, unmarked}
use Rattle.traversal.proofs.Steps.{rest, rest_end, rest_step, level_rest, visit_10}
use Rattle.walk.specs.State.{Holds, Done, ContextDoes}
use Rattle.walk.proofs.Slices.{recounted}

-- a part that ends with what is listed
module _ (was : Slices) (s : Slices) where
  done_on : (l : List Entry) (n : ℕ) → Holds was l s n → Done was (on l) (Complete n) s
  unfolding walked_of
  done_on l n h = record { holds = recounted h; says = ap Complete h.counted }

  pub done_cut : (l : List Entry) (n : ℕ) → Holds was l s n → Done was (cut l) (Truncated n) s
  unfolding walked_of
  done_cut l n h = record { holds = recounted h; says = ap Truncated h.counted }

  pub done_refused : (l : List Entry) (n : ℕ) → Holds was l s n → (r : _) → Done was (refused r l) (Refused r n) s
  unfolding walked_of
  done_refused l n h r = record { holds = recounted h; says = ap (Refused r) h.counted }

  pub done_complete : (l : List Entry) (n : ℕ) → Holds was l s n → (o : Outcome) → o ≡ on l → Done was o (Complete n) s
  done_complete l n h o e = rw e (done_on l n h)

module _ (file : List ℕ) (t : Targets) (depth at stop : ℕ) (was : Slices) (l : List Entry) (parent : ℕ) (ups : List ℕ) where
  abbrev E : Parameters
  E = limited (ask_with file unmarked was) t

  abbrev down : Down
  down = level E (suc depth_limit - depth)

  abbrev all : Outcome
  all = level E (suc (suc depth_limit - depth)) parent ups at stop l

  pub record Going (s : Slices) (p n : ℕ) : Type 0 where
    pub so : List Entry
    pub i : ℕ
    pub same : all ≡ rest E down parent ups i p stop so
    pub holds : Holds was so s n

  pub going_start : (s : Slices) (n : ℕ) → Holds was l s n → Going s at n
  going_start s n h = record { so = l; i = 0; same = level_rest E (suc depth_limit - depth) parent ups at stop l; holds = h }

  pub going_end : (s : Slices) (p n : ℕ) → stop ≤ p → Going s p n → Done was all (Complete n) s
  going_end s p n k g = done_complete was s g.so n g.holds all (g.same ∙ rest_end E down parent ups g.i p stop g.so k)

  -- the context at p, and what follows it
  abbrev here : (i p : ℕ) → List Entry → Outcome
  here i p so = visit E down parent (ups ++ (i ∷ [])) p stop so

  abbrev next : (i p : ℕ) → List Entry → Outcome
  next i p m = rest E down parent ups (suc i) (p + extent file p) stop m

  stop_by : (o : Outcome) (K : List Entry → Outcome) (r : Walked) (s : Slices) → all ≡ bind o K → Done was o r s
      → ((k : ℕ) → r ≡ Complete k → ⊥) → Done was all r s
  unfolding bind walked_of
  stop_by (on m) K r s e d z = absurd (z (length m) d.says)
  stop_by (cut m) K r s e d z = rw e d
  stop_by (refused v m) K r s e d z = rw e d

  go_by : (i p n : ℕ) (o : Outcome) (s : Slices) → all ≡ bind o (λ m. rest E down parent ups i p stop m) → Done was o (Complete n) s → Going s p n
  unfolding bind walked_of
  go_by i p n (on m) s e d = record { so = m; i = i; same = e; holds = let q : length m ≡ n = cc in rw q at d.holds }
  go_by i p n (cut m) s e d = absurd (let z : ◌≡◌ {A = ℕ} 0 1 = cc in omega arith)
  go_by i p n (refused r m) s e d = absurd (let z : ◌≡◌ {A = ℕ} 0 1 = cc in omega arith)

  module _ (s : Slices) (p n : ℕ) (k : p < stop) (g : Going s p n) where
    turned : all ≡ bind (here g.i p g.so) (next g.i p)
    turned = g.same ∙ rest_step E down parent ups g.i p stop g.so k

    pub going_10 : context_rule file p stop ≡ false → Done was all (Refused No.Context n) s
    going_10 e =
        stop_by (refused No.Context g.so) (next g.i p) _ s
        (turned ∙ ap (λ (o : Outcome). bind o (next g.i p)) (visit_10 E down parent (ups ++ (g.i ∷ [])) p stop g.so e))
        (done_refused was s g.so n g.holds No.Context) (λ k e. let z : ◌≡◌ {A = ℕ} 0 1 = cc in omega arith)

    module _ (deep : suc (length ups) ≡ depth) (r : Walked) (s' : Slices) (does : ContextDoes file t depth parent p stop n s r s') where
      visited : Done was (here g.i p g.so) r s'
      visited = does was g.so (ups ++ (g.i ∷ [])) (omega (arith, length-append ups (g.i ∷ []))) g.holds

      pub going_next : (q m : ℕ) → r ≡ Complete m → q ≡ extent file p → Going s' (p + q) m
      going_next q m e z = rw z (go_by (suc g.i) (p + extent file p) m (here g.i p g.so) s' turned (rw e at visited))

      pub going_stop : ((m : ℕ) → r ≡ Complete m → ⊥) → Done was all r s'
      going_stop z = stop_by (here g.i p g.so) (next g.i p) r s' turned visited z
