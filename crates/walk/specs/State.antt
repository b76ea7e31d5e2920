-- What holds of the lent slices at each point of a walk: for the contracts of the two functions that call each other. The promises
-- of the entry points cite the traversal's definitions alone.
use Rattle.std.specs.Prelude.{ℕ, suc, ◌-◌, List, ◌≡◌, length}
use Rattle.context.specs.Context.{Targets}
use Rattle.context.specs.Entry.{Entry}
use Rattle.traversal.specs.declared.Walked.{Walked}
use Rattle.traversal.specs.Traversal.{Outcome, list_of, limited, depth_limit, visit, level}
use Rattle.traversal.specs.Walk.{walked_of, listing_with, table_with, records_with, Slices, ask_with, unmarked}
use Rattle.visit.specs.Visit.{Placed}

-- n contexts are listed, those of l
pub record Holds (was : Slices) (l : List Entry) (s : Slices) (n : ℕ) : Type 0 where
  pub listed : s.listing ≡ listing_with l was.listing
  pub filled : s.table ≡ table_with l (length was.table)
  pub recorded : s.records ≡ records_with l was.records
  pub counted : n ≡ length l
  pub placed : Placed l

-- a part of a traversal is done
pub record Done (was : Slices) (o : Outcome) (r : Walked) (s : Slices) : Type 0 where
  pub holds : Holds was (list_of o) s (length (list_of o))
  pub says : r ≡ walked_of o

-- wherever the slices hold the contexts before it, they hold in the end those of an array too, whose contexts stand at a depth and have
-- a parent, 0 for the roots
abbrev pub ArrayDoes : List ℕ → Targets → (depth parent at stop n : ℕ) → Slices → Walked → Slices → Type 0
ArrayDoes file t depth parent at stop n s r s' =
    (was : Slices) (l : List Entry) (ups : List ℕ) → suc (length ups) ≡ depth → Holds was l s n
    → Done was (level (limited (ask_with file unmarked was) t) (suc (suc depth_limit - depth)) parent ups at stop l) r s'

-- and those of a context with all below it
abbrev pub ContextDoes : List ℕ → Targets → (depth parent p stop n : ℕ) → Slices → Walked → Slices → Type 0
ContextDoes file t depth parent p stop n s r s' =
    (was : Slices) (l : List Entry) (path : List ℕ) → length path ≡ depth → Holds was l s n
    → Done was (visit (limited (ask_with file unmarked was) t) (level (limited (ask_with file unmarked was) t) (suc depth_limit - depth)) parent path p stop l) r s'
