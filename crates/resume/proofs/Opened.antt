-- The walk of an opened file: from its roots, where there are any. The table is cleared first, and only its length counts.
use Prim.Native.Nat.{ℕ, suc, ◌+◌, ◌≤◌, ◌<◌}
use mathlib.Core.List.{List, []}
use mathlib.Core.Path.{◌≡◌, refl, sym, ap, ◌∙◌}
use native.Mathlib.Omega.{arith}
use native.Mathlib.Nat.{not-suc-le-zero, add-zero}
use lib.Dec.{eqb}
use lib.ListN.{length, replicate, length-replicate}
use Rattle.le.specs.Number.{number}
use Rattle.refusal.specs.Check.{either}
use Rattle.open.specs.Format.{meta}
use Rattle.open.specs.Names as Section
use Rattle.open.specs.Opening.{field, place_in}
use Rattle.open.specs.Kept.{Sections}
use Rattle.context.specs.Context.{Targets, targets_of}
use Rattle.traversal.specs.declared.Walked.{Walked}
use Rattle.traversal.specs.declared.Walked.TheVariants.{Complete}
use Rattle.traversal.specs.Traversal.{Marks, on, list_of, depth_limit, level, from_roots}
use Rattle.traversal.specs.From.{last_path, limited_from}
use Rattle.traversal.specs.Walk.{table_with, Slices, slices}
use Rattle.traversal.proofs.Steps.{rest_end, level_rest}
use Rattle.resume.specs.State.{Holds, counted_end, Ended, asked_with, RootsDone, AllDone}
use Rattle.visit.proofs.Lie.{roots_lie}
use Rattle.resume.proofs.Slices.{start}

-- with a table as long, whatever it held
module _ (file : List ℕ) (t : Targets) (path : List ℕ) (was : Slices) (at stop : ℕ) (r : Walked) (s : Slices) (way : List ℕ) where
  abbrev begun : List ℕ → Slices
  begun table = slices was.listing table was.records

  as_long : (table : List ℕ) → length table ≡ length was.table → RootsDone file t path at stop (begun table) r s way
      → RootsDone file t path at stop was r s way
  as_long table e d m bytes =
      let h = rw e at (d m bytes) in
      let o = level (limited_from path (asked_with file was m bytes) t) (suc depth_limit) 0 [] at stop [] in
      record {
        holds = record {
          listed = h.holds.listed;
          filled = h.holds.filled ∙ ap (table_with (list_of o)) e;
          recorded = h.holds.recorded;
          counted = h.holds.counted;
          placed = h.holds.placed;
        };
        says = h.says;
        last = h.last;
      }

-- where there are none
empty_roots : (file : List ℕ) (t : Targets) (path : List ℕ) (was : Slices) (place bytes : ℕ) (table : List ℕ) → length table ≡ length was.table
    → (m : Marks) (n k : ℕ) (way : List ℕ) → bytes ≡ 0 → Holds path was [] (slices was.listing table was.records) k → way ≡ replicate 201 0
    → Ended file place path (slices was.listing table was.records)
    (level (limited_from path (asked_with file (slices was.listing table was.records) m n) t) (suc depth_limit) 0 [] place (place + bytes) [])
    (Complete k) (slices was.listing table was.records) way
unfolding counted_end last_path
empty_roots file t path was place bytes table e m n k way z h ew =
    let E = limited_from path (asked_with file (slices was.listing table was.records) m n) t in
    let none : level E (suc depth_limit) 0 [] place (place + bytes) [] ≡ on [] =
    level_rest E depth_limit 0 [] place (place + bytes) [] ∙ rest_end E (level E depth_limit) 0 [] 0 place (place + bytes) [] (omega arith) in
    rw none (record {
      holds = record { listed = h.listed; filled = h.filled ∙ ap (table_with []) (sym e); recorded = h.recorded; counted = refl; placed = tt };
      says = ap Complete h.counted;
      last = record { depth = rw ew; stands = λ k q. absurd (not-suc-le-zero q); lie = λ k q. absurd (not-suc-le-zero q) };
    })

-- what is read of an opened file's roots, and the table cleared
pub record RootsRead (file : List ℕ) (was : Slices) (ps : List (List ℕ)) (t : Targets) (place bytes : ℕ) (table : List ℕ) : Type 0 where
  pub opened : Sections meta file ps
  pub targets_are : t ≡ targets_of file ps
  pub place_is : place ≡ number 8 file (place_in ps Section.context + 8)
  pub size_is : bytes ≡ number 8 file (place_in ps Section.context)
  pub clear : table ≡ replicate (length was.table) 0

module _ {file : List ℕ} {was : Slices} {ps : List (List ℕ)} {t : Targets} {place bytes : ℕ} {table : List ℕ}
    (z : RootsRead file was ps t place bytes table) where
  size_is_0 : bytes ≡ number 8 file (place_in ps Section.context + 0)
  size_is_0 = rw (add-zero (place_in ps Section.context)) z.size_is

  pub roots_inside : (bytes ≡ 0 → ⊥) → (0 < place) × (place + bytes ≤ length file) × (t.at + t.size ≤ length file)
  roots_inside n = roots_lie file z.opened t z.targets_are place bytes z.place_is size_is_0 (omega (arith, n))

  abbrev cleared : Slices
  cleared = slices was.listing table was.records

  long : length table ≡ length was.table
  long = ap length z.clear ∙ length-replicate (length was.table) 0

  -- its own length says as much
  pub clear_again : table ≡ replicate (length table) 0
  clear_again = z.clear ∙ ap (λ (k : ℕ). replicate k 0) (sym long)

  pub from-roots : (path : List ℕ) (r : Walked) (s : Slices) (way : List ℕ) → RootsDone file t path place (place + bytes) cleared r s way
      → AllDone file ps path was r s way
  unfolding from_roots field targets_of
  from-roots path r s way d m n =
      rw (← z.place_is, ← size_is_0, ← z.targets_are) (as_long file t path was place (place + bytes) r s way table long d m n)

  pub no_roots : (path : List ℕ) (k : ℕ) (way : List ℕ) → bytes ≡ 0 → k ≡ either (eqb (length path) 0) 1 0 → way ≡ replicate 201 0
      → AllDone file ps path was (Complete k) cleared way
  no_roots path k way none ek ew =
      from-roots path (Complete k) cleared way (λ m n. empty_roots file t path was place bytes table long m n k way none (rw ek (start path was table z.clear)) ew)
