-- From the packing rule, whose rows are the table's.
use Prim.Native.Nat.{ℕ, ◌+◌}
use mathlib.Core.Bool.{Bool, true, false, true≢false}
use mathlib.Core.List.{List}
use mathlib.Core.Logic.{◌↔◌}
use mathlib.Core.Path.{◌≡◌, refl, sym, ap}
use native.Mathlib.Omega.{arith}
use borrow.Author.Tests.{le-leb}
use lib.ListN.{length, get_or}
use Rattle.le.specs.Number.{number}
use Rattle.refusal.specs.Check.{either}
use Rattle.open.specs.Opening.{field}
use Rattle.flex.specs.Packing.{words}
use Rattle.flex.specs.Table.{blank_cell, cell_of}
use Rattle.flex.proofs.Rows.{is_present_mod_8, table_cell, table_words}
use Rattle.context.specs.Context.{flags, flex_words, extent, widths, flex_at, context_rule}
use Rattle.context.specs.Entry.{entry_at}
use Rattle.context.specs.FlexSays.{FlexSays, held_at}
use Rattle.context.proofs.Laws.{ends}

cell_held : (present : Bool) (n width : ℕ) (file : List ℕ) (start : ℕ)
    → either present (number width file (start + n)) 0 ≡ held_at (cell_of present n) width file start
unfolding either cell_of
cell_held true n width file start = refl
cell_held false n width file start = refl

cell_blank : (present : Bool) (n : ℕ) → (present ≡ false) ↔ (cell_of present n ≡ blank_cell)
unfolding cell_of
cell_blank true n = ((λ e. absurd (true≢false e)), λ e. absurd (omega (arith, ap length e)))
cell_blank false n = ((λ e. refl), λ e. refl)

pub flex_says : (file : List ℕ) (p : ℕ) → FlexSays file p
unfolding flex_at context_rule extent entry_at
flex_says file p = record {
  absent = λ j. rw (table_cell (field file p flags) j) (cell_blank _ _);
  holds = λ j. rw (table_cell (field file p flags) j) (cell_held _ _ (get_or widths j 0) file (p + 24));
  tells = λ parent path j. sym (is_present_mod_8 (field file p flags) j);
  takes = refl;
  rule_10 = λ stop. (
    (λ kept. let x = ends file p stop kept in (x.1, rw (table_words (field file p flags)) x.2)),
    (λ x. rw (
      le-leb (p + 24) stop (omega (arith, x.0)),
      le-leb (p + extent file p) stop x.0,
      le-leb (words (field file p flags)) (field file p flex_words) (rw (← table_words (field file p flags)) x.1),
    )),
  );
}
