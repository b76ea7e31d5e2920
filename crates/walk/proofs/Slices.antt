-- The lent slices as a walk starts, and with one context more.
use Prim.Native.Nat.{ℕ, ◌+◌, ◌*◌, ◌/◌, ◌<◌}
use mathlib.Core.List.{List, [], ◌∷◌, ◌++◌, map}
use mathlib.Core.Path.{◌≡◌, refl, sym, ap, ◌∙◌}
use lib.Dec.{ltb}
use lib.ListN.{length, set, replicate, length-append}
use Rattle.refusal.specs.Check.{either}
use Rattle.buffer.specs.Over.{over}
use Rattle.buffer.proofs.Laws.{length_over}
use Rattle.context.specs.Entry.{Entry, entry_words, words_each}
use Rattle.traversal.specs.Walk.{place_of, listing_with, slots_with, table_with, Slices, slices}
use Rattle.traversal.proofs.Table.{slots_append}
use Rattle.traversal.proofs.Untouched.{nothing_listed, nothing_recorded}
use Rattle.visit.proofs.Slices.{placed_snoc, listing_snoc, records_snoc}
use Rattle.walk.specs.State.{Holds}

module _ {was : Slices} {l : List Entry} {s : Slices} {n : ℕ} (h : Holds was l s n) where
  pub long : length s.listing ≡ length was.listing
  unfolding listing_with
  long = rw h.listed (length_over was.listing 0 (map place_of l))

  pub one_more : (e : Entry) (records : List ℕ) → 0 < e.place
      → records ≡ either (ltb n (length s.records / words_each)) (over s.records (n * words_each) (entry_words e)) s.records
      → Holds was (l ++ (e ∷ [])) (slices (set s.listing n e.place) (set s.table e.ctx_id e.place) records) (n + 1)
  unfolding table_with slots_with
  one_more e records p r = record {
    listed = rw (h.counted, h.listed) (sym (listing_snoc was.listing l e));
    filled = rw h.filled (sym (slots_append l (e ∷ []) (replicate (length was.table) 0)));
    recorded = r ∙ rw (h.counted, h.recorded) (sym (records_snoc was.records l e));
    counted = ap (λ (m : ℕ). m + 1) h.counted ∙ sym (length-append l (e ∷ []));
    placed = placed_snoc l e h.placed p;
  }

  -- the number that is counted is that of the list
  pub recounted : Holds was l s (length l)
  recounted = record { listed = h.listed; filled = h.filled; recorded = h.recorded; counted = refl; placed = h.placed }

-- where a walk starts
pub start : (was : Slices) (table : List ℕ) → table ≡ replicate (length was.table) 0 → Holds was [] (slices was.listing table was.records) 0
unfolding table_with slots_with
start was table e = record {
  listed = sym (nothing_listed was.listing [] refl);
  filled = e;
  recorded = sym (nothing_recorded was.records [] refl);
  counted = refl;
  placed = tt;
}
