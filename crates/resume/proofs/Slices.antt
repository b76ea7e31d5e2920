-- The lent slices as a walk from a mark starts, and with one context more: listed if the mark is passed, and else only in the table.
use Prim.Native.Nat.{ℕ, zero, suc, ◌*◌, ◌/◌, ◌<◌}
use mathlib.Core.Bool.{Bool, true, false}
use mathlib.Core.List.{List, [], ◌∷◌, map}
use mathlib.Core.Path.{◌≡◌, refl, sym, ap, ◌∙◌}
use native.Mathlib.Omega.{arith}
use lib.Dec.{eqb, ltb, eqb-suc-zero}
use lib.ListN.{length, set, replicate}
use lib.Seq.{drop-nil}
use Rattle.refusal.specs.Check.{either}
use Rattle.buffer.specs.Over.{over}
use Rattle.buffer.proofs.Laws.{length_over}
use Rattle.open.specs.Opening.{field}
use Rattle.context.specs.Context.{ctx_id}
use Rattle.context.specs.Entry.{Entry, entry_at, entry_words, words_each}
use Rattle.traversal.specs.From.{same_path, skipped, after_mark, marks_from}
use Rattle.traversal.specs.Walk.{place_of, listing_with, slots_with, table_with, Slices, slices}
use Rattle.traversal.proofs.Keeps.{snoc}
use Rattle.traversal.proofs.Passing.{marks_start, marks-more, after_more, after_length, marks_found, marks_still, after_none, unpassed_after}
use Rattle.traversal.proofs.Table.{slots_append, length_table}
use Rattle.traversal.proofs.Untouched.{nothing_listed, nothing_recorded, length_records}
use Rattle.visit.proofs.Slices.{placed_snoc, listing_snoc, records_snoc}
use Rattle.resume.specs.State.{Holds, listing_more, RecordMore}

module _ {path : List ℕ} {was : Slices} {l : List Entry} {s : Slices} {k : ℕ} (h : Holds path was l s k) where
  pub long : length s.listing ≡ length was.listing
  unfolding listing_with
  long = rw h.listed (length_over was.listing 0 (map place_of (after_mark path l)))

  pub wide : length s.table ≡ length was.table
  wide = ap length h.filled ∙ length_table l (length was.table)

  pub as_many : length s.records ≡ length was.records
  as_many = rw h.recorded (length_records was.records (after_mark path l))

  -- the marks that are counted are those of the list
  pub recounted : Holds path was l s (marks_from path l)
  recounted = record { listed = h.listed; filled = h.filled; recorded = h.recorded; counted = refl; placed = h.placed }

-- where a walk starts
module _ (path : List ℕ) (was : Slices) where
  start_after : after_mark path [] ≡ []
  unfolding after_mark
  start_after = drop-nil (skipped path [])

  root_mark : (q : List ℕ) → same_path q [] ≡ eqb (length q) 0
  unfolding same_path
  root_mark [] = refl
  root_mark (x ∷ q) = sym (eqb-suc-zero (length q))

  pub start : (table : List ℕ) → table ≡ replicate (length was.table) 0
      → Holds path was [] (slices was.listing table was.records) (either (eqb (length path) 0) 1 0)
  unfolding table_with slots_with
  start table e = record {
    listed = sym (nothing_listed was.listing (after_mark path []) start_after);
    filled = e;
    recorded = sym (nothing_recorded was.records (after_mark path []) start_after);
    counted = sym (marks_start path ∙ ap (λ (b : Bool). either b 1 0) (root_mark path));
    placed = tt;
  }

-- the marks passed, by whether it is the mark's
unfoldable pub marks_more : (k : ℕ) (found : Bool) → ℕ
marks_more zero found = either found 1 0
marks_more (suc n) found = suc (suc n)

-- its record, by whether the mark is passed
abbrev RecordBy : Entry → (k : ℕ) → (was now : List ℕ) → Type 0
RecordBy e zero was now = now ≡ was
RecordBy e (suc n) was now = now ≡ either (ltb n (length was / words_each)) (over was (n * words_each) (entry_words e)) was

-- one context more
module _ (path : List ℕ) (was : Slices) (l : List Entry) (e : Entry) where
  filled_more : (table : List ℕ) → table ≡ table_with l (length was.table)
      → set table e.ctx_id e.place ≡ table_with (snoc l e) (length was.table)
  unfolding table_with slots_with
  filled_more table f = rw f (sym (slots_append l (e ∷ []) (replicate (length was.table) 0)))

  marks_by : (found : Bool) → found ≡ same_path path e.path → marks_from path l ≡ 0 → either found 1 0 ≡ marks_from path (snoc l e)
  unfolding either
  marks_by true f z = sym (marks_found path l e z (sym f))
  marks_by false f z = sym (marks_still path l e z (sym f))

  more_by : (s : Slices) (k : ℕ) → Holds path was l s k → 0 < e.place → (found : Bool) → (k ≡ 0 → found ≡ same_path path e.path)
      → (records : List ℕ) → RecordBy e k s.records records
      → Holds path was (snoc l e) (slices (listing_more k e.place s.listing) (set s.table e.ctx_id e.place) records) (marks_more k found)
  unfolding listing_more marks_more
  more_by s zero h y found f records r =
      let z : marks_from path l ≡ 0 = sym h.counted in
      let before = unpassed_after path l z in
      let behind = after_none path l e z in
      record {
        listed = h.listed ∙ nothing_listed was.listing (after_mark path l) before ∙ sym (nothing_listed was.listing (after_mark path (snoc l e)) behind);
        filled = filled_more s.table h.filled;
        recorded = r ∙ h.recorded ∙ nothing_recorded was.records (after_mark path l) before
            ∙ sym (nothing_recorded was.records (after_mark path (snoc l e)) behind);
        counted = marks_by found (f refl) z;
        placed = placed_snoc l e h.placed y;
      }
  more_by s (suc n) h y found f records r =
      let z : 0 < marks_from path l = omega (arith, h.counted) in
      let some : n ≡ length (after_mark path l) = omega (arith, h.counted, after_length path l z) in
      let more = after_more path l e z in
      record {
        listed = rw (some, h.listed, more) (sym (listing_snoc was.listing (after_mark path l) e));
        filled = filled_more s.table h.filled;
        recorded = r ∙ rw (some, h.recorded, more) (sym (records_snoc was.records (after_mark path l) e));
        counted = ap suc h.counted ∙ sym (marks-more path l e z);
        placed = placed_snoc l e h.placed y;
      }

-- that at p
pub one_more : {path : List ℕ} {was : Slices} {l : List Entry} {s : Slices} {k : ℕ} → Holds path was l s k → (file : List ℕ) (parent : ℕ)
    (here : List ℕ) (p depth : ℕ) → 0 < p → length here ≡ depth → (found : Bool) → (k ≡ 0 → found ≡ same_path path here)
    → (records : List ℕ) → RecordMore file p depth parent k s.records records
    → Holds path was (snoc l (entry_at file parent here p))
    (slices (listing_more k p s.listing) (set s.table (field file p ctx_id) p) records) (marks_more k found)
unfolding entry_at
one_more {path} {was} {l} {s} {k} h file parent here p depth y d found f records r =
    more_by path was l (entry_at file parent here p) s k h y found f records (go k r)
  where
    go : (j : ℕ) → RecordMore file p depth parent j s.records records → RecordBy (entry_at file parent here p) j s.records records
    go zero q = q
    go (suc n) q = q here d
