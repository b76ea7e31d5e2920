-- Nothing is listed before the mark is passed; after it the k-th mark is that of context k - 1 of the list.
use Prim.Native.Nat.{ℕ, zero, suc, ◌+◌, ◌-◌}
use mathlib.Core.List.{List}
use mathlib.Core.Path.{◌≡◌, refl, sym, ap, ◌∙◌}
use native.Mathlib.Numerals.{sub-one}
use native.Mathlib.Omega.{arith}
use lib.Dec.{eqb}
use lib.ListN.{length, set}
use Rattle.refusal.specs.Check.{either}
use Rattle.mark.specs.Mark.{decode, path_in}
use Rattle.seek.specs.declared.Seek.{Seek}
use Rattle.seek.specs.Seek.{stepped}
use Rattle.visit.specs.Visit.{RecordPut}
use Rattle.resume.specs.State.{progress, progress_more, listing_more, RecordMore}
use Rattle.std.proofs.Common.{eq-eqb}
use Rattle.std.proofs.lemmas.Bool.{ne_eqb}
use Rattle.resume.proofs.list_or_pass.Goals as goal

-- before the mark is passed
passed-one : (file path : List ℕ) (k : ℕ) (sk : Seek) (p depth parent up : ℕ) (listing records : List ℕ) (next : Seek) (n : ℕ) → k ≡ 0
    → next ≡ stepped path sk up → n ≡ either (eqb next.matched (length path)) 1 0
    → (progress n next ≡ progress_more path k sk up) × ((listing ≡ listing_more k p listing) × RecordMore file p depth parent k records records)
unfolding progress_more listing_more
passed-one file path k sk p depth parent up listing records next n z e f = rw z (rw (f, e) (refl, (refl, refl)))

-- after the mark
listed-one : (file path : List ℕ) (k : ℕ) (sk : Seek) (p depth parent up : ℕ) (listing records records' : List ℕ) → (k ≡ 0 → ⊥)
    → RecordPut file p depth parent (k - 1) records records'
    → (progress (k + 1) sk ≡ progress_more path k sk up) × ((set listing (k - 1) p ≡ listing_more k p listing) × RecordMore file p depth parent k records records')
unfolding progress_more listing_more
listed-one file path zero sk p depth parent up listing records records' n h = absurd (n refl)
listed-one file path (suc k) sk p depth parent up listing records records' n h =
    let more : suc k + 1 ≡ suc (suc k) = omega arith in
    (rw more, (rw (sub-one (suc k)), rw (sub-one (suc k)) at h))

pub step-next-requires : goal.step-next-requires
step-next-requires c =
    record {
      mark_value = c.requires.mark_value;
      matched_in_bounds = c.requires.so_far_in_bounds_2 c.if-k-eq0.true;
    }

pub returns-then-found : goal.returns-then-found
unfolding either
returns-then-found c =
    let found = ap (eqb c.step-next.result.matched) c.depth.ensures in
    let all = passed-one c.args.file.now (path_in (decode c.args.mark.now)) _ _ _ _ _ _ _ _ _ 1 c.if-k-eq0.true
    c.step-next.ensures (rw (sym found ∙ eq-eqb _ _ c.if-found.true)) in
    record { value = all.0; listing_after = all.1.0; record_more = all.1.1 }

pub returns-else-found : goal.returns-else-found
unfolding either
returns-else-found c =
    let found = ap (eqb c.step-next.result.matched) c.depth.ensures in
    let all = passed-one c.args.file.now (path_in (decode c.args.mark.now)) _ _ _ _ _ _ _ _ _ 0 c.if-k-eq0.true
    c.step-next.ensures (rw (sym found ∙ ne_eqb _ _ c.if-found.false)) in
    record { value = all.0; listing_after = all.1.0; record_more = all.1.1 }

pub returns : goal.returns
returns c =
    let all = listed-one c.args.file.now (path_in (decode c.args.mark.now)) _ _ _ _ _ _ _ _ _ c.if-k-eq0.false
    (rw c.parent_of-parent.ensures at c.put_record.ensures) in
    record { value = all.0; listing_after = all.1.0; record_more = all.1.1 }
