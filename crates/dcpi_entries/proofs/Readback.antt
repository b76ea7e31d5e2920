-- Entries that were laid out one after the other, read as the writer reads them.
use Prim.Native.Nat.{ℕ, zero, suc, ◌+◌, ◌*◌, ◌^◌, ◌<◌}
use mathlib.Core.List.{List, [], ◌∷◌}
use mathlib.Core.Logic.{◌↔◌}
use mathlib.Core.Path.{◌≡◌, sym, ap, ◌∙◌}
use native.Mathlib.Nat.{le_of_suc-le-suc, not-suc-le-zero}
use native.Mathlib.Omega.{arith}
use lib.ListN.{length, get_or}
use Rattle.le.specs.Number.{number}
use Rattle.layout.specs.Bytes.{Field, ◌is◌, fields}
use Rattle.layout.specs.Octets.{Octets}
use Rattle.layout.specs.Stands.{Stands}
use Rattle.layout.proofs.Laws.{left, right, start, moved, field-at}
use Rattle.layout.proofs.Octets.{octets_none, octets_append, octets_fields}
use Rattle.float.specs.Float.{integer_bits}
use Rattle.float.proofs.Integers.{integer_small}
use Rattle.seq.specs.Lists.{All, In, Ordered}
use Rattle.seq.proofs.Lists.{all_in, nth_in, in_nth, ordered_nth}
use Rattle.profile_file.specs.Survey.{Ascending, HasEntry}
use Rattle.profile_lists.specs.Lists.{entries_in}
use Rattle.dcpi.specs.Samples.{OffsetCount}
use Rattle.dcpi.proofs.Offsets.{RisingOffsets}
use Rattle.dcpi_entries.specs.Entries.{entry_bytes, entries_of}
use Rattle.dcpi_entries.proofs.Bytes.{length_entry, length_entries}

abbrev none : OffsetCount
none = record { offset = 0; count = 0 }

module _ (profile metric : ℕ) where
  pub octets_entries : (xs : List OffsetCount) → Octets (entries_of profile metric xs)
  unfolding entries_of entry_bytes
  octets_entries [] = octets_none
  octets_entries (x ∷ xs) =
      octets_append (entry_bytes profile metric x) (entries_of profile metric xs)
      (octets_fields (4 is profile ∷ 4 is x.offset ∷ 2 is metric ∷ 6 is 0 ∷ 8 is integer_bits x.count ∷ [])) (octets_entries xs)

  entry_stands : {file : List ℕ} {at : ℕ} (xs : List OffsetCount) → Stands file at (entries_of profile metric xs) → (k : ℕ) → k < length xs
      → Stands file (at + k * 24) (entry_bytes profile metric (get_or xs k none))
  unfolding entries_of
  entry_stands [] h k l = absurd (not-suc-le-zero l)
  entry_stands {file} {at} (x ∷ xs) h zero l = moved (at + 0 * 24) (omega arith) (left file at (entry_bytes profile metric x) (entries_of profile metric xs) h)
  entry_stands {file} {at} (x ∷ xs) h (suc k) l =
      moved (at + suc k * 24) (omega (arith, length_entry profile metric x))
      (entry_stands {at = at + length (entry_bytes profile metric x)} xs (right file at (entry_bytes profile metric x) (entries_of profile metric xs) h) k (le_of_suc-le-suc l))

  module _ (p-fits : profile < 2 ^ 32) (m-fits : metric < 2 ^ 16) (xs : List OffsetCount) (o-fit : All (λ x. x.offset < 2 ^ 32) xs) where
    abbrev bytes : List ℕ
    bytes = entries_of profile metric xs

    pub many_entries : (entries_in bytes).count ≡ length xs
    many_entries = omega (arith, length_entries profile metric xs)

    module _ (k : ℕ) (l : k < length xs) where
      abbrev x : OffsetCount
      x = get_or xs k none

      abbrev layout : List Field
      layout = 4 is profile ∷ 4 is x.offset ∷ 2 is metric ∷ 6 is 0 ∷ 8 is integer_bits x.count ∷ []

      here : Stands bytes (k * 24) (fields layout)
      unfolding entry_bytes
      here = moved (k * 24) (omega arith) (entry_stands xs (start bytes) k l)

      profile_is : (entries_in bytes).profile k ≡ profile
      profile_is = ap (number 4 bytes) (omega arith) ∙ field-at layout 0 here (omega arith) p-fits

      context_is : (entries_in bytes).context k ≡ x.offset
      context_is = field-at layout 1 here (omega arith) (all_in (λ y. y.offset < 2 ^ 32) xs o-fit (nth_in none xs k l))

      metric_is : (entries_in bytes).metric k ≡ metric
      metric_is = field-at layout 2 here (omega arith) m-fits

      pub ignored_is : number 6 bytes (k * 24 + 10) ≡ 0
      ignored_is = field-at layout 3 here (omega arith) (omega arith)

      bits_is : (entries_in bytes).bits k ≡ integer_bits x.count
      bits_is = field-at layout 4 here (omega arith) (integer_small x.count)

    pub entry_iff : (p context m bits : ℕ)
        → HasEntry (entries_in bytes) p context m bits
        ↔ ((p ≡ profile) × ((m ≡ metric) × ((count : ℕ) × (In (record { offset = context; count = count }) xs × (bits ≡ integer_bits count)))))
    entry_iff p context m bits = (
      λ h.
          let k = h.entry in
          let l : k < length xs = omega (arith, h.below, many_entries) in (
            sym h.profile_is ∙ profile_is k l,
            (
              sym h.metric_is ∙ metric_is k l,
              ((x k l).count, (rw (sym h.context_is ∙ context_is k l) (nth_in none xs k l), sym h.bits_are ∙ bits_is k l)),
            ),
          ),
      λ h.
          let f = in_nth none xs h.1.1.1.0 in
          let l = f.1.0 in
          record {
            entry = f.0;
            below = omega (arith, l, many_entries);
            profile_is = profile_is f.0 l ∙ sym h.0;
            context_is = context_is f.0 l ∙ ap (λ (y : OffsetCount). y.offset) f.1.1;
            metric_is = metric_is f.0 l ∙ sym h.1.0;
            bits_are = bits_is f.0 l ∙ ap (λ (y : OffsetCount). integer_bits y.count) f.1.1 ∙ sym h.1.1.1.1;
          },
    )

    pub entries_ascend : Ordered RisingOffsets xs → Ascending (entries_in bytes)
    entries_ascend o j k l n =
        let lk : k < length xs = omega (arith, n, many_entries) in
        let lj : j < length xs = omega arith in
        let rise = ordered_nth RisingOffsets none xs o j k l lk in
        record {
          profile_order = omega (arith, profile_is j lj, profile_is k lk);
          context_order = λ e. omega (arith, context_is j lj, context_is k lk);
          metric_order = λ e q. absurd (omega (arith, context_is j lj, context_is k lk));
        }
