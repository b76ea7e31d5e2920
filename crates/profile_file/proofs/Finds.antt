-- Lookups in the file of a writable survey find exactly its entries: by demand 2 they say what the asked block holds, and the block of
-- profile p is the written block of its pairs, which are the entries that name p.
use Rattle.std.specs.Prelude.{Err}
use Rattle.refusal.specs.Check.{Found, Absent, on_answer}
use Prim.Native.Nat.{ℕ, zero, suc, ◌+◌, ◌-◌, ◌*◌, ◌^◌, ◌≤◌, ◌<◌}
use mathlib.Core.List.{List, []}
use mathlib.Core.Logic.{◌↔◌, ◌⊎◌, inl, inr}
use mathlib.Core.Path.{◌≡◌, sym, ap, ◌∙◌}
use native.Mathlib.Nat.{eq-or-lt_of_le}
use native.Mathlib.Omega.{arith}
use lib.ListN.{length, get_or}
use Rattle.layout.proofs.Laws.{part-at, moved}
use Rattle.outside.specs.Facts.{Disjoint}
use Rattle.refusal.specs.declared.Refusal.TheVariants as No
use Rattle.open.specs.Format as Format
use Rattle.open.proofs.Pointers.{place_below}
use Rattle.block.specs.declared.Block.{Block}
use Rattle.block.specs.Block.{profile_shape, block_at}
use Rattle.block.specs.Facts.{Holds}
use Rattle.lookup.specs.Lookup.{checked_at, profile_block, profile_lookup}
use Rattle.lookup.specs.Demand2.{There}
use Rattle.lookup.proofs.Demand2.{demand2}
use Rattle.block_file.specs.Pairs.{written, indices_from, block_of}
use Rattle.block_file.specs.Facts.{PairsFit, BlockStands, HasPair}
use Rattle.block_file.proofs.Readback.{length_written, header_read, HeaderFits}
use Rattle.block_file.proofs.Round.{written_well_formed, written_holds_iff}
use Rattle.profile_file.specs.Survey.{Entries, Survey, Ascending, HasEntry, run_start, run_length, pairs_of}
use Rattle.profile_file.specs.File.{block_bytes, tuples_from, tuples_size, block_from, block_header, info_bytes, profile_file, section_pairs}
use Rattle.profile_file.specs.Facts.{Writable}
use Rattle.profile_file.proofs.Runs.{entry_in, entry_of, both_before, same_profile}
use Rattle.profile_file.proofs.Places.{info_at, block_stands, block_aligned, block_after, block_ends}
use Rattle.profile_file.proofs.Opens.{sections_are, file_opens, opened_with, array_is, element-place, no_element}

-- a pair of profile p is an entry that names p
pairs_iff : (e : Entries) → Ascending e → (p context metric bits : ℕ) → HasPair (pairs_of e p) context metric bits ↔ HasEntry e p context metric bits
pairs_iff e sorted p context metric bits = (to, from)
  where
    to : HasPair (pairs_of e p) context metric bits → HasEntry e p context metric bits
    to w = record {
      entry = run_start e p + w.pair;
      below = (entry_in e sorted p w.pair w.below).0;
      profile_is = (entry_in e sorted p w.pair w.below).1;
      context_is = w.outer_is;
      metric_is = w.inner_is;
      bits_are = w.bits_are;
    }

    from : HasEntry e p context metric bits → HasPair (pairs_of e p) context metric bits
    from g =
        let i = rw g.profile_is at (entry_of e sorted g.entry g.below) in
        let z : run_start e p + (g.entry - run_start e p) ≡ g.entry = omega (arith, i.0) in
        record {
          pair = g.entry - run_start e p;
          below = i.1;
          outer_is = ap e.context z ∙ g.context_is;
          inner_is = ap e.metric z ∙ g.metric_is;
          bits_are = ap e.bits z ∙ g.bits_are;
        }

module _ (s : Survey) (a : Writable s) where
  abbrev file : List ℕ
  file = profile_file s

  abbrev e : Entries
  e = s.entries

  module _ (p : ℕ) (l : p < s.profiles) where
    -- ---- the block of profile p

    run_fits : run_length e p < 2 ^ 64
    unfolding block_bytes
    run_fits = omega (arith, length_written profile_shape (pairs_of e p), block_ends s p l, a.length_fits)

    pairs_fit : PairsFit profile_shape (pairs_of e p)
    pairs_fit = record {
      outer_order = λ j k u m. last j k m (eq-or-lt_of_le u);
      inner_order = λ j k u m. (both_before e a.sorted p j k u m).metric_order (same_profile e a.sorted p j k (omega arith) m);
      outer_fits = λ k m. a.fields_fit.context_fits (run_start e p + k) (entry_in e a.sorted p k m).0;
      inner_fits = λ k m. a.fields_fit.metric_fits (run_start e p + k) (entry_in e a.sorted p k m).0;
      inner_least = λ k m. omega arith;
      bits_fit = λ k m. a.fields_fit.bits_fit (run_start e p + k) (entry_in e a.sorted p k m).0;
      count_fits = run_fits;
    }
      where
        last : (j k : ℕ) → k < run_length e p → (j ≡ k) ⊎ (j < k) → e.context (run_start e p + j) ≤ e.context (run_start e p + k)
        last j k m (inl q) = rw q (omega arith)
        last j k m (inr u) = (both_before e a.sorted p j k u m).context_order (same_profile e a.sorted p j k (omega arith) m)

    -- it stands behind both sections
    behind : (n k : ℕ) → k < length (section_pairs s)
        → Disjoint (block_from s p) n (get_or (get_or (section_pairs s) k []) 0 0) (get_or (get_or (section_pairs s) k []) 1 0)
    unfolding section_pairs tuples_from
    behind n zero h b u v w x = omega (arith, block_after s p)
    behind n (suc zero) h b u v w x = omega (arith, block_after s p, place_below (tuples_size s) (tuples_from s))
    behind n (suc (suc k)) h b u v w x = omega arith

    block_lies : BlockStands file profile_shape (section_pairs s) (pairs_of e p) (block_from s p)
    unfolding block_bytes tuples_from
    block_lies = record {
      bytes_at = block_stands s p l;
      aligned = block_aligned s p;
      outside = record {
        after = omega (arith, block_after s p);
        before = block_ends s p l;
        shares_none = behind (length (written profile_shape (pairs_of e p)));
      };
    }

    -- ---- its header

    indices_fit : indices_from profile_shape (pairs_of e p) (block_from s p) < 2 ^ 64
    unfolding indices_from block_bytes
    indices_fit = omega (arith, length_written profile_shape (pairs_of e p), block_ends s p l, a.length_fits)

    header_fits : HeaderFits profile_shape (block_header s p)
    unfolding block_header block_of
    header_fits = record {
      width = omega arith;
      total = run_fits;
      values = omega (arith, block_ends s p l, a.length_fits, place_below (run_length e p) (block_from s p));
      count = a.counted.contexts-fit p l;
      indices = omega (arith, indices_fit, place_below (run_length e p) (indices_from profile_shape (pairs_of e p) (block_from s p)));
    }

    block_read : block_at file profile_shape (64 + p * 40) ≡ block_header s p
    unfolding info_bytes
    block_read =
        header_read file profile_shape (block_header s p) (64 + p * 40) header_fits
        (moved (64 + p * 40) (omega arith) (part-at _ 0 (info_at s p l) (omega arith)))

    -- ---- it is there, and holds exactly the entries that name p

    block_there : There Format.profile profile_shape file p (block_header s p)
    unfolding block_header
    block_there = record {
      opens = file_opens s a;
      element = rw (sections_are s a, array_is s a) l;
      block = rw (sections_are s a, array_is s a, element-place s a p l) (sym block_read);
      well-formed = rw (sections_are s a) (written_well_formed file profile_shape (section_pairs s) (pairs_of e p) (block_from s p) pairs_fit block_lies);
    }

    -- and no other is
    only_block : (b : Block) → There Format.profile profile_shape file p b → b ≡ block_header s p
    only_block b t = t.block ∙ sym block_there.block

    holds_iff : (context metric bits : ℕ) → Holds file profile_shape (block_header s p) context metric bits ↔ HasEntry e p context metric bits
    unfolding block_header
    holds_iff context metric bits =
        let w = written_holds_iff file profile_shape (section_pairs s) (pairs_of e p) (block_from s p) pairs_fit block_lies context metric bits in
        let v = pairs_iff e a.sorted p context metric bits in
        (λ h. v.0 (w.0 h), λ g. w.1 (v.1 g))

    pub found_entry : (context metric bits : ℕ) → (profile_lookup file p context metric ≡ Found bits) ↔ HasEntry e p context metric bits
    found_entry context metric bits =
        let d = (demand2.in_profile_db file p context metric).found bits in
        let h = holds_iff context metric bits in (
          λ q. let b = d.0 q in h.0 (rw (only_block b.0 b.1.0) at b.1.1),
          λ g. d.1 (block_header s p, (block_there, h.1 g)),
        )

    pub absent_entry : (context metric : ℕ) → (profile_lookup file p context metric ≡ Absent) ↔ ((bits : ℕ) → HasEntry e p context metric bits → ⊥)
    absent_entry context metric =
        let d = (demand2.in_profile_db file p context metric).absent in (
          λ q bits g.
              let b = d.0 q in
              b.1.1 bits (rw (only_block b.0 b.1.0) ((holds_iff context metric bits).1 g)),
          λ none. d.1 (block_header s p, (block_there, λ bits h. none bits ((holds_iff context metric bits).0 h))),
        )

  -- 15 for a profile that is not listed
  pub lookup_unlisted : (p context metric : ℕ) → s.profiles ≤ p → profile_lookup file p context metric ≡ Err No.Index
  unfolding profile_lookup on_answer profile_block checked_at
  lookup_unlisted p context metric l = rw (opened_with s a, no_element s a p l)
