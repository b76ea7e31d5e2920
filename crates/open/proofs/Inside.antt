-- What a reader of an opened file knows of section k: where its place and size stand in the header; its bytes and its array end before
-- the last eight bytes.
use Prim.Native.Nat.{ℕ, zero, suc, ◌+◌, ◌-◌, ◌*◌, ◌≤◌, ◌<◌}
use mathlib.Core.List.{List, [], ◌∷◌}
use mathlib.Core.Path.{◌≡◌, ap, subst, ◌∙◌}
use native.Mathlib.Omega.{arith}
use lib.ListN.{length}
use Rattle.open.specs.Format.{Field, u64, Number, Content, array, roots, Section, Format, section_at}
use Rattle.open.specs.Opening.{pair_at, pairs_from, pairs, pair_in, place_in, size_in, field, number_at}
use Rattle.open.specs.Kept.{ArrayKept, ContextsKept, ContentKept, Opens}

-- pair k stands at 16 + 16 k
pub pair-at : (f : Format) (file : List ℕ) (k : ℕ) → k < length f.sections → pair_in (pairs f file) k ≡ pair_at file (16 + 16 * k)
unfolding pairs pairs_from
pair-at f file k h = go f.sections 16 k h
  where
    go : (ss : List Section) (entry k : ℕ) → k < length ss → pair_in (pairs_from file entry ss) k ≡ pair_at file (entry + 16 * k)
    go [] entry k h = absurd (omega arith)
    go (s ∷ rest) entry zero h = ap (pair_at file) (omega arith)
    go (s ∷ rest) entry (suc k) h = go rest (entry + 16) k (omega arith) ∙ ap (pair_at file) (omega arith)

module _ (f : Format) (file : List ℕ) (o : Opens f file) (k : ℕ) (l : k < length f.sections) where
  abbrev at : ℕ
  at = place_in (pairs f file) k

  abbrev size : ℕ
  size = size_in (pairs f file) k

  pub section_inside : 0 < size → at + size ≤ length file - 8
  section_inside h = (o.section k l).section.inside h

  pub header_inside : 0 < (section_at f k).end → at + (section_at f k).end ≤ length file
  header_inside h =
      let g : (section_at f k).end ≤ size = (o.section k l).section.large in
      let i : at + size ≤ length file - 8 = section_inside (omega arith) in
      omega arith

  content_kept : (c : Content) → (section_at f k).content ≡ c → ContentKept file at (section_at f k).end size c
  content_kept c e = subst (λ (x : Content). ContentKept file at (section_at f k).end size x) e (o.section k l).content

  pub array_kept : (n : Field) (s : Number) → (section_at f k).content ≡ array n s
      → ArrayKept at (section_at f k).end size (field file at (u64 0)) (field file at n) (number_at file at s)
  array_kept n s e = content_kept (array n s) e

  pub roots_kept : (section_at f k).content ≡ roots → ContextsKept at (section_at f k).end size (field file at (u64 8)) (field file at (u64 0))
  roots_kept e = content_kept roots e

  -- an array with elements ends in the file, whatever the section
  pub array_inside : (n : Field) (s : Number) → (section_at f k).content ≡ array n s → 0 < (section_at f k).end → 0 < field file at n
      → field file at (u64 0) + field file at n * number_at file at s ≤ length file - 8
  array_inside n s e h c =
      let a : field file at (u64 0) + field file at n * number_at file at s ≤ at + size = (array_kept n s e).inside c in
      let g : (section_at f k).end ≤ size = (o.section k l).section.large in
      let i : at + size ≤ length file - 8 = section_inside (omega arith) in
      omega arith
