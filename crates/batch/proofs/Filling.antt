-- The answers written so far are those to the first k pairs; each takes two words, whether a value was found or not.
use Rattle.std.specs.Prelude.{Err, None, Option, Some}
use Prim.Native.Nat.{ℕ, zero, suc, ◌+◌, ◌*◌, ◌≤◌, ◌<◌}
use mathlib.Core.List.{List}
use mathlib.Core.Path.{◌≡◌, refl, sym, ap, ◌∙◌}
use native.Mathlib.Numerals.{add-one}
use native.Mathlib.Omega.{arith}
use borrow.Author.Tests.{le-leb, lt-leb}
use lib.ListN.{length, get_or, length-append}
use Rattle.refusal.specs.declared.Refusal.TheVariants as No
use Rattle.refusal.specs.Check.{rule, Check, Answer, on_answer}
use Rattle.buffer.specs.Over.{over}
use Rattle.buffer.proofs.Laws.{over_none, over_append}
use Rattle.seq.specs.Sequence.{position}
use Rattle.block.specs.declared.Shape.{Shape}
use Rattle.block.specs.declared.Block.{Block}
use Rattle.block.specs.Block.{id_at, part_at, value_at, in_part, index_of, lookup_in, found_words}
use Rattle.batch.specs.Batch.{pairs_in, answers_to, answers_in, batch_in, batch_of}

module _ (file : List ℕ) (h : Shape) (b : Block) where
  pub two_words : (outer inner : ℕ) → length (found_words (lookup_in file h b outer inner)) ≡ 2
  unfolding lookup_in in_part value_at found_words
  two_words outer inner = by (index_of file h b outer)
    where
      found : (at : ℕ) (p : Option ℕ) → length (found_words (value_at file h b at p)) ≡ 2
      found at (Some k) = refl
      found at None = refl

      by : (p : Option ℕ) → length (found_words (in_part file h b inner p)) ≡ 2
      by (Some i) = let part = part_at file h b i in found part.place (position (id_at h.inner file part.place) inner part.length)
      by None = refl

  module _ (asked : List ℕ) where
    abbrev answer : ℕ → Option ℕ
    answer k = lookup_in file h b (get_or asked (2 * k) 0) (get_or asked (2 * k + 1) 0)

    length_answers : (n : ℕ) → length (answers_to file h b asked n) ≡ 2 * n
    unfolding answers_to
    length_answers zero = refl
    length_answers (suc n) =
        rw (length-append (answers_to file h b asked n) (found_words (answer n)), length_answers n, two_words _ _) (omega arith)

    pub record Filling (was after : List ℕ) (k : ℕ) : Type 0 where
      pub within : k ≤ pairs_in asked
      pub so_far : after ≡ over was 0 (answers_to file h b asked k)

    pub filling_start : (was : List ℕ) → Filling was was 0
    unfolding answers_to
    filling_start was = record { within = omega arith; so_far = sym (over_none was 0) }

    module _ {was after : List ℕ} {k : ℕ} (f : Filling was after k) where
      pub filling_more : k < pairs_in asked → {next : List ℕ} {a : Option ℕ} → a ≡ answer k → next ≡ over after (2 * k) (found_words a)
          → Filling was next (k + 1)
      unfolding answers_to
      filling_more l {next} {a} e n = record {
        within = omega arith;
        so_far = rw (add-one k, ← e) (n ∙ rw f.so_far (placed ∙ sym (over_append (answers_to file h b asked k) (found_words a) was 0)));
      }
        where
          placed : over (over was 0 (answers_to file h b asked k)) (2 * k) (found_words a)
              ≡ over (over was 0 (answers_to file h b asked k)) (0 + length (answers_to file h b asked k)) (found_words a)
          placed = ap (λ (p : ℕ). over (over was 0 (answers_to file h b asked k)) p (found_words a)) (omega (arith, length_answers k))

      pub filling_all : pairs_in asked ≤ k → after ≡ answers_in file h b asked was
      unfolding answers_in
      filling_all l = let e : k ≡ pairs_in asked = omega (arith, f.within) in rw (← e) f.so_far

-- by whether there are two words for each pair
module _ (file : List ℕ) (h : Shape) (c : Answer Block) (asked was : List ℕ) where
  pub no_room : length was < 2 * pairs_in asked
      → (Err No.Room ≡ (batch_of file h c asked was).check) × (was ≡ (batch_of file h c asked was).answers)
  unfolding batch_of rule on_answer
  no_room l = rw (lt-leb (2 * pairs_in asked) (length was) l) (refl, refl)

  pub room : 2 * pairs_in asked ≤ length was → {k : Check} {next : List ℕ}
      → (k ≡ (batch_in file h c asked was).check) × (next ≡ (batch_in file h c asked was).answers)
      → (k ≡ (batch_of file h c asked was).check) × (next ≡ (batch_of file h c asked was).answers)
  unfolding batch_of rule on_answer
  room l e = rw (le-leb (2 * pairs_in asked) (length was) l) e
