-- The words of records, by the contexts that they are of: twelve each, one context after the other; and what a slice for records holds
-- after a walk.
use Prim.Native.Nat.{ℕ, zero, suc, ◌+◌, ◌-◌, ◌*◌, ◌/◌, ◌<◌, min}
use mathlib.Core.List.{List, [], ◌∷◌, ◌++◌, append_assoc}
use mathlib.Core.Path.{◌≡◌, refl, sym, ap, ◌∙◌}
use native.Mathlib.Nat.{min_comm}
use native.Mathlib.Omega.{arith}
use lib.ListN.{length, take, drop, length-append, length-take}
use lib.Seq.{take-nil, take-append-add, take_at, drop_at}
use Rattle.buffer.proofs.Laws.{over_eq}
use Rattle.context.specs.Entry.{Entry, entry_words, words_each}
use Rattle.traversal.specs.Walk.{words_of, records_with}

-- ---- words

pub words_append : (l m : List Entry) → words_of (l ++ m) ≡ words_of l ++ words_of m
unfolding words_of
words_append [] m = refl
words_append (e ∷ l) m = ap (λ (w : List ℕ). entry_words e ++ w) (words_append l m) ∙ sym (append_assoc (entry_words e) (words_of l) (words_of m))

pub length_words : (l : List Entry) → length (words_of l) ≡ length l * words_each
unfolding words_of entry_words
length_words [] = refl
length_words (e ∷ l) = omega (arith, length-append (entry_words e) (words_of l), length_words l)

pub words_take : (n : ℕ) (l : List Entry) → words_of (take n l) ≡ take (n * words_each) (words_of l)
unfolding words_of entry_words
words_take zero l = refl
words_take (suc n) [] = sym (take-nil (suc n * words_each))
words_take (suc n) (e ∷ l) =
    let more : suc n * words_each ≡ words_each + n * words_each = omega arith in
    ap (λ (w : List ℕ). entry_words e ++ w) (words_take n l) ∙ sym (take-append-add (entry_words e) (words_of l) (n * words_each))
    ∙ ap (λ (k : ℕ). take k (entry_words e ++ words_of l)) (sym more)

-- ---- a slice for records with those of some contexts

module _ (was : List ℕ) (l : List Entry) where
  abbrev room : ℕ
  room = length was / words_each

  abbrev put : List ℕ
  put = words_of (take room l)

  put_length : length put ≡ min (length l) room * words_each
  put_length = length_words (take room l) ∙ ap (λ (n : ℕ). n * words_each) (length-take room l ∙ min_comm room (length l))

  put_first : records_with l was ≡ put ++ drop (length put) was
  unfolding records_with
  put_first =
      let none : 0 + length put ≡ length put = omega arith in
      over_eq was 0 put (omega (arith, length_words (take room l), length-take room l)) ∙ ap (λ (n : ℕ). put ++ drop n was) none

  -- those at its start, and the words behind them
  pub records_first : take (min (length l) (length was / words_each) * words_each) (records_with l was) ≡ take (length was / words_each * words_each) (words_of l)
  records_first =
      ap (take (min (length l) room * words_each)) put_first ∙ take_at put (drop (length put) was) _ put_length ∙ words_take room l

  pub records_behind : drop (min (length l) (length was / words_each) * words_each) (records_with l was)
      ≡ drop (min (length l) (length was / words_each) * words_each) was
  records_behind =
      ap (drop (min (length l) room * words_each)) put_first ∙ drop_at put (drop (length put) was) _ put_length
      ∙ ap (λ (n : ℕ). drop n was) put_length

-- one of them
pub record_at : (was : List ℕ) (before : List Entry) (e : Entry) (after : List Entry) → length before < length was / words_each
    → take words_each (drop (length before * words_each) (records_with (before ++ (e ∷ after)) was)) ≡ entry_words e
unfolding entry_words words_of
record_at was before e after h =
    ap (λ (w : List ℕ). take words_each (drop (length before * words_each) w)) (put_first was l ∙ ap (λ (w : List ℕ). w ++ rest) split ∙ joins)
    ∙ ap (take words_each) (drop_at (words_of before) (entry_words e ++ (words_of m ++ rest)) (length before * words_each) (length_words before))
    ∙ take_at (entry_words e) (words_of m ++ rest) words_each refl
  where
    l : List Entry
    l = before ++ (e ∷ after)

    rest : List ℕ
    rest = drop (length (put was l)) was

    m : List Entry
    m = take (length was / words_each - length before - 1) after

    kept : take (length was / words_each) l ≡ before ++ (e ∷ m)
    kept =
        let n : length was / words_each ≡ length before + suc (length was / words_each - length before - 1) = omega arith in
        ap (λ (k : ℕ). take k l) n ∙ take-append-add before (e ∷ after) (suc (length was / words_each - length before - 1))

    split : put was l ≡ words_of before ++ (entry_words e ++ words_of m)
    split = ap words_of kept ∙ words_append before (e ∷ m)

    joins : (words_of before ++ (entry_words e ++ words_of m)) ++ rest ≡ words_of before ++ (entry_words e ++ (words_of m ++ rest))
    joins =
        append_assoc (words_of before) (entry_words e ++ words_of m) rest
        ∙ ap (λ (w : List ℕ). words_of before ++ w) (append_assoc (entry_words e) (words_of m) rest)
