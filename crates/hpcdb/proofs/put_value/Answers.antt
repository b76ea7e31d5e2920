-- By the answer.
use mathlib.Core.Path.{◌≡◌, refl, ◌∙◌}
use Rattle.std.specs.Prelude.{ℕ, List, Option, Ok}
use Rattle.hpcdb.specs.Value.{value_in}
use Rattle.block.specs.Block.{found_words, lookup_words}
use Rattle.refusal.specs.Check.{Answer}
use Rattle.refusal.specs.Words.{code_in}
use Rattle.hpcdb.proofs.put_value.Goals as goal

-- what is said of an answer is said of the one that it is
told : (was : List ℕ) {answer : Answer (Option ℕ)} {found same : Option ℕ} → answer ≡ Ok found → found ≡ same
    → (code_in (lookup_words (Ok same)) ≡ code_in (lookup_words answer)) × (value_in was (Ok same) ≡ value_in was answer)
told was e f = (rw (e, f) refl, rw (e, f) refl)

pub returns-in-Ok-Some : goal.returns-in-Ok-Some
unfolding found_words lookup_words code_in value_in
returns-in-Ok-Some c =
    let t = told c.args.out.now c.in-Ok-Some.is (rw c.in-Ok-Some.is at c.in-Ok-Some.field-0-is) in
    record { value = t.0; out_after = c.store_u64.ensures ∙ t.1 }

pub returns-in-Ok-None : goal.returns-in-Ok-None
unfolding found_words lookup_words code_in value_in
returns-in-Ok-None c =
    let t = told c.args.out.now c.in-Ok-None.is (rw c.in-Ok-None.is at c.in-Ok-None.field-0-is) in
    record { value = t.0; out_after = t.1 }

pub returns-in-Err : goal.returns-in-Err
unfolding lookup_words found_words code_in value_in
returns-in-Err c = record { value = rw c.in-Err.is c.from.ensures; out_after = rw c.in-Err.is refl }
