-- Answers, each a value or a refusal; and checks: of one rule, and of several in their order.
use Rattle.std.specs.Prelude.{ℕ, Bool, true, false, Option, Some, None, Result, Ok, Err}
use Rattle.std.specs.Result.{result_and}
use Rattle.refusal.specs.declared.Refusal.{Refusal}
use Rattle.refusal.specs.Number.{number_of}

-- a value or a refusal; of a check nothing is asked but whether it passed
abbrev pub Answer : Type 0 → Type 0
Answer A = Result A Refusal

abbrev pub Check : Type 0
Check = Answer (Unit {0})

-- it passed
pattern abbrev pub Passed : Check
Passed = Ok tt

-- the number of an answer: 0 of a value
unfoldable pub code_of : {A : Type 0} → Answer A → ℕ
code_of (Ok x) = 0
code_of (Err r) = number_of r

-- one of two by a test
unfoldable pub either : {A : Type 0} → Bool → A → A → A
either true one other = one
either false one other = other

-- a rule that holds is passed, and else its refusal is given
unfoldable pub rule : Bool → Refusal → Check
rule true r = Passed
rule false r = Err r

-- an answer after a check, whose refusal comes first
abbrev pub first : {A : Type 0} → Check → Answer A → Answer A
first a b = result_and a b

-- what is said of a value, or of the refusal
unfoldable pub on_answer : {A B : Type 0} → (Refusal → B) → Answer A → (A → B) → B
on_answer refused (Ok x) say = say x
on_answer refused (Err r) say = refused r

-- what is answered once a check has passed, or by its refusal
abbrev pub if_passed : {B : Type 0} → (Refusal → B) → Check → B → B
if_passed refused check answer = on_answer refused check (λ _. answer)

-- what may be missing: it is found, or absent
pattern abbrev pub Found : {A : Type 0} → A → Answer (Option A)
Found x = Ok (Some x)

pattern abbrev pub Absent : {A : Type 0} → Answer (Option A)
Absent = Ok None
