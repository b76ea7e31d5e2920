-- Refusals have the numbers from 1 to 20, each its own, and 0 is the number of a check that passed.
use Prim.Native.Nat.{ℕ, ◌-◌, ◌≤◌}
use mathlib.Core.List.{List, [], ◌∷◌}
use mathlib.Core.Logic.{◌↔◌}
use mathlib.Core.Path.{◌≡◌, refl, sym, ap, ◌∙◌}
use native.Mathlib.Omega.{arith}
use lib.ListN.{get_or}
use Rattle.refusal.specs.declared.Refusal.{Refusal}
use Rattle.refusal.specs.declared.Refusal.TheVariants as No
use Rattle.std.specs.Prelude.{Err}
use Rattle.refusal.specs.Check.{Check, Passed}
use Rattle.refusal.specs.Number.{number_of}
use Rattle.refusal.specs.Check.{code_of}
use Rattle.refusal.proofs.Checks.{not_both}

from_one : (r : Refusal) → (1 ≤ number_of r) × (number_of r ≤ 20)
from_one No.Short = (omega arith, omega arith)
from_one No.Magic = (omega arith, omega arith)
from_one No.Version = (omega arith, omega arith)
from_one No.Footer = (omega arith, omega arith)
from_one No.Section = (omega arith, omega arith)
from_one No.Stride = (omega arith, omega arith)
from_one No.Array = (omega arith, omega arith)
from_one No.String = (omega arith, omega arith)
from_one No.Link = (omega arith, omega arith)
from_one No.Context = (omega arith, omega arith)
from_one No.Order = (omega arith, omega arith)
from_one No.Deep = (omega arith, omega arith)
from_one No.Slot = (omega arith, omega arith)
from_one No.Twice = (omega arith, omega arith)
from_one No.Index = (omega arith, omega arith)
from_one No.NotFinite = (omega arith, omega arith)
from_one No.Room = (omega arith, omega arith)
from_one No.Mark = (omega arith, omega arith)
from_one No.Spelling = (omega arith, omega arith)
from_one No.Total = (omega arith, omega arith)

-- ---- no two have the same number

abbrev refusals : List Refusal
refusals =
    No.Short ∷ No.Magic ∷ No.Version ∷ No.Footer ∷ No.Section ∷ No.Stride ∷ No.Array ∷ No.String ∷ No.Link ∷ No.Context ∷ No.Order ∷ No.Deep
    ∷ No.Slot ∷ No.Twice ∷ No.Index ∷ No.NotFinite ∷ No.Room ∷ No.Mark ∷ No.Spelling ∷ No.Total ∷ []

abbrev refusal_of : ℕ → Refusal
refusal_of n = get_or refusals (n - 1) No.Room

of_its_number : (r : Refusal) → refusal_of (number_of r) ≡ r
of_its_number No.Short = refl
of_its_number No.Magic = refl
of_its_number No.Version = refl
of_its_number No.Footer = refl
of_its_number No.Section = refl
of_its_number No.Stride = refl
of_its_number No.Array = refl
of_its_number No.String = refl
of_its_number No.Link = refl
of_its_number No.Context = refl
of_its_number No.Order = refl
of_its_number No.Deep = refl
of_its_number No.Slot = refl
of_its_number No.Twice = refl
of_its_number No.Index = refl
of_its_number No.NotFinite = refl
of_its_number No.Room = refl
of_its_number No.Mark = refl
of_its_number No.Spelling = refl
of_its_number No.Total = refl

pub same_number : (r s : Refusal) → number_of r ≡ number_of s → r ≡ s
same_number r s e = sym (of_its_number r) ∙ ap refusal_of e ∙ of_its_number s

pub 7-is-not-11 : No.Array ≡ No.Order → ⊥
7-is-not-11 e = let z : ◌≡◌ {A = ℕ} 0 1 = cc in omega arith

-- no refusal has the number 0
pub positive : (r : Refusal) → 1 ≤ number_of r
positive r = (from_one r).0

-- and none is above 20
pub small : (r : Refusal) → number_of r ≤ 20
small r = (from_one r).1

-- the number is 0 exactly if the check passed
pub code_zero : (c : Check) → (code_of c ≡ 0) ↔ (c ≡ Passed)
unfolding code_of
code_zero Passed = (λ e. refl, λ e. refl)
code_zero (Err r) = (λ e. absurd (omega (arith, positive r)), λ e. absurd (not_both (sym e)))
