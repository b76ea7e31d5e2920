-- Too few, or the byte decides.
use Rattle.std.proofs.Common.{ℕ, ◌≤◌, ◌≡◌, Bool, List, [], ◌∷◌, length, drop, get_or, sym, ◌∙◌, arith}
use Rattle.utf8.specs.Grammar.{continuation, in_range, in_ranges}
use Rattle.utf8.proofs.Read.{size_too_few, size_yes, size_no, two_match}
use Rattle.utf8.proofs.two.Goals as goal

-- the test by the code is the table's
tested : (s : List ℕ) (t : Bool) → 2 ≤ length s → t ≡ in_range continuation (get_or s 1 0) → in_ranges (continuation ∷ []) (drop 1 s) ≡ t
tested s t h e = two_match s h ∙ sym e

pub returns-in_default : goal.returns-in_default
returns-in_default c = size_too_few (continuation ∷ []) c.args.s.now (omega arith) (omega arith)

pub returns-in-len2-up : goal.returns-in-len2-up
returns-in-len2-up c =
    let s = c.args.s.now in
    size_yes (continuation ∷ []) (drop 1 s) (tested s c.in_range.result (omega arith) c.in_range.ensures ∙ c.if-in_range.true)

pub returns-in_default-2 : goal.returns-in_default-2
returns-in_default-2 c =
    let s = c.args.s.now in
    size_no (continuation ∷ []) (drop 1 s) (tested s c.in_range.result (omega arith) c.in_range.ensures ∙ c.if-in_range.false)
