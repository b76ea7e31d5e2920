-- Too few, or the three bytes decide.
use Rattle.std.proofs.Common.{ℕ, ◌≤◌, ◌≡◌, Bool, ◌&&◌, List, [], ◌∷◌, length, drop, get_or, sym, ap₂, ◌∙◌, arith}
use Rattle.utf8.specs.Grammar.{ByteRange, ◌to◌, continuation, in_range, in_ranges}
use Rattle.utf8.proofs.Read.{size_too_few, size_yes, size_no, four_match}
use Rattle.utf8.proofs.four.Goals as goal

abbrev ranges : (low high : ℕ) → List ByteRange
ranges low high = low to high ∷ continuation ∷ continuation ∷ []

-- the tests by the code are the table's
tested : (s : List ℕ) (low high : ℕ) (t u v : Bool) → 4 ≤ length s
    → t ≡ in_range (low to high) (get_or s 1 0) → u ≡ in_range continuation (get_or s 2 0) → v ≡ in_range continuation (get_or s 3 0)
    → in_ranges (ranges low high) (drop 1 s) ≡ (t && (u && v))
tested s low high t u v h d e f = four_match s (low to high) h ∙ ap₂ ◌&&◌ (sym d) (ap₂ ◌&&◌ (sym e) (sym f))

pub returns-in_default : goal.returns-in_default
returns-in_default c = size_too_few (ranges c.args.low c.args.high) c.args.s.now (omega arith) (omega arith)

pub returns-in-len4-up : goal.returns-in-len4-up
returns-in-len4-up c =
    let s = c.args.s.now in
    size_yes (ranges c.args.low c.args.high) (drop 1 s)
    (tested s c.args.low c.args.high c.in_range.result c.in_range-2.result c.in_range-3.result (omega arith)
    c.in_range.ensures c.in_range-2.ensures c.in_range-3.ensures
    ∙ c.if-in_range.true)

pub returns-in_default-2 : goal.returns-in_default-2
returns-in_default-2 c =
    let s = c.args.s.now in
    size_no (ranges c.args.low c.args.high) (drop 1 s)
    (tested s c.args.low c.args.high c.in_range.result c.in_range-2.result c.in_range-3.result (omega arith)
    c.in_range.ensures c.in_range-2.ensures c.in_range-3.ensures
    ∙ c.if-in_range.false)
