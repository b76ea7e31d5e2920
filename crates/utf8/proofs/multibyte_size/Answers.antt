-- By the first byte's row.
use Prim.Native.Nat.{ℕ}
use mathlib.Core.List.{List, [], ◌∷◌}
use mathlib.Core.Path.{◌≡◌, sym, ap₂, ◌∙◌}
use native.Mathlib.Omega.{arith}
use lib.ListN.{get_or, drop}
use Rattle.utf8.specs.Grammar.{ByteRange, ◌to◌, continuation, multibyte, size_if}
use Rattle.utf8.proofs.Forms.{range_bounds, under_bounds}
use Rattle.utf8.proofs.Read.{size_nil, size_cons, lead_low, lead_high, lead_two, lead_three, lead_four}
use Rattle.utf8.proofs.multibyte_size.Goals as goal

-- what the second byte's bounds are known to be
same-bounds : (rest : List ByteRange) (bytes : List ℕ) {low high low₁ high₁ : ℕ} → low ≡ low₁ → high ≡ high₁
    → size_if (low to high ∷ rest) bytes ≡ size_if (low₁ to high₁ ∷ rest) bytes
same-bounds rest bytes = ap₂ (λ low high. size_if (low to high ∷ rest) bytes)

pub returns-in-len1-up : goal.returns-in-len1-up
returns-in-len1-up c =
    let s = c.args.s.now in
    let b = range_bounds _ _ _ (sym c.in_range.ensures ∙ c.if-in_range.true) in
    c.two.ensures ∙ sym (size_cons multibyte s (omega arith) ∙ lead_two (get_or s 0 0) (drop 1 s) (omega arith) (omega arith))

pub returns-in-224-to-239 : goal.returns-in-224-to-239
returns-in-224-to-239 c =
    let s = c.args.s.now in
    c.three.ensures ∙ same-bounds (continuation ∷ []) (drop 1 s) c.second_low.ensures c.second_high.ensures
    ∙ sym (size_cons multibyte s (omega arith) ∙ lead_three (get_or s 0 0) (drop 1 s) (omega arith) (omega arith))

pub returns-in-240-to-244 : goal.returns-in-240-to-244
returns-in-240-to-244 c =
    let s = c.args.s.now in
    c.four.ensures
    ∙ same-bounds (continuation ∷ continuation ∷ []) (drop 1 s) c.second_low-in-240-to-244.ensures c.second_high-in-240-to-244.ensures
    ∙ sym (size_cons multibyte s (omega arith) ∙ lead_four (get_or s 0 0) (drop 1 s) (omega arith) (omega arith))

pub returns-in_default : goal.returns-in_default
returns-in_default c =
    size_nil multibyte c.args.s.now (omega arith)

pub returns-in_default-2 : goal.returns-in_default-2
returns-in_default-2 c =
    let s = c.args.s.now in
    let b = under_bounds _ _ _ (sym c.in_range.ensures ∙ c.if-in_range.false) in
    sym (size_cons multibyte s (omega arith) ∙ lead_low (get_or s 0 0) (drop 1 s) (omega arith))

pub returns-in_default-3 : goal.returns-in_default-3
returns-in_default-3 c =
    let s = c.args.s.now in
    sym (size_cons multibyte s (omega arith) ∙ lead_high (get_or s 0 0) (drop 1 s) (omega arith))
