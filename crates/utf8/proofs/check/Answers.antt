-- By what stands where the characters end.
use Rattle.std.proofs.Common.{ℕ, ◌-◌, ◌≡◌, List, length, take, drop, ap, ◌∙◌, arith}
use Rattle.scan.specs.Until.{until}
use Rattle.utf8.proofs.Progress.{rest_bytes, unterminated, all_passed, valid, invalid}
use Rattle.utf8.proofs.check.Goals as goal

-- the search goes over what is left
found : (bytes : List ℕ) (i n : ℕ) → n ≡ until 0 (take (length bytes - i) (drop i bytes)) → n ≡ until 0 (drop i bytes)
found bytes i n e = e ∙ ap (until 0) (rest_bytes bytes i)

pub returns-then-bytes-i : goal.returns-then-bytes-i
returns-then-bytes-i c = all_passed c.args.bytes.now c.chars_end-i.result c.chars_end-i.ensures c.if-bytes-i.true

pub returns-then-bytes-i-eq0 : goal.returns-then-bytes-i-eq0
returns-then-bytes-i-eq0 c =
    valid c.args.bytes.now c.chars_end-i.result c.chars_end-i.ensures c.if-bytes-i.false c.if-bytes-i-eq0.true

pub returns-then-until-rest : goal.returns-then-until-rest
returns-then-until-rest c =
    let bytes = c.args.bytes.now in
    let i = c.chars_end-i.result in
    invalid bytes i c.chars_end-i.ensures c.if-bytes-i.false c.if-bytes-i-eq0.false
    (omega (arith, found bytes i c.until.result c.until.ensures))

pub returns-else-until-rest : goal.returns-else-until-rest
returns-else-until-rest c =
    let bytes = c.args.bytes.now in
    let i = c.chars_end-i.result in
    unterminated bytes i c.chars_end-i.ensures (omega (arith, found bytes i c.until.result c.until.ensures))
