-- Over what is ASCII and one character more, again and again.
use Rattle.std.proofs.Common.{ℕ, ◌-◌, ◌+◌, ◌≡◌, List, length, take, drop, sym, ap, ◌∙◌, arith}
use Rattle.utf8.specs.Grammar.{multibyte, char_size}
use Rattle.utf8.specs.Progress.{Spans}
use Rattle.utf8.proofs.Progress.{spans_none, spans_on, multibyte_step, no_char_here, no_char_left, rest_bytes}
use Rattle.utf8.proofs.chars_end.Goals as goal
use Rattle.utf8.proofs.chars_end.Goals.{After-multibyte_size-n}

-- the size is that of the character in the bytes themselves
sized : (bytes : List ℕ) (at n : ℕ) → n ≡ char_size multibyte (take (length bytes - at) (drop at bytes))
    → n ≡ char_size multibyte (drop at bytes)
sized bytes at n e = e ∙ ap (char_size multibyte) (rest_bytes bytes at)

-- the character is passed
char_passed : (c : After-multibyte_size-n) → (c.multibyte_size-n.result ≡ 0 → ⊥)
    → Spans c.args.bytes.now c.plain_end-at.result (c.plain_end-at.result + c.multibyte_size-n.result)
char_passed c some =
    let bytes = c.args.bytes.now in
    let at = c.plain_end-at.result in
    let n = c.multibyte_size-n.result in
    multibyte_step bytes at n c.if-bytes-at.false (sized bytes at n c.multibyte_size-n.ensures) some

pub loop-i-init : goal.loop-i-init
loop-i-init c = spans_none c.args.bytes.now 0 (omega arith)

pub returns-then-bytes-at : goal.returns-then-bytes-at
returns-then-bytes-at c =
    let bytes = c.args.bytes.now in
    record {
      spans = spans_on bytes c.loop-i.invariant c.plain_end-at.ensures.spans;
      none = no_char_left bytes c.plain_end-at.result c.if-bytes-at.true;
    }

pub returns-then-n-eq0 : goal.returns-then-n-eq0
returns-then-n-eq0 c =
    let bytes = c.args.bytes.now in
    let at = c.plain_end-at.result in
    let inside = c.if-bytes-at.false in
    record {
      spans = spans_on bytes c.loop-i.invariant c.plain_end-at.ensures.spans;
      none =
          no_char_here bytes at inside (c.plain_end-at.ensures.end inside)
          (sym (sized bytes at c.multibyte_size-n.result c.multibyte_size-n.ensures) ∙ c.if-n-eq0.true);
    }

pub overflow_add-i : goal.overflow_add-i
overflow_add-i c = omega (arith, (char_passed (goal.at.overflow_add-i c).After-multibyte_size-n c.if-n-eq0.false).in_bytes)

pub loop-i-smaller : goal.loop-i-smaller
loop-i-smaller c =
    omega (
      arith,
      (char_passed (goal.at.loop-i-smaller c).After-multibyte_size-n c.if-n-eq0.false).in_bytes,
      c.plain_end-at.ensures.spans.onward,
      c.if-n-eq0.false,
    )

pub loop-i-preserved : goal.loop-i-preserved
loop-i-preserved c =
    let bytes = c.args.bytes.now in
    spans_on bytes c.loop-i.invariant
    (spans_on bytes c.plain_end-at.ensures.spans (char_passed (goal.at.loop-i-preserved c).After-multibyte_size-n c.if-n-eq0.false))

pub returns : goal.returns
returns c = record { spans = c.loop-i.invariant; none = no_char_left c.args.bytes.now c.loop-i.i (omega arith) }
