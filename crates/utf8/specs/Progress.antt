-- What the inner functions of the check promise: from which place on it may go on.
use Rattle.std.specs.Prelude.{ℕ, ◌+◌, ◌≤◌, ◌<◌, Bool, ◌&&◌, List, ◌≡◌, leb, ltb, eqb, length, get_or, drop}
use Rattle.refusal.specs.Check.{either}
use Rattle.scan.specs.Until.{until}
use Rattle.utf8.specs.Grammar.{forms, char_size, is_utf8}
use Rattle.utf8.specs.Terminated.{before_nul}

-- the range of the second byte after a first byte of E0 or more
unfoldable pub second_low : ℕ → ℕ
second_low b = either (eqb b 0xE0) 0xA0 (either (eqb b 0xF0) 0x90 0x80)

unfoldable pub second_high : ℕ → ℕ
second_high b = either (eqb b 0xED) 0x9F (either (eqb b 0xF4) 0x8F 0xBF)

-- ASCII, and not NUL
unfoldable pub is_plain : ℕ → Bool
is_plain b = leb 1 b && ltb b 0x80

-- from one place to a later one nothing is lost: what follows is UTF-8 from both or from neither, and no byte between is NUL
pub record Spans (bytes : List ℕ) (from to : ℕ) : Type 0 where
  pub onward : from ≤ to
  pub in_bytes : to ≤ length bytes
  pub same : is_utf8 (before_nul (drop from bytes)) ≡ is_utf8 (before_nul (drop to bytes))
  pub count : from + until 0 (drop from bytes) ≡ to + until 0 (drop to bytes)

-- and there the bytes end, or one stands that is NUL or not ASCII
pub record PlainSpan (bytes : List ℕ) (from to : ℕ) : Type 0 where
  pub spans : Spans bytes from to
  pub end : to < length bytes → 0 < get_or bytes to 0 → 0x80 ≤ get_or bytes to 0

-- from the start, and no character begins there
pub record CharsEnd (bytes : List ℕ) (to : ℕ) : Type 0 where
  pub spans : Spans bytes 0 to
  pub none : char_size forms (before_nul (drop to bytes)) ≡ 0
