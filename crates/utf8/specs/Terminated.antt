-- The string that the first NUL of some bytes ends, and whether it is UTF-8.
use Rattle.utf8.specs.declared.Fault.{Fault}
use Rattle.utf8.specs.declared.Fault.TheVariants.{Invalid, Unterminated}
use Rattle.std.specs.Prelude.{ℕ, List, ltb, length, take, Ok, Err, Result}
use Rattle.refusal.specs.Check.{either}
use Rattle.scan.specs.Until.{until}
use Rattle.utf8.specs.Grammar.{is_utf8}

-- the bytes before the first NUL; all where none is
unfoldable pub before_nul : List ℕ → List ℕ
before_nul bytes = take (until 0 bytes) bytes

-- no NUL, whatever the bytes; else whether those before it are UTF-8
unfoldable pub terminated : List ℕ → Result ℕ Fault
terminated bytes =
    either (ltb (until 0 bytes) (length bytes))
    (either (is_utf8 (before_nul bytes)) (Ok (until 0 bytes)) (Err Invalid))
    (Err Unterminated)
