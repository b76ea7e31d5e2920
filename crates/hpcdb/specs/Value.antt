-- A lookup as C programs call it: a code, and the value in lent bytes.
use Rattle.std.specs.Prelude.{ℕ, List, leb, length, Err, Option}
use Rattle.refusal.specs.declared.Refusal.TheVariants as No
use Rattle.refusal.specs.Check.{either, Answer, Found, Absent}
use Rattle.refusal.specs.Number.{number_of}
use Rattle.layout.specs.Bytes.{bytes}
use Rattle.buffer.specs.Over.{over}
use Rattle.block.specs.Block.{lookup_words}
use Rattle.refusal.specs.Words.{code_in}

-- the value little-endian in the first eight bytes if found; no other byte changes
unfoldable pub value_in : List ℕ → Answer (Option ℕ) → List ℕ
value_in out (Found bits) = over out 0 (bytes 8 bits)
value_in out Absent = out
value_in out (Err r) = out

-- 0 found, 100 absent, else the refusal number; 17, first of all, where fewer than eight bytes are lent
unfoldable pub value_code : (out : List ℕ) → Answer (Option ℕ) → ℕ
value_code out answer = either (leb 8 (length out)) (code_in (lookup_words answer)) (number_of No.Room)

unfoldable pub value_bytes : (out : List ℕ) → Answer (Option ℕ) → List ℕ
value_bytes out answer = either (leb 8 (length out)) (value_in out answer) out
