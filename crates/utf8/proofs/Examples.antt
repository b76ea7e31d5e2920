-- Cases, computed: which bytes are UTF-8, what stands before a NUL, and the RFC's own examples as encodings.
use Rattle.std.specs.Prelude.{Ok, Result, Err, ℕ}
use Rattle.utf8.specs.declared.Fault.{Fault}
use mathlib.Core.Bool.{Bool, true, false}
use mathlib.Core.List.{List, [], ◌∷◌}
use mathlib.Core.Path.{◌≡◌, refl}
use Rattle.refusal.specs.Check.{either}
use Rattle.scan.specs.Until.{until}
use Rattle.utf8.specs.Grammar.{in_range, in_ranges, size_if, char_size, only_chars, is_utf8}
use Rattle.utf8.specs.Encoding.{encoding, encodings}
use Rattle.utf8.specs.Terminated.{before_nul, terminated}
use Rattle.utf8.specs.declared.Fault.TheVariants.{Invalid, Unterminated}

abbrev accepted : List Bool
accepted =
    is_utf8 []
    ∷ is_utf8 (0xC3 ∷ 0xA9 ∷ [])
    ∷ is_utf8 (0xF4 ∷ 0x8F ∷ 0xBF ∷ 0xBF ∷ [])
    ∷ is_utf8 (0xEF ∷ 0xBF ∷ 0xBF ∷ [])
    ∷ is_utf8 (0xEF ∷ 0xBB ∷ 0xBF ∷ [])
    ∷ []

accepts : accepted ≡ true ∷ true ∷ true ∷ true ∷ true ∷ []
unfolding is_utf8 only_chars char_size size_if in_ranges in_range either
accepts = refl

-- Latin-1; a surrogate; above 10FFFF; overlong in two and in three bytes; cut
abbrev rejected : List Bool
rejected =
    is_utf8 (0xE9 ∷ [])
    ∷ is_utf8 (0xED ∷ 0xA0 ∷ 0x80 ∷ [])
    ∷ is_utf8 (0xF4 ∷ 0x90 ∷ 0x80 ∷ 0x80 ∷ [])
    ∷ is_utf8 (0xC0 ∷ 0xAF ∷ [])
    ∷ is_utf8 (0xE0 ∷ 0x9F ∷ 0xBF ∷ [])
    ∷ is_utf8 (0xE2 ∷ 0x82 ∷ [])
    ∷ []

rejects : rejected ≡ false ∷ false ∷ false ∷ false ∷ false ∷ false ∷ []
unfolding is_utf8 only_chars char_size size_if in_ranges in_range either
rejects = refl

-- cut by the NUL; sound, with another byte behind the NUL; no NUL
abbrev strings : List (Result ℕ Fault)
strings =
    terminated (0xE2 ∷ 0x82 ∷ 0x00 ∷ 0x41 ∷ []) ∷ terminated (0xC3 ∷ 0xA9 ∷ 0x00 ∷ 0xFF ∷ []) ∷ terminated (0xFF ∷ 0x41 ∷ []) ∷ []

ends : strings ≡ Err Invalid ∷ Ok 2 ∷ (Err Unterminated) ∷ []
unfolding terminated before_nul until is_utf8 only_chars char_size size_if in_ranges in_range either
ends = refl

-- RFC 3629, section 7: "A<NOT IDENTICAL TO><ALPHA>."; "hangugeo" in Korean; "nihongo" in Japanese; U+233B4 behind a byte order mark
rfc : encodings (0x41 ∷ 0x2262 ∷ 0x391 ∷ 0x2E ∷ []) ∷ encodings (0xD55C ∷ 0xAD6D ∷ 0xC5B4 ∷ []) ∷ encodings (0x65E5 ∷ 0x672C ∷ 0x8A9E ∷ [])
    ∷ encodings (0xFEFF ∷ 0x233B4 ∷ []) ∷ []
    ≡ (0x41 ∷ 0xE2 ∷ 0x89 ∷ 0xA2 ∷ 0xCE ∷ 0x91 ∷ 0x2E ∷ [])
    ∷ (0xED ∷ 0x95 ∷ 0x9C ∷ 0xEA ∷ 0xB5 ∷ 0xAD ∷ 0xEC ∷ 0x96 ∷ 0xB4 ∷ [])
    ∷ (0xE6 ∷ 0x97 ∷ 0xA5 ∷ 0xE6 ∷ 0x9C ∷ 0xAC ∷ 0xE8 ∷ 0xAA ∷ 0x9E ∷ [])
    ∷ (0xEF ∷ 0xBB ∷ 0xBF ∷ 0xF0 ∷ 0xA3 ∷ 0x8E ∷ 0xB4 ∷ []) ∷ []
unfolding encodings encoding either
rfc = refl
