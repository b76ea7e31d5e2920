-- One more byte writes its two digits.
use Rattle.std.proofs.Common.{◌≡◌, ◌+◌, ◌<◌, ◌++◌, [], ap, sym, ◌∙◌, take, slice_index_or, rules}
use Rattle.std.proofs.lemmas.List.{flat_map_more, take_more}
use Rattle.std.proofs.lemmas.Fmt.{hex_byte}
use Rattle.std.proofs.lemmas.Grind.{put_two}
use Rattle.std.specs.List.{flat_map}
use Rattle.script.specs.Show.{hexadecimal}
use Rattle.script.proofs.show.HexadecimalDisplay.fmt.Goals as goal
use mathlib.Core.Bool.{false}

pub loop-byte-preserved : goal.loop-byte-preserved
loop-byte-preserved g c p =
    let bytes = c.args.self.now.0.now in
    let i = c.loop-byte.byte-index in
    let byte = slice_index_or bytes i 0 in
    let fits : byte < 256 = search rules in
    let so_far = flat_map hexadecimal (take i bytes) in
    let more : so_far ++ hexadecimal byte ≡ flat_map hexadecimal (take (i + 1) bytes)
    = flat_map_more hexadecimal [] (take i bytes) byte ∙ ap (flat_map hexadecimal) (sym (take_more bytes i 0 (search rules))) in
    put_two _ _ _ _ _ _ _ (c.loop-byte.invariant p) (search rules) (ap (λ l. so_far ++ l) (hex_byte false byte fits) ∙ more)
