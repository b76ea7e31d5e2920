-- Identifier tuples of profile.db: nIds, and from byte 8 on that many identifications of 16 bytes.
use Rattle.tuple.specs.declared.Identifier.{Identifier}
use Rattle.std.specs.Prelude.{ℕ, ◌+◌, ◌*◌, Bool, ◌&&◌, List, [], ◌∷◌, Err, Ok}
use Rattle.le.specs.Number.{number}
use Rattle.range.specs.Range.{within, multiple}
use Rattle.refusal.specs.declared.Refusal.TheVariants as No
use Rattle.refusal.specs.Check.{rule, if_passed, Answer, on_answer}
use Rattle.refusal.specs.Words.{refused_words}
use Rattle.open.specs.Format as Format
use Rattle.open.specs.Names as Section
use Rattle.open.specs.Opening.{place_in, size_in, on_opened}
use Rattle.array.specs.declared.Array.{Array}
use Rattle.array.specs.Element.{element_at}
use Rattle.array.specs.Stored.{array_in}

-- ---- a tuple, as the array of its identifications

unfoldable pub identifiers : List ℕ → (at : ℕ) → Array
identifiers file at = record { place = at + 8; count = number 2 file at; stride = 16 }

-- 7: it starts in IdTuples, a section of `size` bytes at a place, at a multiple of 8, and fits there
unfoldable pub tuple_rule : List ℕ → (place size at : ℕ) → Bool
tuple_rule file place size at = multiple at 8 && within place (place + size) at (8 + 16 * number 2 file at)

unfoldable pub tuple_of : List ℕ → (place size at : ℕ) → Answer Array
tuple_of file place size at = if_passed Err (rule (tuple_rule file place size at) No.Array) (Ok (identifiers file at))

-- of a profile: 15, then 7
unfoldable pub tuple_in : List ℕ → (sections : List (List ℕ)) → (profile : ℕ) → Answer Array
tuple_in file sections profile =
    on_answer Err (element_at (array_in Format.profile file sections Section.infos) profile)
    (λ at. tuple_of file (place_in sections Section.id_tuples) (size_in sections Section.id_tuples) (number 8 file (at + 32)))

unfoldable pub tuple_at : List ℕ → (profile : ℕ) → Answer Array
tuple_at file profile = on_opened Err Format.profile file (λ ps. tuple_in file ps profile)

-- ---- an identification: all 16 bits of its flags, of which bit 0 is `isPhysical`

-- an answer with these fields
abbrev pub given_identifier : (kind flags logical physical : ℕ) → Answer Identifier
given_identifier kind flags logical physical = Ok (record { kind = kind; flags = flags; logical = logical; physical = physical })

unfoldable pub identifier_of : List ℕ → (at : ℕ) → Answer Identifier
identifier_of file at =
    given_identifier (number 1 file at) (number 2 file (at + 2)) (number 4 file (at + 4)) (number 8 file (at + 8))

-- number k: 15 after the tuple's own rules
unfoldable pub identifier_in : List ℕ → Array → (k : ℕ) → Answer Identifier
identifier_in file a k = on_answer Err (element_at a k) (identifier_of file)

unfoldable pub identifier_at : List ℕ → (profile k : ℕ) → Answer Identifier
identifier_at file profile k = on_answer Err (tuple_at file profile) (λ a. identifier_in file a k)

-- ---- answers in words: the number, then how many identifications there are; or what one of them has

abbrev pub tuple_words : Answer Array → List ℕ
tuple_words (Ok a) = 0 ∷ a.count ∷ []
tuple_words (Err r) = refused_words r

abbrev pub identifier_words : Answer Identifier → List ℕ
identifier_words (Ok it) = 0 ∷ it.kind ∷ it.flags ∷ it.logical ∷ it.physical ∷ []
identifier_words (Err r) = refused_words r
