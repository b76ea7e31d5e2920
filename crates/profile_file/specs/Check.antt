-- The check before anything is written: 15, 11, 7 and 17 in this order, each over the whole survey before the next.
use Rattle.std.specs.Prelude.{ℕ, suc, ◌-◌, ◌^◌, Bool, ◌&&◌, ◌||◌, ltb, leb, eqb, length}
use Rattle.refusal.specs.declared.Refusal.TheVariants as No
use Rattle.refusal.specs.Check.{rule, first, Check}
use Rattle.seq.specs.Sequence.{every}
use Rattle.block_file.specs.Pairs.{groups_of}
use Rattle.profile_file.specs.Survey.{Tuples, Entries, Survey, pairs_of}
use Rattle.profile_file.specs.File.{profile_file}

-- 15: each entry's profile is listed, and each profile's tuple
unfoldable pub entries_listed : Entries → (profiles : ℕ) → Bool
entries_listed e profiles = every (λ k. ltb (e.profile k) profiles) e.count

unfoldable pub profiles_listed : Survey → Bool
profiles_listed s = every (λ p. ltb (s.named p) s.tuples.count) s.profiles

-- 11: each entry comes before the next
unfoldable pub before_rule : Entries → (j k : ℕ) → Bool
before_rule e j k =
    ltb (e.profile j) (e.profile k)
    || (eqb (e.profile j) (e.profile k)
    && (ltb (e.context j) (e.context k) || (eqb (e.context j) (e.context k) && ltb (e.metric j) (e.metric k))))

unfoldable pub sorted_rule : Entries → Bool
sorted_rule e = every (λ k. before_rule e k (suc k)) (e.count - 1)

-- 7: profiles, identifications and contexts can be counted in their fields
unfoldable pub sizes_fit : Tuples → Bool
sizes_fit ts = every (λ t. ltb (ts.size t) (2 ^ 16)) ts.count

unfoldable pub contexts_fit : Entries → (profiles : ℕ) → Bool
contexts_fit e profiles = every (λ p. ltb (groups_of (pairs_of e p)) (2 ^ 32)) profiles

unfoldable pub counts_rule : Survey → Bool
counts_rule s = ltb s.profiles (2 ^ 32) && (sizes_fit s.tuples && contexts_fit s.entries s.profiles)

-- 7, and then 17 where fewer bytes are lent than the file has
unfoldable pub sizes_check : Survey → (room : ℕ) → Check
sizes_check s room = first (rule (counts_rule s) No.Array) (rule (leb (length (profile_file s)) room) No.Room)

-- `there` says whether the lists hold what they claim
unfoldable pub write_check : Survey → (there : Bool) (room : ℕ) → Check
write_check s there room =
    first (rule (profiles_listed s && (there && entries_listed s.entries s.profiles)) No.Index)
    (first (rule (sorted_rule s.entries) No.Order) (sizes_check s room))
