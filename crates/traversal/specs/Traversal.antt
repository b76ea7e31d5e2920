-- The traversal of a file's contexts in preorder: document 01's trail.
use Rattle.std.specs.Prelude.{ℕ, zero, suc, ◌+◌, ◌-◌, Bool, true, false, ◌||◌, not, List, [], ◌∷◌, ◌++◌, ltb, leb, eqb, length, Err}
use Rattle.refusal.specs.declared.Refusal.{Refusal}
use Rattle.refusal.specs.declared.Refusal.TheVariants as No
use Rattle.refusal.specs.Check.{rule, first, Check, Passed}
use Rattle.open.specs.Format.{meta, u64}
use Rattle.open.specs.Opening.{field, on_opened}
use Rattle.context.specs.Context.{Targets, children_place, ctx_id, extent, children_end, context_rule, links_rule, children_rule, targets_of}
use Rattle.context.specs.Entry.{Entry, entry_at}

-- ---- what is asked, and what it comes to

-- the lengths of what is lent: words of the listing, slots of the table, bytes for a new mark
pub record Lengths : Type 0 where
  pub words : ℕ
  pub slots : ℕ
  pub bytes : ℕ

-- of marks: the bytes of the one given, and whether a new one is asked for
pub record Marks : Type 0 where
  pub given : List ℕ
  pub asks : Bool

-- what a walk is asked with
pub record Asked : Type 0 where
  pub file : List ℕ
  pub marks : Marks
  pub lent : Lengths

abbrev pub ask : (file : List ℕ) → Marks → Lengths → Asked
ask file m n = record { file = file; marks = m; lent = n }

-- with the contexts visited: it goes on, there is no room for one more, or it is refused
pub data Outcome : Type 0 where
  on : List Entry → Outcome
  cut : List Entry → Outcome
  refused : Refusal → List Entry → Outcome

abbrev pub list_of : Outcome → List Entry
list_of (on l) = l
list_of (cut l) = l
list_of (refused r l) = l

-- ---- what a traversal is over: what is asked, what pointers may lead to, and whether after some contexts there is room for one more

pub record Parameters : Type 0 where
  pub asked : Asked
  pub targets : Targets
  pub free : List Entry → Bool

abbrev pub parameters : Asked → Targets → (List Entry → Bool) → Parameters
parameters a t free = record { asked = a; targets = t; free = free }

-- with room for every context, and as far as the listing has words
abbrev pub endless : Asked → Targets → Parameters
endless a t = parameters a t (λ l. true)

abbrev pub limited : Asked → Targets → Parameters
limited a t = parameters a t (λ l. ltb (length l) a.lent.words)

-- ---- one context

abbrev pub depth_limit : ℕ
depth_limit = 200

-- a context with this ctxId is among some
unfoldable pub seen : (id : ℕ) → List Entry → Bool
seen id [] = false
seen id (e ∷ es) = eqb id e.ctx_id || seen id es

-- 12, 13, 14
unfoldable pub slot_check : (depth id slots : ℕ) (twice : Bool) → Check
slot_check depth id slots twice =
    first (rule (leb depth depth_limit) No.Deep) (first (rule (ltb id slots) No.Slot) (rule (not twice) No.Twice))

-- the rules of a visit, in order: 10; 9; 7; 12, 13, 14
unfoldable pub visit_check : Parameters → (path : List ℕ) (p stop : ℕ) → List Entry → Check
visit_check E path p stop l =
    first (rule (context_rule E.asked.file p stop) No.Context)
    (first (rule (links_rule E.targets E.asked.file p) No.Link)
    (first (rule (children_rule E.targets E.asked.file p) No.Array)
    (slot_check (length path) (field E.asked.file p ctx_id) E.asked.lent.slots (seen (field E.asked.file p ctx_id) l))))

-- a visit by its check, and by whether there is room: with the context listed, into its children
unfoldable pub enter : Check → (room : Bool) → (into : List Entry → Outcome) → List Entry → Entry → Outcome
enter Passed true into l e = into (l ++ (e ∷ []))
enter Passed false into l e = cut l
enter (Err r) room into l e = refused r l

-- ---- contexts and arrays of contexts

-- how an array of children is traversed: the place and path of their parent, from where to where, and the contexts before
abbrev pub Down : Type 0
Down = (parent : ℕ) (path : List ℕ) (from stop : ℕ) → List Entry → Outcome

-- a context leads into its array of children
unfoldable pub visit : Parameters → Down → (parent : ℕ) (path : List ℕ) (p stop : ℕ) → List Entry → Outcome
visit E down parent path p stop l =
    enter (visit_check E path p stop l) (E.free l)
    (down p path (field E.asked.file p children_place) (children_end E.asked.file p)) l
    (entry_at E.asked.file parent path p)

-- what follows, unless it ended
unfoldable pub bind : Outcome → (List Entry → Outcome) → Outcome
bind (on l) next = next l
bind (cut l) next = cut l
bind (refused r l) next = refused r l

unfoldable pub turn : (more : Bool) → (here next : List Entry → Outcome) → List Entry → Outcome
turn true here next l = bind (here l) next
turn false here next l = on l

-- an array into its contexts: those from p to `stop`, of which the first has number i among its siblings. The first number
-- bounds how many they are: each takes a byte at least
unfoldable pub siblings : Parameters → Down → (parent : ℕ) (ups : List ℕ) → (bound i p stop : ℕ) → List Entry → Outcome
siblings E down parent ups zero i p stop l = on l
siblings E down parent ups (suc bound) i p stop l =
    turn (ltb p stop) (visit E down parent (ups ++ (i ∷ [])) p stop)
    (λ m. siblings E down parent ups bound (suc i) (p + extent E.asked.file p) stop m) l

-- an array of contexts with `levels` levels, its own among them; where none is left, the contexts above it were too deep
unfoldable pub level : Parameters → (levels : ℕ) → Down
level E zero parent ups from stop l = on l
level E (suc levels) parent ups from stop l = siblings E (level E levels) parent ups (stop - from) 0 from stop l

-- ---- a file's

-- from the roots, whose size and place stand in the header of the Context section; the last level is that of contexts too deep
unfoldable pub from_roots : Parameters → Outcome
from_roots E =
    level E (suc depth_limit) 0 [] (field E.asked.file E.targets.at (u64 8))
    (field E.asked.file E.targets.at (u64 8) + field E.asked.file E.targets.at (u64 0)) []

-- to its end
unfoldable pub traversal : Asked → Outcome
traversal a = on_opened (λ r. refused r []) meta a.file (λ ps. from_roots (endless a (targets_of a.file ps)))
