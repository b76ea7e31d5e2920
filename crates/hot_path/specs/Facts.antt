-- The hot path in plain facts: of any call, as its caller sees it.
use Rattle.refusal.specs.Check.{Answer, Found}
use Rattle.std.specs.Prelude.{ℕ, ◌≤◌, ◌<◌, true, false, List, [], ◌∷◌, ◌++◌, ◌↔◌, ◌⊎◌, ◌≡◌, length, take, drop, Err, Ok, Option}
use Rattle.refusal.specs.declared.Refusal.{Refusal}
use Rattle.refusal.specs.declared.Refusal.TheVariants as No
use Rattle.seq.specs.Lists.{In}
use Rattle.float.specs.Float.{finite, less}
use Rattle.open.specs.Format as Format
use Rattle.block.specs.declared.Block.{Block}
use Rattle.block.specs.Block.{profile_shape}
use Rattle.lookup.specs.Demand2.{There}
use Rattle.lookup.specs.Lookup.{profile_block}
use Rattle.context.specs.Entry.{Entry}
use Rattle.traversal.specs.declared.Walked.{Walked}
use Rattle.traversal.specs.Traversal.{on, depth_limit, traversal}
use Rattle.traversal.specs.Walk.{walk_of, walked_of}
use Rattle.hot_path.specs.HotPath.{Question, PathSlices, walk_asked, value_of, the_answer, LeavesPath}

-- ---- a way down, on a trail, by the value of each ctxId

module _ (value : ℕ → Answer (Option ℕ)) (l : List Entry) where
  -- a context on the trail with this parent, 0 for the roots, has a value
  pub record ValuedChild (parent : ℕ) (e : Entry) (bits : ℕ) : Type 0 where
    pub on_trail : In e l
    pub child : e.parent ≡ parent
    pub has : value e.ctx_id ≡ Found bits

  pub record HottestChild (parent : ℕ) (e : Entry) : Type 0 where
    pub before : List Entry
    pub after : List Entry
    pub stands : l ≡ before ++ (e ∷ after)
    pub bits : ℕ
    pub valued : ValuedChild parent e bits
    -- "the child with the greatest value": no sibling's is greater; "compared as floats", which are all finite
    pub none_greater : (d : Entry) (other : ℕ) → ValuedChild parent d other → less bits other ≡ false
    pub all-finite : (d : Entry) (other : ℕ) → ValuedChild parent d other → finite other ≡ true
    -- "the first among equals": that of an earlier sibling is less
    pub first : (d : Entry) (other : ℕ) → In d before → ValuedChild parent d other → less other bits ≡ true

  -- each place of a path is that of the hottest child of the one before it; below the last one an end holds
  abbrev pub HotDown : (End : (parent : ℕ) → Type 0) → (parent : ℕ) → (path : List ℕ) → Type 0
  HotDown End parent [] = End parent
  HotDown End parent (p ∷ ps) = ((e : Entry) × HottestChild parent e × (e.place ≡ p)) × HotDown End p ps

  -- "until no child has a value"
  abbrev pub NoneValued : (parent : ℕ) → Type 0
  NoneValued parent = (e : Entry) (bits : ℕ) → ValuedChild parent e bits → ⊥

  -- "a value looked up on the way down is not finite"
  abbrev pub SomeNotFinite : (parent : ℕ) → Type 0
  SomeNotFinite parent = (e : Entry) × (bits : ℕ) × ValuedChild parent e bits × (finite bits ≡ false)

  -- "from the dearest root down"
  abbrev pub IsHotPath : List ℕ → Type 0
  IsHotPath path = HotDown NoneValued 0 path

  abbrev pub MeetsNotFinite : List ℕ → Type 0
  MeetsNotFinite path = HotDown SomeNotFinite 0 path

-- ---- a call

pub record HotCall : Type 0 where
  pub question : Question
  pub was : PathSlices
  pub answer : Answer ℕ
  pub now : PathSlices
  pub promised : LeavesPath the_answer question was answer now

module _ (c : HotCall) where
  -- what the walk of the metadata answers
  abbrev pub walk_answer : Walked
  walk_answer = walked_of (walk_of (walk_asked c.question c.was))

  -- it ends whole, with these contexts, and the profile's block is there and well formed
  pub record Ready (l : List Entry) : Type 0 where
    pub whole : walk_answer ≡ Walked.Complete (length l)
    pub trail : traversal (walk_asked c.question c.was) ≡ on l
    pub block : (b : Block) × There Format.profile profile_shape c.question.db c.question.profile b

  abbrev pub room : ℕ
  room = length c.was.path

  module _ (l : List Entry) where
    abbrev pub OfTheCall : List ℕ → Type 0
    OfTheCall path = IsHotPath (value_of c.question) l path

  -- what a refusal is of: the walk; the walk that was cut; the profile's block; or, past these, a value or the room
  abbrev pub OfWalk : Refusal → Type 0
  OfWalk r = ((n : ℕ) × (walk_answer ≡ Walked.Refused r n)) ⊎ ((r ≡ No.Room) × ((n : ℕ) × (walk_answer ≡ Walked.Truncated n)))

  abbrev pub OfBlock : Refusal → Type 0
  OfBlock r = (n : ℕ) × (walk_answer ≡ Walked.Complete n) × (profile_block c.question.db c.question.profile ≡ Err r)

  abbrev pub OfPath : Refusal → Type 0
  OfPath r = (l : List Entry) × Ready l × ((r ≡ No.NotFinite) ⊎ (r ≡ No.Room))

  pub record HotPathSays : Type 0 where
    -- "whose first words receive the path's places, their number being the answer; the rest is untouched"
    pub answered : (n : ℕ) → (c.answer ≡ Ok n)
        ↔ ((l : List Entry) × (path : List ℕ) × Ready l × OfTheCall l path × (n ≡ length path) × (n ≤ room))
    pub written : (n : ℕ) → c.answer ≡ Ok n
        → (l : List Entry) × Ready l × OfTheCall l (take n c.now.path) × (drop n c.now.path ≡ drop n c.was.path)
    -- where the walk ends whole and the block is there, either there is such a path, or the way down meets a value that is not finite
    pub ready : (n : ℕ) (b : Block) → walk_answer ≡ Walked.Complete n → profile_block c.question.db c.question.profile ≡ Ok b
        → (l : List Entry) × Ready l
    pub path_or_not : (l : List Entry) → Ready l
        → ((path : List ℕ) × OfTheCall l path) ⊎ ((path : List ℕ) × MeetsNotFinite (value_of c.question) l path)
    -- there is one such path at most, and it has at most as many places as a walk goes down levels
    pub one_path : (l : List Entry) (path other : List ℕ) → Ready l → OfTheCall l path → OfTheCall l other → path ≡ other
    pub at_most : (l : List Entry) (path : List ℕ) → Ready l → OfTheCall l path → length path ≤ depth_limit
    -- "If no root has a value, the path is empty."
    pub empty : (c.answer ≡ Ok 0) ↔ ((l : List Entry) × Ready l × NoneValued (value_of c.question) l 0)
    -- "Refusals: the walk's": "a cut walk gives 17"
    pub walk_refused : (r : Refusal) (n : ℕ) → walk_answer ≡ Walked.Refused r n → c.answer ≡ Err r
    pub walk_cut : (n : ℕ) → walk_answer ≡ Walked.Truncated n → c.answer ≡ Err No.Room
    -- "then those of opening profile.db, 15 for the profile, those of its block"
    pub block_refused : (n : ℕ) → walk_answer ≡ Walked.Complete n → (r : Refusal)
        → profile_block c.question.db c.question.profile ≡ Err r → c.answer ≡ Err r
    -- "then 16 if a value looked up on the way down is not finite, then 17 if the path slice is too short"
    pub says_16 : (l : List Entry) → Ready l → (c.answer ≡ Err No.NotFinite) ↔ ((path : List ℕ) × MeetsNotFinite (value_of c.question) l path)
    pub says_17 : (l : List Entry) → Ready l → (c.answer ≡ Err No.Room) ↔ ((path : List ℕ) × OfTheCall l path × (room < length path))
    -- and for nothing else
    pub refused_by : (r : Refusal) → c.answer ≡ Err r → OfWalk r ⊎ (OfBlock r ⊎ OfPath r)
    -- "the path slice is untouched then"
    pub untouched : (r : Refusal) → c.answer ≡ Err r → c.now.path ≡ c.was.path
