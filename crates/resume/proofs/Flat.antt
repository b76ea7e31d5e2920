-- A walk that keeps its way down in words: what is left of it is the rest of each array on the way, the deepest first. The frames' numbers
-- and the contexts so far stand in no word; they say what the words are.
use Rattle.std.specs.Prelude.{Err}
use Prim.Native.Nat.{ℕ, zero, suc, ◌+◌, ◌-◌, ◌≤◌, ◌<◌}
use mathlib.Core.Bool.{Bool, true, false}
use mathlib.Core.List.{List, [], ◌∷◌}
use mathlib.Core.Path.{◌≡◌, refl, sym, ap, ap₂, ◌∙◌}
use native.Mathlib.Omega.{arith}
use native.Mathlib.Nat.{not-suc-le-zero}
use borrow.Author.Tests.{le-leb, leb-true, leb-false, eqb-true, eqb-false}
use lib.Dec.{eqb, leb}
use lib.ListN.{length, get_or, set, length-append, length-set}
use Rattle.refusal.specs.declared.Refusal.{Refusal}
use Rattle.refusal.specs.declared.Refusal.TheVariants as No
use Rattle.refusal.specs.Check.{either, rule, first, if_passed, Check, on_answer, Passed}
use Rattle.open.specs.Opening.{field}
use Rattle.context.specs.Context.{Targets, children_place, children_bytes, ctx_id, extent, sibling_place, children_end, context_rule}
use Rattle.open.specs.Kept.{ContextsKept}
use Rattle.context.specs.Entry.{Entry, entry_at}
use Rattle.context.specs.Sound.{Readable}
use Rattle.context.proofs.Laws.{ends, readable}
use Rattle.context.proofs.Siblings.{takes_some, sibling_first, sibling_next}
use Rattle.traversal.specs.declared.Walked.{Walked}
use Rattle.traversal.specs.declared.Walked.TheVariants.{Complete, Truncated, Refused}
use Rattle.traversal.specs.Traversal.{Marks, Outcome, on, cut, refused, list_of, Parameters, visit_check, depth_limit, Down, visit, bind, level}
use Rattle.traversal.specs.From.{same_path, last_path, marks_from, limited_from}
use Rattle.traversal.specs.Walk.{Slices, slices}
use Rattle.traversal.proofs.Keeps.{snoc}
use Rattle.traversal.proofs.Places.{last_append}
use Rattle.traversal.proofs.Steps.{same_bind, rest, rest_end, rest_step, level_rest, visit_refused, visit_10, visit_cut, visit_on}
use Rattle.seek.specs.declared.Seek.{Seek}
use Rattle.seek.specs.Seek.{seek, stepped, Next, Seeks}
use Rattle.seek.proofs.Matching.{next_child, next_sibling, next_above, seeks_start, seeks_found, seeks_on}
use Rattle.visit.specs.Visit.{checks_after10}
use Rattle.visit.proofs.Checks.{by_table, safe}
use Rattle.resume.specs.declared.Cursor.{Cursor}
use Rattle.resume.specs.declared.Progress.{Progress}
use Rattle.resume.specs.Way.{WayTo, end_below, parent_below, Lies, LiesBelow, cursor, back_to, on_from}
use Rattle.resume.specs.State.{Holds, counted_end, Ended, asked_with, visit_answer, progress_more, listing_more, RecordMore}
use Rattle.resume.proofs.Slices.{marks_more, long, recounted, one_more}
use Rattle.resume.proofs.Frames.{Frame, frame, ups_of, parent_of, array_start, array_end, WayStands, AllLie, Numbered, ups_length, below_end, below_parent, below_lies, end_inside, leads_to, noted_above, noted_stands, noted_depth}

-- ---- what follows

bind_assoc : (o : Outcome) (K R : List Entry → Outcome) → bind (bind o K) R ≡ bind o (λ m. bind (K m) R)
unfolding bind
bind_assoc (on l) K R = refl
bind_assoc (cut l) K R = refl
bind_assoc (refused v l) K R = refl

bind_on : (o : Outcome) → o ≡ bind o (λ m. on m)
unfolding bind
bind_on (on l) = refl
bind_on (cut l) = refl
bind_on (refused v l) = refl

bind_at : (l : List Entry) (K : List Entry → Outcome) → bind (on l) K ≡ K l
unfolding bind
bind_at l K = refl

bind_cut : (l : List Entry) (K : List Entry → Outcome) → bind (cut l) K ≡ cut l
unfolding bind
bind_cut l K = refl

bind_refused : (r : Refusal) (l : List Entry) (K : List Entry → Outcome) → bind (refused r l) K ≡ refused r l
unfolding bind
bind_refused r l K = refl

-- ---- what is left

-- the contexts from p to e, below those on the way
abbrev pub part : Parameters → List Frame → (i p e : ℕ) → List Entry → Outcome
part E frames i p e l = rest E (level E (depth_limit - length frames)) (parent_of frames) (ups_of frames) i p e l

-- after an array is done: the rest of each array on the way
unfoldable pub rests : Parameters → (stop : ℕ) → List Frame → List Entry → Outcome
rests E stop [] l = on l
rests E stop (x ∷ frames) l =
    bind (part E frames (suc x.number) (x.place + extent E.asked.file x.place) (array_end E.asked.file stop frames) l) (rests E stop frames)

-- the path of the last context is that of the one that came last
last_snoc : (path : List ℕ) (l : List Entry) (e : Entry) → last_path path (snoc l e) ≡ e.path
unfolding last_path
last_snoc path l e = last_append path l (e ∷ [])

-- the mark is sought at first if it has levels, and after a context if it was before and is not found
first_sought : (n k : ℕ) → k ≡ either (eqb n 0) 1 0 → k ≡ 0 → 0 < n
unfolding either
first_sought zero k e z = absurd (omega (arith, e, z))
first_sought (suc n) k e z = omega arith

still_sought : (k : ℕ) (found : Bool) → marks_more k found ≡ 0 → (k ≡ 0) × (found ≡ false)
unfolding marks_more either
still_sought zero true e = absurd (omega (arith, e))
still_sought zero false e = (refl, refl)
still_sought (suc k) found e = absurd (omega (arith, e))

-- the marks after one more context, and how far the given one is found
module _ (path : List ℕ) (sk : Seek) (up : ℕ) where
  abbrev found : Bool
  found = eqb (stepped path sk up).matched (length path)

  progress_marks : (k : ℕ) → (progress_more path k sk up).marks ≡ marks_more k found
  unfolding progress_more marks_more
  progress_marks zero = refl
  progress_marks (suc k) = refl

  progress_seek : (k : ℕ) → k ≡ 0 → (progress_more path k sk up).seek ≡ stepped path sk up
  unfolding progress_more
  progress_seek zero e = refl
  progress_seek (suc k) e = absurd (omega arith)

-- how far down a step leads
pub back_up : (file : List ℕ) (stop : ℕ) (way : List ℕ) (up : ℕ) → (back_to file stop way up).up ≡ up
unfolding back_to
back_up file stop way up = refl

pub on_up : (file : List ℕ) (here : Cursor) → (on_from file here).up ≤ suc here.up
unfolding on_from either
on_up file here = go (eqb (field file here.p children_bytes) 0)
  where
    go : (b : Bool) → (either b (cursor here.up (here.p + extent file here.p) here.end)
        (cursor (suc here.up) (field file here.p children_place) (children_end file here.p))).up ≤ suc here.up
    go true = omega arith
    go false = omega arith

-- the walk goes on to the context there
pub record Goes (file : List ℕ) (t : Targets) (s : Slices) (here : Cursor) (k : ℕ) : Type 0 where
  pub fine_here : context_rule file here.p here.end ≡ true
  pub passes : checks_after10 file t (here.up + 1) here.p s.table ≡ Passed
  pub fits : k ≤ length s.listing

-- what the code needs of such a context
pub record Sound (file : List ℕ) (s : Slices) (here : Cursor) : Type 0 where
  pub reads : here.p + 24 ≤ length file
  pub can : Readable file here.p
  pub lies : Lies file here.p
  pub slot : field file here.p ctx_id < length s.table
  pub fresh : get_or s.table (field file here.p ctx_id) 0 ≡ 0
  pub deeper : here.up + 1 ≤ depth_limit

-- ---- at each turn of the loop

abbrev parameters_for : (file : List ℕ) (t : Targets) (path : List ℕ) (was : Slices) → Marks → (bytes : ℕ) → Parameters
parameters_for file t path was m bytes = limited_from path (asked_with file was m bytes) t

pub record Flat (file : List ℕ) (t : Targets) (path : List ℕ) (was : Slices) (at stop : ℕ) (m : Marks) (bytes : ℕ)
    (s : Slices) (way : List ℕ) (here : Cursor) (k : ℕ) (sk : Seek) : Type 0 where
  pub so : List Entry
  pub frames : List Frame
  pub i : ℕ
  pub holds : Holds path was so s k
  pub long_way : length way ≡ 201
  pub deep : here.up ≡ length frames
  pub shallow : here.up ≤ depth_limit
  pub stands : WayStands way frames
  pub lie : AllLie file frames
  pub numbered : Numbered file at frames
  pub some : 0 < here.p
  pub at_number : here.p ≡ sibling_place file (array_start file at frames) i
  pub ends_at : here.end ≡ array_end file stop frames
  pub next : Next (last_path [] so) (ups_of frames) i
  pub seeks : k ≡ 0 → Seeks path (last_path [] so) sk
  pub last : WayTo file at (last_path [] so) way
  pub same : level (parameters_for file t path was m bytes) (suc depth_limit) 0 [] at stop []
      ≡ bind (part (parameters_for file t path was m bytes) frames i here.p here.end so) (rests (parameters_for file t path was m bytes) stop frames)

pub flat_start : {file : List ℕ} {t : Targets} {path : List ℕ} {was : Slices} {at stop : ℕ} {m : Marks} {bytes : ℕ}
    {s : Slices} {way : List ℕ} {k : ℕ} → Holds path was [] s k → k ≡ either (eqb (length path) 0) 1 0 → length way ≡ 201 → get_or way 0 0 ≡ 0
    → 0 < at → Flat file t path was at stop m bytes s way (cursor 0 at stop) k (seek 0 0)
unfolding rests last_path
flat_start {file} {t} {path} {was} {at} {stop} {m} {bytes} {k = k} h ek long z y = record {
  so = [];
  frames = [];
  i = 0;
  holds = h;
  long_way = long;
  deep = refl;
  shallow = omega arith;
  stands = tt;
  lie = tt;
  numbered = tt;
  some = y;
  at_number = sym (sibling_first file at);
  ends_at = refl;
  next = refl;
  seeks = λ none. seeks_start path (first_sought (length path) k ek none);
  last = record { depth = z; stands = λ k q. absurd (not-suc-le-zero q); lie = λ k q. absurd (not-suc-le-zero q) };
  same =
      level_rest (parameters_for file t path was m bytes) depth_limit 0 [] at stop []
      ∙ bind_on (part (parameters_for file t path was m bytes) [] 0 at stop []);
}

module _ {file : List ℕ} {t : Targets} {path : List ℕ} {was : Slices} {at stop : ℕ} {m : Marks} {bytes : ℕ}
    {s : Slices} {way : List ℕ} {here : Cursor} {k : ℕ} {sk : Seek} (g : Flat file t path was at stop m bytes s way here k sk) where
  abbrev E : Parameters
  E = parameters_for file t path was m bytes

  abbrev all : Outcome
  all = level E (suc depth_limit) 0 [] at stop []

  pub inside : stop ≤ length file → here.end ≤ length file
  inside h = omega (arith, g.ends_at, end_inside file stop g.frames g.lie h)

  abbrev rest_of : List Entry → Outcome
  rest_of = rests E stop g.frames

  -- the walk has ended with the contexts so far
  ended : (o : Outcome) (r : Walked) → all ≡ o → list_of o ≡ g.so → r ≡ counted_end path o → Ended file at path was all r s way
  ended o r w l q = rw w (record {
    holds = rw l (recounted g.holds);
    says = q;
    last = rw l g.last;
  })

  -- ---- the array is done

  popped : here.end ≤ here.p → all ≡ rest_of g.so
  popped h =
      g.same
      ∙ ap (λ (o : Outcome). bind o rest_of)
      (rest_end E (level E (depth_limit - length g.frames)) (parent_of g.frames) (ups_of g.frames) g.i here.p here.end g.so h)
      ∙ bind_at g.so rest_of

  pub flat_whole : here.end ≤ here.p → here.up ≡ 0 → Ended file at path was all (Complete k) s way
  unfolding rests counted_end
  flat_whole h z = ended (on g.so) (Complete k) (go g.frames g.deep (popped h)) refl (ap Complete g.holds.counted)
    where
      go : (frames : List Frame) → here.up ≡ length frames → all ≡ rests E stop frames g.so → all ≡ on g.so
      go [] d r = r
      go (x ∷ frames) d r = absurd (omega arith)

  -- back to the context that led into it
  pub record Popped (u : ℕ) : Type 0 where
    pub above : LiesBelow file way u
    pub lies : LiesBelow file way (suc u)
    pub goes_back : Flat file t path was at stop m bytes s way (back_to file stop way u) k sk

  pub flat_pop : here.end ≤ here.p → (here.up ≡ 0 → ⊥) → Popped (here.up - 1)
  unfolding rests back_to
  flat_pop h z = go g.frames g.deep g.stands g.lie g.numbered g.next (popped h)
    where
      go : (frames : List Frame) → here.up ≡ length frames → WayStands way frames → AllLie file frames → Numbered file at frames
          → Next (last_path [] g.so) (ups_of frames) g.i → all ≡ rests E stop frames g.so → Popped (here.up - 1)
      go [] d st al nu ne r = absurd (z d)
      go (x ∷ frames) d st al nu ne r =
          let less : here.up - 1 ≡ length frames = omega arith in
          let there : end_below file stop way (length frames) ≡ array_end file stop frames = below_end file stop way frames st.1 in
          let beside : get_or way (suc (length frames)) 0 + extent file (get_or way (suc (length frames)) 0) ≡ x.place + extent file x.place = rw st.0 in
          rw less (record {
            above = below_lies file way frames st.1 al.1;
            lies = rw st.0 al.0;
            goes_back = record {
              so = g.so;
              frames = frames;
              i = suc x.number;
              holds = g.holds;
              long_way = g.long_way;
              deep = refl;
              shallow = omega (arith, g.shallow);
              stands = st.1;
              lie = al.1;
              numbered = nu.1;
              some = omega (arith, takes_some file (get_or way (suc (length frames)) 0));
              at_number = beside ∙ ap (λ (q : ℕ). q + extent file q) nu.0 ∙ sym (sibling_next file (array_start file at frames) x.number);
              ends_at = there;
              next = next_above (last_path [] g.so) (ups_of frames) x.number g.i ne;
              seeks = g.seeks;
              last = g.last;
              same = rw (beside, there) r;
            };
          })

  -- ---- a context is visited

  module _ (h : here.p < here.end) where
    abbrev down : Down
    down = level E (depth_limit - length g.frames)

    abbrev path_here : List ℕ
    path_here = snoc (ups_of g.frames) g.i

    abbrev visit_here : Outcome
    visit_here = visit E down (parent_of g.frames) path_here here.p here.end g.so

    abbrev then : List Entry → Outcome
    then l = bind (part E g.frames (suc g.i) (here.p + extent file here.p) here.end l) rest_of

    here_length : length path_here ≡ here.up + 1
    here_length = omega (arith, length-append (ups_of g.frames) (g.i ∷ []), ups_length g.frames, g.deep)

    at_visit : all ≡ bind visit_here then
    at_visit =
        g.same
        ∙ ap (λ (o : Outcome). bind o rest_of) (rest_step E down (parent_of g.frames) (ups_of g.frames) g.i here.p here.end g.so h)
        ∙ bind_assoc visit_here _ rest_of

    -- what a visit is answered by
    abbrev fine : Bool
    fine = context_rule file here.p here.end

    abbrev checks : Check
    checks = checks_after10 file t (here.up + 1) here.p s.table

    room : leb (marks_from path g.so) (length was.listing) ≡ leb k (length s.listing)
    room = ap₂ leb (sym g.holds.counted) (sym (long g.holds))

    checked : fine ≡ true → visit_check E path_here here.p here.end g.so ≡ checks
    checked f =
        by_table E g.so s.table g.holds.filled g.holds.placed path_here (here.up + 1) here.p here.end here_length f

    refused_by : (r : Refusal) → visit_here ≡ refused r g.so → Ended file at path was all (Refused r k) s way
    unfolding counted_end
    refused_by r v =
        ended (refused r g.so) (Refused r k) (at_visit ∙ ap (λ (o : Outcome). bind o then) v ∙ bind_refused r g.so then) refl
        (ap (Refused r) g.holds.counted)

    cut_by : visit_here ≡ cut g.so → Ended file at path was all (Truncated k) s way
    unfolding counted_end
    cut_by v =
        ended (cut g.so) (Truncated k) (at_visit ∙ ap (λ (o : Outcome). bind o then) v ∙ bind_cut g.so then) refl
        (ap Truncated g.holds.counted)

    -- it does not go on
    pub flat_stops : (r : Walked) → r ≡ visit_answer file t here s.table (length s.listing) k → ((j : ℕ) → r ≡ Complete j → ⊥)
        → Ended file at path was all r s way
    unfolding visit_answer rule on_answer either
    flat_stops r v z = go fine refl checks refl (leb k (length s.listing)) refl v
      where
        go : (a : Bool) → fine ≡ a → (c : Check) → checks ≡ c → (b : Bool) → leb k (length s.listing) ≡ b
            → r ≡ if_passed (λ v. Refused v k) (first (rule a No.Context) c) (either b (Complete k) (Truncated k)) → Ended file at path was all r s way
        go false ea c ec b eb q = rw q (refused_by No.Context (visit_10 E down (parent_of g.frames) path_here here.p here.end g.so ea))
        go true ea (Err v) ec b eb q =
            rw q (refused_by v (visit_refused E down (parent_of g.frames) path_here here.p here.end g.so v (checked ea ∙ ec)))
        go true ea Passed ec true eb q = absurd (z k q)
        go true ea Passed ec false eb q =
            rw q (cut_by (visit_cut E down (parent_of g.frames) path_here here.p here.end g.so (checked ea ∙ ec) (room ∙ eb)))

    -- it goes on
    pub flat_goes : (r : Walked) (j : ℕ) → r ≡ visit_answer file t here s.table (length s.listing) k → r ≡ Complete j → Goes file t s here k
    unfolding visit_answer rule on_answer either
    flat_goes r j v z = go fine refl checks refl (leb k (length s.listing)) refl (sym v ∙ z)
      where
        go : (a : Bool) → fine ≡ a → (c : Check) → checks ≡ c → (b : Bool) → leb k (length s.listing) ≡ b
            → if_passed (λ v. Refused v k) (first (rule a No.Context) c) (either b (Complete k) (Truncated k)) ≡ Complete j → Goes file t s here k
        go false ea c ec b eb q = absurd (let y : ◌≡◌ {A = ℕ} 0 1 = cc in omega arith)
        go true ea (Err v) ec b eb q = absurd (let y : ◌≡◌ {A = ℕ} 0 1 = cc in omega arith)
        go true ea Passed ec false eb q = absurd (let y : ◌≡◌ {A = ℕ} 0 1 = cc in omega arith)
        go true ea Passed ec true eb q = record { fine_here = ea; passes = ec; fits = leb-true k (length s.listing) eb }

    module _ (goes : Goes file t s here k) where
      pub flat_sound : stop ≤ length file → t.at + t.size ≤ length file → Sound file s here
      unfolding extent
      flat_sound a b =
          let kept = safe file t (here.up + 1) here.p s.table goes.passes in
          let ended = ends file here.p here.end goes.fine_here in
          let end = inside a in
          record {
            reads = omega (arith, ended.1);
            can = readable file here.p here.end goes.fine_here end;
            lies = record { itself = omega (arith, ended.1); children = go (leb 1 (field file here.p children_bytes)) refl kept.children };
            slot = kept.slot;
            fresh = kept.fresh;
            deeper = kept.shallow;
          }
        where
          go : (c : Bool) → leb 1 (field file here.p children_bytes) ≡ c
              → ContextsKept t.at 16 t.size (field file here.p children_place) (field file here.p children_bytes)
              → children_end file here.p ≤ length file
          go true l x = omega (arith, x.inside (leb-true 1 (field file here.p children_bytes) l))
          go false l x =
              let none : field file here.p children_bytes ≡ 0 = omega (arith, leb-false 1 (field file here.p children_bytes) l) in
              omega (arith, x.no_bytes none)

      abbrev noted : List ℕ
      noted = set (set way 0 (here.up + 1)) (here.up + 1) here.p

      module _ (lies : Lies file here.p) (records : List ℕ)
          (put : RecordMore file here.p (here.up + 1) (parent_below noted here.up) k s.records records) where
        abbrev after : Progress
        after = progress_more path k sk here.up

        abbrev visited : Slices
        visited = slices (listing_more k here.p s.listing) (set s.table (field file here.p ctx_id) here.p) records

        abbrev with : List Entry
        with = snoc g.so (entry_at file (parent_of g.frames) path_here here.p)

        abbrev children : List Entry → Outcome
        children l =
            part E (frame here.p g.i ∷ g.frames) 0 (field file here.p children_place) (children_end file here.p) l

        word : suc here.up < length way
        word = omega (arith, g.long_way, (safe file t (here.up + 1) here.p s.table goes.passes).shallow)

        last-path : last_path [] with ≡ path_here
        unfolding entry_at
        last-path = last_snoc [] g.so (entry_at file (parent_of g.frames) path_here here.p)

        -- while the mark is sought: whether it is the mark's context
        up_here : here.up ≡ length (ups_of g.frames)
        up_here = g.deep ∙ sym (ups_length g.frames)

        found_here : k ≡ 0 → found path sk here.up ≡ same_path path path_here
        found_here none =
            ap (λ (n : ℕ). found path sk n) up_here
            ∙ seeks_found path (last_path [] g.so) (ups_of g.frames) g.i sk g.next (g.seeks none)

        seeks_here : after.marks ≡ 0 → Seeks path (last_path [] with) after.seek
        seeks_here none =
            let still = still_sought k (found path sk here.up) (sym (progress_marks path sk here.up k) ∙ none) in
            rw (last-path, progress_seek path sk here.up k still.0, up_here)
            (seeks_on path (last_path [] g.so) (ups_of g.frames) g.i sk g.next (g.seeks still.0)
            (ap (λ (n : ℕ). found path sk n) (sym up_here) ∙ still.1))

        -- its parent is the last context that the way leads through before it
        parent_here : parent_below noted here.up ≡ parent_of g.frames
        parent_here =
            ap (parent_below noted) g.deep
            ∙ below_parent noted g.frames (noted_above file at way here.up here.p g.frames g.deep word g.stands)

        held : Holds path was with visited after.marks
        held = rw (progress_marks path sk here.up k)
            (one_more g.holds file (parent_of g.frames) path_here here.p (here.up + 1) g.some here_length (found path sk here.up) found_here records
            (rw parent_here at put))

        on_visit : visit_here ≡ children with
        on_visit =
            let kept = safe file t (here.up + 1) here.p s.table goes.passes in
            let less : depth_limit - length g.frames ≡ suc (depth_limit - suc (length g.frames)) = omega (arith, kept.shallow, g.deep) in
            visit_on E down (parent_of g.frames) path_here here.p here.end g.so (checked goes.fine_here ∙ goes.passes)
            (room ∙ le-leb k (length s.listing) goes.fits)
            ∙ rw less (level_rest E (depth_limit - suc (length g.frames)) here.p path_here (field file here.p children_place) (children_end file here.p) with)

        noted_way : WayStands noted (frame here.p g.i ∷ g.frames)
        noted_way = noted_stands file at way here.up here.p g.frames g.deep word g.stands g.i

        noted_long : length noted ≡ 201
        noted_long =
            length-set (set way 0 (here.up + 1)) (here.up + 1) here.p ∙ length-set way 0 (here.up + 1) ∙ g.long_way

        last_here : WayTo file at (last_path [] with) noted
        last_here =
            rw last-path
            (leads_to file at noted (frame here.p g.i ∷ g.frames) noted_way (g.at_number, g.numbered) (lies, g.lie)
            (noted_depth file at way here.up here.p g.frames g.deep word))

        abbrev On : Cursor → Type 0
        On c = Flat file t path was at stop m bytes visited noted c after.marks after.seek

        -- without children
        behind : field file here.p children_bytes ≡ 0 → On (cursor here.up (here.p + extent file here.p) here.end)
        behind z = record {
          so = with;
          frames = g.frames;
          i = suc g.i;
          holds = held;
          long_way = noted_long;
          deep = g.deep;
          shallow = g.shallow;
          stands = noted_above file at way here.up here.p g.frames g.deep word g.stands;
          lie = g.lie;
          numbered = g.numbered;
          some = omega (arith, g.some);
          at_number = ap (λ (q : ℕ). q + extent file q) g.at_number ∙ sym (sibling_next file (array_start file at g.frames) g.i);
          ends_at = g.ends_at;
          next = rw last-path (next_sibling (ups_of g.frames) g.i);
          seeks = seeks_here;
          last = last_here;
          same = at_visit ∙ ap (λ (o : Outcome). bind o then) (on_visit ∙ none) ∙ bind_at with then;
        }
          where
            none : children with ≡ on with
            none =
                rest_end E (level E (depth_limit - suc (length g.frames))) here.p path_here 0 (field file here.p children_place) (children_end file here.p) with
                (omega (arith, z))

        -- into its children
        below : 0 < field file here.p children_place → On (cursor (suc here.up) (field file here.p children_place) (children_end file here.p))
        unfolding rests
        below y = record {
          so = with;
          frames = frame here.p g.i ∷ g.frames;
          i = 0;
          holds = held;
          long_way = noted_long;
          deep = ap suc g.deep;
          shallow = omega (arith, (safe file t (here.up + 1) here.p s.table goes.passes).shallow);
          stands = noted_way;
          lie = (lies, g.lie);
          numbered = (g.at_number, g.numbered);
          some = y;
          at_number = sym (sibling_first file (field file here.p children_place));
          ends_at = refl;
          next = rw last-path (next_child path_here);
          seeks = seeks_here;
          last = last_here;
          same = at_visit ∙ ap (λ (o : Outcome). bind o then) on_visit ∙ resting;
        }
          where
            resting : bind (children with) then ≡ bind (children with) (rests E stop (frame here.p g.i ∷ g.frames))
            resting =
                same_bind (children with) _ _
                (λ l. ap (λ (x : ℕ). bind (part E g.frames (suc g.i) (here.p + extent file here.p) x l) rest_of) g.ends_at)

        pub flat_on : On (on_from file here)
        unfolding on_from either
        flat_on = go (eqb (field file here.p children_bytes) 0) refl
          where
            go : (b : Bool) → eqb (field file here.p children_bytes) 0 ≡ b
                → On (either b (cursor here.up (here.p + extent file here.p) here.end)
                (cursor (suc here.up) (field file here.p children_place) (children_end file here.p)))
            go true e = behind (eqb-true (field file here.p children_bytes) 0 e)
            go false e =
                let kept = safe file t (here.up + 1) here.p s.table goes.passes in
                let many : 0 < field file here.p children_bytes = omega (arith, eqb-false (field file here.p children_bytes) 0 e) in
                below (omega (arith, kept.children.after many))
