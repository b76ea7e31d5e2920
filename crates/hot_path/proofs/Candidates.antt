-- The hottest child on a trail by facts. Candidates stand in the order of their contexts: the first greatest of them is that of the first
-- greatest child. No second context is the hottest child too: of two the earlier one would be both less and not less.
use Rattle.std.specs.Prelude.{Err, Option, Ok, Some}
use Rattle.total.specs.declared.Totals.{Totals}
use Prim.Native.Nat.{ℕ, suc, ◌<◌}
use mathlib.Core.Bool.{Bool, true, false, true≢false}
use mathlib.Core.List.{List, [], ◌∷◌, ◌++◌, append_assoc}
use mathlib.Core.Logic.{◌⊎◌, inl, inr}
use mathlib.Core.Path.{◌≡◌, refl, sym, ap, ◌∙◌, subst}
use native.Mathlib.Omega.{arith}
use borrow.Author.Tests.{eqb-true, eq-eqb}
use lib.Dec.{eqb}
use lib.ListN.{length, get_or, take, drop}
use lib.Seq.{split_at, length-take-le, get_or-take}
use Rattle.refusal.specs.declared.Refusal.TheVariants as No
use Rattle.refusal.specs.Check.{either, Answer, Found, Absent}
use Rattle.seq.specs.Lists.{In}
use Rattle.seq.proofs.Lists.{same_or_before, in_none, in_nth}
use Rattle.float.specs.Float.{finite, less}
use Rattle.total.specs.Totals.{totals_of}
use Rattle.total.specs.Facts.{First, more}
use Rattle.total.proofs.Facts.{only_16, absent_iff, refused_16, totalled}
use Rattle.context.specs.Entry.{Entry}
use Rattle.traversal.specs.Children.{children_of}
use Rattle.traversal.specs.Walk.{place_of}
use Rattle.hot_path.specs.HotPath.{Candidate, candidate, candidates, places_of, bits_of, hottest_in, hottest_of, hottest_below}
use Rattle.hot_path.specs.Facts.{ValuedChild, HottestChild, NoneValued, SomeNotFinite}

-- ---- the candidates of a trail

abbrev its_candidate : Entry → (bits : ℕ) → Candidate
its_candidate e bits = record { place = e.place; bits = bits }

module _ (value : ℕ → Answer (Option ℕ)) (parent : ℕ) where
  abbrev candidates_on : List Entry → List Candidate
  candidates_on l = candidates place_of (λ e. value e.ctx_id) (children_of parent l)

  -- a child with a value
  abbrev Valued : Entry → (bits : ℕ) → Type 0
  Valued e bits = (e.parent ≡ parent) × (value e.ctx_id ≡ Found bits)

  -- what a context adds: its candidate, if it is such a child
  own : Entry → List Candidate
  own e = either (eqb e.parent parent) (candidate e.place (value e.ctx_id)) []

  own_first : (e : Entry) (l : List Entry) → candidates_on (e ∷ l) ≡ own e ++ candidates_on l
  unfolding own candidates children_of either
  own_first e l = go (eqb e.parent parent)
    where
      go : (b : Bool) → candidates place_of (λ e. value e.ctx_id) (either b (e ∷ children_of parent l) (children_of parent l))
          ≡ either b (candidate e.place (value e.ctx_id)) [] ++ candidates_on l
      go true = refl
      go false = refl

  own_valued : (e : Entry) (bits : ℕ) → Valued e bits → own e ≡ its_candidate e bits ∷ []
  unfolding own either candidate
  own_valued e bits v = rw (eq-eqb e.parent parent v.0, v.1)

  own_told : (e : Entry) → (own e ≡ []) ⊎ ((bits : ℕ) × Valued e bits)
  unfolding own either candidate
  own_told e = go (eqb e.parent parent) refl (value e.ctx_id) refl
    where
      go : (b : Bool) → eqb e.parent parent ≡ b → (v : Answer (Option ℕ)) → value e.ctx_id ≡ v
          → (either b (candidate e.place v) [] ≡ []) ⊎ ((bits : ℕ) × Valued e bits)
      go true p (Found bits) h = inr (bits, (eqb-true e.parent parent p, h))
      go true p Absent h = inl refl
      go true p (Err r) h = inl refl
      go false p v h = inl refl

  candidates_append : (l m : List Entry) → candidates_on (l ++ m) ≡ candidates_on l ++ candidates_on m
  unfolding candidates children_of
  candidates_append [] m = refl
  candidates_append (e ∷ l) m =
      own_first e (l ++ m) ∙ ap (λ (k : List Candidate). own e ++ k) (candidates_append l m)
      ∙ sym (append_assoc (own e) (candidates_on l) (candidates_on m)) ∙ ap (λ (k : List Candidate). k ++ candidates_on m) (sym (own_first e l))

  -- each child with a value is a candidate
  valued_in : (e : Entry) (bits : ℕ) (l : List Entry) → Valued e bits → In e l → In (its_candidate e bits) (candidates_on l)
  valued_in e bits l v (a, b, q) = (
    candidates_on a,
    candidates_on b,
    ap candidates_on q ∙ candidates_append a (e ∷ b)
        ∙ ap (λ (k : List Candidate). candidates_on a ++ k) (own_first e b ∙ ap (λ (k : List Candidate). k ++ candidates_on b) (own_valued e bits v)),
  )

  -- each candidate is that of such a child, and those before it are those of the contexts before
  record Stands (l : List Entry) (a : List Candidate) (c : Candidate) : Type 0 where
    before : List Entry
    here : Entry
    after : List Entry
    divides : l ≡ before ++ (here ∷ after)
    valued : Valued here c.bits
    its_place : here.place ≡ c.place
    earlier : a ≡ candidates_on before

  stands_later : (x : Entry) (l : List Entry) (a : List Candidate) (c : Candidate) → Stands l a c → Stands (x ∷ l) (own x ++ a) c
  stands_later x l a c s = record {
    before = x ∷ s.before;
    here = s.here;
    after = s.after;
    divides = ap (◌∷◌ x) s.divides;
    valued = s.valued;
    its_place = s.its_place;
    earlier = ap (λ (k : List Candidate). own x ++ k) s.earlier ∙ sym (own_first x s.before);
  }

  stands : (l : List Entry) (a : List Candidate) (c : Candidate) (b : List Candidate) → candidates_on l ≡ a ++ (c ∷ b) → Stands l a c
  unfolding candidates children_of
  stands [] a c b e = absurd (in_none (a, b, e))
  stands (x ∷ l) a c b e = go (own_told x) a (sym (own_first x l) ∙ e) (λ d. stands l d c b)
    where
      go : (own x ≡ []) ⊎ ((bits : ℕ) × Valued x bits) → (a : List Candidate) → own x ++ candidates_on l ≡ a ++ (c ∷ b)
          → ((d : List Candidate) → candidates_on l ≡ d ++ (c ∷ b) → Stands l d c) → Stands (x ∷ l) a c
      go (inl n) a q rest = rw n at (stands_later x l a c (rest a (rw n at q)))
      go (inr (bits, v)) [] q rest =
          let one : its_candidate x bits ∷ candidates_on l ≡ c ∷ b = rw (own_valued x bits v) at q in
          let same : its_candidate x bits ≡ c = cc in
          record {
            before = [];
            here = x;
            after = l;
            divides = refl;
            valued = subst (λ (k : Candidate). Valued x k.bits) same v;
            its_place = ap (λ (k : Candidate). k.place) same;
            earlier = refl;
          }
      go (inr (bits, v)) (d ∷ a) q rest =
          let one : its_candidate x bits ∷ candidates_on l ≡ d ∷ (a ++ (c ∷ b)) = rw (own_valued x bits v) at q in
          let same : its_candidate x bits ≡ d = cc in
          let more : candidates_on l ≡ a ++ (c ∷ b) = cc in
          subst (λ (k : List Candidate). Stands (x ∷ l) (k ++ a) c) (own_valued x bits v ∙ ap (λ (k : Candidate). k ∷ []) same)
          (stands_later x l a c (rest a more))

-- ---- the hottest child

module _ (value : ℕ → Answer (Option ℕ)) (l : List Entry) (parent : ℕ) where
  abbrev all : List Candidate
  all = candidates_on value parent l

  abbrev none : Candidate
  none = record { place = 0; bits = 0 }

  -- candidates by number: that of each child with a value, and the child of each
  valued_nth : (e : Entry) (bits : ℕ) → ValuedChild value l parent e bits → (k : ℕ) × (k < length all) × (bits_of all k ≡ bits)
  valued_nth e bits v =
      let (k, (m, same)) = in_nth none all (valued_in value parent e bits l (v.child, v.has) v.on_trail) in
      (k, m, ap (λ (c : Candidate). c.bits) same)

  nth : (k : ℕ) → k < length all → Stands value parent l (take k all) (get_or all k none)
  nth k h = stands value parent l (take k all) (get_or all k none) (drop (suc k) all) (split_at all k none h)

  valued_child : {a : List Candidate} {c : Candidate} → (s : Stands value parent l a c) → ValuedChild value l parent s.here c.bits
  valued_child s = record { on_trail = (s.before, s.after, s.divides); child = s.valued.0; has = s.valued.1 }

  -- what an answer says of the children
  abbrev pub Tells : Answer (Option ℕ) → Type 0
  Tells (Found p) = (e : Entry) × HottestChild value l parent e × (e.place ≡ p)
  Tells Absent = NoneValued value l parent
  Tells (Err r) = (r ≡ No.NotFinite) × SomeNotFinite value l parent

  -- the first greatest candidate is that of the hottest child
  greatest_told : (id v j : ℕ) → ((i : ℕ) → i < length all → finite (bits_of all i) ≡ true)
      → First more (places_of all) (bits_of all) (length all) id v j → Tells (Found id)
  greatest_told id v j finites f =
      let s = nth j f.within in (
        s.here,
        record {
          before = s.before;
          after = s.after;
          stands = s.divides;
          bits = bits_of all j;
          valued = valued_child s;
          none_greater = λ d other w. let (k, m, same) = valued_nth d other w in rw (← f.its_bits, ← same) (f.none_better k m);
          all-finite = λ d other w. let (k, m, same) = valued_nth d other w in rw (← same) (finites k m);
          first = λ d other i w. earlier s d other (valued_in value parent d other s.before (w.child, w.has) i);
        },
        s.its_place ∙ sym f.its_id,
      )
    where
      earlier : (s : Stands value parent l (take j all) (get_or all j none)) → (d : Entry) (other : ℕ)
          → In (its_candidate d other) (candidates_on value parent s.before) → less other (bits_of all j) ≡ true
      earlier s d other i =
          let (k, (n, here)) = in_nth none (take j all) (subst (In (its_candidate d other)) (sym s.earlier) i) in
          let m : k < j = omega (arith, length-take-le j all (omega (arith, f.within))) in
          let same : bits_of all k ≡ other = ap (λ (c : Candidate). c.bits) (sym (get_or-take j all k none m) ∙ here) in
          rw (← f.its_bits, ← same) (f.all_worse k m)

  -- and it is so
  pub tells : Tells (hottest_below value l parent)
  unfolding hottest_of hottest_in
  tells = go (totals_of (places_of all) (bits_of all) (length all)) refl
    where
      go : (t : Answer (Option Totals)) → totals_of (places_of all) (bits_of all) (length all) ≡ t → Tells (hottest_in t)
      go (Ok (Some it)) e =
          let t = (totalled (places_of all) (bits_of all) (length all) it.count it.least_of it.least it.greatest_of it.greatest it.sum e).1 in
          greatest_told it.greatest_of it.greatest t.first_greatest.0 t.all-finite t.first_greatest.1
      go Absent e = λ d bits v. omega (arith, (valued_nth d bits v).1, (absent_iff (places_of all) (bits_of all) (length all)).0 e)
      go (Err r) e =
          let is16 = only_16 (places_of all) (bits_of all) (length all) r e in
          let (k, (m, broken)) = ((refused_16 (places_of all) (bits_of all) (length all)).0 (e ∙ ap Err is16)).1 in
          let s = nth k m in
          (is16, (s.here, bits_of all k, valued_child s, broken))

  -- ---- only one answer is so

  -- there is one hottest child at most
  pub one_hottest : (e d : Entry) → HottestChild value l parent e → HottestChild value l parent d → e ≡ d
  one_hottest e d h k = go (same_or_before e d h.before h.after k.before k.after (sym h.stands ∙ k.stands))
    where
      go : (e ≡ d) ⊎ (In e k.before ⊎ In d h.before) → e ≡ d
      go (inl q) = q
      go (inr (inl i)) = absurd (true≢false (sym (k.first e h.bits i h.valued) ∙ h.none_greater d k.bits k.valued))
      go (inr (inr i)) = absurd (true≢false (sym (h.first d k.bits i k.valued) ∙ k.none_greater e h.bits h.valued))

  -- where there is one, some child has a value, and each value is finite
  pub hottest_valued : (e : Entry) → HottestChild value l parent e → NoneValued value l parent → ⊥
  hottest_valued e h n = n e h.bits h.valued

  pub hottest_finite : (e : Entry) → HottestChild value l parent e → SomeNotFinite value l parent → ⊥
  hottest_finite e h s = true≢false (sym (h.all-finite s.0 s.1 s.2) ∙ s.3)
