-- Along an array: the candidates of the contexts passed have a lead, and those of the contexts from p on follow them.
use Rattle.std.specs.Option.{option_map}
use Rattle.std.specs.Prelude.{Err, Option, Ok, Some, None}
use Prim.Native.Nat.{ℕ, zero, suc, ◌+◌, ◌≤◌, ◌<◌}
use mathlib.Core.Bool.{true, false}
use mathlib.Core.List.{List, [], ◌∷◌, ◌++◌, append-nil, append_assoc}
use mathlib.Core.Path.{◌≡◌, refl, sym, ap, ◌∙◌}
use native.Mathlib.Nat.{add-zero}
use native.Mathlib.Omega.{arith}
use borrow.Author.Tests.{lt-ltb, le-ltb}
use lib.Dec.{ltb}
use Rattle.le.specs.Number.{number}
use Rattle.refusal.specs.declared.Refusal.TheVariants as No
use Rattle.refusal.specs.Check.{either, Answer, Found}
use Rattle.seq.specs.Lists.{All}
use Rattle.float.specs.Float.{finite}
use Rattle.block.specs.declared.Shape.{Shape}
use Rattle.block.specs.declared.Block.{Block}
use Rattle.block.specs.Block.{profile_shape, lookup_in}
use Rattle.open.specs.Opening.{field}
use Rattle.context.specs.Context.{children_bytes, children_place, ctx_id, extent, children_end}
use Rattle.context.proofs.Siblings.{takes_some}
use Rattle.traversal.specs.Children.{places_from, places_at, ArrayInside}
use Rattle.hot_path.specs.declared.Lead.{Lead}
use Rattle.hot_path.specs.HotPath.{Candidate, candidate, candidates, hottest_of}
use Rattle.hot_path.specs.State.{lead_with}
use Rattle.hot_path.proofs.Leads.{Leads, leads_none, leads_more, leads_nowhere, leads_at, not_finite}

-- ---- what is read of the array

module _ (file : List ℕ) (at : ℕ) where
  pub place_read : {r : ℕ} → r ≡ number 8 file (at + 8) → r ≡ field file at children_place
  unfolding field
  place_read e = e

  pub end_read : {p bytes : ℕ} → p ≡ number 8 file (at + 8) → bytes ≡ number 8 file at → p + bytes ≡ children_end file at
  unfolding field
  end_read e f = rw (e, f, add-zero at)

  pub id_read : {r : ℕ} → r ≡ number 4 file (at + 16) → r ≡ field file at ctx_id
  unfolding field
  id_read e = e

pub value_read : (db : List ℕ) (b : Block) (meta : List ℕ) (p metric : ℕ) {h : Shape} {id : ℕ} {r : Option ℕ} → r ≡ lookup_in db h b id metric
    → h ≡ profile_shape → id ≡ number 4 meta (p + 16) → ◌≡◌ {A = Answer (Option ℕ)} (Ok (lookup_in db profile_shape b (field meta p ctx_id) metric)) (Ok r)
value_read db b meta p metric e s i = ap Ok (sym (e ∙ rw (s, id_read meta p i)))

-- ---- along it

no_candidates : (value : ℕ → Answer (Option ℕ)) → candidates (λ p. p) value [] ≡ []
unfolding candidates
no_candidates value = refl

ends_here : (file : List ℕ) (bound p stop : ℕ) → stop ≤ p → places_from file bound p stop ≡ []
unfolding places_from either
ends_here file zero p stop h = refl
ends_here file (suc bound) p stop h = rw (le-ltb p stop h)

module _ (file : List ℕ) (value : ℕ → Answer (Option ℕ)) (at : ℕ) where
  abbrev stop : ℕ
  stop = children_end file at

  abbrev from : (bound p : ℕ) → List Candidate
  from bound p = candidates (λ p. p) value (places_from file bound p stop)

  abbrev all : List Candidate
  all = candidates (λ p. p) value (places_at file at)

  abbrev Fits : List ℕ → Type 0
  Fits ps = All (λ p. p + extent file p ≤ stop) ps

  pub record Seeking (p : ℕ) (t : Option Lead) : Type 0 where
    pub passed : List Candidate
    pub bound : ℕ
    pub enough : stop ≤ p + bound
    pub parts : all ≡ passed ++ from bound p
    pub fit : Fits (places_from file bound p stop)
    pub leads : Leads passed t

  pub seeking_start : ArrayInside file at → Seeking (field file at children_place) None
  seeking_start h = record {
    passed = [];
    bound = field file at children_bytes;
    enough = omega arith;
    parts = refl;
    fit = h.each_ends;
    leads = leads_none;
  }

  -- the context at p, and those after it
  record Next (p : ℕ) (passed : List Candidate) : Type 0 where
    bound : ℕ
    enough : stop ≤ p + extent file p + bound
    parts : all ≡ passed ++ (candidate p (value p) ++ from bound (p + extent file p))
    fits : p + extent file p ≤ stop
    fit : Fits (places_from file bound (p + extent file p) stop)

  next : (p : ℕ) (passed : List Candidate) (bound : ℕ) → p < stop → stop ≤ p + bound → all ≡ passed ++ from bound p
      → Fits (places_from file bound p stop) → Next p passed
  unfolding places_from candidates either
  next p passed zero h e q f = absurd (omega arith)
  next p passed (suc bound) h e q f =
      let t : ltb p stop ≡ true = lt-ltb p stop h in
      let g = rw t at f in
      record { bound = bound; enough = omega (arith, takes_some file p); parts = rw t at q; fits = g.0; fit = g.1 }

  module _ {p : ℕ} {t : Option Lead} (s : Seeking p t) where
    here : p < stop → Next p s.passed
    here h = next p s.passed s.bound h s.enough s.parts s.fit

    pub seeking_fits : p < stop → (p + extent file p ≤ stop) × (24 ≤ extent file p)
    unfolding extent
    seeking_fits h = ((here h).fits, omega arith)

    -- past a context without a value
    pub seeking_none : p < stop → candidate p (value p) ≡ [] → Seeking (p + extent file p) t
    seeking_none h e =
        let n = here h in
        record {
          passed = s.passed;
          bound = n.bound;
          enough = n.enough;
          parts = n.parts ∙ ap (λ (cs : List Candidate). s.passed ++ (cs ++ from n.bound (p + extent file p))) e;
          fit = n.fit;
          leads = s.leads;
        }

    module _ (h : p < stop) (bits : ℕ) (e : value p ≡ Found bits) where
      abbrev it : Candidate
      it = record { place = p; bits = bits }

      parts_with : all ≡ s.passed ++ (it ∷ from (here h).bound (p + extent file p))
      unfolding candidate
      parts_with = (here h).parts ∙ rw e

      -- past one with a value, which may lead
      pub seeking_more : finite bits ≡ true → Seeking (p + extent file p) (lead_with t p bits)
      seeking_more f =
          let n = here h in
          record {
            passed = s.passed ++ (it ∷ []);
            bound = n.bound;
            enough = n.enough;
            parts = parts_with ∙ sym (append_assoc s.passed (it ∷ []) (from n.bound (p + extent file p)));
            fit = n.fit;
            leads = leads_more s.leads it f;
          }

      -- one that is not finite ends it
      pub seeking_not : finite bits ≡ false → hottest_of all ≡ Err No.NotFinite
      seeking_not f = ap hottest_of parts_with ∙ not_finite s.passed it _ f

    -- at the end
    passed_all : stop ≤ p → all ≡ s.passed
    passed_all h = s.parts ∙ ap (λ (cs : List Candidate). s.passed ++ cs) (none s.bound) ∙ append-nil s.passed
      where
        none : (bound : ℕ) → from bound p ≡ []
        none bound = ap (candidates (λ p. p) value) (ends_here file bound p stop h) ∙ no_candidates value

  pub seeking_all : {p : ℕ} (t : Option Lead) → Seeking p t → stop ≤ p → hottest_of all ≡ Ok (option_map (λ (t : Lead). t.place) t)
  seeking_all None s h = ap hottest_of (passed_all s h) ∙ leads_nowhere s.passed s.leads
  seeking_all (Some t) s h = ap hottest_of (passed_all s h) ∙ leads_at s.passed t s.leads
