-- The lead among the candidates so far is the greatest of their tally, and so the hottest of them: one candidate more changes both alike.
use Rattle.std.specs.Prelude.{Err, Some, None, Option, IfSome}
use Prim.Native.Nat.{ℕ, suc, ◌<◌}
use mathlib.Core.Bool.{Bool, true, false}
use mathlib.Core.List.{List, [], ◌∷◌, ◌++◌}
use mathlib.Core.Path.{◌≡◌, refl, sym, ap, ◌∙◌}
use native.Mathlib.Omega.{arith}
use lib.Ieee.{binary64, of_bits, lt}
use lib.ListN.{length, get_or, length-append}
use lib.Seq.{get_or-take, take_at, get_or_at}
use Rattle.refusal.specs.declared.Refusal.TheVariants as No
use Rattle.refusal.specs.Check.{either, Absent, Found}
use Rattle.seq.specs.Lists.{All}
use Rattle.seq.proofs.Lists.{all_append, all_in, nth_in}
use Rattle.seq.proofs.Every.{every_of}
use Rattle.float.specs.Float.{finite, less}
use Rattle.total.specs.declared.Tally.{Tally}
use Rattle.total.specs.Totals.{start_of, step_of, tally_to, all_finite, finish, totals_of}
use Rattle.total.proofs.Tallies.{tally_same}
use Rattle.total.proofs.Facts.{refused_16}
use Rattle.hot_path.specs.declared.Lead.{Lead}
use Rattle.hot_path.specs.HotPath.{Candidate, places_of, bits_of, hottest_in, hottest_of}
use Rattle.hot_path.specs.State.{lead_with}

-- ---- after some candidates

abbrev tally_of : (c : Candidate) (cs : List Candidate) → Tally
tally_of c cs = tally_to (places_of (c ∷ cs)) (bits_of (c ∷ cs)) (length cs)

abbrev IsLead : List Candidate → Option Lead → Type 0
IsLead [] t = t ≡ None
IsLead (c ∷ cs) t = t ≡ Some (record { place = (tally_of c cs).greatest_of; bits = (tally_of c cs).greatest })

pub record Leads (cs : List Candidate) (t : Option Lead) : Type 0 where
  pub all-finite : All (λ c. finite c.bits ≡ true) cs
  pub lead_finite : IfSome t (λ t. finite t.bits ≡ true)
  pub is : IsLead cs t

-- ---- one more

before_last : (cs : List Candidate) (d e : Candidate) (i : ℕ) → i < length cs → get_or (cs ++ (d ∷ [])) i e ≡ get_or cs i e
before_last cs d e i h =
    sym (get_or-take (length cs) (cs ++ (d ∷ [])) i e h) ∙ ap (λ (l : List Candidate). get_or l i e) (take_at cs (d ∷ []) (length cs) refl)

tally_more : (c : Candidate) (cs : List Candidate) (d : Candidate) → tally_of c (cs ++ (d ∷ [])) ≡ step_of (tally_of c cs) d.place d.bits
unfolding tally_to
tally_more c cs d =
    let all : List Candidate = c ∷ cs in
    let more : List Candidate = all ++ (d ∷ []) in
    let long : length (cs ++ (d ∷ [])) ≡ suc (length cs) = omega (arith, length-append cs (d ∷ [])) in
    let last : get_or (cs ++ (d ∷ [])) (length cs) (record { place = 0; bits = 0 }) ≡ d = get_or_at cs d [] _ (length cs) refl in
    let same : tally_to (places_of more) (bits_of more) (length cs) ≡ tally_of c cs =
    tally_same (length cs) (λ i l. let e = before_last all d (record { place = 0; bits = 0 }) i (omega arith) in
    (ap (λ (x : Candidate). x.place) e, ap (λ (x : Candidate). x.bits) e)) in
    ap (tally_to (places_of more) (bits_of more)) long
    ∙ ap (λ (u : Tally). step_of u (places_of more (suc (length cs))) (bits_of more (suc (length cs)))) same
    ∙ ap (λ (x : Candidate). step_of (tally_of c cs) x.place x.bits) last

lead_step : (u : Tally) (place bits : ℕ) → lead_with (Some (record { place = u.greatest_of; bits = u.greatest })) place bits
    ≡ Some (record { place = (step_of u place bits).greatest_of; bits = (step_of u place bits).greatest })
unfolding lead_with step_of either
lead_step u place bits = go (less u.greatest bits)
  where
    go : (above : Bool) → either {A = Option Lead} above (Some (record { place = place; bits = bits })) (Some (record { place = u.greatest_of; bits = u.greatest }))
        ≡ Some (record { place = either above place u.greatest_of; bits = either above bits u.greatest })
    go true = refl
    go false = refl

lead_more : (cs : List Candidate) (t : Option Lead) (d : Candidate) → IsLead cs t → IsLead (cs ++ (d ∷ [])) (lead_with t d.place d.bits)
unfolding lead_with tally_to start_of
lead_more [] t d h = rw h
lead_more (c ∷ cs) t d h = rw (tally_more c cs d, h) (lead_step (tally_of c cs) d.place d.bits)

with_finite : (t : Option Lead) (place bits : ℕ) → IfSome t (λ t. finite t.bits ≡ true) → finite bits ≡ true
    → IfSome (lead_with t place bits) (λ t. finite t.bits ≡ true)
unfolding lead_with either
with_finite None place bits h k = k
with_finite (Some t) place bits h k = go (less t.bits bits)
  where
    go : (leads : Bool) → IfSome (either {A = Option Lead} leads (Some (record { place = place; bits = bits })) (Some t)) (λ t. finite t.bits ≡ true)
    go true = k
    go false = h

-- by the test of two floats
module _ (t : Lead) (place bits : ℕ) where
  pub lead_taken : lt (of_bits binary64 t.bits) (of_bits binary64 bits) ≡ true → Some (record { place = place; bits = bits }) ≡ lead_with (Some t) place bits
  unfolding lead_with either less
  lead_taken h = rw h

  pub lead_left : lt (of_bits binary64 t.bits) (of_bits binary64 bits) ≡ false → Some t ≡ lead_with (Some t) place bits
  unfolding lead_with either less
  lead_left h = rw h

-- ---- from none to all

pub leads_none : Leads [] None
leads_none = record { all-finite = tt; lead_finite = tt; is = refl }

pub leads_more : {cs : List Candidate} {t : Option Lead} → Leads cs t → (d : Candidate) → finite d.bits ≡ true
    → Leads (cs ++ (d ∷ [])) (lead_with t d.place d.bits)
leads_more {cs} {t} h d f = record {
  all-finite = all_append _ cs (d ∷ []) h.all-finite (f, tt);
  lead_finite = with_finite t d.place d.bits h.lead_finite f;
  is = lead_more cs t d h.is;
}

pub leads_nowhere : (cs : List Candidate) → Leads cs None → hottest_of cs ≡ Absent
unfolding hottest_of hottest_in totals_of
leads_nowhere [] h = refl
leads_nowhere (c ∷ cs) h = absurd (let e = h.is in let z : ◌≡◌ {A = ℕ} 0 1 = cc in omega arith)

pub leads_at : (cs : List Candidate) (t : Lead) → Leads cs (Some t) → hottest_of cs ≡ Found t.place
unfolding hottest_of hottest_in totals_of finish either
leads_at [] t h = absurd (let e = h.is in let z : ◌≡◌ {A = ℕ} 0 1 = cc in omega arith)
leads_at (c ∷ cs) t h =
    let all : List Candidate = c ∷ cs in
    let f : all_finite (bits_of all) (length all) ≡ true =
    every_of _ (length all) (λ k l. all_in (λ d. finite d.bits ≡ true) all h.all-finite (nth_in _ all k l)) in
    let e = h.is in
    let same : t ≡ record { place = (tally_of c cs).greatest_of; bits = (tally_of c cs).greatest } = cc in
    rw (f, same)

-- a candidate that is not finite
pub not_finite : (cs : List Candidate) (d : Candidate) (rest : List Candidate) → finite d.bits ≡ false
    → hottest_of (cs ++ (d ∷ rest)) ≡ Err No.NotFinite
unfolding hottest_of hottest_in
not_finite cs d rest f =
    let all : List Candidate = cs ++ (d ∷ rest) in
    let long = length-append cs (d ∷ rest) in
    let last : bits_of all (length cs) ≡ d.bits = ap (λ (x : Candidate). x.bits) (get_or_at cs d rest _ (length cs) refl) in
    rw ((refused_16 (places_of all) (bits_of all) (length all)).1 (omega (arith, long), (length cs, (omega (arith, long), ap finite last ∙ f))))
