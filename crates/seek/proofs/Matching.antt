-- What is matched and seen is a function of the path and of the last context's path (`sought`): each step keeps it, by induction over the
-- way down. So all levels match for the first time at the context that the path names.
use Prim.Native.Nat.{ℕ, suc, ◌≤◌, ◌<◌}
use mathlib.Core.Bool.{Bool, true, false, ◌&&◌}
use mathlib.Core.List.{List, [], ◌∷◌}
use mathlib.Core.Path.{◌≡◌, refl, sym, ap, ◌∙◌}
use native.Mathlib.Omega.{arith}
use borrow.Author.Tests.{eqb-true, eqb-false, eq-eqb, ne_eqb, ltb-true, ltb-false, lt-ltb, le-ltb}
use lib.Dec.{eqb, ltb, eqb-suc-suc, leb-suc-suc}
use lib.ListN.{length, get_or}
use Rattle.refusal.specs.Check.{either}
use Rattle.traversal.specs.From.{same_path}
use Rattle.traversal.proofs.Keeps.{snoc}
use Rattle.seek.specs.declared.Seek.{Seek}
use Rattle.seek.specs.Seek.{seek, stepped, deeper, sought, Seeks, Next}

-- ---- which context is next

pub next_child : (l : List ℕ) → Next l l 0
next_child [] = refl
next_child (x ∷ l) = (refl, next_child l)

pub next_sibling : (ups : List ℕ) (i : ℕ) → Next (snoc ups i) ups (suc i)
next_sibling [] i = refl
next_sibling (x ∷ ups) i = (refl, next_sibling ups i)

pub next_above : (last ups : List ℕ) (x i : ℕ) → Next last (snoc ups x) i → Next last ups (suc x)
next_above [] [] x i n = absurd n
next_above (y ∷ last) [] x i n = ap suc (sym n.0)
next_above [] (z ∷ ups) x i n = absurd n
next_above (y ∷ last) (z ∷ ups) x i n = (n.0, next_above last ups x i n.1)

-- ---- a step

sought_first : (path : List ℕ) → sought path [] ≡ seek 0 0
unfolding sought
sought_first [] = refl
sought_first (y ∷ path) = refl

sought_most : (path last : List ℕ) → (sought path last).matched ≤ length path
unfolding sought deeper either
sought_most [] last = omega arith
sought_most (y ∷ path) [] = omega arith
sought_most (y ∷ path) (x ∷ last) = go (eqb x y) (sought_most path last)
  where
    go : (b : Bool) → (sought path last).matched ≤ length path
        → (either b (deeper (sought path last)) (seek 0 (suc (either (ltb x y) x y)))).matched ≤ suc (length path)
    go true h = omega (arith, h)
    go false h = omega arith

-- one level deeper, it is the same step
either_deeper : (b : Bool) (s t : Seek) → deeper (either b s t) ≡ either b (deeper s) (deeper t)
unfolding either
either_deeper true s t = refl
either_deeper false s t = refl

module _ (y : ℕ) (path : List ℕ) (s : Seek) (up : ℕ) where
  step_deeper : stepped (y ∷ path) (deeper s) (suc up) ≡ deeper (stepped path s up)
  unfolding stepped deeper
  step_deeper =
      ap (λ (b : Bool). either b (deeper s) then) (leb-suc-suc (suc s.matched) up)
      ∙ ap (either (ltb s.matched up) (deeper s)) next
      ∙ sym (either_deeper (ltb s.matched up) s _)
    where
      then : Seek
      then = either (eqb (suc s.matched) (suc up) && eqb s.seen (get_or path up 0)) (seek (suc (suc up)) 0)
          (either (eqb (suc s.matched) (suc up) && ltb s.seen (get_or path up 0)) (seek (suc up) (suc s.seen))
          (seek (suc up) (suc (get_or path up 0))))

      next : then ≡ deeper (either (eqb s.matched up && eqb s.seen (get_or path up 0)) (seek (suc up) 0)
          (either (eqb s.matched up && ltb s.seen (get_or path up 0)) (seek up (suc s.seen)) (seek up (suc (get_or path up 0)))))
      next =
          ap (λ (b : Bool). either (b && eqb s.seen (get_or path up 0)) (seek (suc (suc up)) 0)
          (either (b && ltb s.seen (get_or path up 0)) (seek (suc up) (suc s.seen)) (seek (suc up) (suc (get_or path up 0))))) (eqb-suc-suc s.matched up)
          ∙ ap (either (eqb s.matched up && eqb s.seen (get_or path up 0)) (seek (suc (suc up)) 0))
          (sym (either_deeper (eqb s.matched up && ltb s.seen (get_or path up 0)) (seek up (suc s.seen)) (seek up (suc (get_or path up 0)))))
          ∙ sym (either_deeper (eqb s.matched up && eqb s.seen (get_or path up 0)) (seek (suc up) 0) _)

-- at a root, the first or the next
module _ (y : ℕ) (path : List ℕ) where
  abbrev root : ℕ → Seek
  root i = either (eqb i y) (deeper (sought path [])) (seek 0 (suc (either (ltb i y) i y)))

  -- none was visited, or one that is not on the path
  root_step : (i seen : ℕ) → (i ≤ y → seen ≡ i) → (y < i → seen ≡ suc y) → stepped (y ∷ path) (seek 0 seen) 0 ≡ root i
  unfolding stepped deeper either
  root_step i seen before after = go (eqb i y) refl (ltb i y) refl
    where
      go : (a : Bool) → eqb i y ≡ a → (b : Bool) → ltb i y ≡ b → stepped (y ∷ path) (seek 0 seen) 0 ≡ root i
      go true e b f =
          let same = eqb-true i y e in
          rw (before (omega (arith, same)), same, eq-eqb y y refl, sought_first path)
      go false e true f =
          let less = ltb-true i y f in
          rw (before (omega (arith, less)), e, f)
      go false e false f =
          let more : y < i = omega (arith, ltb-false i y f, eqb-false i y e) in
          rw (after more, e, f, ne_eqb (suc y) y (λ h. omega (arith, h)), le-ltb (suc y) y (omega arith))

  -- one was visited that is on the path
  root_after : (x : ℕ) (s : Seek) → x ≡ y → stepped (y ∷ path) (deeper s) 0 ≡ root (suc x)
  unfolding stepped deeper either
  root_after x s e = rw (
    e,
    ne_eqb (suc y) y (λ h. omega (arith, h)),
    le-ltb (suc y) y (omega arith),
    ne_eqb (suc s.matched) 0 (λ h. omega (arith, h)),
    le-ltb (suc s.matched) 0 (omega arith),
  )

pub sought_next : (path last ups : List ℕ) (i : ℕ) → Next last ups i → (sought path last).matched < length path
    → stepped path (sought path last) (length ups) ≡ sought path (snoc ups i)
unfolding sought stepped deeper either
sought_next [] last ups i n h = absurd (omega (arith, h))
sought_next (y ∷ path) [] [] i n h = rw n (root_step y path 0 0 (λ q. refl) (λ q. absurd (omega (arith, q))))
sought_next (y ∷ path) (x ∷ last) [] i n h = rw n (go (eqb x y) refl (ltb x y) refl)
  where
    go : (a : Bool) → eqb x y ≡ a → (b : Bool) → ltb x y ≡ b
        → stepped (y ∷ path) (either a (deeper (sought path last)) (seek 0 (suc (either b x y)))) 0 ≡ root y path (suc x)
    go true e b f = root_after y path x (sought path last) (eqb-true x y e)
    go false e true f = root_step y path (suc x) (suc x) (λ q. refl) (λ q. absurd (omega (arith, q, ltb-true x y f)))
    go false e false f = root_step y path (suc x) (suc y) (λ q. absurd (omega (arith, q, ltb-false x y f))) (λ q. refl)
sought_next (y ∷ path) [] (z ∷ ups) i n h = absurd n
sought_next (y ∷ path) (x ∷ last) (z ∷ ups) i n h = rw (← n.0) (go (eqb x y) h (sought_next path last ups i n.1))
  where
    go : (a : Bool) → (either a (deeper (sought path last)) (seek 0 (suc (either (ltb x y) x y)))).matched < suc (length path)
        → ((sought path last).matched < length path → stepped path (sought path last) (length ups) ≡ sought path (snoc ups i))
        → stepped (y ∷ path) (either a (deeper (sought path last)) (seek 0 (suc (either (ltb x y) x y)))) (suc (length ups))
        ≡ either a (deeper (sought path (snoc ups i))) (seek 0 (suc (either (ltb x y) x y)))
    go true q step = step_deeper y path (sought path last) (length ups) ∙ ap deeper (step (omega (arith, q)))
    go false q step = rw (lt-ltb 0 (suc (length ups)) (omega arith))

-- ---- the path's own context

same_root : (path : List ℕ) → eqb 1 (suc (length path)) ≡ same_path path []
unfolding same_path
same_root [] = refl
same_root (y ∷ path) = ne_eqb 1 (suc (suc (length path))) (λ h. omega (arith, h))

-- where not all levels match at the last context, they do at the next exactly if that is the path's own
pub sought_found : (path last ups : List ℕ) (i : ℕ) → Next last ups i → (sought path last).matched < length path
    → eqb (sought path (snoc ups i)).matched (length path) ≡ same_path path (snoc ups i)
unfolding sought deeper either same_path
sought_found [] last ups i n h = absurd (omega (arith, h))
sought_found (y ∷ path) last [] i n h = go (eqb i y) refl
  where
    go : (a : Bool) → eqb i y ≡ a
        → eqb (either a (deeper (sought path [])) (seek 0 (suc (either (ltb i y) i y)))).matched (suc (length path)) ≡ eqb y i && same_path path []
    go true e = rw (sought_first path, eqb-true i y e, eq-eqb y y refl) (same_root path)
    go false e = rw (ne_eqb 0 (suc (length path)) (λ h. omega (arith, h)), ne_eqb y i (λ h. eqb-false i y e (sym h)))
sought_found (y ∷ path) [] (z ∷ ups) i n h = absurd n
sought_found (y ∷ path) (x ∷ last) (z ∷ ups) i n h = rw (← n.0) (go (eqb x y) refl h (sought_found path last ups i n.1))
  where
    go : (a : Bool) → eqb x y ≡ a → (either a (deeper (sought path last)) (seek 0 (suc (either (ltb x y) x y)))).matched < suc (length path)
        → ((sought path last).matched < length path → eqb (sought path (snoc ups i)).matched (length path) ≡ same_path path (snoc ups i))
        → eqb (either a (deeper (sought path (snoc ups i))) (seek 0 (suc (either (ltb x y) x y)))).matched (suc (length path))
        ≡ eqb y x && same_path path (snoc ups i)
    go true e q found =
        eqb-suc-suc (sought path (snoc ups i)).matched (length path) ∙ found (omega (arith, q))
        ∙ ap (λ (b : Bool). b && same_path path (snoc ups i)) (sym (eq-eqb y x (sym (eqb-true x y e))))
    go false e q found = rw (ne_eqb 0 (suc (length path)) (λ h. omega (arith, h)), ne_eqb y x (λ h. eqb-false x y e (sym h)))

-- ---- as long as not all levels match

pub seeks_start : (path : List ℕ) → 0 < length path → Seeks path [] (seek 0 0)
seeks_start path h = record { is = sym (sought_first path); not_all = h }

module _ (path last ups : List ℕ) (i : ℕ) (s : Seek) (n : Next last ups i) (k : Seeks path last s) where
  here : stepped path s (length ups) ≡ sought path (snoc ups i)
  here = rw k.is (sought_next path last ups i n (rw (← k.is) k.not_all))

  pub seeks_found : eqb (stepped path s (length ups)).matched (length path) ≡ same_path path (snoc ups i)
  seeks_found = rw here (sought_found path last ups i n (rw (← k.is) k.not_all))

  pub seeks_on : eqb (stepped path s (length ups)).matched (length path) ≡ false → Seeks path (snoc ups i) (stepped path s (length ups))
  seeks_on f = record {
    is = here;
    not_all = omega (arith, ap (λ (x : Seek). x.matched) here, sought_most path (snoc ups i), eqb-false (stepped path s (length ups)).matched (length path) f);
  }
