-- Lists that begin with another, and lists that agree as far as both go.
use Prim.Native.Nat.{ℕ, ◌+◌, ◌-◌, ◌≤◌}
use mathlib.Core.List.{List, [], ◌∷◌, ◌++◌, append_assoc, append-nil}
use mathlib.Core.Path.{◌≡◌, refl, sym, ap, ◌∙◌, subst}
use native.Mathlib.Decide.{dec_le}
use native.Mathlib.Omega.{arith}
use lib.ListN.{length, take, drop, length-append, length-take, take-append-drop, drop_of_length-le}
use lib.Seq.{take_all, take-length, take-append-le, drop-append-le, take-append-add, take_at, drop_at}
use Rattle.traversal.specs.Demand3.{Begins, Agree}

module _ {A : Type 0} where
  pub begins_refl : (a : List A) → Begins a a
  begins_refl a = ([], sym (append-nil a))

  pub begins_trans : (a b c : List A) → Begins a b → Begins b c → Begins a c
  begins_trans a b c h k = (h.0 ++ k.0, k.1 ∙ ap (λ (x : List A). x ++ k.0) h.1 ∙ append_assoc a h.0 k.0)

  pub begins_snoc : (a : List A) (x : A) → Begins a (a ++ (x ∷ []))
  begins_snoc a x = (x ∷ [], refl)

  pub begins_length : (a b : List A) → Begins a b → length a ≤ length b
  begins_length a b h = omega (arith, ap length h.1, length-append a h.0)

  pub begins_take : (n : ℕ) (l : List A) → Begins (take n l) l
  begins_take n l = (drop n l, sym (take-append-drop n l))

  -- what is taken is as many as it has
  pub take_own : (n : ℕ) (l : List A) → take (length (take n l)) l ≡ take n l
  take_own n l =
      ap (take (length (take n l))) (sym (take-append-drop n l)) ∙ take_at (take n l) (drop n l) (length (take n l)) refl

  -- what is too long is cut alike, whatever follows
  pub take_begins : (n : ℕ) (a b : List A) → Begins a b → n ≤ length a → take n b ≡ take n a
  take_begins n a b h k = ap (take n) h.1 ∙ take-append-le n a h.0 k

  -- what begins a list begins as much of it as is longer
  pub begins_cut : (n : ℕ) (a b : List A) → Begins a b → length a ≤ n → Begins a (take n b)
  begins_cut n a b g h = (
    take (n - length a) g.0,
    ap (take n) g.1 ∙ ap (λ (m : ℕ). take m (a ++ g.0)) (let e : n ≡ length a + (n - length a) = omega arith in e)
        ∙ take-append-add a g.0 (n - length a),
  )

  pub begins_taken : (m n : ℕ) (a b : List A) → Begins a b → m ≤ n → Begins (take m a) (take n b)
  begins_taken m n a b h k =
      begins_cut n (take m a) b (begins_trans (take m a) a b (begins_take m a) h) (omega (arith, length-take m a))

  begins_drop : (n : ℕ) (a b : List A) → Begins a b → Begins (drop n a) (drop n b)
  begins_drop n a b h = elim (dec_le n (length a)) [
    | yes e ↦ (h.0, ap (drop n) h.1 ∙ drop-append-le n a h.0 e)
    | no e ↦ (drop n b, ap (λ (x : List A). x ++ drop n b) (sym (drop_of_length-le a {i = n} (omega arith))))
  ]

  -- two beginnings of one list
  pub both_begin : (a b c : List A) → Begins a c → Begins b c → Agree a b
  both_begin a b c g h = elim (dec_le (length a) (length b)) [
    | yes e ↦ sym (take_begins (length a) b c h e) ∙ take_begins (length a) a c g (omega arith) ∙ take-length a ∙ sym (take_all (length b) a e)
    | no e ↦ take_all (length a) b (omega arith) ∙ sym (take-length b) ∙ sym (take_begins (length b) b c h (omega arith))
        ∙ take_begins (length b) a c g (omega arith)
  ]

  -- what follows x in a beginning of x y z, and a beginning of y
  pub left_agrees : (n m k : ℕ) (x y z : List A) → length x ≡ n → Agree (drop n (take m (x ++ (y ++ z)))) (take k y)
  left_agrees n m k x y z e =
      both_begin (drop n (take m (x ++ (y ++ z)))) (take k y) (drop n (x ++ (y ++ z)))
      (begins_drop n (take m (x ++ (y ++ z))) (x ++ (y ++ z)) (begins_take m (x ++ (y ++ z))))
      (subst (Begins (take k y)) (sym (drop_at x (y ++ z) n e)) (begins_trans (take k y) y (y ++ z) (begins_take k y) (z, refl)))
