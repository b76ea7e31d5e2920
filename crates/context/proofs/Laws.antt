-- Bounds of a context's fields, and its rules as tests of differences.
use Prim.Native.Nat.{ℕ, ◌+◌, ◌-◌, ◌≤◌, ◌<◌}
use mathlib.Core.Bool.{Bool, true, false, ◌&&◌}
use mathlib.Core.List.{List}
use mathlib.Core.Path.{◌≡◌, refl, sym, ◌∙◌}
use native.Mathlib.Omega.{arith}
use borrow.Author.Tests.{le-leb, lt-leb, leb-true, leb-false}
use lib.Dec.{leb}
use lib.ListN.{length}
use Rattle.open.specs.Opening.{field}
use Rattle.range.proofs.Tests.{both}
use Rattle.flex.specs.Packing.{words}
use Rattle.context.specs.Context.{flags, flex_words, extent, context_rule}
use Rattle.context.specs.Sound.{Readable}

leb_shift : (a b c : ℕ) → a ≤ c → leb b (c - a) ≡ leb (a + b) c
leb_shift a b c h = go (leb b (c - a)) refl
  where
    go : (t : Bool) → leb b (c - a) ≡ t → leb b (c - a) ≡ leb (a + b) c
    go true e = e ∙ sym (le-leb (a + b) c (omega (arith, leb-true b (c - a) e)))
    go false e = e ∙ sym (lt-leb (a + b) c (omega (arith, leb-false b (c - a) e)))

module _ (file : List ℕ) (p stop : ℕ) (le : p ≤ stop) where
  pub short : stop - p < 24 → false ≡ context_rule file p stop
  unfolding context_rule
  short h = rw (lt-leb (p + 24) stop (omega arith))

  pub long : (bytes needed held : ℕ) → 24 ≤ stop - p → bytes ≡ extent file p → needed ≡ words (field file p flags) → held ≡ field file p flex_words
      → (leb bytes (stop - p) && leb needed held) ≡ context_rule file p stop
  unfolding context_rule
  long bytes needed held h b n w = rw (b, n, w, le-leb (p + 24) stop (omega arith), leb_shift p (extent file p) stop le)

-- what rule 10 says
pub ends : (file : List ℕ) (p stop : ℕ) → context_rule file p stop ≡ true
    → (p + 24 ≤ stop) × (p + extent file p ≤ stop) × (words (field file p flags) ≤ field file p flex_words)
unfolding context_rule
ends file p stop e =
    let rest = leb (p + extent file p) stop && leb (words (field file p flags)) (field file p flex_words) in
    let x = (both (leb (p + 24) stop) rest).0 e in
    let y = (both (leb (p + extent file p) stop) (leb (words (field file p flags)) (field file p flex_words))).0 x.1 in
    (leb-true _ _ x.0, leb-true _ _ y.0, leb-true _ _ y.1)

-- a context that keeps it, in an array that ends inside the file, can be read
pub readable : (file : List ℕ) (p stop : ℕ) → context_rule file p stop ≡ true → stop ≤ length file → Readable file p
unfolding extent
readable file p stop e h = let x = ends file p stop e in record { ends = omega (arith, x.1, x.2) }
