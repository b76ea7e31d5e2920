-- A pair comes off the front of those that are left.
use Prim.Native.Nat.{ℕ, ◌+◌, ◌*◌, ◌<◌}
use mathlib.Core.List.{List, ◌++◌}
use mathlib.Core.Path.{◌≡◌, sym, ap, ap₂, ◌∙◌}
use native.Mathlib.Omega.{arith}
use lib.ListN.{length, get_or, drop, length-append, length-drop, get_or-append}
use lib.Seq.{drop-append_seam}
use Rattle.std.proofs.lemmas.List.{get_or-drop, drop-drop}
use Rattle.std.specs.Iterator.Adapters.{enumerate_count}
use Rattle.block.specs.Block.{lookup_in}
use Rattle.batch.specs.Batch.{pairs_in}
use Rattle.batch.proofs.Filling.{filling_start, filling_more, filling_all}
use Rattle.batch.proofs.find_all.Goals as goal

module _ (asked pair rest : List ℕ) (k : ℕ) (cut : drop (2 * k) asked ≡ pair ++ rest) (two : length pair ≡ 2) where
  more : k < pairs_in asked
  more = omega (arith, length-drop (2 * k) asked, ap length cut, length-append pair rest)

  first : get_or pair 0 0 ≡ get_or asked (2 * k) 0
  first =
      let within : 0 < length pair = omega arith in
      let e : 2 * k + 0 ≡ 2 * k = omega arith in
      sym (get_or-append pair rest 0 0 within) ∙ ap (λ (s : List ℕ). get_or s 0 0) (sym cut)
      ∙ rw e at (get_or-drop (2 * k) asked 0 0)

  second : get_or pair 1 0 ≡ get_or asked (2 * k + 1) 0
  second =
      let within : 1 < length pair = omega arith in
      sym (get_or-append pair rest 0 1 within) ∙ ap (λ (s : List ℕ). get_or s 1 0) (sym cut) ∙ get_or-drop (2 * k) asked 1 0

  left : rest ≡ drop (2 * (k + 1)) asked
  left =
      let next : 2 * k + length pair ≡ 2 * (k + 1) = omega arith in
      sym (drop-append_seam pair rest) ∙ ap (drop (length pair)) (sym cut) ∙ drop-drop (length pair) (2 * k) asked
      ∙ ap (λ (n : ℕ). drop n asked) next

pub loop-k-init : goal.loop-k-init
loop-k-init c =
    rw (c.into_iter-k-iterator.ensures.into_iter_gives, c.enumerate-k-items.ensures.source, c.enumerate-k-items.ensures.count) (
      filling_start c.args.file.now c.args.h c.args.b c.args.asked.now c.args.answers.now,
      c.chunks_exact.ensures.rest,
      c.chunks_exact.ensures.size,
    )

pub loop-k-preserved : goal.loop-k-preserved
loop-k-preserved c =
    let a = c.args in
    let h = c.in-Some.ensures.steps in
    let cut = sym c.loop-k.invariant.1 ∙ h.0.1.0 in
    let two = h.0.1.1 ∙ c.loop-k.invariant.2 in
    let n = enumerate_count c.loop-k.k-iterator in
    let answer = c.find_near-found.ensures
    ∙ ap₂ (lookup_in a.file.now a.h a.b) (first a.asked.now c.in-Some.pair.now _ n cut two) (second a.asked.now c.in-Some.pair.now _ n cut two) in
    rw h.2 (
      filling_more a.file.now a.h a.b a.asked.now c.loop-k.invariant.0 (more a.asked.now c.in-Some.pair.now _ n cut two) answer
          (rw h.1 at c.put_found.ensures),
      left a.asked.now c.in-Some.pair.now _ n cut two,
      h.0.0 ∙ c.loop-k.invariant.2,
    )

pub returns : goal.returns
returns c =
    let a = c.args in
    let h = c.in-None.ensures.steps in
    filling_all a.file.now a.h a.b a.asked.now c.loop-k.invariant.0
    (omega (arith, h.0.1.0, c.loop-k.invariant.2, length-drop (2 * enumerate_count c.loop-k.k-iterator) a.asked.now, ap length c.loop-k.invariant.1))
