-- The rules that stand before the trail: room for a new mark, opening, the form of the mark given. Where they pass, the mark names a path,
-- and it is passed exactly if its context is on the traversal.
use Rattle.std.specs.Prelude.{Err}
use Prim.Native.Nat.{ℕ, ◌≤◌, ◌<◌}
use mathlib.Core.Bool.{Bool, true, false, ◌||◌, not, true≢false}
use mathlib.Core.List.{List}
use mathlib.Core.Logic.{◌⊎◌, inl, inr}
use mathlib.Core.Path.{◌≡◌, refl, sym, ap, ◌∙◌}
use native.Mathlib.Omega.{arith}
use borrow.Author.Tests.{le-leb, lt-leb, leb-true, leb-false}
use lib.Dec.{leb}
use lib.ListN.{length}
use Rattle.refusal.specs.declared.Refusal.{Refusal}
use Rattle.refusal.specs.declared.Refusal.TheVariants as No
use Rattle.refusal.specs.Check.{rule, first, if_passed, Check, on_answer, Passed}
use Rattle.refusal.specs.Number.{number_of}
use Rattle.refusal.proofs.Checks.{rule_passes, first_passes, not_both}
use Rattle.open.specs.Format.{meta}
use Rattle.open.specs.Opening.{opening}
use Rattle.open.proofs.Given.{one_to_seven}
use Rattle.mark.specs.Mark.{mark_room, Decoded, named, malformed, decode, is_named, path_in}
use Rattle.mark.proofs.Bytes.{is-named}
use Rattle.traversal.specs.Traversal.{Asked, list_of, traversal}
use Rattle.traversal.specs.From.{is_passed}
use Rattle.traversal.specs.Walk.{walk_check, given_path, mark_passed}
use Rattle.traversal.specs.Demand3.{Call, asked}
use Rattle.traversal.specs.Joined.{Roomy, Begun}

room_rule : (asks : Bool) (n : ℕ) → (asks ≡ true → mark_room ≤ n) → not asks || leb mark_room n ≡ true
room_rule true n h = le-leb mark_room n (h refl)
room_rule false n h = refl

rule_room : (asks : Bool) (n : ℕ) → not asks || leb mark_room n ≡ true → asks ≡ true → mark_room ≤ n
rule_room true n h e = leb-true mark_room n h
rule_room false n h e = absurd (true≢false (sym e))

rule_short : (asks : Bool) (n : ℕ) → not asks || leb mark_room n ≡ false → (asks ≡ true) × (n < mark_room)
rule_short true n h = (refl, omega (arith, leb-false mark_room n h))
rule_short false n h = absurd (true≢false h)

not_named : (d : Decoded) → is_named d ≡ false → d ≡ malformed
unfolding is_named
not_named (named path) e = absurd (true≢false e)
not_named malformed e = refl

module _ (a : Asked) where
  -- what is known where they give 17 or 18; opening's refusals are 1 to 7
  pub record ShortRoom : Type 0 where
    pub asks : a.marks.asks ≡ true
    pub short : a.lent.bytes < mark_room

  pub record IllFormed : Type 0 where
    pub enough : a.marks.asks ≡ true → mark_room ≤ a.lent.bytes
    pub opens : opening meta a.file ≡ Passed
    pub ill : decode a.marks.given ≡ malformed

  pub check_refused : (r : Refusal) → walk_check a ≡ Err r → 8 ≤ number_of r → ((r ≡ No.Room) × ShortRoom) ⊎ ((r ≡ No.Mark) × IllFormed)
  unfolding walk_check rule
  check_refused r e high = go (not a.marks.asks || leb mark_room a.lent.bytes) refl (opening meta a.file) refl (is_named (decode a.marks.given)) refl e
    where
      go : (room : Bool) → not a.marks.asks || leb mark_room a.lent.bytes ≡ room → (v : Check) → opening meta a.file ≡ v
          → (well : Bool) → is_named (decode a.marks.given) ≡ well
          → first (rule room No.Room) (first v (rule well No.Mark)) ≡ Err r → ((r ≡ No.Room) × ShortRoom) ⊎ ((r ≡ No.Mark) × IllFormed)
      go false er v ev well ew q =
          let s = rule_short a.marks.asks a.lent.bytes er in
          let same : No.Room ≡ r = cc in
          inl (sym same, record { asks = s.0; short = s.1 })
      go true er (Err s) ev well ew q =
          let same : s ≡ r = cc in
          absurd (omega (arith, one_to_seven meta a.file s ev, ap number_of same))
      go true er Passed ev true ew q = absurd (not_both q)
      go true er Passed ev false ew q =
          let same : No.Mark ≡ r = cc in
          inr (sym same, record { enough = rule_room a.marks.asks a.lent.bytes er; opens = ev; ill = not_named (decode a.marks.given) ew })

  -- what is known once they have passed
  pub check_told : walk_check a ≡ Passed
      → (a.marks.asks ≡ true → mark_room ≤ a.lent.bytes) × (opening meta a.file ≡ Passed)
      × (decode a.marks.given ≡ named (given_path a))
  unfolding walk_check
  check_told h =
      let room = not a.marks.asks || leb mark_room a.lent.bytes in
      let x = (first_passes (rule room No.Room) _).0 h in
      let y = (first_passes (opening meta a.file) _).0 x.1 in (
        rule_room a.marks.asks a.lent.bytes ((rule_passes room No.Room).0 x.0),
        y.0,
        is-named (decode a.marks.given) ((rule_passes (is_named (decode a.marks.given)) No.Mark).0 y.1),
      )

  -- whether the mark is passed

  pub mark-passed : walk_check a ≡ Passed → mark_passed a ≡ is_passed (given_path a) (list_of (traversal a))
  unfolding mark_passed on_answer
  mark-passed h = rw h

  pub passed_check : mark_passed a ≡ true → (walk_check a ≡ Passed) × (is_passed (given_path a) (list_of (traversal a)) ≡ true)
  unfolding mark_passed on_answer
  passed_check h = go (walk_check a) refl h
    where
      go : (v : Check) → walk_check a ≡ v → if_passed (λ r. false) v (is_passed (given_path a) (list_of (traversal a))) ≡ true
          → (walk_check a ≡ Passed) × (is_passed (given_path a) (list_of (traversal a)) ≡ true)
      go Passed e k = (e, k)
      go (Err r) e k = absurd (true≢false (sym k))

-- ---- of a call

module _ {file : List ℕ} (c : Call file) where
  -- with room enough, opening's and the mark's rule are left
  pub roomy_check : Roomy c → walk_check (asked c) ≡ first (opening meta file) (rule (is_named (decode c.marks.given)) No.Mark)
  unfolding walk_check rule
  roomy_check h = rw (room_rule c.marks.asks (length c.was.mark) h)

  pub no_room_check : c.marks.asks ≡ true → length c.was.mark < mark_room → walk_check (asked c) ≡ Err No.Room
  unfolding walk_check rule
  no_room_check e l = rw (e, lt-leb mark_room (length c.was.mark) l)

  pub begun_passes : (path : List ℕ) → Begun c path → walk_check (asked c) ≡ Passed
  unfolding rule is_named
  begun_passes path b = roomy_check b.roomy ∙ rw (b.opens, b.names)

  pub begun_path : (path : List ℕ) → Begun c path → given_path (asked c) ≡ path
  unfolding path_in
  begun_path path b = ap path_in b.names
