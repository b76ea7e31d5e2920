-- Of a file of bytes: ctxIds are below 2^32 and distinct, so there are at most 2^32 contexts; and a sibling's number is at most the number
-- of contexts before it, since its elder siblings are among them. So every path can be a mark's.
use Rattle.refusal.specs.Check.{Passed}
use Prim.Native.Nat.{ℕ, suc, ◌+◌, ◌≤◌, ◌<◌}
use mathlib.Core.List.{List, [], ◌∷◌, map, map-append}
use mathlib.Core.Path.{◌≡◌, ◌∙◌}
use native.Mathlib.Omega.{arith}
use lib.ListN.{length, length-append, length-map}
use Rattle.le.proofs.Laws.{number_small}
use Rattle.seq.specs.Lists.{All, Below}
use Rattle.seq.proofs.Lists.{all_imp, all_append, all_left, all_right}
use Rattle.seq.proofs.Pigeon.{pigeonhole}
use Rattle.layout.specs.Octets.{Octets}
use Rattle.open.specs.Opening.{field, pairs}
use Rattle.mark.specs.Mark.{Encodable}
use Rattle.context.specs.Context.{Targets, ctx_id, targets_of}
use Rattle.context.specs.Entry.{Entry, entry_at}
use Rattle.open.specs.Format.{meta}
use Rattle.traversal.specs.Traversal.{Asked, list_of, Parameters, visit_check, depth_limit, level, from_roots, traversal, endless}
use Rattle.traversal.specs.From.{limited_from}
use Rattle.traversal.proofs.Keeps.{snoc, Kept, Somewhere, somewhere, keeps_level, keeps_traversal}
use Rattle.traversal.proofs.Table.{id_of}
use Rattle.traversal.proofs.Ids.{passed_fits, Ids, ids_enter}

-- a path of no more levels than are allowed, with numbers below that of contexts
pub record Counted (many : ℕ) (path : List ℕ) : Type 0 where
  pub depth : length path ≤ depth_limit
  pub numbers : Below many path

-- the fact that visits keep
pub record Counts (a : Asked) (ups : List ℕ) (i : ℕ) (l : List Entry) : Type 0 where
  pub ids : Ids a.lent.slots l
  pub small : Octets a.file → Below 4294967296 (map id_of l)
  pub elder : i ≤ length l
  pub way : Below (length l) ups
  pub paths : All (λ e. Counted (length l) e.path) l

none_counted : (a : Asked) → Counts a [] 0 []
none_counted a = record { ids = record { distinct = tt; below = tt }; small = λ octets. tt; elder = omega arith; way = tt; paths = tt }

below_more : (n m : ℕ) → n ≤ m → (l : List ℕ) → Below n l → Below m l
below_more n m h l b = all_imp (λ x k. omega arith) l b

counts_enters : (E : Parameters) (parent : ℕ) (ups : List ℕ) (i p stop : ℕ) (l : List Entry) → visit_check E (snoc ups i) p stop l ≡ Passed
    → Counts E.asked ups i l → Counts E.asked (snoc ups i) 0 (snoc l (entry_at E.asked.file parent (snoc ups i) p))
unfolding entry_at field
counts_enters E parent ups i p stop l v c =
    let e = entry_at E.asked.file parent (snoc ups i) p in
    let id = field E.asked.file p ctx_id in
    let n : length (snoc l e) ≡ suc (length l) = length-append l (e ∷ []) ∙ (omega arith) in
    let now : Below (length (snoc l e)) (snoc ups i) =
    all_append (λ x. x < length (snoc l e)) ups (i ∷ [])
    (below_more (length l) (length (snoc l e)) (omega arith) ups c.way) (omega (arith, c.elder), tt) in
    let ids : map id_of (snoc l e) ≡ snoc (map id_of l) id = map-append id_of l (e ∷ []) in
    record {
      ids = ids_enter E parent (snoc ups i) p stop l v c.ids;
      small = λ octets. rw ids (all_append (λ x. x < 4294967296) (map id_of l) (id ∷ []) (c.small octets)
          (number_small E.asked.file octets 4 (p + 16), tt));
      elder = omega arith;
      way = now;
      paths = all_append (λ x. Counted (length (snoc l e)) x.path) l (e ∷ [])
          (all_imp (λ x h. record {
            depth = h.depth;
            numbers = below_more (length l) (length (snoc l e)) (omega arith) x.path h.numbers;
          }) l c.paths)
          (record { depth = (passed_fits E (snoc ups i) p stop l v).deep; numbers = now }, tt);
    }

counts_leaves : (a : Asked) (ups : List ℕ) (i j : ℕ) (l : List Entry) → Counts a (snoc ups i) j l → Counts a ups (suc i) l
counts_leaves a ups i j l c = record {
  ids = c.ids;
  small = c.small;
  elder = (all_right (λ x. x < length l) ups (i ∷ []) c.way).0;
  way = all_left (λ x. x < length l) ups (i ∷ []) c.way;
  paths = c.paths;
}

counts_kept : (E : Parameters) → Kept E (Counts E.asked)
counts_kept E = record { enters = counts_enters E; leaves = counts_leaves E.asked }

counts_traversal : (a : Asked) → Somewhere (Counts a) (list_of (traversal a))
counts_traversal a =
    somewhere (endless a (targets_of a.file (pairs meta a.file))) (Counts a) [] (traversal a) (keeps_traversal a (Counts a) (counts_kept _) (none_counted a))

-- ---- what it comes to

pub contexts_shallow : (a : Asked) → All (λ e. length e.path ≤ depth_limit) (list_of (traversal a))
contexts_shallow a = all_imp (λ e h. h.depth) (list_of (traversal a)) (counts_traversal a).1.1.paths

pub record Small (l : List Entry) : Type 0 where
  pub ids_small : Below 4294967296 (map id_of l)
  pub few : length l ≤ 4294967296
  pub encodable : All (λ e. Encodable e.path) l

counted_small : (a : Asked) → Octets a.file → (l : List Entry) → Somewhere (Counts a) l → Small l
counted_small a octets l s =
    let c = s.1.1 in
    let few : length l ≤ 4294967296 =
    omega (arith, length-map l id_of, pigeonhole 4294967296 (map id_of l) c.ids.distinct (c.small octets)) in
    record {
      ids_small = c.small octets;
      few = few;
      encodable = all_imp (λ e h. record { shallow = h.depth; small = below_more (length l) 4294967296 few e.path h.numbers }) l c.paths;
    }

pub traversal_small : (a : Asked) → Octets a.file → Small (list_of (traversal a))
traversal_small a octets = counted_small a octets (list_of (traversal a)) (counts_traversal a)

pub contexts_encodable : (a : Asked) → Octets a.file → All (λ e. Encodable e.path) (list_of (traversal a))
contexts_encodable a octets = (traversal_small a octets).encodable

-- so at the end of any level of any traversal, with room or not
level_small : (E : Parameters) → Octets E.asked.file → (levels parent : ℕ) (path : List ℕ) (from stop : ℕ) (l : List Entry)
    → Counts E.asked path 0 l → Small (list_of (level E levels parent path from stop l))
level_small E octets levels parent path from stop l c =
    counted_small E.asked octets _ (somewhere E (Counts E.asked) path (level E levels parent path from stop l)
    (keeps_level E (Counts E.asked) (counts_kept E) levels parent path from stop l c))

pub visited_encodable : (a : Asked) (t : Targets) (path : List ℕ) → Octets a.file
    → All (λ e. Encodable e.path) (list_of (from_roots (limited_from path a t)))
unfolding from_roots
visited_encodable a t path octets =
    (level_small (limited_from path a t) octets (suc depth_limit) 0 [] _ _ [] (none_counted a)).encodable
