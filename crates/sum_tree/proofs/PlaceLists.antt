-- The places of a path, one more and one less.
use Rattle.std.proofs.Common.{◌≡◌, ℕ, ◌+◌, ◌^◌, ◌*◌, ◌<◌, ◌≤◌, List, [], ◌∷◌, ◌++◌, length, ◌∙◌, subst, sym, arith, Option, Some, None, Bor}
use Rattle.sum_core.specs.Nodes.{entries_of}
use Rattle.sum_core.proofs.Heights.{low-at, low-root}
use Rattle.smallvec.specs.SmallVec.{SmallVec, HasRoomFor}
use Rattle.sum_tree.specs.inside.Paths.{IsPath, IsPlace, ArePlaces, IsTreeSeen, items_seen, height_seen}
use Rattle.sum_tree.specs.declared.path.Path.{Path}
use Rattle.sum_tree.specs.declared.path.Place.{Place}
use Rattle.sum_tree.specs.declared.trees.Tree.{Tree}

module _ {T S : Type 0} (empty : S) (joined : S → S → S) (summary : T → S) where
  pub places-push : (items : List T) (height depth : ℕ) (ps : List (Option (Place T S))) (p : Place T S) → ArePlaces empty joined summary items height depth ps → IsPlace empty joined summary items p → p.height + (depth + length ps) ≡ height → ArePlaces empty joined summary items height depth (ps ++ Some p ∷ [])
  places-push items height depth [] p a k e = (k, omega arith, tt)
  places-push items height depth (None ∷ ps) p a k e = absurd a
  places-push items height depth (Some q ∷ ps) p a k e = (a.0, a.1, places-push items height (depth + 1) ps p a.2 k (omega arith))

  -- the places before the last, whatever that is
  pub places-front : (items : List T) (height depth : ℕ) (ps qs : List (Option (Place T S))) → ArePlaces empty joined summary items height depth (ps ++ qs) → ArePlaces empty joined summary items height depth ps
  places-front items height depth [] qs a = tt
  places-front items height depth (None ∷ ps) qs a = absurd a
  places-front items height depth (Some q ∷ ps) qs a = (a.0, a.1, places-front items height (depth + 1) ps qs a.2)

  pub places-last : (items : List T) (height depth : ℕ) (ps : List (Option (Place T S))) (p : Place T S) → ArePlaces empty joined summary items height depth (ps ++ Some p ∷ []) → IsPlace empty joined summary items p × (p.height + (depth + length ps) ≡ height)
  places-last items height depth [] p a = (a.0, omega (arith, a.1))
  places-last items height depth (None ∷ ps) p a = absurd a
  places-last items height depth (Some q ∷ ps) p a =
      let r = places-last items height (depth + 1) ps p a.2 in
      (r.0, omega (arith, r.1))

module _ {T S : Type 0} (empty : S) (joined : S → S → S) (summary : T → S) where
  pub seen-low : (root : Option (Bor (Tree T S))) → IsTreeSeen empty joined summary root → length (items_seen root) < 2 ^ 32 → height_seen root ≤ 11
  seen-low None t few = omega arith
  seen-low (Some tree) t few = low-root empty joined summary tree.now.height (entries_of tree.now.node) t.root few

  pub seen-at : (root : Option (Bor (Tree T S))) (h : ℕ) → IsTreeSeen empty joined summary root → length (items_seen root) < 2 * 6 ^ (h + 1) → height_seen root ≤ h
  seen-at None h t few = omega arith
  seen-at (Some tree) h t few = low-at empty joined summary tree.now.height (entries_of tree.now.node) h t.root few

module _ {T S : Type 0} (empty : S) (joined : S → S → S) (summary : T → S) (fits : S → Type 0) where
  pub path-push : (path : Path T S) (new : SmallVec (Option (Place T S))) (p : Place T S) → IsPath empty joined summary fits path → IsPlace empty joined summary (items_seen path.root) p → p.height + length path.places.items ≡ height_seen path.root → new.items ≡ path.places.items ++ (Some p ∷ []) → new.capacity ≡ path.places.capacity → IsPath empty joined summary fits (record { root = path.root; places = new })
  path-push path new p is k e items capacity =
      record {
        tree = is.tree;
        sum_fits = is.sum_fits;
        small = is.small;
        places = subst (ArePlaces empty joined summary (items_seen path.root) (height_seen path.root) 0) (sym items) (places-push empty joined summary (items_seen path.root) (height_seen path.root) 0 path.places.items p is.places k (omega (arith, e)));
        room = capacity ∙ is.room;
      }

  pub path-pop : (path : Path T S) (new : SmallVec (Option (Place T S))) (qs : List (Option (Place T S))) → IsPath empty joined summary fits path → path.places.items ≡ new.items ++ qs → new.capacity ≡ path.places.capacity → IsPath empty joined summary fits (record { root = path.root; places = new })
  path-pop path new qs is items capacity =
      record {
        tree = is.tree;
        sum_fits = is.sum_fits;
        small = is.small;
        places = places-front empty joined summary (items_seen path.root) (height_seen path.root) 0 new.items qs (subst (ArePlaces empty joined summary (items_seen path.root) (height_seen path.root) 0) items is.places);
        room = capacity ∙ is.room;
      }

  pub path-last : (path : Path T S) (ps : List (Option (Place T S))) (p : Place T S) → IsPath empty joined summary fits path → path.places.items ≡ ps ++ (Some p ∷ []) → IsPlace empty joined summary (items_seen path.root) p × (p.height + length ps ≡ height_seen path.root)
  path-last path ps p is items =
      let r = places-last empty joined summary (items_seen path.root) (height_seen path.root) 0 ps p (subst (ArePlaces empty joined summary (items_seen path.root) (height_seen path.root) 0) items is.places) in
      (r.0, omega (arith, r.1))

  -- there is room for every height of a tree of fewer than 2 ^ 32 items
  pub path-room : (path : Path T S) (n : ℕ) → IsPath empty joined summary fits path → n + length path.places.items ≡ height_seen path.root → HasRoomFor path.places 1
  path-room path n is e = omega (arith, is.room, seen-low empty joined summary path.root is.tree is.small)
