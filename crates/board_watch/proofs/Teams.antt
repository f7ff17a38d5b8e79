-- Teams of watchers.
use Rattle.std.proofs.Common.{◌≡◌, ℕ, zero, suc, ◌<◌, List, [], ◌∷◌, ◌++◌, length, map, take, drop, get_or, refl, sym, ap, ◌∙◌, subst, arith}
use Rattle.std.specs.List.{AllZip}
use Rattle.std.proofs.lemmas.List.{append-nil, drop_all, length-map, take-map, take_all}
use Rattle.board_watch.specs.declared.seen.Seen.{Seen}
use Rattle.board_watch.specs.declared.seen.Watched.{Watched}
use Rattle.board_watch.specs.Watching.{Watching, WatchesOn}

-- what is written back to a list of one length is the new list
written-back : {X : Type 0} (n : ℕ) (old new : List X) → n ≡ length old → length new ≡ length old → take n (new ++ drop (length new) old) ≡ new
written-back n old new e f =
    ap (λ l. take n (new ++ l)) (drop_all (length new) old (omega arith)) ∙ (ap (take n) (append-nil new) ∙ take_all n new (omega arith))

zip-each : {X : Type 0} (R : X → X → Type 0) (xs ys : List X) → length ys ≡ length xs → ((k : ℕ) (d : X) → k < length xs → R (get_or xs k d) (get_or ys k d))
    → AllZip R xs ys
zip-each R [] [] e each = tt
zip-each R [] (y ∷ ys) e each = absurd (omega arith)
zip-each R (x ∷ xs) [] e each = absurd (omega arith)
zip-each R (x ∷ xs) (y ∷ ys) e each = (each zero x (omega arith), zip-each R xs ys (omega arith) (λ k d lt. each (suc k) d (omega arith)))

boards-same : (old new : List Watching) → AllZip WatchesOn old new → map (λ w. w.known.board) new ≡ map (λ w. w.known.board) old
boards-same [] [] all = refl
boards-same [] (w ∷ new) all = absurd all
boards-same (v ∷ old) [] all = absurd all
boards-same (v ∷ old) (w ∷ new) all = let first = all.0.board in let rest = boards-same old new all.1 in cc

-- a team of which each watcher watches on
module _ (n : ℕ) (old lent new : List Watching) (is : lent ≡ old) (count : n ≡ length old) (len : length new ≡ length lent)
    (each : (k : ℕ) (d : Watching) → k < length lent → WatchesOn (get_or lent k d) (get_or new k d)) where
  back : take n (new ++ drop (length new) old) ≡ new
  back = written-back n old new count (len ∙ ap length is)

  pub team-watches : AllZip WatchesOn old (take n (new ++ drop (length new) old))
  team-watches =
      let L : List Watching → Type 0 = λ l. AllZip WatchesOn l new in
      let N : List Watching → Type 0 = λ l. AllZip WatchesOn old l in subst N (sym back) (subst L is (zip-each WatchesOn lent new len each))

  pub team-boards : map (λ w. w.known.board) (take n (new ++ drop (length new) old)) ≡ map (λ w. w.known.board) old
  team-boards = boards-same old (take n (new ++ drop (length new) old)) team-watches

-- what the first of a team saw
pub seen-so-far : (watched : List Watched) (before team : List Watching) (n : ℕ) → map (λ w. w.seen.items) watched ≡ map (λ w. w.seen) before
    → n ≡ length watched → before ≡ take (length before) team → map (λ w. w.seen.items) watched ≡ take n (map (λ w. w.seen) team)
seen-so-far watched before team n same count first =
    let seen : List Watching → List (List Seen) = map (λ w. w.seen) in
    let many : length before ≡ n =
    sym (count ∙ (sym (length-map watched (λ w. w.seen.items)) ∙ (ap length same ∙ length-map before (λ w. w.seen)))) in
    same ∙ (ap seen first ∙ (sym (take-map (λ w. w.seen) (length before) team) ∙ ap (λ k. take k (seen team)) many))
