-- What watchers keep of the versions that they see.
use Rattle.std.proofs.Common.{◌≡◌, ℕ, suc, ◌+◌, ◌<◌, ◌≤◌, Bool, true, false, List, [], ◌∷◌, ◌++◌, refl, sym, ap, ◌∙◌, subst, arith}
use Rattle.std.specs.List.{All}
use Rattle.std.proofs.lemmas.List.{append-nil}
use Rattle.std.proofs.lemmas.List.Elements.{All-push, All-weaker}
use mathlib.Core.List.{IsPrefix}
use Rattle.display_map.specs.Versions.{Version}
use Rattle.display_map.specs.Replay.{ends}
use Rattle.version_board.specs.Known.{Known, GoesOn}
use Rattle.version_board.specs.Rows.{IsRowTo}
use Rattle.board_watch.specs.declared.seen.Seen.{Seen}
use Rattle.board_watch.specs.Watching.{AreRising, HasKept, IsSeenAmong, IsSeenIn, IsSeenOf, IsWatched, IsWatching}
use Rattle.board_watch.proofs.Histories.{newest-again, newest-in, past, still-in}

rising-more : (least : ℕ) (old : List Seen) (seen : Seen) → AreRising least old → (old ≡ [] → least ≤ seen.version)
    → ((before : List Seen) (last : Seen) → old ≡ before ++ last ∷ [] → last.version < seen.version) → AreRising least (old ++ seen ∷ [])
rising-more least [] seen rising first newer = (first refl, tt)
rising-more least (x ∷ xs) seen rising first newer = (
  rising.0,
  rising-more (x.version + 1) xs seen rising.1
      (λ none. let below = newer [] x (ap (λ l. x ∷ l) none) in omega (arith, below))
      (λ before last is. newer (x ∷ before) last (ap (λ l. x ∷ l) is)),
)

among-more : (row more : List Version) (seen : List Seen) → IsPrefix row more → All (λ s. IsSeenAmong row s) seen → All (λ s. IsSeenAmong more s) seen
among-more row more seen pre all =
    All-weaker (λ s. IsSeenAmong row s) (λ s. IsSeenAmong more s) (λ s it. (it.0, still-in row more it.0 pre it.1, it.2)) seen all

-- a watcher whose row goes on, and which keeps what it sees of its newest version
pub watching-on : (old new : Known) (kept now : List Seen) (seen : Seen) (newer : Bool) → IsWatching (record { known = old; seen = kept }) → GoesOn old new
    → IsSeenOf new.newest seen → HasKept kept seen now newer → IsWatching (record { known = new; seen = now })
watching-on old new kept now seen true it goes_on of keeps =
    subst (λ l. IsWatching (record { known = new; seen = l })) (sym keeps.0) (record {
      rising = rising-more 0 kept seen it.rising (λ none. omega arith) keeps.1;
      each = All-push (λ s. IsSeenAmong new.row s) kept seen (among-more old.row new.row kept goes_on.later it.each)
          (new.newest, newest-in new.row new.newest goes_on.row, of);
    })
watching-on old new kept now seen false it goes_on of keeps =
    subst (λ l. IsWatching (record { known = new; seen = l })) (sym keeps.0) (record {
      rising = it.rising;
      each = among-more old.row new.row kept goes_on.later it.each;
    })

-- ... also where there was no memory to keep it
pub watching-still : (old new : Known) (kept now : List Seen) → IsWatching (record { known = old; seen = kept }) → GoesOn old new → now ≡ kept
    → IsWatching (record { known = new; seen = now })
watching-still old new kept now it goes_on same =
    subst (λ l. IsWatching (record { known = new; seen = l })) (sym same) (record {
      rising = it.rising;
      each = among-more old.row new.row kept goes_on.later it.each;
    })

in-history : (row : List Version) (newest : Version) (seen : List Seen) → IsRowTo row newest → All (λ s. IsSeenAmong row s) seen → All (λ s. IsSeenIn newest s) seen
in-history row newest seen r all =
    All-weaker (λ s. IsSeenAmong row s) (λ s. IsSeenIn newest s)
    (λ s it. let p = past row newest it.0 r it.1 in record { version = it.0; opening = p.opening; front = p.front; published = p.published; seen_of = it.2 })
    seen all

last-of : (before : List Seen) (last : Seen) (P : Seen → Type 0) → All P (before ++ last ∷ []) → P last
last-of [] last P all = all 0 last (omega arith)
last-of (x ∷ xs) last P all = last-of xs last P (λ k d lt. all (suc k) d (omega (arith, lt)))

-- what was kept ends with the newest version
pub watched : (known : Known) (kept now : List Seen) (seen : Seen) (newer : Bool) → IsRowTo known.row known.newest
    → IsWatching (record { known = known; seen = kept }) → IsWatching (record { known = known; seen = now })
    → IsSeenOf known.newest seen → HasKept kept seen now newer → IsWatched known.newest now
watched known kept now seen true r old it of keeps =
    record {
      rising = it.rising;
      each = in-history known.row known.newest now r it.each;
      before = kept;
      newest = seen;
      last = keeps.0;
      newest_of = of;
    }
watched known kept now seen false r old it of keeps =
    let before : List Seen = keeps.1.0 in
    let last : Seen = keeps.1.1 in
    let ends : now ≡ before ++ last ∷ [] = keeps.0 ∙ keeps.1.2 in
    let among : IsSeenAmong known.row last = last-of before last (λ s. IsSeenAmong known.row s) (subst (λ l. All (λ s. IsSeenAmong known.row s) l) ends it.each) in
    let newest = past known.row known.newest known.newest r (newest-in known.row known.newest r) in
    let few = keeps.1.3 in
    let own = of.number in
    let other = among.2.number in
    let same : among.0 ≡ known.newest = newest-again known.newest among.0 (past known.row known.newest among.0 r among.1) newest.published (omega (arith, few, own, other)) in
    record {
      rising = it.rising;
      each = in-history known.row known.newest now r it.each;
      before = before;
      newest = last;
      last = ends;
      newest_of = subst (λ v. IsSeenOf v last) same among.2;
    }

-- ... and where the watcher learnt before it looked for the last time
pub ended : (old told mid new : Known) (kept now : List Seen) (seen : Seen) (newer : Bool) → IsWatching (record { known = old; seen = kept }) → GoesOn old mid
    → GoesOn told mid → GoesOn mid new → IsSeenOf new.newest seen → HasKept kept seen now newer → ends told.newest.events ≡ true → IsWatched told.newest now
ended old told mid new kept now seen newer it learnt of_told looked of keeps last =
    let first : mid.newest ≡ told.newest = of_told.last last in
    let E : Version → Type 0 = λ v. ends v.events ≡ true in
    let second : new.newest ≡ mid.newest = looked.last (subst E (sym first) last) in
    let there : IsWatching (record { known = mid; seen = kept }) = watching-still old mid kept kept it learnt refl in
    let W : Version → Type 0 = λ v. IsWatched v now in
    subst W (second ∙ first) (watched new kept now seen newer looked.row
    (watching-still mid new kept kept there looked refl)
    (watching-on mid new kept now seen newer there looked of keeps)
    of keeps)

-- ---- what stays

prefix-same : {X : Type 0} (xs ys : List X) → ys ≡ xs → IsPrefix xs ys
prefix-same xs ys e = ([], append-nil xs ∙ sym e)

pub prefix-kept : (kept now : List Seen) (seen : Seen) (newer : Bool) → HasKept kept seen now newer → IsPrefix kept now
prefix-kept kept now seen true keeps = (seen ∷ [], sym keeps.0)
prefix-kept kept now seen false keeps = prefix-same kept now keeps.0
