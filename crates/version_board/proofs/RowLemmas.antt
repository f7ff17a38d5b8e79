-- Rows of versions.
use Rattle.std.proofs.Common.{◌≡◌, zero, suc, ◌+◌, ◌≤◌, cond, All, Bool, true, false, List, [], ◌∷◌, ◌++◌, length, refl, ap, sym, subst, ◌∙◌, arith, append_assoc, append-nil, length-append}
use Rattle.std.proofs.lemmas.List.Sums.{sum_by-append}
use mathlib.Core.Bool.{true≢false}
use mathlib.Core.List.{IsPrefix}
use Rattle.display_map.specs.Events.{Event, Published}
use Rattle.display_map.specs.Versions.{Version}
use Rattle.display_map.specs.Replay.{History, appended, versions_of, is_published, ends}
use Rattle.version_board.specs.Known.{Known, GoesOn}
use Rattle.version_board.specs.Rows.{BeginsWith, Follows, IsFirst, AreFollowing, IsRow, IsRowTo}
use Rattle.version_board.proofs.Prefixes.{prefix_trans, prefix_shorter}

versions-append : (xs ys : List Event) → versions_of (xs ++ ys) ≡ versions_of xs + versions_of ys
versions-append xs ys = sum_by-append (λ (e : Event). cond (is_published e) 1 0) xs ys

-- what a display publishes first may open a row
pub may_open : (h : History) (last : Bool) → versions_of h.events ≡ 0 → IsFirst (appended h (Published last ∷ []))
may_open h last none = record {
  published = (h.events, last, refl);
  number = omega (arith, versions-append h.events (Published last ∷ []), none);
}

-- what a display publishes next may follow
pub may_follow : (v : Version) (more : List Event) (last : Bool) → ends v.events ≡ false → versions_of more ≡ 0
    → Follows v (appended (appended v more) (Published last ∷ []))
may_follow v more last goes_on none = record {
  goes_on = goes_on;
  opening = refl;
  begins = (more ++ Published last ∷ [], sym (append_assoc v.events more (Published last ∷ [])));
  published = (v.events ++ more, last, refl);
  number = omega (arith, versions-append (v.events ++ more) (Published last ∷ []), versions-append v.events more, none);
}

following_number : (u : Version) (rest : List Version) (v : Version) → AreFollowing u (rest ++ v ∷ []) → versions_of v.events ≡ versions_of u.events + length rest + 1
following_number u [] v f = omega (arith, f.0.number)
following_number u (w ∷ ws) v f = omega (arith, following_number w ws v f.1, f.0.number)

ended_number : (rest : List Version) (v : Version) → IsRow (rest ++ v ∷ []) → length (rest ++ v ∷ []) ≡ versions_of v.events
ended_number [] v r = omega (arith, r.0.number)
ended_number (u ∷ us) v r = omega (arith, r.0.number, following_number u us v r.1, length-append us (v ∷ []))

-- the number of the last version is how many come before it
pub row_number : (row : List Version) (v : Version) → IsRowTo row v → length row ≡ versions_of v.events
row_number row v r =
    let here : IsRow (r.ends.0 ++ v ∷ []) = subst IsRow r.ends.1 r.is_row in
    ap length r.ends.1 ∙ ended_number r.ends.0 v here

following_append : (u : Version) (rest : List Version) (v w : Version) → AreFollowing u (rest ++ v ∷ []) → Follows v w → AreFollowing u ((rest ++ v ∷ []) ++ w ∷ [])
following_append u [] v w f g = (f.0, (g, tt))
following_append u (x ∷ xs) v w f g = (f.0, following_append x xs v w f.1 g)

ended_append : (rest : List Version) (v w : Version) → IsRow (rest ++ v ∷ []) → Follows v w → IsRow ((rest ++ v ∷ []) ++ w ∷ [])
ended_append [] v w r g = (r.0, (g, tt))
ended_append (u ∷ us) v w r g = (r.0, following_append u us v w r.1 g)

-- the row goes on with a version that may come next
pub row_append : (row : List Version) (v w : Version) → IsRowTo row v → Follows v w → IsRowTo (row ++ w ∷ []) w
row_append row v w r g =
    let here : IsRow (r.ends.0 ++ v ∷ []) = subst IsRow r.ends.1 r.is_row in
    let all : IsRow (row ++ w ∷ []) = subst (λ (l : List Version). IsRow (l ++ w ∷ [])) (sym r.ends.1) (ended_append r.ends.0 v w here g) in
    record { is_row = all; ends = (row, refl) }

itself : (v : Version) → BeginsWith v v
itself v = ([], append-nil (v.events))

following_begins : (u : Version) (rest : List Version) (v : Version) → AreFollowing u (rest ++ v ∷ []) → BeginsWith v u
following_begins u [] v f = f.0.begins
following_begins u (w ∷ ws) v f = prefix_trans (u.events) (w.events) (v.events) f.0.begins (following_begins w ws v f.1)

following_each : (u : Version) (rest : List Version) (v : Version) → AreFollowing u (rest ++ v ∷ []) → All (BeginsWith v) (rest ++ v ∷ [])
following_each u [] v f zero d h = itself v
following_each u [] v f (suc k) d h = absurd (omega arith)
following_each u (w ∷ ws) v f zero d h = following_begins w ws v f.1
following_each u (w ∷ ws) v f (suc k) d h = following_each w ws v f.1 k d (omega arith)

ended_each : (rest : List Version) (v : Version) → IsRow (rest ++ v ∷ []) → All (BeginsWith v) (rest ++ v ∷ [])
ended_each [] v r zero d h = itself v
ended_each [] v r (suc k) d h = absurd (omega arith)
ended_each (u ∷ us) v r zero d h = following_begins u us v r.1
ended_each (u ∷ us) v r (suc k) d h = following_each u us v r.1 k d (omega arith)

each_before : (P : Version → Type 0) (xs ys : List Version) → All P (xs ++ ys) → All P xs
each_before P [] ys all k d h = absurd (omega arith)
each_before P (x ∷ xs) ys all zero d h = all zero d (omega arith)
each_before P (x ∷ xs) ys all (suc k) d h = each_before P xs ys (λ j e l. all (suc j) e (omega arith)) k d (omega arith)

-- the last version of a row begins with each version of a beginning of the row
pub row_begins : (old new : List Version) (w : Version) → IsPrefix old new → IsRowTo new w → All (λ v. BeginsWith w v) old
row_begins old new w pre r =
    let here : IsRow (r.ends.0 ++ w ∷ []) = subst IsRow r.ends.1 r.is_row in
    let all : All (BeginsWith w) new = subst (All (BeginsWith w)) (sym r.ends.1) (ended_each r.ends.0 w here) in
    each_before (BeginsWith w) old pre.0 (subst (All (BeginsWith w)) (sym pre.1) all)

following_ended : (u : Version) (rest : List Version) (v : Version) (more : List Version) → AreFollowing u ((rest ++ v ∷ []) ++ more) → ends v.events ≡ true → more ≡ []
following_ended u [] v [] f last = refl
following_ended u [] v (m ∷ ms) f last = absurd (true≢false (sym last ∙ f.1.0.goes_on))
following_ended u (w ∷ ws) v more f last = following_ended w ws v more f.1 last

ended_ended : (rest : List Version) (v : Version) (more : List Version) → IsRow ((rest ++ v ∷ []) ++ more) → ends v.events ≡ true → more ≡ []
ended_ended [] v [] r last = refl
ended_ended [] v (m ∷ ms) r last = absurd (true≢false (sym last ∙ r.1.0.goes_on))
ended_ended (u ∷ us) v more r last = following_ended u us v more r.1 last

same_last : (xs ys : List Version) (x y : Version) → xs ++ x ∷ [] ≡ ys ++ y ∷ [] → x ≡ y
same_last [] [] x y e = cc
same_last [] (b ∷ bs) x y e = absurd (omega (arith, ap length e, length-append bs (y ∷ [])))
same_last (a ∷ xs) [] x y e = absurd (omega (arith, ap length e, length-append xs (x ∷ [])))
same_last (a ∷ xs) (b ∷ bs) x y e = same_last xs bs x y cc

-- nothing follows the last version
pub row_ended : (old new : List Version) (v w : Version) → IsPrefix old new → IsRowTo old v → IsRowTo new w → ends v.events ≡ true → w ≡ v
row_ended old new v w pre o r last =
    let whole : IsRow ((o.ends.0 ++ v ∷ []) ++ pre.0) = subst (λ (l : List Version). IsRow (l ++ pre.0)) o.ends.1 (subst IsRow (sym pre.1) r.is_row) in
    let none : pre.0 ≡ [] = ended_ended o.ends.0 v pre.0 whole last in
    let same : new ≡ old = sym pre.1 ∙ ap (λ l. old ++ l) none ∙ append-nil old in
    same_last r.ends.0 o.ends.0 w v (sym r.ends.1 ∙ same ∙ o.ends.1)

pub goes_on : (old new : Known) → IsRowTo old.row old.newest → IsRowTo new.row new.newest → new.board ≡ old.board → IsPrefix old.row new.row → GoesOn old new
goes_on old new before after same pre = record {
  board = same;
  later = pre;
  row = after;
  begins = row_begins old.row new.row new.newest pre after;
  last = row_ended old.row new.row old.newest new.newest pre before after;
}

-- the later of two beginnings of one row goes on from the other
pub later : (old new : Known) (both : List Version)
    → IsRowTo old.row old.newest → IsRowTo new.row new.newest → new.board ≡ old.board
    → IsPrefix old.row both → IsPrefix new.row both → versions_of old.newest.events ≤ versions_of new.newest.events → GoesOn old new
later old new both before after same p q le =
    let shorter : length old.row ≤ length new.row = omega (arith, row_number _ _ before, row_number _ _ after, le) in
    goes_on old new before after same (prefix_shorter old.row new.row both p q shorter)

pub stays : (k : Known) → IsRowTo k.row k.newest → GoesOn k k
stays k row = goes_on k k row row refl ([], append-nil k.row)
