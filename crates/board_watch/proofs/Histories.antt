-- Versions of a row, and of the history of its newest.
use Rattle.std.proofs.Common.{◌≡◌, ℕ, ◌+◌, ◌≤◌, cond, Bool, List, [], ◌∷◌, ◌++◌, Option, Some, ◌⊎◌, inl, inr, refl, sym, ap, ◌∙◌, subst, arith}
use Rattle.std.specs.List.{All, Contains, last_or}
use Rattle.std.proofs.lemmas.List.{append-nil}
use Rattle.std.proofs.lemmas.List.Elements.{All-cons, All-nil, Contains-append_left, Contains-push}
use Rattle.std.proofs.lemmas.List.Sums.{sum_by-append, sum_by-cons}
use mathlib.Core.List.{IsPrefix}
use Rattle.display_map.specs.Versions.{Version}
use Rattle.display_map.specs.Events.{Event, Published}
use Rattle.display_map.specs.Replay.{is_published, versions_of}
use Rattle.version_board.specs.Rows.{BeginsWith, IsPublished, IsRow, IsRowTo, AreFollowing}
use Rattle.version_board.proofs.RowLemmas.{row_begins}

-- a version of the row of a history's newest version
pub record IsPast (newest version : Version) : Type 0 where
  pub opening : version.opening ≡ newest.opening
  pub front : BeginsWith newest version
  pub published : IsPublished version

element-of : {X : Type 0} (P : X → Type 0) (xs : List X) (x : X) → Contains xs x → All P xs → P x
element-of P xs x (k, lt, is) all = subst P is (all k x lt)

record IsOf (opening : List ℕ) (v : Version) : Type 0 where
  same : v.opening ≡ opening
  published : IsPublished v

of-all : (opening : List ℕ) (v : Version) (ws : List Version) → IsOf opening v → AreFollowing v ws → All (IsOf opening) (v ∷ ws)
of-all opening v [] here f = All-cons (IsOf opening) v [] here (All-nil (IsOf opening))
of-all opening v (w ∷ ws) here f =
    All-cons (IsOf opening) v (w ∷ ws) here
    (of-all opening w ws (record { same = f.0.opening ∙ here.same; published = f.0.published }) f.1)

-- the opening text of a row's versions
record HasOpening (row : List Version) : Type 0 where
  text : List ℕ
  each : All (IsOf text) row

opening-of : (row : List Version) → IsRow row → HasOpening row
opening-of [] r = record { text = []; each = All-nil (IsOf []) }
opening-of (v ∷ vs) r = record { text = v.opening; each = of-all v.opening v vs (record { same = refl; published = r.0.published }) r.1 }

pub newest-in : (row : List Version) (newest : Version) → IsRowTo row newest → Contains row newest
newest-in row newest r = subst (λ l. Contains l newest) (sym r.ends.1) (Contains-push r.ends.0 newest)

pub past : (row : List Version) (newest v : Version) → IsRowTo row newest → Contains row v → IsPast newest v
past row newest v r c =
    let all = opening-of row r.is_row in
    let this = element-of (IsOf all.text) row v c all.each in
    let last = element-of (IsOf all.text) row newest (newest-in row newest r) all.each in
    record {
      opening = this.same ∙ sym last.same;
      front = element-of (λ v. BeginsWith newest v) row v c (row_begins row row newest ([], append-nil row) r);
      published = this.published;
    }

pub still-in : (row more : List Version) (v : Version) → IsPrefix row more → Contains row v → Contains more v
still-in row more v pre c = subst (λ l. Contains l v) pre.1 (Contains-append_left row pre.0 v c)

-- ---- a version of the newest one's number is the newest one

some-published : (o : Option Event) (es : List Event) (last : Bool) → last_or o es ≡ Some (Published last) → (es ≡ []) ⊎ (1 ≤ versions_of es)
some-published o [] last e = inl refl
some-published o (x ∷ []) last e =
    let same : x ≡ Published last = cc in inr (subst (λ y. 1 ≤ versions_of (y ∷ [])) (sym same) (omega arith))
some-published o (x ∷ (y ∷ es)) last e = elim (some-published (Some x) (y ∷ es) last e) [
  | inl none ↦ inl (absurd (no-cons y es none))
  | inr some ↦ inr (omega (arith, some, sum_by-cons (λ e. cond (is_published e) 1 0) x (y ∷ es)))
]
  where
    no-cons : (y : Event) (es : List Event) → (y ∷ es) ≡ [] → ⊥
    no-cons y es e = cc

last-append : (o : Option Event) (xs : List Event) (e : Event) → last_or o (xs ++ e ∷ []) ≡ Some e
last-append o [] e = refl
last-append o (x ∷ xs) e = last-append (Some x) xs e

last-behind : (o : Option Event) (xs : List Event) (y : Event) (ys : List Event) → last_or o (xs ++ (y ∷ ys)) ≡ last_or (Some y) ys
last-behind o [] y ys = refl
last-behind o (x ∷ xs) y ys = last-behind (Some x) xs y ys

nothing-more : (events more before : List Event) (last : Bool) → events ++ more ≡ before ++ Published last ∷ [] → versions_of more ≡ 0 → more ≡ []
nothing-more events [] before last same none = refl
nothing-more events (y ∷ ys) before last same none =
    let ending : last_or (Some y) (y ∷ ys) ≡ Some (Published last) =
    sym (last-behind (Some y) events y ys) ∙ (ap (last_or (Some y)) same ∙ last-append (Some y) before (Published last)) in
    elim (some-published (Some y) (y ∷ ys) last ending) [
      | inl empty ↦ empty
      | inr some ↦ absurd (omega (arith, some, none))
    ]

pub newest-again : (newest v : Version) → IsPast newest v → IsPublished newest → versions_of newest.events ≤ versions_of v.events → v ≡ newest
newest-again newest v it published few =
    let more : List Event = it.front.0 in
    let whole : v.events ++ more ≡ newest.events = it.front.1 in
    let count : versions_of (v.events ++ more) ≡ versions_of v.events + versions_of more = sum_by-append (λ e. cond (is_published e) 1 0) v.events more in
    let both : versions_of (v.events ++ more) ≡ versions_of newest.events = ap versions_of whole in
    let none : more ≡ [] = nothing-more v.events more published.0 published.1 (whole ∙ published.2) (omega (arith, count, both, few)) in
    let events : v.events ≡ newest.events = sym (append-nil v.events) ∙ (ap (λ l. v.events ++ l) (sym none) ∙ whole) in
    λ i. record { opening = it.opening i; events = events i }
