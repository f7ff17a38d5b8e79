-- The lines at the places of a change.
use Rattle.std.proofs.Common.{◌≡◌, ℕ, zero, suc, ◌+◌, ◌-◌, ◌<◌, ◌≤◌, Bool, true, false, cond, List, [], ◌∷◌, ◌++◌, length, map, take, drop, Option, refl, sym, ap, ◌∙◌, subst, inl, inr, ◌⊎◌, arith}
use Rattle.std.specs.List.{count_by, flat_map}
use Rattle.std.proofs.lemmas.Bool.{cases_lt, false≢true}
use Rattle.std.proofs.lemmas.List.{append-nil, drop_all, length-take-le, take-append-drop, take-take, take_all}
use Rattle.std.proofs.lemmas.List.Concat.{flat_map-append}
use Rattle.std.proofs.lemmas.List.Sums.{sum_by-take-drop}
use Rattle.cell_units.specs.declared.place.Bias.TheVariants.{Left, Right}
use Rattle.cell_units.specs.Folded.{covered, folded_before, folded_to, inside, line_of}
use Rattle.cell_units.specs.Folding.{folded_token}
use Rattle.cell_units.specs.Inlaid.{Byte, Hidden, InlayByte, Token, bytes_of, inlays_at, is_break, offset_of}
use Rattle.cell_units.specs.Layers.{Source, place_of, shown_text, unfolded}
use Rattle.cell_units.specs.Record.{Fold}
use Rattle.cell_units.specs.Text.{is_feed, row_of}
use Rattle.cell_units.proofs.BufferLines.{feeds-cons}
use Rattle.cell_units.proofs.CutLists.{Every, ended}
use Rattle.cell_units.proofs.Folding.{folded_before-folded, inlays-folded}
use Rattle.cell_units.proofs.LineSpans.{feeds-tokens}
use Rattle.cell_units.proofs.SortedLists.{count-cons, count-map}
use Rattle.cell_units.proofs.ShownMoved.{ended-inside, inside_covered}
use Rattle.edit_patch.specs.LayerLeads.{layer_places, offset_after, token_after}
use Rattle.edit_patch.specs.Leads.{Leads, Reach}
use Rattle.edit_patch.proofs.TokenPlaces.{at_places}
use Rattle.joined_folds.specs.Windows.{AreAlike, moved_on}
use Rattle.fold_map.proofs.MapPlaces.{behind-drop, byte-at, count-append, every-by, left-before, right-behind}
use Rattle.fold_map.proofs.MapTokens.{HideAlike, bare, behind-from, drop-bare, each-moved, each-same, fold_each, front-left, take-bare}

count-cut : (k : ℕ) (ts : List Token) → count_by is_break (take k ts) + count_by is_break (drop k ts) ≡ count_by is_break ts
count-cut k ts = sum_by-take-drop (λ (t : Token). cond (is_break t) 1 0) ts k

moved-breaks : (shift : Option Reach) (t : Token) → is_break (token_after shift t) ≡ is_break t
moved-breaks shift (Byte o b) = refl
moved-breaks shift (InlayByte o id b) = refl
moved-breaks shift (Hidden o) = refl

count-moved : (shift : Option Reach) (ts : List Token) → count_by is_break (map (token_after shift) ts) ≡ count_by is_break ts
count-moved shift ts = count-map (token_after shift) is_break (moved-breaks shift) ts

-- ---- at a place of what is shown, line feeds are before it as breaks are

feeds-at : (ts : List Token) (k : ℕ) → count_by is_feed (take k (flat_map bytes_of ts)) ≡ count_by is_break (take k (at_places ts))
feeds-at ts zero = refl
feeds-at [] (suc k) = refl
feeds-at (Byte o b ∷ ts) (suc k) =
    feeds-cons b (take k (flat_map bytes_of ts)) ∙ ap (λ n. cond (is_feed b) 1 0 + n) (feeds-at ts k) ∙ sym (count-cons is_break (Byte o b) (take k (at_places ts)))
feeds-at (InlayByte o id b ∷ ts) (suc k) =
    feeds-cons b (take k (flat_map bytes_of ts)) ∙ ap (λ n. cond (is_feed b) 1 0 + n) (feeds-at ts k) ∙ sym (count-cons is_break (InlayByte o id b) (take k (at_places ts)))
feeds-at (Hidden o ∷ ts) (suc zero) = refl
feeds-at (Hidden o ∷ ts) (suc (suc zero)) = refl
feeds-at (Hidden o ∷ ts) (suc (suc (suc k))) =
    let bytes = take k (flat_map bytes_of ts) in
    let places = take k (at_places ts) in
    omega (
      arith,
      feeds-at ts k,
      feeds-cons 0xE2 (0x8B ∷ 0xAF ∷ bytes),
      feeds-cons 0x8B (0xAF ∷ bytes),
      feeds-cons 0xAF bytes,
      count-cons is_break (Hidden o) (Hidden o ∷ Hidden o ∷ places),
      count-cons is_break (Hidden o) (Hidden o ∷ places),
      count-cons is_break (Hidden o) places,
    )

-- how many lines are shown before the last one
abbrev pub all-feeds : Source → ℕ
all-feeds v = count_by is_feed (shown_text v)

row-at : (v : Source) (place : ℕ) → row_of (shown_text v) place ≡ count_by is_break (take place (layer_places v))
row-at v place = feeds-at (folded_to v.text v.inlays v.folds (length v.text) Right) place

rows-all : (v : Source) → all-feeds v ≡ count_by is_break (layer_places v)
rows-all v =
    let n = length (shown_text v) + length (layer_places v) in
    ap (count_by is_feed) (sym (take_all n (shown_text v) (omega arith)))
    ∙ row-at v n
    ∙ ap (count_by is_break) (take_all n (layer_places v) (omega arith))

module _ (shift : Option Reach) (v v' : Source) (r : Reach) (leads : Leads (map (token_after shift)) (layer_places v) (layer_places v') r) where
  pub row-before : row_of (shown_text v') r.start ≡ row_of (shown_text v) r.start
  row-before = row-at v' r.start ∙ ap (count_by is_break) leads.before ∙ sym (row-at v r.start)

  pub row-behind : row_of (shown_text v') (r.start + r.count) + all-feeds v ≡ row_of (shown_text v) r.end + all-feeds v'
  row-behind = omega (
    arith,
    row-at v' (r.start + r.count),
    row-at v r.end,
    rows-all v,
    rows-all v',
    count-cut r.end (layer_places v),
    count-cut (r.start + r.count) (layer_places v'),
    ap (count_by is_break) leads.behind,
    count-moved shift (drop r.end (layer_places v)),
  )

-- ---- the line of a position, by what is before it in the lower layer

-- the last of a list that ends in no break is not counted
count-but_last : (e : Bool) (xs : List Token) → ended is_break e xs ≡ false → count_by is_break (take (length xs - 1) xs) ≡ count_by is_break xs
count-but_last e [] h = refl
count-but_last e (x ∷ []) h = sym (count-cons is_break x [] ∙ ap (λ (b : Bool). cond b 1 0 + 0) h)
count-but_last e (x ∷ y ∷ ys) h =
    let at : length (x ∷ y ∷ ys) - 1 ≡ suc (length (y ∷ ys) - 1) = omega arith in
    ap (λ k. count_by is_break (take k (x ∷ y ∷ ys))) at
    ∙ count-cons is_break x (take (length (y ∷ ys) - 1) (y ∷ ys))
    ∙ ap (λ n. cond (is_break x) 1 0 + n) (count-but_last (is_break x) (y ∷ ys) h)
    ∙ sym (count-cons is_break x (y ∷ ys))

module _ (v : Source) where
  abbrev low : Source
  low = unfolded v

  abbrev L : List Token
  L = bare v.text v.inlays

  abbrev breaks-in : List Token → ℕ
  breaks-in ts = count_by is_break (fold_each v.folds ts)

  left-folded : (o : ℕ) → o ≤ length v.text → line_of v.text v.inlays v.folds o Left ≡ breaks-in (folded_to v.text v.inlays [] o Left)
  left-folded o u = go (inside v.folds o) refl ∙ ap (count_by is_break) (folded_before-folded v.folds v.inlays v.text o) where
    before : List Token
    before = folded_before v.text v.inlays v.folds o

    go : (c : Bool) → inside v.folds o ≡ c →
        count_by is_break (cond c (take (length (folded_before v.text v.inlays v.folds o) - 1) (folded_before v.text v.inlays v.folds o)) (folded_before v.text v.inlays v.folds o))
        ≡ count_by is_break (folded_before v.text v.inlays v.folds o)
    go false e = refl
    go true e = count-but_last true (folded_before v.text v.inlays v.folds o) (ended-inside v.inlays v.folds (take o v.text) (ap (inside v.folds) (length-take-le o v.text u) ∙ e))

  right-folded : (o : ℕ) → folded_to v.text v.inlays v.folds o Right ≡ fold_each v.folds (folded_to v.text v.inlays [] o Right)
  right-folded o = go (inside v.folds o) refl ∙ sym (flat_map-append (folded_token v.folds) (folded_before v.text v.inlays [] o) (inlays_at v.inlays o)) where
    go : (c : Bool) → inside v.folds o ≡ c →
        cond c (folded_before v.text v.inlays v.folds o) (folded_before v.text v.inlays v.folds o ++ inlays_at v.inlays o)
        ≡ fold_each v.folds (folded_before v.text v.inlays [] o) ++ fold_each v.folds (inlays_at v.inlays o)
    go true e =
        folded_before-folded v.folds v.inlays v.text o
        ∙ sym (append-nil (fold_each v.folds (folded_before v.text v.inlays [] o)))
        ∙ ap (λ ts. fold_each v.folds (folded_before v.text v.inlays [] o) ++ ts) (sym (inlays-folded v.folds o true e v.inlays))
    go false e = λ i. folded_before-folded v.folds v.inlays v.text o i ++ sym (inlays-folded v.folds o false e v.inlays) i

  pub line-left : (o : ℕ) → o ≤ length v.text → line_of v.text v.inlays v.folds o Left ≡ breaks-in (take (place_of low o Left) L)
  line-left o u = left-folded o u ∙ ap breaks-in (sym (take-bare v.text v.inlays o Left u))

  -- the breaks after a position
  pub line-right : (o : ℕ) → o ≤ length v.text → line_of v.text v.inlays v.folds o Right + breaks-in (drop (place_of low o Right) L) ≡ all-feeds v
  line-right o u =
      let place = place_of low o Right in
      let before : line_of v.text v.inlays v.folds o Right ≡ breaks-in (take place L) = ap (count_by is_break) (right-folded o ∙ ap (fold_each v.folds) (sym (take-bare v.text v.inlays o Right u))) in
      let all : all-feeds v ≡ breaks-in L = feeds-tokens (folded_to v.text v.inlays v.folds (length v.text) Right) ∙ ap (count_by is_break) (right-folded (length v.text)) in
      omega (
        arith,
        before,
        all,
        ap breaks-in (take-append-drop place L),
        ap (count_by is_break) (flat_map-append (folded_token v.folds) (take place L) (drop place L)),
        count-append (fold_each v.folds (take place L)) (fold_each v.folds (drop place L)),
      )

-- ---- a change of folds, over a layer that a replacement led to

-- the byte at an offset is a break where that is shown; that it may no longer be strictly inside a fold changes nothing
byte-breaks : (folds folds' : List Fold) (o p c : ℕ) → (inside folds o ≡ true → covered folds o ≡ true) → (inside folds o ≡ false → inside folds' p ≡ false) → covered folds' p ≡ covered folds o
    → count_by is_break (folded_token folds' (Byte p c)) ≡ count_by is_break (folded_token folds (Byte o c))
byte-breaks folds folds' o p c hides opens same =
    ap (λ k. count_by is_break (cond (inside folds' p) [] (cond k (Hidden p) (Byte p c) ∷ []))) same
    ∙ go (inside folds o) (inside folds' p) (covered folds o) hides opens where
      go : (i i' k : Bool) → (i ≡ true → k ≡ true) → (i ≡ false → i' ≡ false)
          → count_by is_break (cond i' [] (cond k (Hidden p) (Byte p c) ∷ [])) ≡ count_by is_break (cond i [] (cond k (Hidden o) (Byte o c) ∷ []))
      go true true k a b = refl
      go true false true a b = refl
      go true false false a b = absurd (false≢true (a refl))
      go false true k a b = absurd (false≢true (sym (b refl)))
      go false false true a b = refl
      go false false false a b = refl

module _ (shift : Option Reach) (v v' : Source) (start end last : ℕ) (alike : AreAlike v.folds v'.folds start end last) (opens : inside v.folds end ≡ false → inside v'.folds last ≡ false)
    (within : end ≤ length v.text) (size : length v'.text ≡ moved_on end last (length v.text))
    (s : Reach) (led : Leads (map (token_after shift)) (bare v.text v.inlays) (bare v'.text v'.inlays) s)
    (first : place_of (unfolded v) start Left ≤ s.start) (second : s.end ≤ place_of (unfolded v) end Right)
    (moves : (o : ℕ) → end ≤ o → offset_after shift o ≡ moved_on end last o) where
  abbrev old : List Token
  old = bare v.text v.inlays

  abbrev new : List Token
  new = bare v'.text v'.inlays

  abbrev left-place : ℕ
  left-place = place_of (unfolded v) start Left

  abbrev right-place : ℕ
  right-place = place_of (unfolded v) end Right

  before-alike : Every (λ t. HideAlike v.folds v'.folds (offset_of t) (offset_of t)) (take left-place old)
  before-alike =
      subst (Every (λ t. HideAlike v.folds v'.folds (offset_of t) (offset_of t))) (sym (take-bare v.text v.inlays start Left (let o = alike.order in omega (arith, o, within))))
      (every-by (λ t. offset_of t < start) (λ t. HideAlike v.folds v'.folds (offset_of t) (offset_of t))
      (λ t l. record { inside_as = alike.inside_before (offset_of t) l; covered_as = alike.covered_before (offset_of t) l })
      (folded_to v.text v.inlays [] start Left) (front-left v.text v.inlays start))

  pub starts-line : line_of v'.text v'.inlays v'.folds start Left ≡ line_of v.text v.inlays v.folds start Left
  starts-line =
      let o = alike.order in
      let r = alike.reach in
      let place = left-before shift v.text v'.text v.inlays v'.inlays s led start end last o within r size first second moves start (omega arith) in
      line-left v' start (omega (arith, o, r, within, size))
      ∙ ap (λ k. count_by is_break (fold_each v'.folds (take k new))) place
      ∙ ap (λ ts. count_by is_break (fold_each v'.folds ts)) (sym (take-take left-place s.start new first) ∙ ap (take left-place) led.before ∙ take-take left-place s.start old first)
      ∙ ap (count_by is_break) (each-same shift v.folds v'.folds (take left-place old) before-alike)
      ∙ sym (line-left v start (omega (arith, o, within)))

  -- ---- after it

  behind-is : drop (place_of (unfolded v') last Right) new ≡ map (token_after shift) (drop right-place old)
  behind-is =
      let o = alike.order in
      let r = alike.reach in
      let at : moved_on end last end ≡ last = omega arith in
      let place = right-behind shift v.text v'.text v.inlays v'.inlays s led start end last o within r size first second moves end (omega arith) within in
      ap (λ k. drop (place_of (unfolded v') k Right) new) (sym at)
      ∙ ap (λ k. drop k new) place
      ∙ behind-drop shift v.text v'.text v.inlays v'.inlays s led start end last o within r size first second moves right-place second

  -- offsets after the end go where folds hide the same
  alike-at : (o : ℕ) → end < o → HideAlike v.folds v'.folds o (offset_after shift o)
  alike-at o l =
      let there : offset_after shift o ≡ last + (o - end) = moves o (omega (arith, l)) ∙ omega arith in
      let here : end + (o - end) ≡ o = omega (arith, l) in
      record {
        covered_as = ap (covered v'.folds) there ∙ alike.covered_behind (o - end) ∙ ap (covered v.folds) here;
        inside_as = ap (inside v'.folds) there ∙ alike.inside_behind (o - end) (omega (arith, l)) ∙ ap (inside v.folds) here;
      }

  later-breaks : (ts : List Token) → Every (λ t. end < offset_of t) ts → count_by is_break (fold_each v'.folds (map (token_after shift) ts)) ≡ count_by is_break (fold_each v.folds ts)
  later-breaks ts a =
      ap (count_by is_break)
      (each-moved shift v.folds v'.folds ts (every-by (λ t. end < offset_of t) (λ t. HideAlike v.folds v'.folds (offset_of t) (offset_after shift (offset_of t))) (λ t l. alike-at (offset_of t) l) ts a))
      ∙ count-moved shift (fold_each v.folds ts)

  end-breaks : (c : ℕ) → count_by is_break (folded_token v'.folds (Byte (offset_after shift end) c)) ≡ count_by is_break (folded_token v.folds (Byte end c))
  end-breaks c =
      let there : offset_after shift end ≡ last = moves end (omega arith) ∙ omega arith in
      let here : end + 0 ≡ end = omega arith in
      let there' : offset_after shift end ≡ last + 0 = there ∙ omega arith in
      byte-breaks v.folds v'.folds end (offset_after shift end) c (inside_covered v.inlays v.folds end) (λ out. ap (inside v'.folds) there ∙ opens out)
      (ap (covered v'.folds) there' ∙ alike.covered_behind 0 ∙ ap (covered v.folds) here)

  rest-breaks : count_by is_break (fold_each v'.folds (map (token_after shift) (drop right-place old))) ≡ count_by is_break (fold_each v.folds (drop right-place old))
  rest-breaks = go (cases_lt end (length v.text)) where
    go : (end < length v.text) ⊎ (length v.text ≤ end) → count_by is_break (fold_each v'.folds (map (token_after shift) (drop right-place old))) ≡ count_by is_break (fold_each v.folds (drop right-place old))
    go (inl x) =
        let r = byte-at v.text v.inlays end x in
        let c = r.byte in
        let rest = r.rest in
        ap (λ ts. count_by is_break (fold_each v'.folds (map (token_after shift) ts))) r.is
        ∙ count-append (folded_token v'.folds (Byte (offset_after shift end) c)) (fold_each v'.folds (map (token_after shift) rest))
        ∙ (λ i. end-breaks c i + later-breaks rest r.later i)
        ∙ sym (count-append (folded_token v.folds (Byte end c)) (fold_each v.folds rest))
        ∙ ap (λ ts. count_by is_break (fold_each v.folds ts)) (sym r.is)
    go (inr x) =
        let none : drop right-place old ≡ [] = drop-bare v.text v.inlays end Right within ∙ ap (behind-from v.text v.inlays end) (drop_all end v.text x) in
        ap (λ ts. count_by is_break (fold_each v'.folds (map (token_after shift) ts))) none ∙ ap (λ ts. count_by is_break (fold_each v.folds ts)) (sym none)

  pub ends-line : line_of v'.text v'.inlays v'.folds last Right + all-feeds v ≡ line_of v.text v.inlays v.folds end Right + all-feeds v'
  ends-line =
      omega (
        arith,
        line-right v end within,
        line-right v' last (omega (arith, within, size)),
        ap (λ ts. count_by is_break (fold_each v'.folds ts)) behind-is,
        rest-breaks,
      )
