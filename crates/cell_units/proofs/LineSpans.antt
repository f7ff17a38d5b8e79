-- The line of a place: its number, and that its span has the row of the offset that is there.
use Rattle.std.proofs.Common.{◌≡◌, ℕ, ◌+◌, ◌-◌, ◌<◌, ◌≤◌, suc, zero, Bool, true, false, cond, List, [], ◌∷◌, ◌++◌, length, map, take, drop, get_or, flat_map, filter, eqb, refl, sym, ap, ◌∙◌, subst, inl, inr, arith, append-nil, append_assoc}
use Rattle.std.specs.List.{count_by}
use Rattle.std.proofs.lemmas.Bool.{cases_lt, false≢true, eqb-true}
use Rattle.std.proofs.lemmas.List.{drop_all, drop_more, take_more, length-take-le, length_push, take_at, take-append-drop, take-append-le}
use Rattle.std.proofs.lemmas.List.Concat.{flat_map-append}
use Rattle.std.proofs.lemmas.List.Sums.{sum_by-cons}
use Rattle.cell_units.specs.declared.place.Bias.{Bias}
use Rattle.cell_units.specs.declared.place.Bias.TheVariants.{Left, Right}
use Rattle.cell_units.specs.Text.{line_feed, is_feed, row_of, clean}
use Rattle.cell_units.specs.Cutting.{onto_line, cut_lines}
use Rattle.cell_units.specs.Record.{Inlay, Fold}
use Rattle.cell_units.specs.Inlaid.{Token, Byte, InlayByte, Hidden, offset_of, bytes_of, is_break, inlays_at, inlay_bytes, show_each}
use Rattle.cell_units.specs.Folded.{inside, covered, shown, folded, folded_before, folded_to, line_of, span_start, span_end}
use Rattle.cell_units.specs.Layers.{Source, place_of, shown_text, line_tokens, span_of}
use Rattle.cell_units.proofs.BufferLines.{feeds-append, feeds-cons}
use Rattle.cell_units.proofs.CutLists.{Every, Every-append, Every-left, Every-mono, Every-right}
use Rattle.cell_units.proofs.Joined.{covered_by, inside_of}
use Rattle.cell_units.proofs.ReplacedRows.{row_of-le}
use Rattle.cell_units.proofs.ShownText.{EndsOpen, Starts, folded_is, show_each-append, shown_by, starts, tokens_bytes}
use Rattle.cell_units.proofs.ShownPlaces.{place-le}

Every-map : (P Q : Token → Type 0) → ((t : Token) → P t → Q t) → (xs : List Token) → Every P xs → Every Q xs
Every-map P Q f xs h = Every-mono P Q xs f h

-- ---- feeds are breaks

abbrev breaks : List Token → ℕ
breaks [] = 0
breaks (t ∷ ts) = cond (is_break t) (suc (breaks ts)) (breaks ts)

count-breaks : (ts : List Token) → count_by is_break ts ≡ breaks ts
count-breaks [] = refl
count-breaks (t ∷ ts) = go (is_break t) (count-breaks ts) (sum_by-cons (λ (u : Token). cond (is_break u) 1 0) t ts) where
  go : (c : Bool) → count_by is_break ts ≡ breaks ts → count_by is_break (t ∷ ts) ≡ cond c 1 0 + count_by is_break ts → count_by is_break (t ∷ ts) ≡ cond c (suc (breaks ts)) (breaks ts)
  go true h e = omega (arith, h, e)
  go false h e = omega (arith, h, e)

feeds-one : (b : ℕ) → count_by is_feed (b ∷ []) ≡ cond (is_feed b) 1 0
feeds-one b = omega (arith, feeds-cons b [])

feeds-token : (t : Token) → count_by is_feed (bytes_of t) ≡ cond (is_break t) 1 0
feeds-token (Byte o b) = feeds-one b
feeds-token (InlayByte o id b) = feeds-one b
feeds-token (Hidden o) = refl

pub feeds-tokens : (ts : List Token) → count_by is_feed (tokens_bytes ts) ≡ count_by is_break ts
feeds-tokens [] = refl
feeds-tokens (t ∷ ts) =
    feeds-append (bytes_of t) (tokens_bytes ts)
    ∙ (λ i. feeds-token t i + feeds-tokens ts i)
    ∙ sym (sum_by-cons (λ (u : Token). cond (is_break u) 1 0) t ts)

-- ---- the line at which a list is cut in two

abbrev FirstIs : (Token → Type 0) → List Token → Type 0
FirstIs A [] = ⊥
FirstIs A (t ∷ ts) = A t

abbrev LastIs : (Token → Type 0) → List Token → Type 0
LastIs B [] = ⊥
LastIs B (t ∷ []) = B t
LastIs B (t ∷ u ∷ us) = LastIs B (u ∷ us)

abbrev ended : List Token → Bool
ended [] = true
ended (t ∷ []) = is_break t
ended (t ∷ u ∷ us) = ended (u ∷ us)

LastIs-push : (B : Token → Type 0) (xs : List Token) (y : Token) → B y → LastIs B (xs ++ y ∷ [])
LastIs-push B [] y h = h
LastIs-push B (x ∷ []) y h = h
LastIs-push B (x ∷ z ∷ zs) y h = LastIs-push B (z ∷ zs) y h

ended-push : (xs : List Token) (y : Token) → ended (xs ++ y ∷ []) ≡ is_break y
ended-push [] y = refl
ended-push (x ∷ []) y = refl
ended-push (x ∷ z ∷ zs) y = ended-push (z ∷ zs) y

module _ (A B : Token → Type 0) (q : Token) (qs : List Token) where
  abbrev cut : List Token → List (List Token)
  cut ts = cut_lines is_break (ts ++ q ∷ qs)

  -- the line's first token
  first-at : (ts : List Token) → Every A ts → (ended ts ≡ true → A q) → FirstIs A (get_or (cut ts) (breaks ts) [])
  first-at [] all h = subst (λ (ls : List (List Token)). FirstIs A (get_or ls 0 [])) (sym (starts q qs).is) (h refl)
  first-at (t ∷ []) all h = go (is_break t) refl (cut []) (starts q qs) where
    go : (c : Bool) → is_break t ≡ c → (ls : List (List Token)) → Starts q ls → FirstIs A (get_or (cond c ((t ∷ []) ∷ ls) (onto_line t ls)) (cond c 1 0) [])
    go true e ls s = subst (λ (ls : List (List Token)). FirstIs A (get_or ls 0 [])) (sym s.is) (h e)
    go false e ls s = subst (λ (ls : List (List Token)). FirstIs A (get_or (onto_line t ls) 0 [])) (sym s.is) all.0
  first-at (t ∷ u ∷ us) all h = go (is_break t) (cut (u ∷ us)) (starts u (us ++ q ∷ qs)) (breaks (u ∷ us)) (first-at (u ∷ us) all.1 h) where
    go : (c : Bool) (ls : List (List Token)) → Starts u ls → (k : ℕ) → FirstIs A (get_or ls k []) → FirstIs A (get_or (cond c ((t ∷ []) ∷ ls) (onto_line t ls)) (cond c (suc k) k) [])
    go true ls s k f = f
    go false ls s zero f = subst (λ (ls : List (List Token)). FirstIs A (get_or (onto_line t ls) 0 [])) (sym s.is) all.0
    go false ls s (suc k) f = subst (λ (ls : List (List Token)). FirstIs A (get_or (onto_line t ls) (suc k) [])) (sym s.is) (subst (λ (ls : List (List Token)). FirstIs A (get_or ls (suc k) [])) s.is f)

-- the first line's last token is a break
module _ (B : Token → Type 0) where
  abbrev OnBreak : Token → Type 0
  OnBreak t = is_break t ≡ true → B t

  abbrev IsBreak : Token → Type 0
  IsBreak t = is_break t ≡ true

  onto-last : (t u : Token) (ls : List (List Token)) → Starts u ls → (k : ℕ) → LastIs B (get_or ls k []) → LastIs B (get_or (onto_line t ls) k [])
  onto-last t u ls s zero f = subst (λ (ls : List (List Token)). LastIs B (get_or (onto_line t ls) 0 [])) (sym s.is) (subst (λ (ls : List (List Token)). LastIs B (get_or ls 0 [])) s.is f)
  onto-last t u ls s (suc k) f = subst (λ (ls : List (List Token)). LastIs B (get_or (onto_line t ls) (suc k) [])) (sym s.is) (subst (λ (ls : List (List Token)). LastIs B (get_or ls (suc k) [])) s.is f)

  last-first : (ts : List Token) → LastIs IsBreak ts → Every OnBreak ts → LastIs B (get_or (cut_lines is_break ts) 0 [])
  last-first [] l h = l
  last-first (t ∷ []) l h = go (is_break t) where
    go : (c : Bool) → LastIs B (get_or (cond c ((t ∷ []) ∷ []) (onto_line t [])) 0 [])
    go true = h.0 l
    go false = h.0 l
  last-first (t ∷ u ∷ us) l h = go (is_break t) refl (cut_lines is_break (u ∷ us)) (starts u us) (last-first (u ∷ us) l h.1) where
    go : (c : Bool) → is_break t ≡ c → (ls : List (List Token)) → Starts u ls → LastIs B (get_or ls 0 []) → LastIs B (get_or (cond c ((t ∷ []) ∷ ls) (onto_line t ls)) 0 [])
    go true e ls s f = h.0 e
    go false e ls s f = onto-last t u ls s 0 f

  last-at : (ts : List Token) (q : Token) (qs : List Token) → LastIs IsBreak (q ∷ qs) → Every OnBreak (q ∷ qs) → LastIs B (get_or (cut_lines is_break (ts ++ q ∷ qs)) (breaks ts) [])
  last-at [] q qs l h = last-first (q ∷ qs) l h
  last-at (t ∷ []) q qs l h = go (is_break t) (cut_lines is_break (q ∷ qs)) (starts q qs) (last-first (q ∷ qs) l h) where
    go : (c : Bool) (ls : List (List Token)) → Starts q ls → LastIs B (get_or ls 0 []) → LastIs B (get_or (cond c ((t ∷ []) ∷ ls) (onto_line t ls)) (cond c 1 0) [])
    go true ls s f = f
    go false ls s f = onto-last t q ls s 0 f
  last-at (t ∷ u ∷ us) q qs l h = go (is_break t) (cut_lines is_break (u ∷ us ++ q ∷ qs)) (starts u (us ++ q ∷ qs)) (breaks (u ∷ us)) (last-at (u ∷ us) q qs l h) where
    go : (c : Bool) (ls : List (List Token)) → Starts u ls → (k : ℕ) → LastIs B (get_or ls k []) → LastIs B (get_or (cond c ((t ∷ []) ∷ ls) (onto_line t ls)) (cond c (suc k) k) [])
    go true ls s k f = f
    go false ls s k f = onto-last t u ls s k f

-- ---- offsets

abbrev pub IsAt : ℕ → Token → Type 0
IsAt o t = offset_of t ≡ o

inlay-at : (o id : ℕ) (bs : List ℕ) → Every (IsAt o) (map (InlayByte o id) bs)
inlay-at o id [] = tt
inlay-at o id (b ∷ bs) = (refl, inlay-at o id bs)

pub inlays-at : (inlays : List Inlay) (o : ℕ) → Every (IsAt o) (inlays_at inlays o)
inlays-at [] o = tt
inlays-at (i ∷ is) o = go (eqb i.offset o) refl (inlays-at is o) where
  go : (d : Bool) → eqb i.offset o ≡ d → Every (IsAt o) (inlays_at is o) →
      Every (IsAt o) (flat_map inlay_bytes (cond d (i ∷ filter (λ i. eqb i.offset o) is) (filter (λ i. eqb i.offset o) is)))
  go false e h = h
  go true e h =
      Every-append (IsAt o) (inlay_bytes i) (inlays_at is o)
      (Every-map (IsAt i.offset) (IsAt o) (λ t is. is ∙ eqb-true i.offset o e) (inlay_bytes i) (inlay-at i.offset i.id (clean i.text)))
      h

own_at : (c : Bool) (o b : ℕ) → offset_of (cond c (Hidden o) (Byte o b)) ≡ o
own_at true o b = refl
own_at false o b = refl

shown-at : (inlays : List Inlay) (folds : List Fold) (o b : ℕ) → Every (IsAt o) (shown inlays folds o b)
shown-at inlays folds o b = go (inside folds o) where
  go : (i : Bool) → Every (IsAt o) (cond i [] (inlays_at inlays o ++ (cond (covered folds o) (Hidden o) (Byte o b)) ∷ []))
  go true = tt
  go false = Every-append (IsAt o) (inlays_at inlays o) ((cond (covered folds o) (Hidden o) (Byte o b)) ∷ []) (inlays-at inlays o) (own_at (covered folds o) o b, tt)

abbrev IsBetween : ℕ → ℕ → Token → Type 0
IsBetween a z t = (a ≤ offset_of t) × (offset_of t < z)

each-between : (inlays : List Inlay) (folds : List Fold) (o : ℕ) (bs : List ℕ) → Every (IsBetween o (o + length bs)) (show_each (shown inlays folds) o bs)
each-between inlays folds o [] = tt
each-between inlays folds o (b ∷ bs) =
    Every-append (IsBetween o (o + length (b ∷ bs))) (shown inlays folds o b) (show_each (shown inlays folds) (o + 1) bs)
    (Every-map (IsAt o) (IsBetween o (o + length (b ∷ bs))) (λ t h. (omega (arith, h), omega (arith, h))) (shown inlays folds o b) (shown-at inlays folds o b))
    (Every-map (IsBetween (o + 1) (o + 1 + length bs)) (IsBetween o (o + length (b ∷ bs))) (λ t h. (omega (arith, h.0), omega (arith, h.1))) (show_each (shown inlays folds) (o + 1) bs) (each-between inlays folds (o + 1) bs))

last_of : (xs : List Token) (y : Token) (ys : List Token) → LastIs (λ t. is_break t ≡ true) (xs ++ y ∷ ys) → LastIs (λ t. is_break t ≡ true) (y ∷ ys)
last_of [] y ys h = h
last_of (x ∷ []) y ys h = h
last_of (x ∷ z ∷ zs) y ys h = last_of (z ∷ zs) y ys h

-- ---- a position cuts what is shown in two

module _ (s : Source) (w : EndsOpen s) where
  abbrev g : ℕ → ℕ → List Token
  g = shown s.inlays s.folds

  abbrev n : ℕ
  n = length s.text

  abbrev close : Token
  close = Byte n line_feed

  abbrev before : ℕ → List Token
  before o = folded_before s.text s.inlays s.folds o

  abbrev at_end : List Token
  at_end = inlays_at s.inlays n ++ close ∷ []

  abbrev behind : ℕ → List Token
  behind o = show_each g o (drop o s.text) ++ at_end

  record CutAt (o : ℕ) (P : List Token) : Type 0 where
    head : Token
    rest : List Token
    is : folded s.text s.inlays s.folds ≡ P ++ head ∷ rest
    all : Every (λ t. offset_of t ≤ o) P
    ready : ended P ≡ true → offset_of head ≤ o
    last : LastIs (λ t. is_break t ≡ true) (head ∷ rest)
    from : Every (λ t. is_break t ≡ true → o ≤ offset_of t) (head ∷ rest)

  whole : (o : ℕ) → o ≤ n → folded s.text s.inlays s.folds ≡ before o ++ behind o
  whole o le =
      let here : 0 + length (take o s.text) ≡ o = omega (arith, length-take-le o s.text le) in
      let zero_n : 0 + n ≡ n = omega arith in
      show_each-append g 0 s.text (line_feed ∷ [])
      ∙ (λ i. show_each g 0 (sym (take-append-drop o s.text) i) ++ show_each g (zero_n i) (line_feed ∷ []))
      ∙ (λ i. show_each-append g 0 (take o s.text) (drop o s.text) i ++ (append-nil (g n line_feed) ∙ shown_by s.inlays s.folds n line_feed false false w.0 w.1) i)
      ∙ (λ i. (show_each g 0 (take o s.text) ++ show_each g (here i) (drop o s.text)) ++ at_end)
      ∙ append_assoc (before o) (show_each g o (drop o s.text)) at_end

  before-below : (o : ℕ) → o ≤ n → Every (λ t. offset_of t < o) (before o)
  before-below o le =
      Every-map (IsBetween 0 (0 + length (take o s.text))) (λ t. offset_of t < o) (λ t h. omega (arith, h.1, length-take-le o s.text le)) (before o)
      (each-between s.inlays s.folds 0 (take o s.text))

  behind-from : (o : ℕ) → o ≤ n → Every (λ t. o ≤ offset_of t) (behind o)
  behind-from o le =
      Every-append (λ t. o ≤ offset_of t) (show_each g o (drop o s.text)) at_end
      (Every-map (IsBetween o (o + length (drop o s.text))) (λ t. o ≤ offset_of t) (λ t h. h.0) (show_each g o (drop o s.text)) (each-between s.inlays s.folds o (drop o s.text)))
      (Every-append (λ t. o ≤ offset_of t) (inlays_at s.inlays n) (close ∷ [])
      (Every-map (IsAt n) (λ t. o ≤ offset_of t) (λ t h. omega (arith, h, le)) (inlays_at s.inlays n) (inlays-at s.inlays n))
      (le, tt))

  -- what comes after, up to the break at the text's end
  behind-ends : (xs : List Token) (o : ℕ) → LastIs (λ t. is_break t ≡ true) (xs ++ behind o)
  behind-ends xs o =
      subst (LastIs (λ t. is_break t ≡ true)) (append_assoc xs (show_each g o (drop o s.text) ++ inlays_at s.inlays n) (close ∷ []) ∙ ap (λ (l : List Token). xs ++ l) (append_assoc (show_each g o (drop o s.text)) (inlays_at s.inlays n) (close ∷ [])))
      (LastIs-push (λ t. is_break t ≡ true) (xs ++ (show_each g o (drop o s.text) ++ inlays_at s.inlays n)) close refl)

  -- ---- where a fold reaches over the offset

  record IsHiddenAt (o : ℕ) : Type 0 where
    front : List Token
    start : ℕ
    is : before o ≡ front ++ Hidden start ∷ []
    below : start < o

  before_next : (k : ℕ) → k < n → before (k + 1) ≡ before k ++ g k (get_or s.text k 0)
  before_next k lt =
      let at : 0 + length (take k s.text) ≡ k = omega (arith, length-take-le k s.text (omega arith)) in
      ap (show_each g 0) (take_more s.text k 0 lt)
      ∙ show_each-append g 0 (take k s.text) (get_or s.text k 0 ∷ [])
      ∙ (λ i. show_each g 0 (take k s.text) ++ append-nil (g (at i) (get_or s.text k 0)) i)

  hidden-at : (o : ℕ) → o ≤ n → inside s.folds o ≡ true → IsHiddenAt o
  hidden-at zero le h = absurd (omega (arith, (inside_of s.folds 0 h).2))
  hidden-at (suc k) le h = go (inside s.folds k) refl (λ i. hidden-at k (omega arith) i) where
    one : k + 1 ≡ suc k
    one = omega arith

    next : before (suc k) ≡ before k ++ g k (get_or s.text k 0)
    next = ap before (sym one) ∙ before_next k (omega arith)

    starts_here : covered s.folds k ≡ true
    starts_here = let r = inside_of s.folds (suc k) h in covered_by s.folds k r.0 r.1 (omega (arith, r.2)) (omega (arith, r.3))

    go : (i : Bool) → inside s.folds k ≡ i → (inside s.folds k ≡ true → IsHiddenAt k) → IsHiddenAt (suc k)
    go true i rest =
        let r = rest i in
        record {
          front = r.front;
          start = r.start;
          is = next ∙ ap (λ (l : List Token). before k ++ l) (shown_by s.inlays s.folds k (get_or s.text k 0) true true i starts_here) ∙ append-nil (before k) ∙ r.is;
          below = omega (arith, r.below);
        }
    go false i rest = record {
      front = before k ++ inlays_at s.inlays k;
      start = k;
      is = next ∙ ap (λ (l : List Token). before k ++ l) (shown_by s.inlays s.folds k (get_or s.text k 0) false true i starts_here) ∙ sym (append_assoc (before k) (inlays_at s.inlays k) (Hidden k ∷ []));
      below = omega arith;
    }

  cut-left-hidden : (o : ℕ) → o ≤ n → IsHiddenAt o → CutAt o (take (length (before o) - 1) (before o))
  cut-left-hidden o le r =
      let front_is : take (length (before o) - 1) (before o) ≡ r.front =
      ap (λ (l : List Token). take (length l - 1) l) r.is ∙ take_at r.front (Hidden r.start ∷ []) (length (r.front ++ Hidden r.start ∷ []) - 1) (omega (arith, length_push r.front (Hidden r.start))) in
      subst (CutAt o) (sym front_is) (record {
        head = Hidden r.start;
        rest = behind o;
        is = whole o le ∙ ap (λ (l : List Token). l ++ behind o) r.is ∙ append_assoc r.front (Hidden r.start ∷ []) (behind o);
        all = Every-map (λ t. offset_of t < o) (λ t. offset_of t ≤ o) (λ t h. omega (arith, h)) r.front (Every-left (λ t. offset_of t < o) r.front (Hidden r.start ∷ []) (subst (Every (λ t. offset_of t < o)) r.is (before-below o le)));
        ready = λ _. omega (arith, r.below);
        last = behind-ends (Hidden r.start ∷ []) o;
        from = ((λ e. absurd (false≢true e)), Every-map (λ t. o ≤ offset_of t) (λ t. is_break t ≡ true → o ≤ offset_of t) (λ t h _. h) (behind o) (behind-from o le));
      })

  cut-right-hidden : (o : ℕ) → o ≤ n → IsHiddenAt o → CutAt o (before o)
  cut-right-hidden o le r = go (behind o) refl (behind-ends [] o) (behind-from o le) where
    closed : ended (before o) ≡ false
    closed = ap ended r.is ∙ ended-push r.front (Hidden r.start)

    go : (ts : List Token) → behind o ≡ ts → LastIs (λ t. is_break t ≡ true) ts → Every (λ t. o ≤ offset_of t) ts → CutAt o (before o)
    go [] e l h = absurd l
    go (t ∷ ts) e l h = record {
      head = t;
      rest = ts;
      is = whole o le ∙ ap (λ (l : List Token). before o ++ l) e;
      all = Every-map (λ t. offset_of t < o) (λ t. offset_of t ≤ o) (λ t h. omega (arith, h)) (before o) (before-below o le);
      ready = λ f. absurd (false≢true (sym closed ∙ f));
      last = l;
      from = Every-map (λ t. o ≤ offset_of t) (λ t. is_break t ≡ true → o ≤ offset_of t) (λ t h _. h) (t ∷ ts) h;
    }

  -- ---- where none does

  -- the inlays at an offset and its own token, with what comes after them
  record IsOpenAt (o : ℕ) : Type 0 where
    own : Token
    rest : List Token
    is : behind o ≡ inlays_at s.inlays o ++ own ∷ rest
    at : offset_of own ≡ o

  open-at : (o : ℕ) → o ≤ n → inside s.folds o ≡ false → IsOpenAt o
  open-at o le out = elim (cases_lt o n) [
    | inl lt ↦
        let b = get_or s.text o 0 in
        let own = cond (covered s.folds o) (Hidden o) (Byte o b) in
        let later = show_each g (o + 1) (drop (o + 1) s.text) in
        record {
          own = own;
          rest = later ++ at_end;
          is = ap (λ (l : List ℕ). show_each g o l ++ at_end) (drop_more s.text o 0 lt)
              ∙ ap (λ (l : List Token). (l ++ later) ++ at_end) (shown_by s.inlays s.folds o b false (covered s.folds o) out refl)
              ∙ append_assoc (inlays_at s.inlays o ++ own ∷ []) later at_end
              ∙ append_assoc (inlays_at s.inlays o) (own ∷ []) (later ++ at_end);
          at = own_at (covered s.folds o) o b;
        }
    | inr past ↦
        let here : n ≡ o = omega (arith, past, le) in
        record {
          own = close;
          rest = [];
          is = ap (λ (l : List ℕ). show_each g o l ++ at_end) (drop_all o s.text past) ∙ ap (λ (k : ℕ). inlays_at s.inlays k ++ close ∷ []) here;
          at = here;
        }
  ]

  cut-right-open : (o : ℕ) → o ≤ n → IsOpenAt o → CutAt o (before o ++ inlays_at s.inlays o)
  cut-right-open o le r =
      let from = subst (Every (λ t. o ≤ offset_of t)) r.is (behind-from o le) in
      record {
        head = r.own;
        rest = r.rest;
        is = whole o le ∙ ap (λ (l : List Token). before o ++ l) r.is ∙ sym (append_assoc (before o) (inlays_at s.inlays o) (r.own ∷ r.rest));
        all = Every-append (λ t. offset_of t ≤ o) (before o) (inlays_at s.inlays o)
            (Every-map (λ t. offset_of t < o) (λ t. offset_of t ≤ o) (λ t h. omega (arith, h)) (before o) (before-below o le))
            (Every-map (IsAt o) (λ t. offset_of t ≤ o) (λ t h. omega (arith, h)) (inlays_at s.inlays o) (inlays-at s.inlays o));
        ready = λ _. omega (arith, r.at);
        last = last_of (inlays_at s.inlays o) r.own r.rest (subst (LastIs (λ t. is_break t ≡ true)) r.is (behind-ends [] o));
        from = Every-map (λ t. o ≤ offset_of t) (λ t. is_break t ≡ true → o ≤ offset_of t) (λ t h _. h) (r.own ∷ r.rest) (Every-right (λ t. o ≤ offset_of t) (inlays_at s.inlays o) (r.own ∷ r.rest) from);
      }

  cut-left-open : (o : ℕ) → o ≤ n → IsOpenAt o → CutAt o (before o)
  cut-left-open o le r = go (inlays_at s.inlays o) refl (inlays-at s.inlays o) where
    from : Every (λ t. is_break t ≡ true → o ≤ offset_of t) (inlays_at s.inlays o ++ r.own ∷ r.rest)
    from = Every-map (λ t. o ≤ offset_of t) (λ t. is_break t ≡ true → o ≤ offset_of t) (λ t h _. h) (inlays_at s.inlays o ++ r.own ∷ r.rest) (subst (Every (λ t. o ≤ offset_of t)) r.is (behind-from o le))

    ends : LastIs (λ t. is_break t ≡ true) (inlays_at s.inlays o ++ r.own ∷ r.rest)
    ends = subst (LastIs (λ t. is_break t ≡ true)) r.is (behind-ends [] o)

    make : (q : Token) (qs : List Token) → inlays_at s.inlays o ++ r.own ∷ r.rest ≡ q ∷ qs → offset_of q ≡ o → CutAt o (before o)
    make q qs e at = record {
      head = q;
      rest = qs;
      is = whole o le ∙ ap (λ (l : List Token). before o ++ l) (r.is ∙ e);
      all = Every-map (λ t. offset_of t < o) (λ t. offset_of t ≤ o) (λ t h. omega (arith, h)) (before o) (before-below o le);
      ready = λ _. omega (arith, at);
      last = subst (LastIs (λ t. is_break t ≡ true)) e ends;
      from = subst (Every (λ t. is_break t ≡ true → o ≤ offset_of t)) e from;
    }

    go : (xs : List Token) → inlays_at s.inlays o ≡ xs → Every (IsAt o) xs → CutAt o (before o)
    go [] e h = make r.own r.rest (ap (λ (l : List Token). l ++ r.own ∷ r.rest) e) r.at
    go (x ∷ xs) e h = make x (xs ++ r.own ∷ r.rest) (ap (λ (l : List Token). l ++ r.own ∷ r.rest) e) h.0

  cut-at : (o : ℕ) (bias : Bias) → o ≤ n → CutAt o (folded_to s.text s.inlays s.folds o bias)
  cut-at o Left le = go (inside s.folds o) refl where
    go : (i : Bool) → inside s.folds o ≡ i → CutAt o (cond i (take (length (before o) - 1) (before o)) (before o))
    go true i = cut-left-hidden o le (hidden-at o le i)
    go false i = cut-left-open o le (open-at o le i)
  cut-at o Right le = go (inside s.folds o) refl where
    go : (i : Bool) → inside s.folds o ≡ i → CutAt o (cond i (before o) (before o ++ inlays_at s.inlays o))
    go true i = cut-right-hidden o le (hidden-at o le i)
    go false i = cut-right-open o le (open-at o le i)

  -- ---- and so

  abbrev line : ℕ → Bias → ℕ
  line o bias = line_of s.text s.inlays s.folds o bias

  -- the span of a position's line has its row
  pub span-has : (o : ℕ) (bias : Bias) → o ≤ n → ((span_of s (line o bias)).0 ≤ row_of s.text o) × (row_of s.text o ≤ (span_of s (line o bias)).1)
  span-has o bias le =
      let P = folded_to s.text s.inlays s.folds o bias in
      let r = cut-at o bias le in
      let same : get_or (cut_lines is_break (P ++ r.head ∷ r.rest)) (breaks P) [] ≡ line_tokens s (line o bias) =
      λ i. get_or (cut_lines is_break (sym r.is i)) (sym (count-breaks P) i) [] in
      let first = first-at (λ t. offset_of t ≤ o) (λ t. o ≤ offset_of t) r.head r.rest P r.all r.ready in
      let last = last-at (λ t. o ≤ offset_of t) P r.head r.rest r.last r.from in
      (start-le o (line_tokens s (line o bias)) (subst (FirstIs (λ t. offset_of t ≤ o)) same first), end-ge o (line_tokens s (line o bias)) (subst (LastIs (λ t. o ≤ offset_of t)) same last)) where
        start-le : (o : ℕ) (ts : List Token) → FirstIs (λ t. offset_of t ≤ o) ts → span_start s.text ts ≤ row_of s.text o
        start-le o [] h = absurd h
        start-le o (t ∷ ts) h = row_of-le s.text (offset_of t) o h

        end-ge : (o : ℕ) (ts : List Token) → LastIs (λ t. o ≤ offset_of t) ts → row_of s.text o ≤ span_end s.text ts
        end-ge o [] h = absurd h
        end-ge o (t ∷ []) h = row_of-le s.text o (offset_of t) h
        end-ge o (t ∷ u ∷ us) h = end-ge o (u ∷ us) h

  -- before a place lie the bytes before its position
  pub bytes-before : (o : ℕ) (bias : Bias) → o ≤ n → take (place_of s o bias) (shown_text s) ≡ tokens_bytes (folded_to s.text s.inlays s.folds o bias)
  bytes-before o bias le =
      let P = folded_to s.text s.inlays s.folds o bias in
      let T = folded_to s.text s.inlays s.folds n Right in
      let r = cut-at o bias le in
      let longer : tokens_bytes T ++ line_feed ∷ [] ≡ tokens_bytes P ++ tokens_bytes (r.head ∷ r.rest) =
      sym (flat_map-append bytes_of T (close ∷ []))
      ∙ ap tokens_bytes (sym (folded_is s w) ∙ r.is)
      ∙ flat_map-append bytes_of P (r.head ∷ r.rest) in
      sym (take-append-le (length (tokens_bytes P)) (tokens_bytes T) (line_feed ∷ []) (place-le s o bias le))
      ∙ ap (take (length (tokens_bytes P))) longer
      ∙ take_at (tokens_bytes P) (tokens_bytes (r.head ∷ r.rest)) (length (tokens_bytes P)) refl

  -- the row of a place is the line of its position
  pub place-line : (o : ℕ) (bias : Bias) → o ≤ n → row_of (shown_text s) (place_of s o bias) ≡ line o bias
  place-line o bias le = ap (count_by is_feed) (bytes-before o bias le) ∙ feeds-tokens (folded_to s.text s.inlays s.folds o bias)
