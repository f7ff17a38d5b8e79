-- The places of a layer with folds, by those of the layer without.
use Rattle.std.proofs.Common.{◌≡◌, ℕ, ◌+◌, ◌-◌, ◌<◌, ◌≤◌, Bool, false, cond, List, [], ◌∷◌, ◌++◌, length, take, drop, refl, sym, ap, ◌∙◌, arith, append-nil, append_assoc}
use Rattle.std.proofs.lemmas.List.{drop-take, length-drop, length-take-le, length_push, take-append-drop, take-take, take_at}
use Rattle.std.specs.List.{count_by}
use Rattle.std.proofs.lemmas.List.Sums.{sum_by-append}
use Rattle.cell_units.specs.declared.place.Bias.TheVariants.{Left, Right}
use Rattle.cell_units.specs.Record.{Inlay, Fold}
use Rattle.cell_units.specs.Inlaid.{Token, Hidden, inlays_at, is_break, show_each}
use Rattle.cell_units.specs.Folded.{inside, covered, shown, folded_before, line_of}
use Rattle.cell_units.specs.Joined.{IsJoined, ShowsOnePlaceholder}
use Rattle.cell_units.specs.Layers.{Source, place_of}
use Rattle.cell_units.proofs.Joined.{IsJoined-hides, IsJoined-shows, inside-shows_none, shown-inlaid, shown-start}
use Rattle.cell_units.proofs.ShownText.{show_each-append, size, size-append}

-- the bytes from one offset on
abbrev part : List ℕ → ℕ → ℕ → List ℕ
part text o m = take m (drop o text)

before_part : (g : ℕ → ℕ → List Token) (text : List ℕ) (o m : ℕ) → o + m ≤ length text →
    show_each g 0 (take (o + m) text) ≡ show_each g 0 (take o text) ++ show_each g o (part text o m)
before_part g text o m le =
    let at : 0 + length (take o text) ≡ o = omega (arith, length-take-le o text (omega arith)) in
    let two : take (o + m) text ≡ take o text ++ part text o m =
    sym (take-append-drop o (take (o + m) text)) ∙ (λ i. take-take o (o + m) text (omega arith) i ++ drop-take o m text i) in
    ap (show_each g 0) two
    ∙ show_each-append g 0 (take o text) (part text o m)
    ∙ ap (λ (k : ℕ). show_each g 0 (take o text) ++ show_each g k (part text o m)) at

module _ (inlays : List Inlay) (folds : List Fold) where
  -- bytes that no fold hides show what they show without folds
  pub uncovered-shows : (o : ℕ) (bs : List ℕ) → ((k : ℕ) → o ≤ k → k < o + length bs → covered folds k ≡ false) →
      show_each (shown inlays folds) o bs ≡ show_each (shown inlays []) o bs
  uncovered-shows o [] h = refl
  uncovered-shows o (b ∷ bs) h =
      λ i. shown-inlaid folds inlays o (h o (omega arith) (omega arith)) b i ++ uncovered-shows (o + 1) bs (λ k l u. h k (omega (arith, l)) (omega (arith, u))) i

module _ (text : List ℕ) (inlays : List Inlay) (folds : List Fold) where
  abbrev below : Source
  below = record { text = text; inlays = inlays; folds = [] }

  abbrev above : Source
  above = record { text = text; inlays = inlays; folds = folds }

  open_left : (o : ℕ) → inside folds o ≡ false → place_of above o Left ≡ size (folded_before text inlays folds o)
  open_left o out = ap (λ (i : Bool). size (cond i (take (length (folded_before text inlays folds o) - 1) (folded_before text inlays folds o)) (folded_before text inlays folds o))) out

  open_right : (o : ℕ) → inside folds o ≡ false → place_of above o Right ≡ size (folded_before text inlays folds o) + size (inlays_at inlays o)
  open_right o out =
      ap (λ (i : Bool). size (cond i (folded_before text inlays folds o) (folded_before text inlays folds o ++ inlays_at inlays o))) out
      ∙ size-append (folded_before text inlays folds o) (inlays_at inlays o)

  -- from one open offset to another that no fold separates it from, there are as many bytes as in the lower layer
  pub places-apart : (o p : ℕ) → o ≤ p → p ≤ length text → inside folds o ≡ false → inside folds p ≡ false →
      ((k : ℕ) → o ≤ k → k < p → covered folds k ≡ false) →
      place_of above p Left + place_of below o Left ≡ place_of above o Left + place_of below p Left
  places-apart o p le within out out' none =
      let m = p - o in
      let there : o + m ≡ p = omega arith in
      let up = before_part (shown inlays folds) text o m (omega arith) in
      let low = before_part (shown inlays []) text o m (omega arith) in
      let long : length (part text o m) ≡ m = length-take-le m (drop o text) (omega (arith, length-drop o text)) in
      let same = uncovered-shows inlays folds o (part text o m) (λ k l u. none k l (omega (arith, u, long))) in
      let high : size (folded_before text inlays folds p) ≡ size (folded_before text inlays folds o) + size (show_each (shown inlays []) o (part text o m)) =
      ap (λ (q : ℕ). size (folded_before text inlays folds q)) (sym there)
      ∙ ap size up
      ∙ size-append (folded_before text inlays folds o) (show_each (shown inlays folds) o (part text o m))
      ∙ ap (λ (l : List Token). size (folded_before text inlays folds o) + size l) same in
      let deep : size (folded_before text inlays [] p) ≡ size (folded_before text inlays [] o) + size (show_each (shown inlays []) o (part text o m)) =
      ap (λ (q : ℕ). size (folded_before text inlays [] q)) (sym there)
      ∙ ap size low
      ∙ size-append (folded_before text inlays [] o) (show_each (shown inlays []) o (part text o m)) in
      omega (arith, high, deep, open_left o out, open_left p out')

  -- a joined fold's end lies after its placeholder, which lies after the inlays at its start
  pub place-behind : (s e : ℕ) → IsJoined folds s e → s ≤ e → e ≤ length text → place_of above e Left ≡ place_of above s Right + 3
  place-behind s e j le within =
      let is = IsJoined-shows folds s e j in
      let m = e - s in
      let there : s + m ≡ e = omega arith in
      let long : length (part text s m) ≡ m = length-take-le m (drop s text) (omega (arith, length-drop s text)) in
      let hidden = IsJoined-hides folds inlays s e j (part text s m) (omega (arith, long)) in
      let high : size (folded_before text inlays folds e) ≡ size (folded_before text inlays folds s) + size (inlays_at inlays s ++ Hidden s ∷ []) =
      ap (λ (q : ℕ). size (folded_before text inlays folds q)) (sym there)
      ∙ ap size (before_part (shown inlays folds) text s m (omega arith))
      ∙ size-append (folded_before text inlays folds s) (show_each (shown inlays folds) s (part text s m))
      ∙ ap (λ (l : List Token). size (folded_before text inlays folds s) + size l) hidden in
      omega (arith, high, size-append (inlays_at inlays s) (Hidden s ∷ []), open_left e is.3, open_right s is.1)

  -- the inlays at an open offset lie between its places
  pub places-of_inlays : (o : ℕ) → inside folds o ≡ false → place_of above o Right ≡ place_of above o Left + size (inlays_at inlays o)
  places-of_inlays o out = omega (arith, open_left o out, open_right o out)

  hidden_before : (s e o : ℕ) → IsJoined folds s e → s < o → o < e → e ≤ length text →
      folded_before text inlays folds o ≡ (folded_before text inlays folds s ++ inlays_at inlays s) ++ Hidden s ∷ []
  hidden_before s e o j from to within =
      let is = IsJoined-shows folds s e j in
      let m = o - s in
      let there : s + m ≡ o = omega arith in
      let long : length (part text s m) ≡ m = length-take-le m (drop s text) (omega (arith, length-drop s text)) in
      ap (folded_before text inlays folds) (sym there)
      ∙ before_part (shown inlays folds) text s m (omega arith)
      ∙ ap (λ (l : List Token). folded_before text inlays folds s ++ l) (hides (part text s m) (omega (arith, long)) (omega (arith, long)) is)
      ∙ sym (append_assoc (folded_before text inlays folds s) (inlays_at inlays s) (Hidden s ∷ [])) where
        hides : (bytes : List ℕ) → 0 < length bytes → s + length bytes ≤ e → ShowsOnePlaceholder folds s e → show_each (shown inlays folds) s bytes ≡ inlays_at inlays s ++ Hidden s ∷ []
        hides [] some le is = absurd (omega (arith, some))
        hides (b ∷ bs) some le is =
            (λ i. shown-start folds inlays s b (is.0, is.1) i ++ inside-shows_none folds inlays (s + 1) bs (λ k x y. is.2 k (omega (arith, x)) (omega (arith, y, le))) i)
            ∙ append-nil (inlays_at inlays s ++ Hidden s ∷ [])

  -- an offset strictly inside a joined fold is at its placeholder's start (Left) and end (Right)
  pub places-within : (s e o : ℕ) → IsJoined folds s e → s < o → o < e → e ≤ length text →
      (place_of above o Left ≡ place_of above s Right) × (place_of above o Right ≡ place_of above s Right + 3)
  places-within s e o j from to within =
      let is = IsJoined-shows folds s e j in
      let B = folded_before text inlays folds o in
      let X = folded_before text inlays folds s ++ inlays_at inlays s in
      let b = hidden_before s e o j from to within in
      let i = is.2 o from to in
      let start : place_of above s Right ≡ size X = omega (arith, open_right s is.1, size-append (folded_before text inlays folds s) (inlays_at inlays s)) in
      let left : place_of above o Left ≡ size X =
      ap (λ (c : Bool). size (cond c (take (length B - 1) B) B)) i
      ∙ ap (λ (l : List Token). size (take (length l - 1) l)) b
      ∙ ap size (take_at X (Hidden s ∷ []) (length (X ++ Hidden s ∷ []) - 1) (omega (arith, length_push X (Hidden s)))) in
      let right : place_of above o Right ≡ size X + 3 =
      ap (λ (c : Bool). size (cond c B (B ++ inlays_at inlays o))) i
      ∙ ap size b
      ∙ size-append X (Hidden s ∷ []) in
      (omega (arith, start, left), omega (arith, start, right))

-- ---- the lines of places

breaks-append : (xs ys : List Token) → count_by is_break (xs ++ ys) ≡ count_by is_break xs + count_by is_break ys
breaks-append xs ys = sum_by-append (λ (t : Token). cond (is_break t) 1 0) xs ys

module _ (text : List ℕ) (inlays : List Inlay) (folds : List Fold) where
  open_line : (o : ℕ) → inside folds o ≡ false → line_of text inlays folds o Left ≡ count_by is_break (folded_before text inlays folds o)
  open_line o out = ap (λ (i : Bool). count_by is_break (cond i (take (length (folded_before text inlays folds o) - 1) (folded_before text inlays folds o)) (folded_before text inlays folds o))) out

  open_right_line : (o : ℕ) → inside folds o ≡ false →
      line_of text inlays folds o Right ≡ count_by is_break (folded_before text inlays folds o) + count_by is_break (inlays_at inlays o)
  open_right_line o out =
      ap (λ (i : Bool). count_by is_break (cond i (folded_before text inlays folds o) (folded_before text inlays folds o ++ inlays_at inlays o))) out
      ∙ breaks-append (folded_before text inlays folds o) (inlays_at inlays o)

  -- between folds there are as many lines as in the lower layer
  pub lines-apart : (o p : ℕ) → o ≤ p → p ≤ length text → inside folds o ≡ false → inside folds p ≡ false →
      ((k : ℕ) → o ≤ k → k < p → covered folds k ≡ false) →
      line_of text inlays folds p Left + line_of text inlays [] o Left ≡ line_of text inlays folds o Left + line_of text inlays [] p Left
  lines-apart o p le within out out' none =
      let m = p - o in
      let there : o + m ≡ p = omega arith in
      let long : length (part text o m) ≡ m = length-take-le m (drop o text) (omega (arith, length-drop o text)) in
      let same = uncovered-shows inlays folds o (part text o m) (λ k l u. none k l (omega (arith, u, long))) in
      let high : count_by is_break (folded_before text inlays folds p) ≡ count_by is_break (folded_before text inlays folds o) + count_by is_break (show_each (shown inlays []) o (part text o m)) =
      ap (λ (q : ℕ). count_by is_break (folded_before text inlays folds q)) (sym there)
      ∙ ap (count_by is_break) (before_part (shown inlays folds) text o m (omega arith))
      ∙ breaks-append (folded_before text inlays folds o) (show_each (shown inlays folds) o (part text o m))
      ∙ ap (λ (l : List Token). count_by is_break (folded_before text inlays folds o) + count_by is_break l) same in
      let deep : count_by is_break (folded_before text inlays [] p) ≡ count_by is_break (folded_before text inlays [] o) + count_by is_break (show_each (shown inlays []) o (part text o m)) =
      ap (λ (q : ℕ). count_by is_break (folded_before text inlays [] q)) (sym there)
      ∙ ap (count_by is_break) (before_part (shown inlays []) text o m (omega arith))
      ∙ breaks-append (folded_before text inlays [] o) (show_each (shown inlays []) o (part text o m)) in
      omega (arith, high, deep, open_line o out, open_line p out')

  -- a joined fold's end is on the line of its start
  pub line-behind : (s e : ℕ) → IsJoined folds s e → s ≤ e → e ≤ length text → line_of text inlays folds e Left ≡ line_of text inlays folds s Right
  line-behind s e j le within =
      let is = IsJoined-shows folds s e j in
      let m = e - s in
      let there : s + m ≡ e = omega arith in
      let long : length (part text s m) ≡ m = length-take-le m (drop s text) (omega (arith, length-drop s text)) in
      let hidden = IsJoined-hides folds inlays s e j (part text s m) (omega (arith, long)) in
      let high : count_by is_break (folded_before text inlays folds e) ≡ count_by is_break (folded_before text inlays folds s) + count_by is_break (inlays_at inlays s ++ Hidden s ∷ []) =
      ap (λ (q : ℕ). count_by is_break (folded_before text inlays folds q)) (sym there)
      ∙ ap (count_by is_break) (before_part (shown inlays folds) text s m (omega arith))
      ∙ breaks-append (folded_before text inlays folds s) (show_each (shown inlays folds) s (part text s m))
      ∙ ap (λ (l : List Token). count_by is_break (folded_before text inlays folds s) + count_by is_break l) hidden in
      omega (arith, high, breaks-append (inlays_at inlays s) (Hidden s ∷ []), open_line e is.3, open_right_line s is.1)
