-- Which places of a lawful record's folded text are inside an element.
use Rattle.std.proofs.Common.{◌≡◌, ℕ, ◌+◌, ◌<◌, Bool, true, false, if◌then◌else◌, List, [], ◌∷◌, ◌++◌, length, get_or, refl, sym, ap, ◌∙◌, subst, append_assoc, append-nil, inl, inr, ◌⊎◌, arith}
use Rattle.std.specs.List.{after_last, flat_map}
use Rattle.std.proofs.lemmas.Bool.{cases_Bool, false≢true}
use Rattle.std.proofs.lemmas.List.{get_or-map, length-map, same_from_push, take_all}
use Rattle.cell_units.specs.declared.piece.Piece.{Piece}
use Rattle.cell_units.specs.declared.place.Bias.TheVariants.{Right}
use Rattle.cell_units.specs.Cutting.{cut_lines}
use Rattle.cell_units.specs.Text.{goes_on, line_feed}
use Rattle.cell_units.specs.Record.{Record}
use Rattle.cell_units.specs.Inlaid.{Byte, Hidden, Token, bytes_of, inlays_at, is_break, show_each}
use Rattle.cell_units.specs.Folded.{display_lines, folded, folded_before, shown}
use Rattle.cell_units.specs.Pieces.{folded_lines, is_one_piece, pieces_of}
use Rattle.cell_line.specs.Elements.{elements_of}
use Rattle.cell_units.specs.Lawful.{IsLawful}
use Rattle.plain_rows.specs.Spots.{elements_at, is_within}
use Rattle.plain_rows.proofs.Fronts.{after_last-break, after_last-other}
use Rattle.spot_laws.proofs.ElementSides.{HaveBytes, zero_apart}
use Rattle.plain_rows.proofs.FoldedFronts.{show_each-append, tokens_to}
use Rattle.spot_laws.proofs.FoldedUnits.{covered-inside}
use Rattle.spot_laws.proofs.LawfulLines.{end-shown, line-texts}
use Rattle.plain_rows.proofs.LineAt.{First, first-line, line-at, line-within}
use Rattle.spot_laws.proofs.PieceTexts.{AreUtf8, apart-seam, elements-have_bytes, end-seam, next-first, texts}
use Rattle.plain_rows.proofs.ShowRises.{byte_in, line_in}

module _ (r : Record) (lawful : IsLawful r) where
  abbrev pub all_tokens : List Token
  all_tokens = folded r.text r.inlays r.folds

  -- the place after the tokens is inside an element
  abbrev pub is_inside_at : List Token → Bool
  is_inside_at xs = is_within (elements_at r (line_in xs)) (byte_in xs)

  -- the folded text ends with the break that is read at the text's end
  pub folded-end : all_tokens ≡ tokens_to r.text r.inlays r.folds (length r.text) Right ++ Byte (length r.text) line_feed ∷ []
  folded-end =
      let n = length r.text in
      let out = end-shown r lawful in
      let ins = inlays_at r.inlays n in
      let before = folded_before r.text r.inlays r.folds n in
      let at : 0 + n ≡ n = omega arith in
      show_each-append (shown r.inlays r.folds) 0 r.text (line_feed ∷ [])
      ∙ (λ i. show_each (shown r.inlays r.folds) 0 (sym (take_all n r.text (omega arith)) i) ++ show_each (shown r.inlays r.folds) (at i) (line_feed ∷ []))
      ∙ ap (λ (l : List Token). before ++ l) (append-nil (shown r.inlays r.folds n line_feed)
      ∙ (λ i. if covered-inside r.folds n out i then [] else (ins ++ (if out i then Hidden n else Byte n line_feed) ∷ [])))
      ∙ sym (append_assoc before ins (Byte n line_feed ∷ []))
      ∙ ap (λ (b : Bool). (if b then before else before ++ ins) ++ Byte n line_feed ∷ []) (sym (covered-inside r.folds n out))

  -- the line of a place, and the token after it
  record Here (xs : List Token) (u : Token) : Type 0 where
    after : List Token
    elements : elements_at r (line_in xs) ≡ elements_of (pieces_of (after_last is_break xs ++ u ∷ after)) r.tab
    good : AreUtf8 (texts (after_last is_break xs ++ u ∷ after))
    ends : is_break u ≡ true → after ≡ []
    goes : is_break u ≡ false → (v : Token) × (vs : List Token) × (after ≡ v ∷ vs)

  here : (xs : List Token) (u : Token) (rest : List Token) → all_tokens ≡ xs ++ u ∷ rest → Here xs u
  here xs u rest e =
      let f = first-line is_break u rest in
      let lines = display_lines r.text r.inlays r.folds in
      let at : get_or lines (line_in xs) [] ≡ after_last is_break xs ++ u ∷ f.line =
      ap (λ (l : List Token). get_or (cut_lines is_break l) (line_in xs) []) e ∙ line-at is_break xs u rest in
      let lt : line_in xs < length lines = subst (λ (l : List Token). line_in xs < length (cut_lines is_break l)) (sym e) (line-within is_break xs u rest) in
      record {
        after = f.line;
        elements = get_or-map (λ (pieces : List Piece). elements_of pieces r.tab) (folded_lines r.text r.inlays r.folds) (line_in xs) [] [] (omega (arith, lt, length-map lines pieces_of))
            ∙ ap (λ (pieces : List Piece). elements_of pieces r.tab) (get_or-map pieces_of lines (line_in xs) [] [] lt ∙ ap pieces_of at);
        good = subst (λ (l : List Token). AreUtf8 (texts l)) at (line-texts r lawful (line_in xs) lt);
        ends = f.ends;
        goes = λ h. more rest e h f;
      } where
        more : (rest : List Token) → all_tokens ≡ xs ++ u ∷ rest → is_break u ≡ false → (f : First is_break u rest) → (v : Token) × (vs : List Token) × (f.line ≡ v ∷ vs)
        more [] e h f =
            let last = (same_from_push xs (tokens_to r.text r.inlays r.folds (length r.text) Right) u (Byte (length r.text) line_feed) (sym e ∙ folded-end)).1 in
            absurd (false≢true (sym h ∙ ap is_break last))
        more (v ∷ vs) e h f = let g = f.goes v vs h refl in (v, g.0, g.1)

  pub have_bytes : (xs : List Token) (u : Token) (rest : List Token) → all_tokens ≡ xs ++ u ∷ rest → HaveBytes (elements_at r (line_in xs))
  have_bytes xs u rest e = let h = here xs u rest e in subst HaveBytes (sym h.elements) (elements-have_bytes (after_last is_break xs ++ u ∷ h.after) r.tab h.good)

  -- a line's start is inside none
  pub seam-start : (xs : List Token) → after_last is_break xs ≡ [] → is_inside_at xs ≡ false
  seam-start xs e = ap (λ (l : List Token). is_within (elements_at r (line_in xs)) (length (flat_map bytes_of l))) e ∙ zero_apart (elements_at r (line_in xs))

  pub seam-break : (xs : List Token) (t : Token) → is_break t ≡ true → is_inside_at (xs ++ t ∷ []) ≡ false
  seam-break xs t h = seam-start (xs ++ t ∷ []) (after_last-break is_break xs t h)

  -- nor is a place between two pieces
  pub seam-other : (xs : List Token) (t u : Token) (rest : List Token) → all_tokens ≡ (xs ++ t ∷ []) ++ u ∷ rest → is_one_piece t u ≡ false → is_inside_at (xs ++ t ∷ []) ≡ false
  seam-other xs t u rest e two = go (cases_Bool (is_break t)) where
    go : (is_break t ≡ true) ⊎ (is_break t ≡ false) → is_inside_at (xs ++ t ∷ []) ≡ false
    go (inl h) = seam-break xs t h
    go (inr h) =
        let k = here (xs ++ t ∷ []) u rest e in
        let line = after_last is_break xs in
        let behind : after_last is_break (xs ++ t ∷ []) ≡ line ++ t ∷ [] = after_last-other is_break xs t h in
        let shape : after_last is_break (xs ++ t ∷ []) ++ u ∷ k.after ≡ line ++ (t ∷ (u ∷ k.after)) = ap (λ (l : List Token). l ++ u ∷ k.after) behind ∙ append_assoc line (t ∷ []) (u ∷ k.after) in
        (λ i. is_within ((k.elements ∙ ap (λ (l : List Token). elements_of (pieces_of l) r.tab) shape) i) (length (flat_map bytes_of (behind i))))
        ∙ apart-seam line t u k.after r.tab (subst (λ (l : List Token). AreUtf8 (texts l)) shape k.good) two

  -- nor is a line's end
  pub seam-end : (xs : List Token) (u : Token) (rest : List Token) → all_tokens ≡ xs ++ u ∷ rest → is_break u ≡ true → is_inside_at xs ≡ false
  seam-end xs u rest e h =
      let k = here xs u rest e in
      let line = after_last is_break xs in
      let shape : line ++ u ∷ k.after ≡ line ++ u ∷ [] = ap (λ (l : List Token). line ++ u ∷ l) (k.ends h) in
      ap (λ es. is_within es (byte_in xs)) (k.elements ∙ ap (λ (l : List Token). elements_of (pieces_of l) r.tab) shape)
      ∙ end-seam line u r.tab (subst (λ (l : List Token). AreUtf8 (texts l)) shape k.good)

  -- after a place that is inside none is the first byte of a character
  pub seam-first : (xs : List Token) (u : Token) (rest : List Token) (b : ℕ) (bs : List ℕ) → all_tokens ≡ xs ++ u ∷ rest → is_break u ≡ false → bytes_of u ≡ b ∷ bs →
      is_inside_at xs ≡ false → goes_on b ≡ false
  seam-first xs u rest b bs e clear first out =
      let k = here xs u rest e in
      let line = after_last is_break xs in
      let g = k.goes clear in
      let shape : line ++ u ∷ k.after ≡ line ++ (u ∷ (g.0 ∷ g.1)) = ap (λ (l : List Token). line ++ u ∷ l) g.2 in
      next-first line u g.0 g.1 r.tab b bs first (subst (λ (l : List Token). AreUtf8 (texts l)) shape k.good)
      (sym (ap (λ es. is_within es (byte_in xs)) (k.elements ∙ ap (λ (l : List Token). elements_of (pieces_of l) r.tab) shape)) ∙ out)
