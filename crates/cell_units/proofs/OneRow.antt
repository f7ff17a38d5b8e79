-- Without folds each display line is in one row of the buffer.
use Rattle.std.proofs.Common.{◌≡◌, ℕ, ◌+◌, ◌<◌, ◌≤◌, suc, Bool, true, false, cond, List, [], ◌∷◌, ◌++◌, length, drop, get_or, refl, sym, ap, ◌∙◌, subst, arith, append_assoc}
use Rattle.std.specs.List.{All}
use Rattle.std.proofs.lemmas.List.{drop_more, length-drop}
use Rattle.std.proofs.lemmas.List.Elements.{All-cons, All-nil}
use Rattle.std.proofs.lemmas.List.Sums.{count_by_more_no}
use Rattle.cell_units.specs.Text.{line_feed, is_feed, row_of}
use Rattle.cell_units.specs.Cutting.{onto_line, cut_lines}
use Rattle.cell_units.specs.Record.{Inlay}
use Rattle.cell_units.specs.Inlaid.{Token, Byte, offset_of, is_break, inlays_at, show_each}
use Rattle.cell_units.specs.Folded.{shown, folded, display_lines}
use Rattle.cell_units.specs.Laws.{IsInOneRow}
use Rattle.cell_units.proofs.CutLists.{Every}
use Rattle.cell_units.proofs.LineSpans.{IsAt, inlays-at}
use Rattle.cell_units.proofs.ShownText.{Starts, starts}

module _ (text : List ℕ) where
  -- what comes after a token that is no break is in its row
  abbrev SameRow : Token → Token → Type 0
  SameRow t u = is_break t ≡ false → row_of text (offset_of t) ≡ row_of text (offset_of u)

  abbrev Steps : List Token → Type 0
  Steps [] = Unit {0}
  Steps (t ∷ []) = Unit {0}
  Steps (t ∷ u ∷ us) = SameRow t u × Steps (u ∷ us)

  one-line : (t u : Token) (us : List Token) → is_break t ≡ false → SameRow t u → IsInOneRow text (u ∷ us) → IsInOneRow text (t ∷ u ∷ us)
  one-line t u us e s h = s e ∙ h

  lines-in_row : (ts : List Token) → Steps ts → All (IsInOneRow text) (cut_lines is_break ts)
  lines-in_row [] s = All-nil (IsInOneRow text)
  lines-in_row (t ∷ []) s = go (is_break t) where
    go : (c : Bool) → All (IsInOneRow text) (cond c ((t ∷ []) ∷ []) (onto_line t []))
    go true = All-cons (IsInOneRow text) (t ∷ []) [] refl (All-nil (IsInOneRow text))
    go false = All-cons (IsInOneRow text) (t ∷ []) [] refl (All-nil (IsInOneRow text))
  lines-in_row (t ∷ u ∷ us) s = go (is_break t) refl (cut_lines is_break (u ∷ us)) (starts u us) (lines-in_row (u ∷ us) s.1) where
    go : (c : Bool) → is_break t ≡ c → (ls : List (List Token)) → Starts u ls → All (IsInOneRow text) ls → All (IsInOneRow text) (cond c ((t ∷ []) ∷ ls) (onto_line t ls))
    go true e ls k h = All-cons (IsInOneRow text) (t ∷ []) ls refl h
    go false e ls k h =
        let all = subst (All (IsInOneRow text)) k.is h in
        subst (λ (l : List (List Token)). All (IsInOneRow text) (onto_line t l)) (sym k.is)
        (All-cons (IsInOneRow text) (t ∷ u ∷ k.rest) k.others (one-line t u k.rest e s.0 (all 0 [] (omega arith))) (λ i d lt. all (suc i) d (omega (arith, lt))))

  -- tokens that begin at an offset
  record Begun (o : ℕ) (ts : List Token) : Type 0 where
    head : Token
    rest : List Token
    is : ts ≡ head ∷ rest
    at : offset_of head ≡ o
    steps : Steps ts

  -- inlays at an offset before its own byte
  inlays-begun : (o : ℕ) (xs : List Token) → Every (IsAt o) xs → (ts : List Token) → Begun o ts → Begun o (xs ++ ts)
  inlays-begun o [] h ts b = b
  inlays-begun o (x ∷ xs) h ts b =
      let r = inlays-begun o xs h.1 ts b in
      record {
        head = x;
        rest = xs ++ ts;
        is = refl;
        at = h.0;
        steps = subst (λ (l : List Token). Steps (x ∷ l)) (sym r.is) ((λ _. ap (row_of text) (h.0 ∙ sym r.at)), subst Steps r.is r.steps);
      }

  byte-begun : (o b : ℕ) (ts : List Token) → o < length text → get_or text o 0 ≡ b → Begun (o + 1) ts → Begun o (Byte o b ∷ ts)
  byte-begun o b ts lt is r = record {
    head = Byte o b;
    rest = ts;
    is = refl;
    at = refl;
    steps = subst (λ (l : List Token). Steps (Byte o b ∷ l)) (sym r.is) ((λ e. sym (count_by_more_no is_feed text o 0 lt (ap is_feed is ∙ e)) ∙ ap (row_of text) (sym r.at)), subst Steps r.is r.steps);
  }

  module _ (inlays : List Inlay) where
    all-begun : (bs : List ℕ) (o : ℕ) → o ≤ length text → drop o text ≡ bs → Begun o (show_each (shown inlays []) o (bs ++ line_feed ∷ []))
    all-begun [] o le e =
        subst (Begun o) (sym (append_assoc (inlays_at inlays o) (Byte o line_feed ∷ []) []))
        (inlays-begun o (inlays_at inlays o) (inlays-at inlays o) (Byte o line_feed ∷ []) (record { head = Byte o line_feed; rest = []; is = refl; at = refl; steps = tt }))
    all-begun (b ∷ bs) o le e =
        let lt : o < length text = omega (arith, ap length e, length-drop o text) in
        let more : get_or text o 0 ∷ drop (o + 1) text ≡ b ∷ bs = sym (drop_more text o 0 lt) ∙ e in
        let later = show_each (shown inlays []) (o + 1) (bs ++ line_feed ∷ []) in
        subst (Begun o) (sym (append_assoc (inlays_at inlays o) (Byte o b ∷ []) later))
        (inlays-begun o (inlays_at inlays o) (inlays-at inlays o) (Byte o b ∷ later)
        (byte-begun o b later lt (ap (λ (l : List ℕ). get_or l 0 0) more) (all-begun bs (o + 1) (omega arith) (ap (λ (l : List ℕ). drop 1 l) more))))

    pub lines-in_one_row : All (IsInOneRow text) (display_lines text inlays [])
    lines-in_one_row = lines-in_row (folded text inlays []) (all-begun text 0 (omega arith) refl).steps
