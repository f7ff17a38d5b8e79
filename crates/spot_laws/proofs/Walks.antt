-- From an offset inside an element to the offsets at the element's start and end, byte by byte, and to a joined fold's
-- end.
use Rattle.std.proofs.Common.{◌≡◌, ℕ, ◌+◌, ◌<◌, ◌≤◌, Bool, true, false, cond, List, [], ◌∷◌, ◌++◌, zero, suc, length, get_or, sym, ap, ◌∙◌, subst, append-nil, length-append, inl, inr, ◌⊎◌, arith}
use Rattle.std.specs.List.{after_last, flat_map}
use Rattle.std.proofs.lemmas.Bool.{cases_Bool, cases_lt, false≢true}
use Rattle.std.proofs.lemmas.List.Concat.{flat_map-append}
use Rattle.std.proofs.lemmas.List.Sums.{sum_by_push}
use Rattle.cell_units.specs.Text.{is_boundary, is_feed}
use Rattle.cell_units.specs.Record.{Record}
use Rattle.cell_units.specs.Inlaid.{Byte, Hidden, Token, bytes_of, is_break}
use Rattle.cell_units.specs.Folded.{covered, inside}
use Rattle.cell_line.specs.declared.element.Element.{Element}
use Rattle.cell_units.specs.Lawful.{IsLawful}
use Rattle.plain_rows.specs.Spots.{elements_at, is_within}
use Rattle.plain_rows.proofs.Fronts.{after_last-other}
use Rattle.spot_laws.proofs.ElementSides.{end_of, end_of-last, end_of-next, start_of, start_of-first, start_of-next}
use Rattle.spot_laws.proofs.FoldedUnits.{covered-inside}
use Rattle.spot_laws.proofs.LawfulLines.{end-shown}
use Rattle.spot_laws.proofs.Seams.{have_bytes, is_inside_at}
use Rattle.plain_rows.proofs.ShowRises.{byte_in, line_in}
use Rattle.spot_laws.proofs.Around.{Around, all-next, all-right, apart-boundary, around, before, behind-hidden, clear-within, end-boundary, full-byte, hiding, inside-next, ins, next-in, next-out, no-inlays, token}

-- one more byte is on the same line
line-byte : (xs : List Token) (o b : ℕ) → is_feed b ≡ false → line_in (xs ++ Byte o b ∷ []) ≡ line_in xs
line-byte xs o b h =
    let e : line_in xs + cond (is_feed b) 1 0 ≡ line_in xs = ap {B = ℕ} (λ (c : Bool). line_in xs + cond c 1 0) h ∙ (let z : line_in xs + 0 ≡ line_in xs = omega arith in z) in
    sum_by_push (λ t. cond (is_break t) 1 0) xs (Byte o b) ∙ e

next-byte : (xs : List Token) (o b : ℕ) → is_feed b ≡ false → byte_in (xs ++ Byte o b ∷ []) ≡ suc (byte_in xs)
next-byte xs o b h =
    let line = after_last is_break xs in
    let e : length (flat_map bytes_of line ++ b ∷ []) ≡ suc (length (flat_map bytes_of line)) = omega (arith, length-append (flat_map bytes_of line) (b ∷ [])) in
    ap (λ (l : List Token). length (flat_map bytes_of l)) (after_last-other is_break xs (Byte o b) h)
    ∙ ap length (flat_map-append bytes_of line (Byte o b ∷ []))
    ∙ e

module _ (r : Record) (lawful : IsLawful r) where
  abbrev es_at : List Token → List Element
  es_at xs = elements_at r (line_in xs)

  -- the places of one line
  inside-next_byte : (xs : List Token) (o b : ℕ) → is_feed b ≡ false → is_inside_at r lawful (xs ++ Byte o b ∷ []) ≡ is_within (es_at xs) (suc (byte_in xs))
  inside-next_byte xs o b h = λ i. is_within (elements_at r (line-byte xs o b h i)) (next-byte xs o b h i)

  -- after the inlays of an offset that is inside an element is what is before them
  same_place : (o : ℕ) → ins r lawful o ≡ [] → before r lawful o ++ ins r lawful o ≡ before r lawful o
  same_place o e = ap (λ (l : List Token). before r lawful o ++ l) e ∙ append-nil (before r lawful o)

  pub record Start (o : ℕ) : Type 0 where
    pub offset : ℕ
    pub within : offset ≤ length r.text
    pub out : inside r.folds offset ≡ false
    pub boundary : is_boundary r.text offset ≡ true
    pub apart : is_inside_at r lawful (before r lawful offset ++ ins r lawful offset) ≡ false
    pub line : line_in (before r lawful offset ++ ins r lawful offset) ≡ line_in (before r lawful o)
    pub byte : byte_in (before r lawful offset ++ ins r lawful offset) ≡ start_of (es_at (before r lawful o)) (byte_in (before r lawful o))

  -- the offset at the start of the element that a place is inside
  pub walk-down : (o : ℕ) → o ≤ length r.text → inside r.folds o ≡ false → is_inside_at r lawful (before r lawful o) ≡ true → Start o
  walk-down zero le out h = let a = around r lawful zero le out h in absurd (omega (arith, a.is))
  walk-down (suc m) le out h = step (around r lawful (suc m) le out h) (walk-down m) where
    step : Around r lawful (suc m) → (m ≤ length r.text → inside r.folds m ≡ false → is_inside_at r lawful (before r lawful m) ≡ true → Start m) → Start (suc m)
    step a ih = go (cases_Bool (is_inside_at r lawful xs)) where
      same : a.prior ≡ m
      same = omega (arith, a.is)

      b : ℕ
      b = get_or r.text m 0

      xs : List Token
      xs = before r lawful m ++ ins r lawful m

      clear : is_feed b ≡ false
      clear = subst (λ (k : ℕ). is_feed (get_or r.text k 0) ≡ false) same a.clear

      out_prior : inside r.folds m ≡ false
      out_prior = subst (λ (k : ℕ). inside r.folds k ≡ false) same a.out

      seen_prior : covered r.folds m ≡ false
      seen_prior = subst (λ (k : ℕ). covered r.folds k ≡ false) same a.seen

      is : before r lawful (suc m) ≡ xs ++ Byte m b ∷ []
      is = a.before_is ∙ ap (λ (k : ℕ). (before r lawful k ++ ins r lawful k) ++ Byte k (get_or r.text k 0) ∷ []) same

      here : is_within (es_at xs) (suc (byte_in xs)) ≡ true
      here = sym (ap (is_inside_at r lawful) is ∙ inside-next_byte xs m b clear) ∙ h

      -- the element of the later place in the earlier one's terms
      later : start_of (es_at (before r lawful (suc m))) (byte_in (before r lawful (suc m))) ≡ start_of (es_at xs) (suc (byte_in xs))
      later =
          ap (λ (l : List Token). start_of (es_at l) (byte_in l)) is
          ∙ (λ i. start_of (elements_at r (line-byte xs m b clear i)) (next-byte xs m b clear i))

      line_same : line_in (before r lawful (suc m)) ≡ line_in xs
      line_same = ap line_in is ∙ line-byte xs m b clear

      go : (is_inside_at r lawful xs ≡ true) ⊎ (is_inside_at r lawful xs ≡ false) → Start (suc m)
      go (inl x) =
          let none = no-inlays r lawful m (omega (arith, le)) out_prior x in
          let place = same_place m none in
          let s = ih (omega (arith, le)) out_prior (subst (λ (l : List Token). is_inside_at r lawful l ≡ true) place x) in
          record {
            offset = s.offset;
            within = s.within;
            out = s.out;
            boundary = s.boundary;
            apart = s.apart;
            line = s.line ∙ ap line_in (sym place) ∙ sym line_same;
            byte = s.byte ∙ ap (λ (l : List Token). start_of (es_at l) (byte_in l)) (sym place) ∙ sym (start_of-next (es_at xs) (byte_in xs) x here) ∙ sym later;
          }
      go (inr x) =
          let all = all-right r lawful m (omega (arith, le)) out_prior in
          record {
            offset = m;
            within = omega (arith, le);
            out = out_prior;
            boundary = apart-boundary r lawful m (omega (arith, le)) out_prior (λ none. subst (λ (l : List Token). is_inside_at r lawful l ≡ false) (same_place m none) x);
            apart = x;
            line = sym line_same;
            byte = sym (start_of-first (es_at xs) (byte_in xs) (have_bytes r lawful xs (token r lawful m) all.0 all.1) x here) ∙ sym later;
          }

  pub record End (o : ℕ) : Type 0 where
    pub offset : ℕ
    pub within : offset ≤ length r.text
    pub out : inside r.folds offset ≡ false
    pub boundary : is_boundary r.text offset ≡ true
    pub apart : is_inside_at r lawful (before r lawful offset) ≡ false
    pub line : line_in (before r lawful offset) ≡ line_in (before r lawful o)
    pub byte : byte_in (before r lawful offset) ≡ end_of (es_at (before r lawful o)) (byte_in (before r lawful o))

  -- the offset at its end, at most `fuel` bytes on
  walk-up-by : (fuel o : ℕ) → length r.text ≤ o + fuel → o ≤ length r.text → inside r.folds o ≡ false → is_inside_at r lawful (before r lawful o) ≡ true → End o
  walk-up-by zero o far le out h =
      let a = around r lawful o le out h in
      let l = clear-within r lawful o le a.clear_here in
      absurd (omega (arith, far, l))
  walk-up-by (suc fuel) o far le out h = step (around r lawful o le out h) (walk-up-by fuel (suc o)) where
    step : Around r lawful o → (length r.text ≤ suc o + fuel → suc o ≤ length r.text → inside r.folds (suc o) ≡ false → is_inside_at r lawful (before r lawful (suc o)) ≡ true → End (suc o)) → End o
    step a ih = go (cases_Bool (is_inside_at r lawful (before r lawful (suc o)))) where
      lt : o < length r.text
      lt = clear-within r lawful o le a.clear_here

      b : ℕ
      b = get_or r.text o 0

      xs : List Token
      xs = before r lawful o

      clear : is_feed b ≡ false
      clear = ap is_feed (sym (full-byte r lawful o lt)) ∙ a.clear_here

      is : before r lawful (suc o) ≡ xs ++ Byte o b ∷ []
      is =
          next-out r lawful o lt out
          ∙ (λ i. same_place o a.none i ++ cond (a.shown i) (Hidden o) (Byte o (full-byte r lawful o lt i)) ∷ [])

      out_next : inside r.folds (suc o) ≡ false
      out_next = next (cases_Bool (inside r.folds (suc o))) where
        next : (inside r.folds (suc o) ≡ true) ⊎ (inside r.folds (suc o) ≡ false) → inside r.folds (suc o) ≡ false
        next (inl x) = absurd (false≢true (sym a.shown ∙ inside-next r.folds o x))
        next (inr x) = x

      places : is_inside_at r lawful (before r lawful (suc o)) ≡ is_within (es_at xs) (suc (byte_in xs))
      places = ap (is_inside_at r lawful) is ∙ inside-next_byte xs o b clear

      line_same : line_in (before r lawful (suc o)) ≡ line_in xs
      line_same = ap line_in is ∙ line-byte xs o b clear

      byte_next : byte_in (before r lawful (suc o)) ≡ suc (byte_in xs)
      byte_next = ap byte_in is ∙ next-byte xs o b clear

      go : (is_inside_at r lawful (before r lawful (suc o)) ≡ true) ⊎ (is_inside_at r lawful (before r lawful (suc o)) ≡ false) → End o
      go (inl x) =
          let e = ih (omega (arith, far)) (omega (arith, lt)) out_next x in
          record {
            offset = e.offset;
            within = e.within;
            out = e.out;
            boundary = e.boundary;
            apart = e.apart;
            line = e.line ∙ line_same;
            byte = e.byte ∙ (λ i. end_of (elements_at r (line_same i)) (byte_next i)) ∙ end_of-next (es_at xs) (byte_in xs) h (sym places ∙ x);
          }
      go (inr x) = record {
        offset = suc o;
        within = omega (arith, lt);
        out = out_next;
        boundary = apart-boundary r lawful (suc o) (omega (arith, lt)) out_next (λ none. x);
        apart = x;
        line = line_same;
        byte = byte_next ∙ sym (end_of-last (es_at xs) (byte_in xs) h (sym places ∙ x));
      }

  pub walk-up : (o : ℕ) → o ≤ length r.text → inside r.folds o ≡ false → is_inside_at r lawful (before r lawful o) ≡ true → End o
  walk-up o le out h = walk-up-by (length r.text) o (omega arith) le out h

  -- ---- the end of the joined fold that an offset is inside

  pub record Shown (o : ℕ) : Type 0 where
    pub offset : ℕ
    pub within : offset ≤ length r.text
    pub out : inside r.folds offset ≡ false
    pub boundary : is_boundary r.text offset ≡ true
    pub apart : is_inside_at r lawful (before r lawful offset) ≡ false
    pub same : before r lawful offset ≡ before r lawful o

  leave-by : (fuel o : ℕ) → length r.text ≤ o + fuel → o ≤ length r.text → inside r.folds o ≡ true → Shown o
  leave-by zero o far le h =
      let e : o ≡ length r.text = omega (arith, far, le) in
      absurd (false≢true (sym (covered-inside r.folds (length r.text) (end-shown r lawful)) ∙ subst (λ (k : ℕ). inside r.folds k ≡ true) e h))
  leave-by (suc fuel) o far le h = step (cases_lt o (length r.text)) (cases_Bool (inside r.folds (suc o))) (leave-by fuel (suc o)) where
    step : (o < length r.text) ⊎ (length r.text ≤ o) → (inside r.folds (suc o) ≡ true) ⊎ (inside r.folds (suc o) ≡ false) →
        (length r.text ≤ suc o + fuel → suc o ≤ length r.text → inside r.folds (suc o) ≡ true → Shown (suc o)) → Shown o
    step (inr l) x ih =
        let e : o ≡ length r.text = omega (arith, l, le) in
        absurd (false≢true (sym (covered-inside r.folds (length r.text) (end-shown r lawful)) ∙ subst (λ (k : ℕ). inside r.folds k ≡ true) e h))
    step (inl l) (inl x) ih =
        let s = ih (omega (arith, far)) (omega (arith, l)) x in
        record { offset = s.offset; within = s.within; out = s.out; boundary = s.boundary; apart = s.apart; same = s.same ∙ next-in r lawful o l h }
    step (inl l) (inr x) ih =
        let i = hiding r lawful o le h in
        let is : before r lawful (suc o) ≡ (before r lawful i.start ++ ins r lawful i.start) ++ Hidden i.start ∷ [] = next-in r lawful o l h ∙ i.is in
        let n = all-next r lawful (suc o) (omega (arith, l)) x in
        record {
          offset = suc o;
          within = omega (arith, l);
          out = x;
          boundary = end-boundary r lawful o (omega (arith, l)) h x;
          apart = subst (λ (t : List Token). is_inside_at r lawful t ≡ false) (sym is)
              (behind-hidden r lawful (before r lawful i.start ++ ins r lawful i.start) i.start n.0 n.1 (n.2 ∙ ap (λ (t : List Token). t ++ n.0 ∷ n.1) is));
          same = next-in r lawful o l h;
        }

  pub leave : (o : ℕ) → o ≤ length r.text → inside r.folds o ≡ true → Shown o
  leave o le h = leave-by (length r.text) o (omega arith) le h
