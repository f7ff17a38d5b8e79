-- The parts of an inlay: its text cut at line breaks.
use Rattle.std.proofs.Common.{◌≡◌, ℕ, ◌+◌, ◌-◌, ◌<◌, ◌≤◌, ◌&&◌, not, suc, Bool, true, false, cond, eqb, List, [], ◌∷◌, ◌++◌, length, map, take, drop, get_or, refl, sym, ap, ◌∙◌, subst, inl, inr, ◌⊎◌, arith, append-nil, append_assoc, length-drop}
use Rattle.std.specs.List.{prefix_len, slice_range}
use Rattle.std.specs.Str.{IsCharBoundary, IsUtf8}
use Rattle.std.proofs.lemmas.Bool.{cases_Bool, cases_lt, lt-ltb, le-ltb, and_parts, or_cases, or_parts, eqb-true, false≢true}
use Rattle.std.proofs.lemmas.List.{drop_more, drop-drop, drop_all, get_or-drop, get_or-take, map-append, take_rest}
use Rattle.std.proofs.lemmas.List.Sums.{prefix_len_is, prefix_len_passes}
use Rattle.std.proofs.lemmas.Str.{IsCharBoundary-end}
use Rattle.cell_units.specs.Text.{begins_with_feed, carriage_return, clean, is_feed, line_feed, without_returns_before_feeds}
use Rattle.cell_units.specs.Inlaid.{InlayByte, Token}
use Rattle.cell_units.specs.Layers.{Source}
use Rattle.plain_rows.specs.declared.folded_lines.Part.{Part}
use Rattle.plain_rows.specs.declared.folded_lines.Part.TheVariants.{Inlay, InlayFeed}
use Rattle.plain_rows.specs.FoldedLines.{IsRun, before_all, inlay_at, is_break, is_buffer, next_inlay}
use Rattle.plain_rows.specs.inside.Laying.{IsSpan, LaysInlay, Reaches, break_len, inlay_rest, inlay_run, last_of, tokens_of}
use Rattle.plain_rows.proofs.LaidParts.{FirstBreak, behind-break, break-boundary, break-found, last-push, reaches-push, tokens-push}

abbrev goes : ℕ → Bool
goes b = not (is_break b)

abbrev fed : ℕ → ℕ
fed b = cond (eqb b carriage_return) line_feed b

-- ---- a clean text, cut at its first break

clean-run : (bs : List ℕ) → clean bs ≡ take (prefix_len goes bs) bs ++ clean (drop (prefix_len goes bs) bs)
clean-run [] = refl
clean-run (b ∷ bs) = go (is_break b) refl (clean-run bs) where
  go : (c : Bool) → is_break b ≡ c → clean bs ≡ take (prefix_len goes bs) bs ++ clean (drop (prefix_len goes bs) bs) → clean (b ∷ bs) ≡ take (prefix_len goes (b ∷ bs)) (b ∷ bs) ++ clean (drop (prefix_len goes (b ∷ bs)) (b ∷ bs))
  go true e rest =
      let none : prefix_len goes (b ∷ bs) ≡ 0 = ap (λ (c : Bool). cond (not c) (1 + prefix_len goes bs) 0) e in
      ap (λ (n : ℕ). take n (b ∷ bs) ++ clean (drop n (b ∷ bs))) (sym none)
  go false e rest =
      let n : ℕ = prefix_len goes bs in
      let one : 1 + n ≡ suc n = omega arith in
      let some : prefix_len goes (b ∷ bs) ≡ suc n = ap (λ (c : Bool). cond (not c) (1 + n) 0) e ∙ one in
      let other : eqb b carriage_return ≡ false = (or_parts (is_feed b) (eqb b carriage_return) e).1 in
      ap (λ (c : Bool). map fed (cond (c && begins_with_feed bs) (without_returns_before_feeds bs) (b ∷ without_returns_before_feeds bs))) other
      ∙ ap (λ (c : Bool). cond c line_feed b ∷ clean bs) other
      ∙ ap (λ (l : List ℕ). b ∷ l) rest
      ∙ ap (λ (n : ℕ). take n (b ∷ bs) ++ clean (drop n (b ∷ bs))) (sym some)

clean-break : (b : ℕ) (bs : List ℕ) → is_break b ≡ true → clean (b ∷ bs) ≡ line_feed ∷ clean (drop (break_len (b ∷ bs) - 1) bs)
clean-break b bs is = go (eqb b carriage_return && begins_with_feed bs) refl where
  fed-is : fed b ≡ line_feed
  fed-is = elim (cases_Bool (eqb b carriage_return)) [
    | inl e ↦ ap (λ (c : Bool). cond c line_feed b) e
    | inr e ↦ ap (λ (c : Bool). cond c line_feed b) e ∙ feed (or_cases (is_feed b) (eqb b carriage_return) is) e
  ] where
    feed : (is_feed b ≡ true) ⊎ (eqb b carriage_return ≡ true) → eqb b carriage_return ≡ false → b ≡ line_feed
    feed (inl e) off = eqb-true b line_feed e
    feed (inr e) off = absurd (false≢true (sym off ∙ e))

  behind : (bs : List ℕ) → begins_with_feed bs ≡ true → clean bs ≡ line_feed ∷ clean (drop 1 bs)
  behind [] e = absurd (false≢true e)
  behind (x ∷ xs) e =
      let feed : x ≡ line_feed = eqb-true x line_feed e in
      ap (λ (y : ℕ). clean (y ∷ xs)) feed

  go : (c : Bool) → (eqb b carriage_return && begins_with_feed bs) ≡ c → clean (b ∷ bs) ≡ line_feed ∷ clean (drop (break_len (b ∷ bs) - 1) bs)
  go true e =
      let n : break_len (b ∷ bs) - 1 ≡ 1 = ap (λ (c : Bool). cond {A = ℕ} c 2 1 - 1) e in
      ap (λ (c : Bool). map fed (cond c (without_returns_before_feeds bs) (b ∷ without_returns_before_feeds bs))) e
      ∙ behind bs (and_parts (eqb b carriage_return) (begins_with_feed bs) e).1
      ∙ ap (λ (n : ℕ). line_feed ∷ clean (drop n bs)) (sym n)
  go false e =
      let n : break_len (b ∷ bs) - 1 ≡ 0 = ap (λ (c : Bool). cond {A = ℕ} c 2 1 - 1) e in
      ap (λ (c : Bool). map fed (cond c (without_returns_before_feeds bs) (b ∷ without_returns_before_feeds bs))) e
      ∙ ap (λ (x : ℕ). x ∷ clean bs) fed-is
      ∙ ap (λ (n : ℕ). line_feed ∷ clean (drop n bs)) (sym n)

-- ---- by places

run-is : (text : List ℕ) (at end : ℕ) → at ≤ length text → FirstBreak text at (length text) end → prefix_len goes (drop at text) ≡ end - at
run-is text at end le f = elim (cases_lt end (length text)) [
  | inl lt ↦ prefix_len_is goes (drop at text) (end - at) 0 (omega (arith, length-drop at text, f.order, f.within))
      (λ k small.
      let here : get_or (slice_range text at end) k 0 ≡ get_or (drop at text) k 0 = get_or-take (end - at) (drop at text) k 0 small in
      ap goes (sym here) ∙ prefix_len_passes goes (slice_range text at end) k 0 (omega (arith, small, f.whole)))
      (λ _. let here : get_or (drop at text) (end - at) 0 ≡ get_or text end 0 = get_or-drop at text (end - at) 0 ∙ ap (λ (k : ℕ). get_or text k 0) (let e : at + (end - at) ≡ end = omega (arith, f.order) in e) in
      ap goes here ∙ ap not (f.stops lt))
  | inr ge ↦
      let same : end ≡ length text = omega (arith, ge, f.within) in
      let all : slice_range text at end ≡ drop at text = ap (λ (k : ℕ). take (k - at) (drop at text)) same ∙ take_rest text at in
      ap (prefix_len goes) (sym all) ∙ f.whole
]

rest-run : (text : List ℕ) (at end : ℕ) → at ≤ length text → FirstBreak text at (length text) end → clean (drop at text) ≡ slice_range text at end ++ clean (drop end text)
rest-run text at end le f =
    let e : at + (end - at) ≡ end = omega (arith, f.order) in
    clean-run (drop at text)
    ∙ ap (λ (n : ℕ). take n (drop at text) ++ clean (drop n (drop at text))) (run-is text at end le f)
    ∙ ap (λ (l : List ℕ). slice_range text at end ++ clean l) (drop-drop (end - at) at text ∙ ap (λ (k : ℕ). drop k text) e)

rest-break : (text : List ℕ) (end : ℕ) → end < length text → is_break (get_or text end 0) ≡ true →
    clean (drop end text) ≡ line_feed ∷ clean (drop (end + break_len (drop end text)) text)
rest-break text end lt is =
    let more = drop_more text end 0 lt in
    let b = get_or text end 0 in
    let n : ℕ = break_len (drop end text) in
    let some : 1 ≤ n = at-least (drop end text) in
    let on : end + 1 + (n - 1) ≡ end + n = omega (arith, some) in
    ap clean more
    ∙ clean-break b (drop (end + 1) text) is
    ∙ ap (λ (l : List ℕ). line_feed ∷ clean (drop (break_len l - 1) (drop (end + 1) text))) (sym more)
    ∙ ap (λ (l : List ℕ). line_feed ∷ clean l) (drop-drop (n - 1) (end + 1) text ∙ ap (λ (k : ℕ). drop k text) on) where
      at-least : (l : List ℕ) → 1 ≤ break_len l
      at-least [] = omega arith
      at-least (x ∷ xs) = go (eqb x carriage_return && begins_with_feed xs) where
        go : (c : Bool) → 1 ≤ cond {A = ℕ} c 2 1
        go true = omega arith
        go false = omega arith

-- after a break a character begins
behind-boundary : (text : List ℕ) (end : ℕ) → IsUtf8 text → end < length text → is_break (get_or text end 0) ≡ true → IsCharBoundary text (end + break_len (drop end text))
behind-boundary text end utf8 lt is = subst (λ (l : List ℕ). IsCharBoundary text (end + break_len l)) (sym (drop_more text end 0 lt)) (go (eqb (get_or text end 0) carriage_return && begins_with_feed (drop (end + 1) text)) refl) where
  next : (bs : List ℕ) → begins_with_feed bs ≡ true → (get_or bs 0 0 ≡ line_feed) × (0 < length bs)
  next [] e = absurd (false≢true e)
  next (x ∷ xs) e = (eqb-true x line_feed e, omega arith)

  go : (c : Bool) → (eqb (get_or text end 0) carriage_return && begins_with_feed (drop (end + 1) text)) ≡ c → IsCharBoundary text (end + break_len (get_or text end 0 ∷ drop (end + 1) text))
  go true e =
      let two : end + 1 + 1 ≡ end + break_len (get_or text end 0 ∷ drop (end + 1) text) = (let e2 : end + 1 + 1 ≡ end + 2 = omega arith in e2) ∙ ap (λ (c : Bool). end + cond {A = ℕ} c 2 1) (sym e) in
      let feed = next (drop (end + 1) text) (and_parts (eqb (get_or text end 0) carriage_return) (begins_with_feed (drop (end + 1) text)) e).1 in
      let inside : end + 1 < length text = omega (arith, feed.1, length-drop (end + 1) text) in
      let zero_on : end + 1 + 0 ≡ end + 1 = omega arith in
      let byte : get_or text (end + 1) 0 ≡ line_feed = ap (λ (k : ℕ). get_or text k 0) (sym zero_on) ∙ sym (get_or-drop (end + 1) text 0 0) ∙ feed.0 in
      subst (IsCharBoundary text) two (behind-break text (end + 1) utf8 inside (ap is_break byte))
  go false e =
      let one : end + 1 ≡ end + break_len (get_or text end 0 ∷ drop (end + 1) text) = ap (λ (c : Bool). end + cond {A = ℕ} c 2 1) (sym e) in
      subst (IsCharBoundary text) one (behind-break text end utf8 lt is)

-- ---- a line of an inlay

module _ (s : Source) (number : ℕ) (utf8 : IsUtf8 (inlay_at s number).text) (there : number < length s.inlays) where
  abbrev text : List ℕ
  text = (inlay_at s number).text

  abbrev offset : ℕ
  offset = (inlay_at s number).offset

  abbrev mk : ℕ → Token
  mk b = InlayByte offset (inlay_at s number).id b

  -- the run before the break, which may be none
  record RunLaid (old new : List Part) (at end : ℕ) : Type 0 where
    reaches : Reaches s new offset
    shows : tokens_of s new ≡ tokens_of s old ++ map mk (slice_range text at end)
    last : at < end → last_of new ≡ Inlay number offset at end

  run-laid : (old : List Part) (at end : ℕ) → Reaches s old offset → next_inlay (last_of old) ≤ number → IsSpan text at (length text) → FirstBreak text at (length text) end →
      RunLaid old (old ++ inlay_run number offset at end) at end
  run-laid old at end r apart span f = elim (cases_lt at end) as (λ _. RunLaid old (old ++ inlay_run number offset at end) at end) [
    | inl lt ↦
        let is : inlay_run number offset at end ≡ Inlay number offset at end ∷ [] = ap (λ (b : Bool). cond b (Inlay number offset at end ∷ []) []) (lt-ltb at end lt) in
        let run : IsRun text at end = record { some = lt; starts = span.starts; ends = break-boundary text at (length text) end span (omega arith) f; whole = f.whole } in
        let one : RunLaid old (old ++ Inlay number offset at end ∷ []) at end = record {
          reaches = reaches-push s old (Inlay number offset at end) offset r (there, run) refl apart;
          shows = tokens-push s old (Inlay number offset at end);
          last = λ _. last-push before_all old (Inlay number offset at end);
        } in
        subst (λ (l : List Part). RunLaid old (old ++ l) at end) (sym is) one
    | inr le ↦
        let is : inlay_run number offset at end ≡ [] = ap (λ (b : Bool). cond b (Inlay number offset at end ∷ []) []) (le-ltb at end le) in
        let none : end - at ≡ 0 = omega (arith, le) in
        let one : RunLaid old (old ++ []) at end = record {
          reaches = subst (λ (l : List Part). Reaches s l offset) (sym (append-nil old)) r;
          shows = ap (tokens_of s) (append-nil old) ∙ sym (append-nil (tokens_of s old)) ∙ ap (λ (n : ℕ). tokens_of s old ++ map mk (take n (drop at text))) (sym none);
          last = λ lt. absurd (omega (arith, lt, le));
        } in
        subst (λ (l : List Part). RunLaid old (old ++ l) at end) (sym is) one
  ]

  pub inlay-laid-whole : (old : List Part) (at end : ℕ) → Reaches s old offset → next_inlay (last_of old) ≤ number → IsCharBoundary text at → at < length text →
      FirstBreak text at (length text) end → end ≡ length text → LaysInlay s number old (old ++ inlay_run number offset at end) at end
  inlay-laid-whole old at end r apart boundary some f e =
      let span : IsSpan text at (length text) = record { order = omega arith; starts = boundary; ends = IsCharBoundary-end text } in
      let run = run-laid old at end r apart span f in
      let last = run.last (omega (arith, some, e)) in
      let none : clean (drop end text) ≡ [] = ap clean (drop_all end text (omega (arith, e))) in
      record {
        reaches = run.reaches;
        shows =
            ap (λ (l : List Token). l ++ inlay_rest s number end) run.shows
            ∙ append_assoc (tokens_of s old) (map mk (slice_range text at end)) (inlay_rest s number end)
            ∙ ap (λ (l : List Token). tokens_of s old ++ l) (sym (map-append mk (slice_range text at end) (clean (drop end text))) ∙ ap (map mk) (sym (rest-run text at end (omega arith) f)));
        apart = ap is_buffer last;
        inlays = subst (λ (p : Part). next_inlay p ≤ number + 1) (sym last) (omega arith);
        further = omega (arith, some, e);
        boundary = subst (IsCharBoundary text) (sym e) (IsCharBoundary-end text);
      }

  pub inlay-laid-feed : (old : List Part) (at end : ℕ) → Reaches s old offset → next_inlay (last_of old) ≤ number → IsCharBoundary text at → at < length text →
      FirstBreak text at (length text) end → end < length text →
      LaysInlay s number old ((old ++ inlay_run number offset at end) ++ InlayFeed number offset ∷ []) at (end + break_len (drop end text))
  inlay-laid-feed old at end r apart boundary some f lt =
      let span : IsSpan text at (length text) = record { order = omega arith; starts = boundary; ends = IsCharBoundary-end text } in
      let run = run-laid old at end r apart span f in
      let before : List Part = old ++ inlay_run number offset at end in
      let last : last_of (before ++ InlayFeed number offset ∷ []) ≡ InlayFeed number offset = last-push before_all before (InlayFeed number offset) in
      let next : ℕ = end + break_len (drop end text) in
      let is = f.stops lt in
      let bytes : map mk (slice_range text at end) ++ (mk line_feed ∷ inlay_rest s number next) ≡ inlay_rest s number at =
      ap (λ (l : List ℕ). map mk (slice_range text at end) ++ map mk l) (sym (rest-break text end lt is))
      ∙ sym (map-append mk (slice_range text at end) (clean (drop end text)))
      ∙ ap (map mk) (sym (rest-run text at end (omega arith) f)) in
      record {
        reaches = reaches-push s before (InlayFeed number offset) offset run.reaches tt refl tt;
        shows =
            ap (λ (l : List Token). l ++ inlay_rest s number next) (tokens-push s before (InlayFeed number offset) ∙ ap (λ (l : List Token). l ++ mk line_feed ∷ []) run.shows)
            ∙ append_assoc (tokens_of s old ++ map mk (slice_range text at end)) (mk line_feed ∷ []) (inlay_rest s number next)
            ∙ append_assoc (tokens_of s old) (map mk (slice_range text at end)) (mk line_feed ∷ inlay_rest s number next)
            ∙ ap (λ (l : List Token). tokens_of s old ++ l) bytes;
        apart = ap is_buffer last;
        inlays = subst (λ (p : Part). next_inlay p ≤ number + 1) (sym last) (omega arith);
        further = omega (arith, f.order, longer (drop end text));
        boundary = behind-boundary text end utf8 lt is;
      } where
        longer : (l : List ℕ) → 1 ≤ break_len l
        longer [] = omega arith
        longer (x ∷ xs) = go (eqb x carriage_return && begins_with_feed xs) where
          go : (c : Bool) → 1 ≤ cond {A = ℕ} c 2 1
          go true = omega arith
          go false = omega arith

  -- after a break another run may follow
  pub feed-last : (old : List Part) (at end : ℕ) → next_inlay (last_of ((old ++ inlay_run number offset at end) ++ InlayFeed number offset ∷ [])) ≡ 0
  feed-last old at end = ap next_inlay (last-push before_all (old ++ inlay_run number offset at end) (InlayFeed number offset))

pub inlay-found : (text bytes : List ℕ) (at n : ℕ) → n ≡ prefix_len goes (slice_range bytes at (length bytes)) → bytes ≡ text → IsCharBoundary text at → FirstBreak text at (length text) (at + n)
inlay-found text bytes at n is same boundary =
    let size : length bytes ≡ length text = ap length same in
    break-found text bytes at (length text) n (is ∙ ap (λ (k : ℕ). prefix_len goes (slice_range bytes at k)) size) same
    (record { order = boundary.0; starts = boundary; ends = IsCharBoundary-end text })
