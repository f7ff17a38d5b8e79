-- Where a position is among the lines of parts.
use Rattle.std.proofs.Common.{◌≡◌, ℕ, ◌+◌, ◌-◌, ◌<◌, ◌≤◌, suc, zero, Some, Bool, true, false, cond, min, List, [], ◌∷◌, ◌++◌, length, map, drop, get_or, filter, refl, sym, ap, ◌∙◌, subst, inl, inr, arith}
use Rattle.std.specs.List.{All, after_last, count_by, slice_get, slice_range, sum_by}
use Rattle.std.proofs.lemmas.Bool.{cases_lt, false≢true, le-ltb, lt-ltb}
use Rattle.std.proofs.lemmas.List.{append-nil, length-map}
use Rattle.std.proofs.lemmas.List.Elements.{filter-append}
use Rattle.std.proofs.lemmas.List.Sums.{sum_by-append, sum_by-cons}
use Rattle.cell_units.specs.declared.place.Bias.{Bias}
use Rattle.cell_units.specs.Cutting.{cut_lines}
use Rattle.cell_units.specs.Text.{line_feed}
use Rattle.cell_units.specs.Inlaid.{Byte, Hidden, InlayByte, Token, is_break}
use Rattle.cell_units.specs.Folded.{display_lines, folded, folded_to, inside, line_of, place_in_line}
use Rattle.cell_units.specs.declared.piece.Piece.{Piece}
use Rattle.cell_units.specs.Layers.{Source, shown_lines}
use Rattle.cell_units.specs.Pieces.{pieces_of}
use Rattle.cell_units.proofs.CutLists.{Every, Every-lines, Every-mono}
use Rattle.cell_units.proofs.FoundEntries.{All-from_Every}
use Rattle.plain_rows.specs.declared.folded_lines.Part.{Part}
use Rattle.plain_rows.specs.declared.folded_lines.Part.TheVariants.{Buffer, Feed, Inlay, InlayFeed, Placeholder}
use Rattle.plain_rows.specs.FoldedLines.{AreLinesOf, EachLies, LaidOut, Lies, before_all, bytes_from, inlay_at, is_end, part_tokens}
use Rattle.plain_rows.specs.inside.Laying.{tokens_of}
use Rattle.plain_rows.specs.inside.PartPieces.{before_end, ends_from, piece_in}
use Rattle.plain_rows.specs.inside.Passed.{inlay_passed, part_passed, passed_bytes, token_passed}
use Rattle.plain_rows.proofs.LaidParts.{length-run}
use Rattle.plain_rows.proofs.EndsOfLines.{length-lines}
use Rattle.plain_rows.proofs.LinesOfParts.{EachLine, IsLine, cut-tokens, each-line, end-token, part-free, pieces-lines}
use Rattle.plain_rows.proofs.PassedTokens.{filter-all, filter-none, passed-tokens, split-at}
use Rattle.plain_rows.proofs.ShownSizes.{size, size-append}
use Rattle.plain_rows.proofs.LineAt.{first-line, line-at}

-- ---- the ends that a position passes

end-passed : (s : Source) (o : ℕ) (bias : Bias) (p : Part) → is_end p ≡ true → (c : Token) → part_tokens s p ≡ c ∷ [] → token_passed o bias c ≡ part_passed o bias p
end-passed s o bias (Buffer start end) is c e = absurd (false≢true is)
end-passed s o bias (Inlay number at start end) is c e = absurd (false≢true is)
end-passed s o bias (Placeholder start end) is c e = absurd (false≢true is)
end-passed s o bias (Feed at) is c e = ap (token_passed o bias) (let h : Byte at line_feed ∷ [] ≡ c ∷ [] = e in sym (ap (λ (l : List Token). get_or l 0 c) h))
end-passed s o bias (InlayFeed number at) is c e = ap (token_passed o bias) (sym (ap (λ (l : List Token). get_or l 0 c) e))

count-free : (o : ℕ) (bias : Bias) (ts : List Token) → Every (λ t. is_break t ≡ false) ts → count_by is_break (filter (token_passed o bias) ts) ≡ 0
count-free o bias [] free = refl
count-free o bias (t ∷ ts) free = go (token_passed o bias t) (count-free o bias ts free.1) where
  go : (c : Bool) → count_by is_break (filter (token_passed o bias) ts) ≡ 0 → count_by is_break (cond c (t ∷ filter (token_passed o bias) ts) (filter (token_passed o bias) ts)) ≡ 0
  go true h = sum_by-cons (λ x. cond (is_break x) 1 0) t (filter (token_passed o bias) ts) ∙ (λ i. cond {A = ℕ} (free.0 i) 1 0 + h i)
  go false h = h

count-append : (xs ys : List Token) → count_by is_break (xs ++ ys) ≡ count_by is_break xs + count_by is_break ys
count-append xs ys = sum_by-append (λ x. cond (is_break x) 1 0) xs ys

pub count-ends : (s : Source) (o : ℕ) (bias : Bias) (ps : List Part) → EachLies s ps →
    count_by is_break (filter (token_passed o bias) (tokens_of s ps)) ≡ count_by (part_passed o bias) (filter is_end ps)
count-ends s o bias [] lie = refl
count-ends s o bias (p ∷ ps) lie =
    ap (count_by is_break) (filter-append (token_passed o bias) (part_tokens s p) (tokens_of s ps))
    ∙ count-append (filter (token_passed o bias) (part_tokens s p)) (filter (token_passed o bias) (tokens_of s ps))
    ∙ go (is_end p) refl (count-ends s o bias ps lie.1) where
      rest : List Token
      rest = filter (token_passed o bias) (tokens_of s ps)

      one : (t : Token) (c : Bool) → is_break t ≡ true → count_by is_break (cond c (t ∷ []) []) ≡ cond c 1 0
      one t true is = sum_by-cons (λ x. cond (is_break x) 1 0) t [] ∙ (λ i. cond {A = ℕ} (is i) 1 0 + 0)
      one t false is = refl

      go : (c : Bool) → is_end p ≡ c → count_by is_break (filter (token_passed o bias) (tokens_of s ps)) ≡ count_by (part_passed o bias) (filter is_end ps) →
          count_by is_break (filter (token_passed o bias) (part_tokens s p)) + count_by is_break (filter (token_passed o bias) (tokens_of s ps)) ≡ count_by (part_passed o bias) (filter is_end (p ∷ ps))
      go true e h =
          let t = end-token s p e in
          let here : count_by is_break (filter (token_passed o bias) (part_tokens s p)) ≡ cond (part_passed o bias p) 1 0 =
          ap (λ (l : List Token). count_by is_break (filter (token_passed o bias) l)) t.0
          ∙ one _ (token_passed o bias _) t.1
          ∙ ap (λ (c : Bool). cond {A = ℕ} c 1 0) (end-passed s o bias p e _ t.0) in
          (λ i. here i + h i)
          ∙ sym (sum_by-cons (λ x. cond (part_passed o bias x) 1 0) p (filter is_end ps))
          ∙ ap (λ (c : Bool). count_by (part_passed o bias) (cond c (p ∷ filter is_end ps) (filter is_end ps))) (sym e)
      go false e h =
          let here = count-free o bias (part_tokens s p) (part-free s p e lie.0) in
          (λ i. here i + h i)
          ∙ (let z : 0 + count_by (part_passed o bias) (filter is_end ps) ≡ count_by (part_passed o bias) (filter is_end ps) = omega arith in z)
          ∙ ap (λ (c : Bool). count_by (part_passed o bias) (cond c (p ∷ filter is_end ps) (filter is_end ps))) (sym e)

-- ---- the bytes of a line that are before a position

buffer-bytes : (o : ℕ) (bias : Bias) (at : ℕ) (bs : List ℕ) → size (filter (token_passed o bias) (bytes_from at bs)) ≡ min o (at + length bs) - at
buffer-bytes o bias at [] = omega arith
buffer-bytes o bias at (b ∷ bs) = elim (cases_lt at o) [
  | inl lt ↦
      let h = ap (λ (c : Bool). size (cond c (Byte at b ∷ filter (token_passed o bias) (bytes_from (at + 1) bs)) (filter (token_passed o bias) (bytes_from (at + 1) bs)))) (lt-ltb at o lt) in
      omega (arith, h, buffer-bytes o bias (at + 1) bs)
  | inr ge ↦
      let h = ap (λ (c : Bool). size (cond c (Byte at b ∷ filter (token_passed o bias) (bytes_from (at + 1) bs)) (filter (token_passed o bias) (bytes_from (at + 1) bs)))) (le-ltb at o ge) in
      omega (arith, h, buffer-bytes o bias (at + 1) bs)
]

inlay-bytes : (o : ℕ) (bias : Bias) (at id : ℕ) (bs : List ℕ) → size (filter (token_passed o bias) (map (InlayByte at id) bs)) ≡ cond (inlay_passed o bias at) (length bs) 0
inlay-bytes o bias at id bs = go (inlay_passed o bias at) refl bs where
  go : (c : Bool) → inlay_passed o bias at ≡ c → (bs : List ℕ) → size (filter (token_passed o bias) (map (InlayByte at id) bs)) ≡ cond (inlay_passed o bias at) (length bs) 0
  go true e bs = yes bs ∙ ap (λ (c : Bool). cond {A = ℕ} c (length bs) 0) (sym e) where
    yes : (bs : List ℕ) → size (filter (token_passed o bias) (map (InlayByte at id) bs)) ≡ length bs
    yes [] = refl
    yes (b ∷ bs) = ap (λ (c : Bool). size (cond c (InlayByte at id b ∷ filter (token_passed o bias) (map (InlayByte at id) bs)) (filter (token_passed o bias) (map (InlayByte at id) bs)))) e ∙ ap suc (yes bs)
  go false e bs = none bs ∙ ap (λ (c : Bool). cond {A = ℕ} c (length bs) 0) (sym e) where
    none : (bs : List ℕ) → size (filter (token_passed o bias) (map (InlayByte at id) bs)) ≡ 0
    none [] = refl
    none (b ∷ bs) = ap (λ (c : Bool). size (cond c (InlayByte at id b ∷ filter (token_passed o bias) (map (InlayByte at id) bs)) (filter (token_passed o bias) (map (InlayByte at id) bs)))) e ∙ none bs

one-token : (o : ℕ) (bias : Bias) (t : Token) (n : ℕ) → size (t ∷ []) ≡ n → size (filter (token_passed o bias) (t ∷ [])) ≡ cond (token_passed o bias t) n 0
one-token o bias t n e = go (token_passed o bias t) where
  go : (c : Bool) → size (cond c (t ∷ []) []) ≡ cond c n 0
  go true = e
  go false = refl

part-bytes : (s : Source) (o : ℕ) (bias : Bias) (p : Part) → Lies s p → size (filter (token_passed o bias) (part_tokens s p)) ≡ passed_bytes o bias p
part-bytes s o bias (Buffer start end) lies =
    let long = length-run s.text start end lies in
    omega (arith, buffer-bytes o bias start (slice_range s.text start end), long, lies.some)
part-bytes s o bias (Inlay number at start end) lies =
    inlay-bytes o bias at (inlay_at s number).id (slice_range (inlay_at s number).text start end)
    ∙ ap (λ (n : ℕ). cond {A = ℕ} (inlay_passed o bias at) n 0) (length-run (inlay_at s number).text start end lies.1)
part-bytes s o bias (Placeholder start end) lies = one-token o bias (Hidden start) 3 refl
part-bytes s o bias (Feed at) lies = one-token o bias (Byte at line_feed) 1 refl
part-bytes s o bias (InlayFeed number at) lies = one-token o bias (InlayByte at (inlay_at s number).id line_feed) 1 refl

pub line-bytes : (s : Source) (o : ℕ) (bias : Bias) (ps : List Part) → EachLies s ps → size (filter (token_passed o bias) (tokens_of s ps)) ≡ sum_by (passed_bytes o bias) ps
line-bytes s o bias [] lie = refl
line-bytes s o bias (p ∷ ps) lie =
    ap size (filter-append (token_passed o bias) (part_tokens s p) (tokens_of s ps))
    ∙ size-append (filter (token_passed o bias) (part_tokens s p)) (filter (token_passed o bias) (tokens_of s ps))
    ∙ (λ i. part-bytes s o bias p lie.0 i + line-bytes s o bias ps lie.1 i)
    ∙ sym (sum_by-cons (passed_bytes o bias) p ps)

-- ---- a position among the lines

each-lies : (s : Source) (ps : List Part) → EachLies s ps → Every (Lies s) ps
each-lies s [] lie = tt
each-lies s (p ∷ ps) lie = (lie.0, each-lies s ps lie.1)

lies-each : (s : Source) (ps : List Part) → Every (Lies s) ps → EachLies s ps
lies-each s [] lie = tt
lies-each s (p ∷ ps) lie = (lie.0, lies-each s ps lie.1)

every-at : {X : Type 0} (P : List X → Type 0) (ls : List (List X)) (k : ℕ) → P [] → Every P ls → P (get_or ls k [])
every-at P [] k none all = none
every-at P (l ∷ ls) zero none all = all.0
every-at P (l ∷ ls) (suc k) none all = every-at P ls k none all.1

-- the parts of a line lie too
pub line-lies : (s : Source) (ps : List Part) (k : ℕ) → EachLies s ps → EachLies s (get_or (cut_lines is_end ps) k [])
line-lies s ps k lie =
    every-at (EachLies s) (cut_lines is_end ps) k tt
    (Every-mono (Every (Lies s)) (EachLies s) (cut_lines is_end ps) (lies-each s) (Every-lines is_end (Lies s) ps (each-lies s ps lie)))

every-drop : {X : Type 0} (P : X → Type 0) (n : ℕ) (xs : List X) → Every P xs → Every P (drop n xs)
every-drop P zero xs all = all
every-drop P (suc n) [] all = tt
every-drop P (suc n) (x ∷ xs) all = every-drop P n xs all.1

module _ (s : Source) (laid : LaidOut) (are : AreLinesOf s laid) where
  tokens : folded s.text s.inlays s.folds ≡ tokens_of s laid.parts
  tokens = sym are.shown.shows

  pub line-found : (o : ℕ) (bias : Bias) → o ≤ length s.text → inside s.folds o ≡ false →
      line_of s.text s.inlays s.folds o bias ≡ count_by (part_passed o bias) (filter is_end laid.parts)
  line-found o bias le out =
      ap (count_by is_break) (passed-tokens s.text s.inlays s.folds o bias le out ∙ ap (filter (token_passed o bias)) tokens)
      ∙ count-ends s o bias laid.parts are.shown.lie

  pub place-found : (o : ℕ) (bias : Bias) → o ≤ length s.text → inside s.folds o ≡ false →
      place_in_line s.text s.inlays s.folds o bias
      ≡ sum_by (passed_bytes o bias) (get_or (cut_lines is_end laid.parts) (count_by (part_passed o bias) (filter is_end laid.parts)) [])
  place-found o bias le out =
      let split = split-at s.text s.inlays s.folds o bias le out in
      let before = folded_to s.text s.inlays s.folds o bias in
      let k : ℕ = count_by (part_passed o bias) (filter is_end laid.parts) in
      let P = token_passed o bias in
      let f = first-line is_break split.next split.rest in
      let lines : cut_lines is_break (before ++ split.next ∷ split.rest) ≡ map (tokens_of s) (cut_lines is_end laid.parts) =
      ap (cut_lines is_break) (sym split.is ∙ tokens) ∙ cut-tokens s before_all laid.parts are.shown.lie are.shown.closed in
      let line : after_last is_break before ++ split.next ∷ f.line ≡ tokens_of s (get_or (cut_lines is_end laid.parts) k []) =
      sym (line-at is_break before split.next split.rest)
      ∙ (λ i. get_or (lines i) (line-found o bias le out i) [])
      ∙ at (cut_lines is_end laid.parts) k in
      let behind : Every (λ t. P t ≡ false) (split.next ∷ f.line) = first f.is (Every-lines is_break (λ t. P t ≡ false) (split.next ∷ split.rest) split.behind) in
      let front : filter P (after_last is_break before ++ split.next ∷ f.line) ≡ after_last is_break before =
      filter-append P (after_last is_break before) (split.next ∷ f.line)
      ∙ (λ i. filter-all P (after_last is_break before) (every-drop (λ t. P t ≡ true) _ before split.passed) i ++ filter-none P (split.next ∷ f.line) behind i)
      ∙ append-nil (after_last is_break before) in
      ap size (sym front ∙ ap (filter P) line)
      ∙ line-bytes s o bias (get_or (cut_lines is_end laid.parts) k []) (line-lies s laid.parts k are.shown.lie) where
        at : (ls : List (List Part)) (k : ℕ) → get_or (map (tokens_of s) ls) k [] ≡ tokens_of s (get_or ls k [])
        at [] k = refl
        at (l ∷ ls) zero = refl
        at (l ∷ ls) (suc k) = at ls k

        first : {l : List Token} {ls rest : List (List Token)} → rest ≡ l ∷ ls → Every (Every (λ t. token_passed o bias t ≡ false)) rest → Every (λ t. token_passed o bias t ≡ false) l
        first e all = (subst (Every (Every (λ t. token_passed o bias t ≡ false))) e all).0

  -- ---- the lines and their pieces

  lines-tokens : display_lines s.text s.inlays s.folds ≡ map (tokens_of s) (cut_lines is_end laid.parts)
  lines-tokens = ap (cut_lines is_break) tokens ∙ cut-tokens s before_all laid.parts are.shown.lie are.shown.closed

  pub lines-counted : length (shown_lines s) ≡ length (ends_from 0 laid.parts)
  lines-counted =
      length-map (display_lines s.text s.inlays s.folds) pieces_of
      ∙ ap length lines-tokens
      ∙ length-map (cut_lines is_end laid.parts) (tokens_of s)
      ∙ length-lines 0 before_all laid.parts are.shown.closed

  each : EachLine s (cut_lines is_end laid.parts)
  each = each-line s before_all laid.parts are.shown.chain are.shown.lie are.shown.closed

  pub pieces-found : (k : ℕ) → k < length (shown_lines s) → slice_get (shown_lines s) k ≡ Some (map (piece_in s) (before_end (get_or (cut_lines is_end laid.parts) k [])))
  pieces-found k lt =
      let size : k < length (cut_lines is_end laid.parts) = omega (arith, lt, lines-counted, length-lines 0 before_all laid.parts are.shown.closed) in
      ap (λ (ls : List (List Piece)). slice_get ls k) (ap (map pieces_of) lines-tokens ∙ pieces-lines s are.lawful (cut_lines is_end laid.parts) each)
      ∙ at (cut_lines is_end laid.parts) k size where
        at : (ls : List (List Part)) (k : ℕ) → k < length ls → slice_get (map (λ l. map (piece_in s) (before_end l)) ls) k ≡ Some (map (piece_in s) (before_end (get_or ls k [])))
        at [] k lt = absurd (omega (arith, lt))
        at (l ∷ ls) zero lt = refl
        at (l ∷ ls) (suc k) lt = at ls k (omega (arith, lt))

  pub line-some : (k : ℕ) → k < length (shown_lines s) → 0 < length (get_or (cut_lines is_end laid.parts) k [])
  line-some k lt =
      let size : k < length (cut_lines is_end laid.parts) = omega (arith, lt, lines-counted, length-lines 0 before_all laid.parts are.shown.closed) in
      at (cut_lines is_end laid.parts) k size each where
        one : (q : Part) (l : List Part) → IsLine s q l → 0 < length l
        one q [] line = absurd line
        one q (p ∷ ps) line = omega arith

        at : (ls : List (List Part)) (k : ℕ) → k < length ls → EachLine s ls → 0 < length (get_or ls k [])
        at [] k lt all = absurd (omega (arith, lt))
        at (l ∷ ls) zero lt all = one all.0.0 l all.0.1
        at (l ∷ ls) (suc k) lt all = at ls k (omega (arith, lt)) all.1

pub lies-all : (s : Source) (ps : List Part) → EachLies s ps → All (Lies s) ps
lies-all s ps lie = All-from_Every (Lies s) ps (each-lies s ps lie)
