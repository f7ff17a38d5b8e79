-- The folded text of a lawful record is whole characters, each of one piece.
use Rattle.std.proofs.Common.{◌≡◌, ◌≢◌, ℕ, ◌+◌, ◌<◌, ◌≤◌, ◌==◌, ◌&&◌, ◌||◌, leb, ltb, Bool, true, false, cond, if◌then◌else◌, List, [], ◌∷◌, ◌++◌, suc, length, filter, map, get_or, encode_utf8_all, refl, sym, ap, ◌∙◌, subst, append_assoc, append-nil, inl, inr, ◌⊎◌, arith}
use lib.Utf8.{encode, scalar}
use Rattle.std.specs.List.{All, flat_map}
use Rattle.std.specs.Str.{IsUtf8, all_scalars}
use Rattle.std.proofs.lemmas.Bool.{and_parts, cases_Bool, cases_lt, false≢true, or_cases, or_left, or_right, true≢false}
use Rattle.std.proofs.lemmas.Bool.Decides.{nat_tests}
use Rattle.std.proofs.lemmas.List.{map-append}
use Rattle.std.proofs.lemmas.Str.{encode_ascii}
use Rattle.cell_units.specs.Cutting.{cut_lines}
use Rattle.cell_units.specs.Text.{goes_on, is_feed, line_feed}
use Rattle.cell_units.specs.Record.{Fold, Inlay}
use Rattle.cell_units.specs.Inlaid.{Byte, Hidden, InlayByte, Token, bytes_of, inlay_bytes, inlays_at, is_break, show_each}
use Rattle.cell_units.specs.Folded.{covered, display_lines, folded, inside, shown}
use Rattle.cell_units.proofs.Characters.{GoOn, Spelled, clean-utf8, goes_on-high, one_utf8, spelled}
use Rattle.plain_rows.proofs.FoldedFronts.{show_each-append}
use Rattle.spot_laws.proofs.LineTexts.{ABreak, AText, AreGoodLines, AreLinked, HasNoBreak, IsUnit, Units, good-lines, units-append, units-nil, units-one}

-- ---- the characters of an inlay

linked-inlay : (offset id b : ℕ) (bs : List ℕ) → AreLinked (InlayByte offset id b) (map (λ c. InlayByte offset id c) bs)
linked-inlay offset id b [] = tt
linked-inlay offset id b (c ∷ cs) = (grind (arith, nat_tests), linked-inlay offset id c cs)

clear-inlay : (offset id : ℕ) (bs : List ℕ) → GoOn bs → HasNoBreak (map (λ c. InlayByte offset id c) bs)
clear-inlay offset id [] h = tt
clear-inlay offset id (b ∷ bs) h = (let high = goes_on-high b h.0 in grind (arith, nat_tests, high), clear-inlay offset id bs h.1)

spelled-inlay : (offset id : ℕ) (bs : List ℕ) → flat_map bytes_of (map (λ c. InlayByte offset id c) bs) ≡ bs
spelled-inlay offset id [] = refl
spelled-inlay offset id (b ∷ bs) = ap (λ (l : List ℕ). b ∷ l) (spelled-inlay offset id bs)

-- a byte that begins a character, and is no feed
not_feed : (c first : ℕ) (rest : List ℕ) → ((first ≡ c) × (first < 128) × (rest ≡ [])) ⊎ (128 ≤ first) → is_feed c ≡ false → is_feed first ≡ false
not_feed c first rest (inl x) h = ap is_feed x.0 ∙ h
not_feed c first rest (inr x) h = grind (arith, nat_tests, x)

char-inlay : (offset id c : ℕ) → scalar c ≡ true → IsUnit (map (λ b. InlayByte offset id b) (encode c))
char-inlay offset id c h = go (cases_Bool (is_feed c)) where
  s : Spelled c
  s = spelled c

  go : (is_feed c ≡ true) ⊎ (is_feed c ≡ false) → IsUnit (map (λ b. InlayByte offset id b) (encode c))
  go (inr other) =
      subst (λ (l : List ℕ). IsUnit (map (λ b. InlayByte offset id b) l)) (sym s.is)
      (AText (InlayByte offset id s.first) (map (λ b. InlayByte offset id b) s.rest) (not_feed c s.first s.rest s.small other, clear-inlay offset id s.rest s.on) (linked-inlay offset id s.first s.rest)
      (subst IsUtf8 (s.is ∙ sym (spelled-inlay offset id (s.first ∷ s.rest))) (one_utf8 c h)))
  go (inl feed) = feed_unit s.first s.rest s.is s.small where
    feed_unit : (first : ℕ) (rest : List ℕ) → encode c ≡ first ∷ rest → ((first ≡ c) × (first < 128) × (rest ≡ [])) ⊎ (128 ≤ first) → IsUnit (map (λ b. InlayByte offset id b) (encode c))
    feed_unit first rest is (inl x) =
        subst (λ (l : List ℕ). IsUnit (map (λ b. InlayByte offset id b) l)) (sym (is ∙ ap (λ (l : List ℕ). first ∷ l) x.2))
        (ABreak (InlayByte offset id first) (ap is_feed x.0 ∙ feed))
    feed_unit first rest is (inr x) = absurd (wide (cases_lt c 128)) where
      wide : (c < 128) ⊎ (128 ≤ c) → ⊥
      wide (inr l) = true≢false (sym feed ∙ grind (arith, nat_tests, l))
      wide (inl l) = let e : first ≡ c = ap (λ (l : List ℕ). get_or l 0 0) (sym is ∙ encode_ascii c l) in omega (arith, e, l, x)

chars-inlay : (offset id : ℕ) (cs : List ℕ) → all_scalars cs ≡ true → Units (map (λ b. InlayByte offset id b) (encode_utf8_all cs))
chars-inlay offset id [] h = units-nil
chars-inlay offset id (c ∷ cs) h =
    let p = and_parts (scalar c) (all_scalars cs) h in
    subst Units (sym (map-append (λ b. InlayByte offset id b) (encode c) (encode_utf8_all cs)))
    (units-append (map (λ b. InlayByte offset id b) (encode c)) (map (λ b. InlayByte offset id b) (encode_utf8_all cs))
    (units-one (map (λ b. InlayByte offset id b) (encode c)) (char-inlay offset id c p.0)) (chars-inlay offset id cs p.1))

inlay-units : (i : Inlay) → IsUtf8 i.text → Units (inlay_bytes i)
inlay-units i h =
    let u = clean-utf8 i.text h in
    subst (λ (l : List ℕ). Units (map (λ b. InlayByte i.offset i.id b) l)) u.1.1 (chars-inlay i.offset i.id u.0 u.1.0)

kept-units : (p : Inlay → Bool) (inlays : List Inlay) → All (λ i. IsUtf8 i.text) inlays → Units (flat_map inlay_bytes (filter p inlays))
kept-units p [] h = units-nil
kept-units p (i ∷ rest) h = go (p i) (kept-units p rest (λ k d l. h (suc k) d (omega (arith, l)))) where
  go : (b : Bool) → Units (flat_map inlay_bytes (filter p rest)) → Units (flat_map inlay_bytes (cond b (i ∷ filter p rest) (filter p rest)))
  go true u = units-append (inlay_bytes i) (flat_map inlay_bytes (filter p rest)) (inlay-units i (h 0 i (omega arith))) u
  go false u = u

-- ---- offsets inside a character

-- no fold starts or ends at the offset
abbrev pub FoldsAreStill : List Fold → ℕ → Type 0
FoldsAreStill [] o = Unit {0}
FoldsAreStill (f ∷ fs) o = (f.start ≢ o) × (f.end ≢ o) × FoldsAreStill fs o

one-covered : (s e o : ℕ) → s ≢ o + 1 → e ≢ o + 1 → (leb s (o + 1) && ltb (o + 1) e) ≡ (leb s o && ltb o e)
one-covered s e o h k = grind (arith, nat_tests, h, k)

one-inside : (s e o : ℕ) → e ≢ o + 1 → (ltb s (o + 1) && ltb (o + 1) e) ≡ (leb s o && ltb o e)
one-inside s e o k = grind (arith, nat_tests, k)

covered-still : (folds : List Fold) (o : ℕ) → FoldsAreStill folds (o + 1) → covered folds (o + 1) ≡ covered folds o
covered-still [] o h = refl
covered-still (f ∷ fs) o h = λ i. one-covered f.start f.end o h.0 h.1 i || covered-still fs o h.2 i

pub inside-still : (folds : List Fold) (o : ℕ) → FoldsAreStill folds (o + 1) → inside folds (o + 1) ≡ covered folds o
inside-still [] o h = refl
inside-still (f ∷ fs) o h = λ i. one-inside f.start f.end o h.1 i || inside-still fs o h.2 i

one-hidden : (s e o : ℕ) → (ltb s o && ltb o e) ≡ true → (leb s o && ltb o e) ≡ true
one-hidden s e o h = grind (arith, nat_tests, h)

pub inside-covered : (folds : List Fold) (o : ℕ) → inside folds o ≡ true → covered folds o ≡ true
inside-covered [] o h = h
inside-covered (f ∷ fs) o h = elim (or_cases (ltb f.start o && ltb o f.end) (inside fs o) h) [
  | inl x ↦ or_left (leb f.start o && ltb o f.end) (covered fs o) (one-hidden f.start f.end o x)
  | inr x ↦ or_right (leb f.start o && ltb o f.end) (covered fs o) (inside-covered fs o x)
]

pub covered-inside : (folds : List Fold) (o : ℕ) → covered folds o ≡ false → inside folds o ≡ false
covered-inside folds o h = go (cases_Bool (inside folds o)) where
  go : (inside folds o ≡ true) ⊎ (inside folds o ≡ false) → inside folds o ≡ false
  go (inl x) = absurd (false≢true (sym h ∙ inside-covered folds o x))
  go (inr x) = x

module _ (inlays : List Inlay) (folds : List Fold) where
  -- nothing is at the offset, as inside a character
  abbrev pub IsStill : ℕ → Type 0
  IsStill o = (inlays_at inlays o ≡ []) × FoldsAreStill folds o

  -- nothing is at a byte that goes on
  abbrev pub AreStill : ℕ → List ℕ → Type 0
  AreStill o [] = Unit {0}
  AreStill o (b ∷ bs) = (goes_on b ≡ true → IsStill o) × AreStill (o + 1) bs

  pub still-from : (o : ℕ) (bs : List ℕ) → ((i : ℕ) → i < length bs → goes_on (get_or bs i 0) ≡ true → IsStill (o + i)) → AreStill o bs
  still-from o [] h = tt
  still-from o (b ∷ bs) h =
      let e : o + 0 ≡ o = omega arith in
      (λ g. subst IsStill e (h 0 (omega arith) g), still-from (o + 1) bs (λ i l g. let e : o + suc i ≡ o + 1 + i = omega arith in subst IsStill e (h (suc i) (omega (arith, l)) g)))

  still-behind : (o : ℕ) (bs cs : List ℕ) → AreStill o (bs ++ cs) → AreStill (o + length bs) cs
  still-behind o [] cs h = let e : o ≡ o + 0 = omega arith in subst (λ (k : ℕ). AreStill k cs) e h
  still-behind o (b ∷ bs) cs h = let e : o + 1 + length bs ≡ o + length (b ∷ bs) = omega arith in subst (λ (k : ℕ). AreStill k cs) e (still-behind (o + 1) bs cs h.1)

  -- bytes of the buffer from an offset on
  abbrev buffer_bytes : ℕ → List ℕ → List Token
  buffer_bytes o [] = []
  buffer_bytes o (b ∷ bs) = Byte o b ∷ buffer_bytes (o + 1) bs

  -- what the bytes of a character after its first show
  shows-on : (o : ℕ) (bs cs : List ℕ) → GoOn bs → AreStill (o + 1) (bs ++ cs) → show_each (shown inlays folds) (o + 1) bs ≡ cond (covered folds o) [] (buffer_bytes (o + 1) bs)
  shows-on o [] cs h k = go (covered folds o) where
    go : (c : Bool) → [] ≡ cond {A = List Token} c [] []
    go true = refl
    go false = refl
  shows-on o (b ∷ bs) cs h k =
      let still = k.0 h.0 in
      let c = covered-still folds o still.1 in
      go (covered folds o) (inside-still folds o still.1) c still.0 (shows-on (o + 1) bs cs h.1 k.1 ∙ ap (λ (t : Bool). cond t [] (buffer_bytes (o + 1 + 1) bs)) c) where
        go : (c : Bool) → inside folds (o + 1) ≡ c → covered folds (o + 1) ≡ c → inlays_at inlays (o + 1) ≡ [] →
            show_each (shown inlays folds) (o + 1 + 1) bs ≡ cond c [] (buffer_bytes (o + 1 + 1) bs) →
            shown inlays folds (o + 1) b ++ show_each (shown inlays folds) (o + 1 + 1) bs ≡ cond c [] (Byte (o + 1) b ∷ buffer_bytes (o + 1 + 1) bs)
        go true i c n rest = λ j. (if i j then [] else (inlays_at inlays (o + 1) ++ (if c j then Hidden (o + 1) else Byte (o + 1) b) ∷ [])) ++ rest j
        go false i c n rest = λ j. (if i j then [] else (n j ++ (if c j then Hidden (o + 1) else Byte (o + 1) b) ∷ [])) ++ rest j

  linked-buffer : (o b : ℕ) (bs : List ℕ) (p : ℕ) → AreLinked (Byte o b) (buffer_bytes p bs)
  linked-buffer o b [] p = tt
  linked-buffer o b (c ∷ cs) p = (refl, linked-buffer p c cs (p + 1))

  clear-buffer : (o : ℕ) (bs : List ℕ) → GoOn bs → HasNoBreak (buffer_bytes o bs)
  clear-buffer o [] h = tt
  clear-buffer o (b ∷ bs) h = (let high = goes_on-high b h.0 in grind (arith, nat_tests, high), clear-buffer (o + 1) bs h.1)

  spelled-buffer : (o : ℕ) (bs : List ℕ) → flat_map bytes_of (buffer_bytes o bs) ≡ bs
  spelled-buffer o [] = refl
  spelled-buffer o (b ∷ bs) = ap (λ (l : List ℕ). b ∷ l) (spelled-buffer (o + 1) bs)

  char-buffer : (o c : ℕ) → scalar c ≡ true → IsUnit (buffer_bytes o (encode c))
  char-buffer o c h = go (cases_Bool (is_feed c)) where
    s : Spelled c
    s = spelled c

    go : (is_feed c ≡ true) ⊎ (is_feed c ≡ false) → IsUnit (buffer_bytes o (encode c))
    go (inr other) =
        subst (λ (l : List ℕ). IsUnit (buffer_bytes o l)) (sym s.is)
        (AText (Byte o s.first) (buffer_bytes (o + 1) s.rest) (not_feed c s.first s.rest s.small other, clear-buffer (o + 1) s.rest s.on) (linked-buffer o s.first s.rest (o + 1))
        (subst IsUtf8 (s.is ∙ sym (spelled-buffer o (s.first ∷ s.rest))) (one_utf8 c h)))
    go (inl feed) =
        let small : c < 128 = grind (arith, nat_tests, feed) in
        subst (λ (l : List ℕ). IsUnit (buffer_bytes o l)) (sym (encode_ascii c small)) (ABreak (Byte o c) feed)

  placeholder-unit : (o : ℕ) → IsUnit (Hidden o ∷ [])
  unfolding encode
  placeholder-unit o = AText (Hidden o) [] (refl, tt) tt (0x22EF ∷ [], (refl, refl))

  module _ (utf8 : All (λ i. IsUtf8 i.text) inlays) where
    inlays-units : (o : ℕ) → Units (inlays_at inlays o)
    inlays-units o = kept-units (λ i. i.offset == o) inlays utf8

    char-units : (o c : ℕ) (cs : List ℕ) → scalar c ≡ true → AreStill o (encode c ++ cs) → Units (show_each (shown inlays folds) o (encode c))
    char-units o c cs h k = go s.first s.rest s.is s.on (inside folds o) (covered folds o) refl refl where
      s : Spelled c
      s = spelled c

      go : (b : ℕ) (bs : List ℕ) → encode c ≡ b ∷ bs → GoOn bs → (i v : Bool) → inside folds o ≡ i → covered folds o ≡ v → Units (show_each (shown inlays folds) o (encode c))
      go b bs is on i v e f = subst Units (sym (ap (show_each (shown inlays folds) o) is ∙ whole)) (each i v e f) where
        still : AreStill (o + 1) (bs ++ cs)
        still = (subst (λ (l : List ℕ). AreStill o (l ++ cs)) is k).1

        whole : show_each (shown inlays folds) o (b ∷ bs) ≡ (if i then [] else (inlays_at inlays o ++ (if v then Hidden o else Byte o b) ∷ [])) ++ cond v [] (buffer_bytes (o + 1) bs)
        whole =
            ap (λ (l : List Token). shown inlays folds o b ++ l) (shows-on o bs cs on still)
            ∙ (λ j. (if e j then [] else (inlays_at inlays o ++ (if f j then Hidden o else Byte o b) ∷ [])) ++ cond (f j) [] (buffer_bytes (o + 1) bs))

        each : (i v : Bool) → inside folds o ≡ i → covered folds o ≡ v → Units ((if i then [] else (inlays_at inlays o ++ (if v then Hidden o else Byte o b) ∷ [])) ++ cond v [] (buffer_bytes (o + 1) bs))
        each true true e f = units-nil
        each true false e f = absurd (false≢true (sym f ∙ inside-covered folds o e))
        each false true e f = units-append (inlays_at inlays o ++ Hidden o ∷ []) [] (units-append (inlays_at inlays o) (Hidden o ∷ []) (inlays-units o) (units-one (Hidden o ∷ []) (placeholder-unit o))) units-nil
        each false false e f =
            subst Units (sym (append_assoc (inlays_at inlays o) (Byte o b ∷ []) (buffer_bytes (o + 1) bs)))
            (units-append (inlays_at inlays o) (Byte o b ∷ buffer_bytes (o + 1) bs) (inlays-units o)
            (units-one (Byte o b ∷ buffer_bytes (o + 1) bs) (subst (λ (l : List ℕ). IsUnit (buffer_bytes o l)) is (char-buffer o c h))))

    text-units : (o : ℕ) (cs : List ℕ) → all_scalars cs ≡ true → AreStill o (encode_utf8_all cs) → Units (show_each (shown inlays folds) o (encode_utf8_all cs))
    text-units o [] h k = units-nil
    text-units o (c ∷ cs) h k =
        let p = and_parts (scalar c) (all_scalars cs) h in
        subst Units (sym (show_each-append (shown inlays folds) o (encode c) (encode_utf8_all cs)))
        (units-append (show_each (shown inlays folds) o (encode c)) (show_each (shown inlays folds) (o + length (encode c)) (encode_utf8_all cs))
        (char-units o c (encode_utf8_all cs) p.0 k)
        (text-units (o + length (encode c)) cs p.1 (still-behind o (encode c) (encode_utf8_all cs) k)))

    -- the pieces of each display line are texts
    pub good-display_lines : (text : List ℕ) → IsUtf8 text → AreStill 0 text → covered folds (length text) ≡ false → AreGoodLines (display_lines text inlays folds)
    good-display_lines text u still out =
        let n = length text in
        let front : Units (show_each (shown inlays folds) 0 text) =
        subst (λ (l : List ℕ). Units (show_each (shown inlays folds) 0 l)) u.1.1 (text-units 0 u.0 u.1.0 (subst (AreStill 0) (sym u.1.1) still)) in
        let all = units-append (show_each (shown inlays folds) 0 text) (inlays_at inlays n) front (inlays-units n) in
        let at : 0 + n ≡ n = omega arith in
        let end : show_each (shown inlays folds) n (line_feed ∷ []) ≡ inlays_at inlays n ++ Byte n line_feed ∷ [] =
        append-nil (shown inlays folds n line_feed)
        ∙ (λ i. if covered-inside folds n out i then [] else (inlays_at inlays n ++ (if out i then Hidden n else Byte n line_feed) ∷ [])) in
        let whole : folded text inlays folds ≡ (show_each (shown inlays folds) 0 text ++ inlays_at inlays n) ++ Byte n line_feed ∷ [] =
        show_each-append (shown inlays folds) 0 text (line_feed ∷ [])
        ∙ ap (λ (k : ℕ). show_each (shown inlays folds) 0 text ++ show_each (shown inlays folds) k (line_feed ∷ [])) at
        ∙ ap (λ (l : List Token). show_each (shown inlays folds) 0 text ++ l) end
        ∙ sym (append_assoc (show_each (shown inlays folds) 0 text) (inlays_at inlays n) (Byte n line_feed ∷ [])) in
        subst (λ (l : List Token). AreGoodLines (cut_lines is_break l)) (sym whole) (good-lines (show_each (shown inlays folds) 0 text ++ inlays_at inlays n) (Byte n line_feed) all refl)
