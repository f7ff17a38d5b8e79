-- The column of a place is how many bytes of its display line are before the position.
use Rattle.std.proofs.Common.{◌≡◌, ℕ, ◌+◌, ◌-◌, ◌≤◌, suc, zero, not, Bool, true, false, cond, List, [], ◌∷◌, ◌++◌, length, take, drop, get_or, refl, sym, ap, ◌∙◌, subst, arith, append_assoc, length-append}
use Rattle.std.specs.List.{suffix_len, after_last, prefix_len}
use Rattle.std.proofs.lemmas.List.{drop-append-le, drop_all, length_push, reverse-append, take_all, take_more}
use Rattle.std.proofs.lemmas.List.Concat.{flat_map-append}
use Rattle.std.proofs.lemmas.List.Sums.{suffix_len-le-length}
use Rattle.cell_units.specs.declared.place.Bias.{Bias}
use Rattle.cell_units.specs.Text.{is_feed, row_start}
use Rattle.cell_units.specs.Inlaid.{Token, Byte, InlayByte, Hidden, bytes_of, is_break}
use Rattle.cell_units.specs.Folded.{folded_to, place_in_line}
use Rattle.cell_units.specs.Layers.{Source, place_of, point_of, shown_text}
use Rattle.cell_units.proofs.LineSpans.{bytes-before}
use Rattle.cell_units.proofs.ShownText.{EndsOpen, tokens_bytes}

suffix-push : {X : Type 0} (p : X → Bool) (xs : List X) (y : X) → suffix_len p (xs ++ y ∷ []) ≡ cond (p y) (1 + suffix_len p xs) 0
suffix-push p xs y = ap (prefix_len p) (reverse-append xs (y ∷ []))

abbrev unbroken : List Token → ℕ
unbroken ts = suffix_len (λ t. not (is_break t)) ts

abbrev feedless : List ℕ → ℕ
feedless bytes = suffix_len (λ b. not (is_feed b)) bytes

after-push : (xs : List Token) (t : Token) → after_last is_break (xs ++ t ∷ []) ≡ cond (is_break t) [] (after_last is_break xs ++ t ∷ [])
after-push xs t = go (is_break t) (suffix-push (λ t. not (is_break t)) xs t) where
  short : unbroken xs ≤ length xs
  short = suffix_len-le-length (λ t. not (is_break t)) xs

  go : (c : Bool) → unbroken (xs ++ t ∷ []) ≡ cond (not c) (1 + unbroken xs) 0 → after_last is_break (xs ++ t ∷ []) ≡ cond c [] (after_last is_break xs ++ t ∷ [])
  go true e = drop_all (length (xs ++ t ∷ []) - unbroken (xs ++ t ∷ [])) (xs ++ t ∷ []) (omega (arith, e))
  go false e =
      let same : length (xs ++ t ∷ []) - unbroken (xs ++ t ∷ []) ≡ length xs - unbroken xs = omega (arith, e, length_push xs t) in
      ap (λ (n : ℕ). drop n (xs ++ t ∷ [])) same ∙ drop-append-le (length xs - unbroken xs) xs (t ∷ []) (omega arith)

-- there are as many bytes after the last break as after the last feed
abbrev Agrees : List Token → Type 0
Agrees ts = feedless (tokens_bytes ts) ≡ length (tokens_bytes (after_last is_break ts))

byte-agrees : (xs : List Token) (t : Token) (b : ℕ) → bytes_of t ≡ b ∷ [] → is_break t ≡ is_feed b → Agrees xs → Agrees (xs ++ t ∷ [])
byte-agrees xs t b is br h =
    let bytes : tokens_bytes (xs ++ t ∷ []) ≡ tokens_bytes xs ++ b ∷ [] = flat_map-append bytes_of xs (t ∷ []) ∙ ap (λ (l : List ℕ). tokens_bytes xs ++ (l ++ [])) is in
    ap feedless bytes
    ∙ suffix-push (λ b. not (is_feed b)) (tokens_bytes xs) b
    ∙ go (is_feed b)
    ∙ ap (λ (c : Bool). length (tokens_bytes (cond c [] (after_last is_break xs ++ t ∷ [])))) (sym br)
    ∙ ap (λ (l : List Token). length (tokens_bytes l)) (sym (after-push xs t)) where
      more : length (tokens_bytes (after_last is_break xs ++ t ∷ [])) ≡ 1 + length (tokens_bytes (after_last is_break xs))
      more =
          let one : length (tokens_bytes (t ∷ [])) ≡ 1 = ap (λ (l : List ℕ). length (l ++ [])) is in
          omega (arith, one, ap length (flat_map-append bytes_of (after_last is_break xs) (t ∷ [])), length-append (tokens_bytes (after_last is_break xs)) (tokens_bytes (t ∷ [])))

      go : (c : Bool) → cond (not c) (1 + feedless (tokens_bytes xs)) 0 ≡ length (tokens_bytes (cond c [] (after_last is_break xs ++ t ∷ [])))
      go true = refl
      go false = omega (arith, h, more)

hidden-agrees : (xs : List Token) (o : ℕ) → Agrees xs → Agrees (xs ++ Hidden o ∷ [])
hidden-agrees xs o h =
    let B = tokens_bytes xs in
    let bytes : tokens_bytes (xs ++ Hidden o ∷ []) ≡ ((B ++ 0xE2 ∷ []) ++ 0x8B ∷ []) ++ 0xAF ∷ [] =
    flat_map-append bytes_of xs (Hidden o ∷ [])
    ∙ sym (append_assoc B (0xE2 ∷ []) (0x8B ∷ 0xAF ∷ []))
    ∙ sym (append_assoc (B ++ 0xE2 ∷ []) (0x8B ∷ []) (0xAF ∷ [])) in
    let p = λ (b : ℕ). not (is_feed b) in
    let one = suffix-push p B 0xE2 in
    let two = suffix-push p (B ++ 0xE2 ∷ []) 0x8B in
    let three = suffix-push p ((B ++ 0xE2 ∷ []) ++ 0x8B ∷ []) 0xAF in
    let A = after_last is_break xs in
    let more : length (tokens_bytes (A ++ Hidden o ∷ [])) ≡ length (tokens_bytes A) + 3 =
    ap length (flat_map-append bytes_of A (Hidden o ∷ [])) ∙ length-append (tokens_bytes A) (tokens_bytes (Hidden o ∷ [])) in
    omega (arith, ap feedless bytes, one, two, three, h, more, ap (λ (l : List Token). length (tokens_bytes l)) (after-push xs (Hidden o)))

push-agrees : (xs : List Token) (t : Token) → Agrees xs → Agrees (xs ++ t ∷ [])
push-agrees xs (Byte o b) h = byte-agrees xs (Byte o b) b refl refl h
push-agrees xs (InlayByte o id b) h = byte-agrees xs (InlayByte o id b) b refl refl h
push-agrees xs (Hidden o) h = hidden-agrees xs o h

front-agrees : (n : ℕ) (ts : List Token) → n ≤ length ts → Agrees (take n ts)
front-agrees zero ts le = refl
front-agrees (suc m) ts le =
    let next : m + 1 ≡ suc m = omega arith in
    subst (λ (n : ℕ). Agrees (take n ts)) next
    (subst Agrees (sym (take_more ts m (Hidden 0) (omega arith))) (push-agrees (take m ts) (get_or ts m (Hidden 0)) (front-agrees m ts (omega arith))))

all-agree : (ts : List Token) → Agrees ts
all-agree ts = subst Agrees (take_all (length ts) ts (omega arith)) (front-agrees (length ts) ts (omega arith))

pub place-column : (s : Source) → EndsOpen s → (o : ℕ) (bias : Bias) → o ≤ length s.text →
    (point_of (shown_text s) (place_of s o bias)).column ≡ place_in_line s.text s.inlays s.folds o bias
place-column s w o bias le =
    let P = folded_to s.text s.inlays s.folds o bias in
    let front : take (place_of s o bias) (shown_text s) ≡ tokens_bytes P = bytes-before s w o bias le in
    let start : row_start (shown_text s) (place_of s o bias) ≡ place_of s o bias - feedless (tokens_bytes P) =
    ap (λ (l : List ℕ). place_of s o bias - feedless l) front in
    omega (arith, start, all-agree P, suffix_len-le-length (λ b. not (is_feed b)) (tokens_bytes P))
