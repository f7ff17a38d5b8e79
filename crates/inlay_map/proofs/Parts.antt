-- What is shown, inlay by inlay: the bytes of the text before it, and then its own.
use Rattle.std.proofs.Common.{◌≡◌, ◌≢◌, ℕ, ◌+◌, ◌-◌, ◌<◌, ◌≤◌, ◌==◌, Bool, true, false, cond, List, [], ◌∷◌, ◌++◌, length, take, drop, filter, refl, sym, ap, ◌∙◌, arith, append_assoc}
use Rattle.std.specs.List.{flat_map}
use Rattle.std.proofs.lemmas.Bool.Decides.{nat_tests}
use Rattle.std.proofs.lemmas.List.{append-nil, length-take, length-drop, take-append-drop, drop-drop}
use Rattle.cell_units.specs.Inlaid.{Token, Byte, inlay_bytes, inlays_at, show_each}
use Rattle.cell_units.specs.Record.{Inlay}
use Rattle.cell_units.specs.Folded.{shown}
use Rattle.cell_units.proofs.ShownMoved.{show_each-append, show_each-same}
use Rattle.inlay_map.proofs.Spread.{IsSpread}

-- the bytes of a text, of which the first is at the offset
abbrev pub text_tokens : ℕ → List ℕ → List Token
text_tokens o bs = show_each (λ k b. Byte k b ∷ []) o bs

-- what is shown from the offset `base` on, where the inlays are there or later
abbrev pub parts_from : List ℕ → ℕ → List Inlay → List Token
parts_from text base [] = text_tokens base (drop base text)
parts_from text base (i ∷ is) = text_tokens base (take (i.offset - base) (drop base text)) ++ (inlay_bytes i ++ parts_from text i.offset is)

eq_is : (m n : ℕ) → m ≡ n → (m == n) ≡ true
eq_is m n e = grind (arith, nat_tests)

ne_is : (m n : ℕ) → m ≢ n → (m == n) ≡ false
ne_is m n e = go (m == n) refl where
  same : (a b : ℕ) → (a == b) ≡ true → a ≡ b
  same a b h = grind (arith, nat_tests)

  go : (b : Bool) → (m == n) ≡ b → b ≡ false
  go true h = absurd (e (same m n h))
  go false h = refl

-- an inlay is shown at its own offset alone
at-own : (i : Inlay) (is : List Inlay) (o : ℕ) → i.offset ≡ o → inlays_at (i ∷ is) o ≡ inlay_bytes i ++ inlays_at is o
at-own i is o e = ap (λ b. flat_map inlay_bytes (cond b (i ∷ filter (λ j. j.offset == o) is) (filter (λ j. j.offset == o) is))) (eq_is i.offset o e)

pub at-other : (i : Inlay) (is : List Inlay) (o : ℕ) → i.offset ≢ o → inlays_at (i ∷ is) o ≡ inlays_at is o
at-other i is o e = ap (λ b. flat_map inlay_bytes (cond b (i ∷ filter (λ j. j.offset == o) is) (filter (λ j. j.offset == o) is))) (ne_is i.offset o e)

module _ (text : List ℕ) where
  at-before : (base k : ℕ) (is : List Inlay) → IsSpread text base is → k < base → inlays_at is k ≡ []
  at-before base k [] s lt = refl
  at-before base k (i ∷ is) s lt = at-other i is k (λ e. omega (arith, e, s.0, lt)) ∙ at-before i.offset k is s.3 (omega (arith, s.0, lt))

  -- the first of inlays at its offset
  first-here : (i : Inlay) (is : List Inlay) (rest : List ℕ) (end : ℕ) → end ≡ i.offset + length rest
      → show_each (shown (i ∷ is) []) i.offset rest ++ inlays_at (i ∷ is) end ≡ inlay_bytes i ++ (show_each (shown is []) i.offset rest ++ inlays_at is end)
  first-here i is [] end e = at-own i is end (omega (arith, e))
  first-here i is (c ∷ cs) end e =
      let o = i.offset in
      let each : (k d : ℕ) → o + 1 ≤ k → shown (i ∷ is) [] k d ≡ shown is [] k d = λ k d lt. ap (λ l. l ++ Byte k d ∷ []) (at-other i is k (λ q. omega (arith, q, lt))) in
      let tail : show_each (shown (i ∷ is) []) (o + 1) cs ≡ show_each (shown is []) (o + 1) cs = same-from (o + 1) cs each in
      (λ j. ((at-own i is o refl j ++ Byte o c ∷ []) ++ tail j) ++ at-other i is end (λ q. omega (arith, q, e)) j)
      ∙ ap (λ l. (l ++ show_each (shown is []) (o + 1) cs) ++ inlays_at is end) (append_assoc (inlay_bytes i) (inlays_at is o) (Byte o c ∷ []))
      ∙ ap (λ l. l ++ inlays_at is end) (append_assoc (inlay_bytes i) (inlays_at is o ++ Byte o c ∷ []) (show_each (shown is []) (o + 1) cs))
      ∙ append_assoc (inlay_bytes i) ((inlays_at is o ++ Byte o c ∷ []) ++ show_each (shown is []) (o + 1) cs) (inlays_at is end)
    where
      same-from : (o : ℕ) (xs : List ℕ) → ((k d : ℕ) → o ≤ k → shown (i ∷ is) [] k d ≡ shown is [] k d) → show_each (shown (i ∷ is) []) o xs ≡ show_each (shown is []) o xs
      same-from o [] f = refl
      same-from o (x ∷ xs) f = λ j. f o x (omega arith) j ++ same-from (o + 1) xs (λ k d lt. f k d (omega arith)) j

  pub parts-are : (base : ℕ) (is : List Inlay) → IsSpread text base is → base ≤ length text → show_each (shown is []) base (drop base text) ++ inlays_at is (length text) ≡ parts_from text base is
  parts-are base [] s le = append-nil (show_each (shown [] []) base (drop base text))
  parts-are base (i ∷ is) s le =
      let o = i.offset in
      let front = take (o - base) (drop base text) in
      let sum : base + (o - base) ≡ o = omega (arith, s.0) in
      let rest : drop (o - base) (drop base text) ≡ drop o text = drop-drop (o - base) base text ∙ ap (λ k. drop k text) sum in
      let whole : drop base text ≡ front ++ drop o text = sym (take-append-drop (o - base) (drop base text)) ∙ ap (λ l. front ++ l) rest in
      let long : base + length front ≡ o = omega (arith, length-take (o - base) (drop base text), length-drop base text, s.0, s.1) in
      let plain : show_each (shown (i ∷ is) []) base front ≡ text_tokens base front =
      show_each-same (λ k b. Byte k b ∷ []) (shown (i ∷ is) []) base front
      (λ k b lt. ap (λ l. l ++ Byte k b ∷ []) (at-other i is k (λ e. omega (arith, e, lt, long)) ∙ at-before o k is s.3 (omega (arith, lt, long)))) in
      ap (λ l. show_each (shown (i ∷ is) []) base l ++ inlays_at (i ∷ is) (length text)) whole
      ∙ ap (λ l. l ++ inlays_at (i ∷ is) (length text)) (show_each-append (shown (i ∷ is) []) base front (drop o text) ∙ (λ j. plain j ++ show_each (shown (i ∷ is) []) (long j) (drop o text)))
      ∙ append_assoc (text_tokens base front) (show_each (shown (i ∷ is) []) o (drop o text)) (inlays_at (i ∷ is) (length text))
      ∙ ap (λ l. text_tokens base front ++ l) (first-here i is (drop o text) (length text) (omega (arith, length-drop o text, s.1)) ∙ ap (λ l. inlay_bytes i ++ l) (parts-are o is s.3 s.1))
