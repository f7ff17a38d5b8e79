-- Lines of tokens of which the prefix ends with a break.
use Rattle.std.proofs.Common.{◌≡◌, ℕ, suc, zero, ◌+◌, ◌<◌, ◌≤◌, Bool, true, false, cond, List, [], ◌∷◌, ◌++◌, length, get_or, refl, sym, ap, ◌∙◌, inl, inr, ◌⊎◌, arith, append-nil, append_assoc}
use Rattle.std.specs.List.{count_by}
use Rattle.std.proofs.lemmas.List.{get_or-append-add}
use Rattle.std.proofs.lemmas.List.Sums.{sum_by-cons}
use Rattle.cell_units.specs.Cutting.{cut_lines, onto_line}
use Rattle.cell_units.specs.Folded.{span_end}
use Rattle.cell_units.specs.Inlaid.{Token, is_break}
use Rattle.cell_units.proofs.CutLists.{after, ended, ended-append, lines-append, lines-cons, lines-upto, upto, upto-after, upto-ended}
use Rattle.fold_map.proofs.Sums.{breaks-append}

abbrev pub Ended : List Token → Type 0
Ended xs = ended is_break true xs ≡ true

breaks-cons : (t : Token) (ts : List Token) → count_by is_break (t ∷ ts) ≡ cond (is_break t) 1 0 + count_by is_break ts
breaks-cons t ts = sum_by-cons (λ (u : Token). cond (is_break u) 1 0) t ts

-- ---- up to a break

-- Tokens up to the break of a number, which is counted from 1, and those after it.
pub record IsCutAt (ts : List Token) (r : ℕ) : Type 0 where
  pub front : List Token
  pub back : List Token
  pub is : ts ≡ front ++ back
  pub breaks : count_by is_break front ≡ r
  pub closed : Ended front

pub cut-behind : (ts : List Token) (r : ℕ) → r ≤ count_by is_break ts → IsCutAt ts r
cut-behind ts zero le = record { front = []; back = ts; is = refl; breaks = refl; closed = refl }
cut-behind [] (suc r) le = absurd (omega (arith, le))
cut-behind (t ∷ ts) (suc r) le = go (is_break t) refl (breaks-cons t ts) (λ k h. cut-behind ts k h) where
  not-first : (xs : List Token) (k : ℕ) → count_by is_break xs ≡ suc k → Ended xs → ended is_break false xs ≡ true
  not-first [] k e h = absurd (omega (arith, e))
  not-first (x ∷ xs) k e h = h

  go : (b : Bool) → is_break t ≡ b → count_by is_break (t ∷ ts) ≡ cond b 1 0 + count_by is_break ts → ((k : ℕ) → k ≤ count_by is_break ts → IsCutAt ts k) → IsCutAt (t ∷ ts) (suc r)
  go true b e next =
      let n = next r (omega (arith, le, e)) in
      record {
        front = t ∷ n.front;
        back = n.back;
        is = ap (λ (l : List Token). t ∷ l) n.is;
        breaks = breaks-cons t n.front ∙ ap (λ (c : Bool). cond c 1 0 + count_by is_break n.front) b ∙ omega (arith, n.breaks);
        closed = ap (λ (c : Bool). ended is_break c n.front) b ∙ n.closed;
      }
  go false b e next =
      let n = next (suc r) (omega (arith, le, e)) in
      record {
        front = t ∷ n.front;
        back = n.back;
        is = ap (λ (l : List Token). t ∷ l) n.is;
        breaks = breaks-cons t n.front ∙ ap (λ (c : Bool). cond c 1 0 + count_by is_break n.front) b ∙ omega (arith, n.breaks);
        closed = ap (λ (c : Bool). ended is_break c n.front) b ∙ not-first n.front r n.breaks n.closed;
      }

-- ---- how many lines there are

pub length-lines : (xs : List Token) → Ended xs → length (cut_lines is_break xs) ≡ count_by is_break xs
length-lines [] h = refl
length-lines (t ∷ []) h = (λ i. length (cond (h i) ((t ∷ []) ∷ []) (onto_line t []))) ∙ sym (breaks-cons t [] ∙ ap (λ (c : Bool). cond c 1 0 + 0) h)
length-lines (t ∷ u ∷ us) h = go (is_break t) (breaks-cons t (u ∷ us)) (lines-cons is_break u us) (length-lines (u ∷ us) h) where
  go : (b : Bool) → count_by is_break (t ∷ u ∷ us) ≡ cond b 1 0 + count_by is_break (u ∷ us)
      → (l : List Token) × (ls : List (List Token)) × (cut_lines is_break (u ∷ us) ≡ l ∷ ls) → length (cut_lines is_break (u ∷ us)) ≡ count_by is_break (u ∷ us)
      → length (cond b ((t ∷ []) ∷ cut_lines is_break (u ∷ us)) (onto_line t (cut_lines is_break (u ∷ us)))) ≡ count_by is_break (t ∷ u ∷ us)
  go true e r n = omega (arith, e, n)
  go false e r n =
      ap (λ (ls : List (List Token)). length (onto_line t ls)) r.2
      ∙ (let same : length (r.0 ∷ r.1) ≡ count_by is_break (t ∷ u ∷ us) = omega (arith, ap (λ (ls : List (List Token)). length ls) r.2, n, e) in same)

-- ---- the line after the prefix, and its last line

pub first-line : (t : Token) (ts : List Token) → get_or (cut_lines is_break (t ∷ ts)) 0 [] ≡ upto is_break (t ∷ ts)
first-line t ts = go (upto-ended is_break true t ts) where
  whole : upto is_break (t ∷ ts) ++ after is_break (t ∷ ts) ≡ t ∷ ts
  whole = upto-after is_break (t ∷ ts)

  go : (ended is_break true (upto is_break (t ∷ ts)) ≡ true) ⊎ (after is_break (t ∷ ts) ≡ []) → get_or (cut_lines is_break (t ∷ ts)) 0 [] ≡ upto is_break (t ∷ ts)
  go (inl h) =
      ap (λ (l : List Token). get_or (cut_lines is_break l) 0 []) (sym whole)
      ∙ ap (λ (ls : List (List Token)). get_or ls 0 []) (lines-append is_break (upto is_break (t ∷ ts)) (after is_break (t ∷ ts)) h ∙ ap (λ (ls : List (List Token)). ls ++ cut_lines is_break (after is_break (t ∷ ts))) (lines-upto is_break t ts))
  go (inr h) =
      let all : t ∷ ts ≡ upto is_break (t ∷ ts) = sym whole ∙ ap (λ (l : List Token). upto is_break (t ∷ ts) ++ l) h ∙ append-nil (upto is_break (t ∷ ts)) in
      ap (λ (l : List Token). get_or (cut_lines is_break l) 0 []) all ∙ ap (λ (ls : List (List Token)). get_or ls 0 []) (lines-upto is_break t ts)

-- the line that begins after a prefix that ends with a break
pub line-behind : (front : List Token) (t : Token) (ts : List Token) (line : ℕ) → Ended front → count_by is_break front ≡ line → get_or (cut_lines is_break (front ++ t ∷ ts)) line [] ≡ upto is_break (t ∷ ts)
line-behind front t ts line closed e =
    let long : length (cut_lines is_break front) ≡ line = length-lines front closed ∙ e in
    let same : line ≡ length (cut_lines is_break front) + 0 = omega (arith, long) in
    (λ i. get_or (lines-append is_break front (t ∷ ts) closed i) (same i) [])
    ∙ get_or-append-add (cut_lines is_break front) (cut_lines is_break (t ∷ ts)) 0 []
    ∙ first-line t ts

module _ (text : List ℕ) where
  pub span_end-behind : (xs : List Token) (v : Token) (vs : List Token) → span_end text (xs ++ v ∷ vs) ≡ span_end text (v ∷ vs)
  span_end-behind [] v vs = refl
  span_end-behind (x ∷ []) v vs = refl
  span_end-behind (x ∷ y ∷ ys) v vs = span_end-behind (y ∷ ys) v vs

  -- what ends with a break has one
  some-break : (e : Bool) (t : Token) (ts : List Token) → ended is_break e (t ∷ ts) ≡ true → 0 < count_by is_break (t ∷ ts)
  some-break e t [] h = omega (arith, breaks-cons t [] ∙ ap (λ (c : Bool). cond c 1 0 + 0) h)
  some-break e t (u ∷ us) h = omega (arith, breaks-cons t (u ∷ us), some-break (is_break t) u us h)

  -- one line, whatever comes after it
  upto-one : (e : Bool) (ts ys : List Token) → ended is_break e ts ≡ true → count_by is_break ts ≡ 1 → upto is_break (ts ++ ys) ≡ ts
  upto-one e [] ys h n = absurd (omega (arith, n))
  upto-one e (t ∷ ts) ys h n = go (is_break t) refl ts h (breaks-cons t ts) (λ k. upto-one false ts ys k) where
    go : (b : Bool) → is_break t ≡ b → (us : List Token) → ended is_break (is_break t) us ≡ true → count_by is_break (t ∷ ts) ≡ cond (is_break t) 1 0 + count_by is_break us
        → (ended is_break false us ≡ true → count_by is_break us ≡ 1 → upto is_break (us ++ ys) ≡ us) → t ∷ cond (is_break t) [] (upto is_break (us ++ ys)) ≡ t ∷ us
    go true b [] h e next = ap (λ (c : Bool). t ∷ cond c [] (upto is_break ys)) b
    go true b (u ∷ us) h e next = absurd (omega (arith, some-break (is_break t) u us h, e, n, ap (λ (c : Bool). cond {A = ℕ} c 1 0) b))
    go false b us h e next =
        let one : count_by is_break us ≡ 1 = omega (arith, e, n, ap (λ (c : Bool). cond {A = ℕ} c 1 0) b) in
        ap (λ (c : Bool). t ∷ cond c [] (upto is_break (us ++ ys))) b ∙ ap (λ (l : List Token). t ∷ l) (next (ap (λ (c : Bool). ended is_break c us) (sym b) ∙ h) one)

  -- the last line of a prefix that ends with a break
  pub end-of_line : (front ys : List Token) (line : ℕ) → Ended front → count_by is_break front ≡ suc line → span_end text (get_or (cut_lines is_break (front ++ ys)) line []) ≡ span_end text front
  end-of_line front ys line closed e = go c.back c.is one ended-back where
    c : IsCutAt front line
    c = cut-behind front line (omega (arith, e))

    one : count_by is_break c.back ≡ 1
    one = omega (arith, ap (count_by is_break) c.is, breaks-append c.front c.back, c.breaks, e)

    ended-back : ended is_break (ended is_break true c.front) c.back ≡ true
    ended-back = sym (ended-append is_break true c.front c.back) ∙ ap (ended is_break true) (sym c.is) ∙ closed

    go : (back : List Token) → front ≡ c.front ++ back → count_by is_break back ≡ 1 → ended is_break (ended is_break true c.front) back ≡ true
        → span_end text (get_or (cut_lines is_break (front ++ ys)) line []) ≡ span_end text front
    go [] is n h = absurd (omega (arith, n))
    go (v ∷ vs) is n h =
        let line-is : get_or (cut_lines is_break (front ++ ys)) line [] ≡ v ∷ vs =
        ap (λ (l : List Token). get_or (cut_lines is_break (l ++ ys)) line []) is
        ∙ ap (λ (l : List Token). get_or (cut_lines is_break l) line []) (append_assoc c.front (v ∷ vs) ys)
        ∙ line-behind c.front v (vs ++ ys) line c.closed c.breaks
        ∙ upto-one (ended is_break true c.front) (v ∷ vs) ys h n in
        ap (span_end text) line-is ∙ sym (ap (span_end text) is ∙ span_end-behind c.front v vs)
