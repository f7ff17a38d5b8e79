-- The ends of lines of parts, by numbers of parts.
use Rattle.std.proofs.Common.{◌≡◌, ℕ, ◌+◌, ◌-◌, ◌<◌, ◌≤◌, suc, zero, Bool, true, false, cond, List, [], ◌∷◌, ◌++◌, length, map, take, drop, get_or, filter, refl, sym, ap, ◌∙◌, subst, arith}
use Rattle.std.specs.List.{sum_by}
use Rattle.std.proofs.lemmas.List.{take-append-drop}
use Rattle.std.proofs.lemmas.List.Sums.{sum_by-append}
use Rattle.std.proofs.lemmas.Bool.{false≢true}
use Rattle.cell_units.specs.Cutting.{cut_lines, onto_line}
use Rattle.cell_units.proofs.CutLists.{lines-cons}
use Rattle.plain_rows.specs.declared.folded_lines.LineEnd.{LineEnd}
use Rattle.plain_rows.specs.declared.folded_lines.Part.{Part}
use Rattle.plain_rows.specs.FoldedLines.{is_end, last_part}
use Rattle.plain_rows.specs.inside.PartPieces.{before_end, ends_from, line_from}

abbrev pub end_at : ℕ → Part → LineEnd
end_at n p = record { parts = n; feed = p }

-- a line by its number: where it starts and stops
pub record LineAt (n : ℕ) (ps : List Part) (ends : List LineEnd) (lines : List (List Part)) (k : ℕ) (d : LineEnd) : Type 0 where
  pub from : n ≤ line_from n ends k
  pub some : line_from n ends k < (get_or ends k d).parts
  pub within : (get_or ends k d).parts ≤ n + length ps
  pub is : get_or lines k [] ≡ take ((get_or ends k d).parts - line_from n ends k) (drop (line_from n ends k - n) ps)

first-onto : (p : Part) (ls : List (List Part)) → get_or (onto_line p ls) 0 [] ≡ p ∷ get_or ls 0 []
first-onto p [] = refl
first-onto p (l ∷ ls) = refl

later-onto : (p : Part) (ls : List (List Part)) (k : ℕ) → get_or (onto_line p ls) (suc k) [] ≡ get_or ls (suc k) []
later-onto p [] k = refl
later-onto p (l ∷ ls) k = refl

later-from : (n m : ℕ) (ends : List LineEnd) (k : ℕ) → k < length ends → line_from n ends (suc k) ≡ line_from m ends (suc k)
later-from n m [] k lt = absurd (omega (arith, lt))
later-from n m (e ∷ es) k lt = refl

pub first-from : (n : ℕ) (ends : List LineEnd) → line_from n ends 0 ≡ n
first-from n [] = refl
first-from n (e ∷ es) = refl

pub line-at : (n : ℕ) (ps : List Part) (k : ℕ) (d : LineEnd) → k < length (ends_from n ps) → LineAt n ps (ends_from n ps) (cut_lines is_end ps) k d
line-at n [] k d lt = absurd (omega (arith, lt))
line-at n (p ∷ ps) k d lt = go (is_end p) refl k lt (line-at (n + 1) ps) where
  go : (c : Bool) → is_end p ≡ c → (k : ℕ) → k < length (ends_from n (p ∷ ps)) → ((k : ℕ) (d : LineEnd) → k < length (ends_from (n + 1) ps) → LineAt (n + 1) ps (ends_from (n + 1) ps) (cut_lines is_end ps) k d) →
      LineAt n (p ∷ ps) (ends_from n (p ∷ ps)) (cut_lines is_end (p ∷ ps)) k d
  go true e k lt rest =
      let ends : ends_from n (p ∷ ps) ≡ end_at (n + 1) p ∷ ends_from (n + 1) ps = ap (λ (c : Bool). cond c (end_at (n + 1) p ∷ ends_from (n + 1) ps) (ends_from (n + 1) ps)) e in
      let lines : cut_lines is_end (p ∷ ps) ≡ (p ∷ []) ∷ cut_lines is_end ps = ap (λ (c : Bool). cond c ((p ∷ []) ∷ cut_lines is_end ps) (onto_line p (cut_lines is_end ps))) e in
      subst (λ (es : List LineEnd). LineAt n (p ∷ ps) es (cut_lines is_end (p ∷ ps)) k d) (sym ends)
      (subst (λ (ls : List (List Part)). LineAt n (p ∷ ps) (end_at (n + 1) p ∷ ends_from (n + 1) ps) ls k d) (sym lines)
      (at k (subst (λ (es : List LineEnd). k < length es) ends lt))) where
        at : (k : ℕ) → k < length (end_at (n + 1) p ∷ ends_from (n + 1) ps) → LineAt n (p ∷ ps) (end_at (n + 1) p ∷ ends_from (n + 1) ps) ((p ∷ []) ∷ cut_lines is_end ps) k d
        at zero lt =
            let one : n + 1 - n ≡ 1 = omega arith in
            let none : n - n ≡ 0 = omega arith in
            record {
              from = omega arith;
              some = omega arith;
              within = omega arith;
              is = λ i. take (sym one i) (drop (sym none i) (p ∷ ps));
            }
        at (suc k) lt =
            let r = rest k d (omega arith) in
            let more : suc (line_from (n + 1) (ends_from (n + 1) ps) k - (n + 1)) ≡ line_from (n + 1) (ends_from (n + 1) ps) k - n = omega (arith, r.from) in
            record {
              from = omega (arith, r.from);
              some = r.some;
              within = omega (arith, r.within);
              is = r.is ∙ ap (λ (m : ℕ). take ((get_or (ends_from (n + 1) ps) k d).parts - line_from (n + 1) (ends_from (n + 1) ps) k) (drop m (p ∷ ps))) more;
            }
  go false e k lt rest =
      let ends : ends_from n (p ∷ ps) ≡ ends_from (n + 1) ps = ap (λ (c : Bool). cond c (end_at (n + 1) p ∷ ends_from (n + 1) ps) (ends_from (n + 1) ps)) e in
      let lines : cut_lines is_end (p ∷ ps) ≡ onto_line p (cut_lines is_end ps) = ap (λ (c : Bool). cond c ((p ∷ []) ∷ cut_lines is_end ps) (onto_line p (cut_lines is_end ps))) e in
      subst (λ (es : List LineEnd). LineAt n (p ∷ ps) es (cut_lines is_end (p ∷ ps)) k d) (sym ends)
      (subst (λ (ls : List (List Part)). LineAt n (p ∷ ps) (ends_from (n + 1) ps) ls k d) (sym lines)
      (at k (subst (λ (es : List LineEnd). k < length es) ends lt))) where
        at : (k : ℕ) → k < length (ends_from (n + 1) ps) → LineAt n (p ∷ ps) (ends_from (n + 1) ps) (onto_line p (cut_lines is_end ps)) k d
        at zero lt =
            let r = rest 0 d lt in
            let here = first-from n (ends_from (n + 1) ps) in
            let there = first-from (n + 1) (ends_from (n + 1) ps) in
            let stop : ℕ = (get_or (ends_from (n + 1) ps) 0 d).parts in
            let count : stop - line_from (n + 1) (ends_from (n + 1) ps) 0 ≡ stop - (n + 1) = ap (λ (m : ℕ). stop - m) there in
            let none : line_from (n + 1) (ends_from (n + 1) ps) 0 - (n + 1) ≡ 0 = omega (arith, there) in
            let start : line_from n (ends_from (n + 1) ps) 0 - n ≡ 0 = omega (arith, here) in
            let size : suc (stop - (n + 1)) ≡ stop - line_from n (ends_from (n + 1) ps) 0 = omega (arith, here, there, r.some) in
            record {
              from = omega (arith, here);
              some = omega (arith, here, there, r.some);
              within = omega (arith, r.within);
              is =
                  first-onto p (cut_lines is_end ps)
                  ∙ ap (λ (l : List Part). p ∷ l) (r.is ∙ (λ i. take (count i) (drop (none i) ps)))
                  ∙ (λ i. take (size i) (drop (sym start i) (p ∷ ps)));
            }
        at (suc k) lt =
            let r = rest (suc k) d lt in
            let same = later-from n (n + 1) (ends_from (n + 1) ps) k (omega (arith, lt)) in
            let from : ℕ = line_from (n + 1) (ends_from (n + 1) ps) (suc k) in
            let stop : ℕ = (get_or (ends_from (n + 1) ps) (suc k) d).parts in
            let more : suc (from - (n + 1)) ≡ line_from n (ends_from (n + 1) ps) (suc k) - n = omega (arith, r.from, same) in
            record {
              from = omega (arith, r.from, same);
              some = omega (arith, r.some, same);
              within = omega (arith, r.within);
              is =
                  later-onto p (cut_lines is_end ps) k
                  ∙ r.is
                  ∙ (λ i. take (stop - sym same i) (drop (more i) (p ∷ ps)));
            }

pub feeds-of : (n : ℕ) (ps : List Part) → map (λ (e : LineEnd). e.feed) (ends_from n ps) ≡ filter is_end ps
feeds-of n [] = refl
feeds-of n (p ∷ ps) = go (is_end p) (feeds-of (n + 1) ps) where
  go : (c : Bool) → map (λ (e : LineEnd). e.feed) (ends_from (n + 1) ps) ≡ filter is_end ps →
      map (λ (e : LineEnd). e.feed) (cond c (end_at (n + 1) p ∷ ends_from (n + 1) ps) (ends_from (n + 1) ps)) ≡ cond c (p ∷ filter is_end ps) (filter is_end ps)
  go true h = ap (λ l. p ∷ l) h
  go false h = h

-- as many lines as ends, where the last part is one
pub length-lines : (n : ℕ) (q : Part) (ps : List Part) → is_end (last_part q ps) ≡ true → length (cut_lines is_end ps) ≡ length (ends_from n ps)
length-lines n q [] closed = refl
length-lines n q (p ∷ ps) closed = go (is_end p) refl (length-lines (n + 1) p ps closed) where
  onto : (ps : List Part) → is_end p ≡ false → is_end (last_part p ps) ≡ true → length (onto_line p (cut_lines is_end ps)) ≡ length (cut_lines is_end ps)
  onto [] off closed = absurd (false≢true (sym off ∙ closed))
  onto (o ∷ os) off closed = let c = lines-cons is_end o os in ap (λ (ls : List (List Part)). length (onto_line p ls)) c.2 ∙ ap length (sym c.2)

  go : (c : Bool) → is_end p ≡ c → length (cut_lines is_end ps) ≡ length (ends_from (n + 1) ps) → length (cut_lines is_end (p ∷ ps)) ≡ length (ends_from n (p ∷ ps))
  go true e h =
      ap (λ (c : Bool). length (cond c ((p ∷ []) ∷ cut_lines is_end ps) (onto_line p (cut_lines is_end ps)))) e
      ∙ ap suc h
      ∙ ap (λ (c : Bool). length (cond c (end_at (n + 1) p ∷ ends_from (n + 1) ps) (ends_from (n + 1) ps))) (sym e)
  go false e h =
      ap (λ (c : Bool). length (cond c ((p ∷ []) ∷ cut_lines is_end ps) (onto_line p (cut_lines is_end ps)))) e
      ∙ onto ps e closed
      ∙ h
      ∙ ap (λ (c : Bool). length (cond c (end_at (n + 1) p ∷ ends_from (n + 1) ps) (ends_from (n + 1) ps))) (sym e)

pub from-read : (n : ℕ) (ends : List LineEnd) (k : ℕ) (d : LineEnd) → k < length ends → line_from n ends (suc k) ≡ (get_or ends k d).parts
from-read n [] k d lt = absurd (omega (arith, lt))
from-read n (e ∷ es) zero d lt = first-from e.parts es
from-read n (e ∷ es) (suc k) d lt = from-read e.parts es k d (omega (arith, lt))

pub sum-part : (f : Part → ℕ) (ps : List Part) (a b : ℕ) → sum_by f (take b (drop a ps)) ≤ sum_by f ps
sum-part f ps a b =
    omega (
      arith,
      sum_by-append f (take a ps) (drop a ps),
      ap (sum_by f) (take-append-drop a ps),
      sum_by-append f (take b (drop a ps)) (drop b (drop a ps)),
      ap (sum_by f) (take-append-drop b (drop a ps)),
    )

-- one more part
pub ends-push : (n : ℕ) (ps : List Part) (q : Part) → ends_from n (ps ++ q ∷ []) ≡ ends_from n ps ++ cond (is_end q) (end_at (n + length ps + 1) q ∷ []) []
ends-push n [] q = let e : n + 0 + 1 ≡ n + 1 = omega arith in ap (λ (m : ℕ). cond (is_end q) (end_at m q ∷ []) []) (sym e)
ends-push n (p ∷ ps) q =
    let at : n + 1 + length ps + 1 ≡ n + length (p ∷ ps) + 1 = omega arith in
    go (is_end p) (ends-push (n + 1) ps q ∙ ap (λ (m : ℕ). ends_from (n + 1) ps ++ cond (is_end q) (end_at m q ∷ []) []) at) where
      go : (c : Bool) → ends_from (n + 1) (ps ++ q ∷ []) ≡ ends_from (n + 1) ps ++ cond (is_end q) (end_at (n + length (p ∷ ps) + 1) q ∷ []) [] →
          cond c (end_at (n + 1) p ∷ ends_from (n + 1) (ps ++ q ∷ [])) (ends_from (n + 1) (ps ++ q ∷ []))
          ≡ cond c (end_at (n + 1) p ∷ ends_from (n + 1) ps) (ends_from (n + 1) ps) ++ cond (is_end q) (end_at (n + length (p ∷ ps) + 1) q ∷ []) []
      go true rest = ap (λ l. end_at (n + 1) p ∷ l) rest
      go false rest = rest

pub before_end-take : (l : List Part) → before_end l ≡ take (length l - 1) l
before_end-take [] = refl
before_end-take (p ∷ []) = refl
before_end-take (p ∷ o ∷ os) =
    let more : suc (length (o ∷ os) - 1) ≡ length (p ∷ o ∷ os) - 1 = omega arith in
    ap (λ (l : List Part). p ∷ l) (before_end-take (o ∷ os)) ∙ ap (λ (k : ℕ). take k (p ∷ o ∷ os)) more
