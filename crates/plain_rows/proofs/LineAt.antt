-- The line of a place among cut lines: what comes after the last break before the place, and what follows it.
use Rattle.std.proofs.Common.{◌≡◌, ℕ, ◌+◌, ◌<◌, Bool, true, false, cond, List, [], ◌∷◌, ◌++◌, length, drop, get_or, refl, sym, ap, ◌∙◌, subst, append_assoc, append-nil, arith}
use Rattle.std.specs.List.{after_last, count_by}
use Rattle.std.proofs.lemmas.Bool.{false≢true}
use Rattle.std.proofs.lemmas.List.{drop-drop, get_or-drop, length-drop}
use Rattle.std.proofs.lemmas.List.Sums.{sum_by_push}
use Rattle.cell_units.specs.Cutting.{cut_lines, onto_line}
use Rattle.plain_rows.proofs.Fronts.{after_last-break, after_last-other}

module _ {X : Type 0} (p : X → Bool) where
  abbrev put : List X → List (List X) → List (List X)
  put l [] = []
  put l (m ∷ ms) = (l ++ m) ∷ ms

  put-nil : (ls : List (List X)) → put [] ls ≡ ls
  put-nil [] = refl
  put-nil (l ∷ ls) = refl

  -- the first line of some elements
  pub record First (x : X) (xs : List X) : Type 0 where
    pub line : List X
    pub others : List (List X)
    pub is : cut_lines p (x ∷ xs) ≡ (x ∷ line) ∷ others
    pub ends : p x ≡ true → line ≡ []
    pub goes : (v : X) (vs : List X) → p x ≡ false → xs ≡ v ∷ vs → (ys : List X) × (line ≡ v ∷ ys)

  pub first-line : (x : X) (xs : List X) → First x xs
  first-line x [] = go (p x) refl where
    go : (b : Bool) → p x ≡ b → First x []
    go true e = record { line = []; others = []; is = ap (λ (b : Bool). cond b ((x ∷ []) ∷ []) (onto_line x [])) e; ends = λ h. refl; goes = λ v vs h k. absurd (omega (arith, ap length k)) }
    go false e = record { line = []; others = []; is = ap (λ (b : Bool). cond b ((x ∷ []) ∷ []) (onto_line x [])) e; ends = λ h. refl; goes = λ v vs h k. absurd (omega (arith, ap length k)) }
  first-line x (y ∷ ys) = go (p x) refl (first-line y ys) where
    go : (b : Bool) → p x ≡ b → First y ys → First x (y ∷ ys)
    go true e f = record {
      line = [];
      others = cut_lines p (y ∷ ys);
      is = ap (λ (b : Bool). cond b ((x ∷ []) ∷ cut_lines p (y ∷ ys)) (onto_line x (cut_lines p (y ∷ ys)))) e;
      ends = λ h. refl;
      goes = λ v vs h k. absurd (false≢true (sym h ∙ e));
    }
    go false e f = record {
      line = y ∷ f.line;
      others = f.others;
      is = ap (λ (b : Bool). cond b ((x ∷ []) ∷ cut_lines p (y ∷ ys)) (onto_line x (cut_lines p (y ∷ ys)))) e ∙ ap (onto_line x) f.is;
      ends = λ h. absurd (false≢true (sym e ∙ h));
      goes = λ v vs h k. (f.line, ap (λ (l : List X). get_or l 0 v ∷ f.line) k);
    }

  -- of the lines, those from the place's own on
  abbrev Behind : List X → Type 0
  Behind xs = (z : X) (zs : List X) → drop (count_by p xs) (cut_lines p (xs ++ z ∷ zs)) ≡ put (after_last p xs) (cut_lines p (z ∷ zs))

  behind-push : (xs : List X) (x : X) → Behind xs → Behind (xs ++ x ∷ [])
  behind-push xs x h z zs = go (p x) refl where
    shape : (xs ++ x ∷ []) ++ z ∷ zs ≡ xs ++ (x ∷ (z ∷ zs))
    shape = append_assoc xs (x ∷ []) (z ∷ zs)

    lines : List (List X)
    lines = cut_lines p (xs ++ (x ∷ (z ∷ zs)))

    go : (b : Bool) → p x ≡ b → drop (count_by p (xs ++ x ∷ [])) (cut_lines p ((xs ++ x ∷ []) ++ z ∷ zs)) ≡ put (after_last p (xs ++ x ∷ [])) (cut_lines p (z ∷ zs))
    go true e =
        let n : count_by p (xs ++ x ∷ []) ≡ count_by p xs + 1 = sum_by_push (λ y. cond (p y) 1 0) xs x ∙ ap {B = ℕ} (λ (b : Bool). count_by p xs + cond b 1 0) e in
        (λ i. drop (n i) (cut_lines p (shape i)))
        ∙ sym (drop-drop 1 (count_by p xs) lines)
        ∙ ap (drop 1) (h x (z ∷ zs) ∙ ap (λ (b : Bool). put (after_last p xs) (cond b ((x ∷ []) ∷ cut_lines p (z ∷ zs)) (onto_line x (cut_lines p (z ∷ zs))))) e)
        ∙ sym (put-nil (cut_lines p (z ∷ zs)))
        ∙ ap (λ (l : List X). put l (cut_lines p (z ∷ zs))) (sym (after_last-break p xs x e))
    go false e =
        let n : count_by p (xs ++ x ∷ []) ≡ count_by p xs = sum_by_push (λ y. cond (p y) 1 0) xs x ∙ ap {B = ℕ} (λ (b : Bool). count_by p xs + cond b 1 0) e ∙ (let e : count_by p xs + 0 ≡ count_by p xs = omega arith in e) in
        let f = first-line z zs in
        (λ i. drop (n i) (cut_lines p (shape i)))
        ∙ h x (z ∷ zs)
        ∙ ap (λ (b : Bool). put (after_last p xs) (cond b ((x ∷ []) ∷ cut_lines p (z ∷ zs)) (onto_line x (cut_lines p (z ∷ zs))))) e
        ∙ ap (λ (ls : List (List X)). put (after_last p xs) (onto_line x ls)) f.is
        ∙ ap (λ (l : List X). l ∷ f.others) (sym (append_assoc (after_last p xs) (x ∷ []) (z ∷ f.line)))
        ∙ ap (λ (l : List X). (l ++ (z ∷ f.line)) ∷ f.others) (sym (after_last-other p xs x e))
        ∙ ap (put (after_last p (xs ++ x ∷ []))) (sym f.is)

  behind-more : (xs ys : List X) → Behind xs → Behind (xs ++ ys)
  behind-more xs [] h = subst Behind (sym (append-nil xs)) h
  behind-more xs (y ∷ ys) h = subst Behind (append_assoc xs (y ∷ []) ys) (behind-more (xs ++ y ∷ []) ys (behind-push xs y h))

  behind : (xs : List X) → Behind xs
  behind xs = behind-more [] xs (λ z zs. sym (put-nil (cut_lines p (z ∷ zs))))

  -- the line of the place after xs
  pub line-at : (xs : List X) (z : X) (zs : List X) → get_or (cut_lines p (xs ++ z ∷ zs)) (count_by p xs) [] ≡ after_last p xs ++ z ∷ (first-line z zs).line
  line-at xs z zs =
      let n : count_by p xs ≡ count_by p xs + 0 = omega arith in
      let lines = cut_lines p (xs ++ z ∷ zs) in
      ap (λ (k : ℕ). get_or lines k []) n
      ∙ sym (get_or-drop (count_by p xs) lines 0 [])
      ∙ ap (λ (ls : List (List X)). get_or ls 0 []) (behind xs z zs ∙ ap (put (after_last p xs)) (first-line z zs).is)

  pub line-within : (xs : List X) (z : X) (zs : List X) → count_by p xs < length (cut_lines p (xs ++ z ∷ zs))
  line-within xs z zs =
      let lines = cut_lines p (xs ++ z ∷ zs) in
      omega (arith, length-drop (count_by p xs) lines, ap length (behind xs z zs ∙ ap (put (after_last p xs)) (first-line z zs).is))
