-- Rows that come among others, or go from there.
use Rattle.std.proofs.Common.{◌≡◌, ℕ, ◌+◌, ◌-◌, ◌<◌, suc, List, [], ◌++◌, length, flat_map, take, drop, get_or, slice_range, refl, sym, ap, ◌∙◌, arith, append_assoc, length-append}
use Rattle.std.proofs.lemmas.List.{drop_at, take-append-drop, take_at}
use Rattle.std.proofs.lemmas.List.Concat.{flat_map-append}
use Rattle.std.proofs.Math.Seq.{drop-cons}
use Rattle.row_pieces.specs.Changed.{IsTrue, change}

module _ {X : Type 0} where
  -- so many more, after the first of them
  module _ (front own rest : List X) where
    whole : front ++ (own ++ rest) ≡ (front ++ own) ++ rest
    whole = sym (append_assoc front own rest)

    both : length (front ++ own) ≡ length front + length own
    both = length-append front own

    behind : drop (length front + length own) (front ++ (own ++ rest)) ≡ rest
    behind = ap (drop (length front + length own)) whole ∙ drop_at (front ++ own) rest (length front + length own) both

    all : length (front ++ (own ++ rest)) ≡ length front + (length own + length rest)
    all = omega (arith, length-append front (own ++ rest), length-append own rest)

    others : length (front ++ rest) ≡ length front + length rest
    others = length-append front rest

    take-both : take (length front) (front ++ (own ++ rest)) ≡ take (length front) (front ++ rest)
    take-both = take_at front (own ++ rest) (length front) refl ∙ sym (take_at front rest (length front) refl)

    pub comes : IsTrue (change (length front) (length front) (length own)) (front ++ rest) (front ++ (own ++ rest))
    comes = record {
      order = omega arith;
      within_old = omega (arith, others);
      within_new = omega (arith, all);
      before = take-both;
      after = behind ∙ sym (drop_at front rest (length front) refl);
    }

    pub goes : IsTrue (change (length front) (length front + length own) 0) (front ++ (own ++ rest)) (front ++ rest)
    goes =
        let none : length front + 0 ≡ length front = omega arith in
        record {
          order = omega arith;
          within_old = omega (arith, all);
          within_new = omega (arith, others);
          before = sym take-both;
          after = ap (λ (n : ℕ). drop n (front ++ rest)) none ∙ drop_at front rest (length front) refl ∙ sym behind;
        }

    pub own-are : slice_range (front ++ (own ++ rest)) (length front) (length front + length own) ≡ own
    own-are =
        let count : length front + length own - length front ≡ length own = omega arith in
        (λ i. take (count i) (drop_at front (own ++ rest) (length front) refl i))
        ∙ take_at own rest (length own) refl

  -- ---- among the rows of one of many lines

  abbrev pub joined : List (List X) → List X
  joined lines = flat_map (λ rows. rows) lines

  pub around : (lines : List (List X)) (line : ℕ) → line < length lines → joined lines ≡ joined (take line lines) ++ (get_or lines line [] ++ joined (drop (line + 1) lines))
  around lines line lt =
      let one : suc line ≡ line + 1 = omega arith in
      let rest : joined (drop line lines) ≡ get_or lines line [] ++ joined (drop (line + 1) lines) =
      ap joined (drop-cons lines line [] lt) ∙ ap (λ (n : ℕ). get_or lines line [] ++ joined (drop n lines)) one in
      ap joined (sym (take-append-drop line lines))
      ∙ flat_map-append (λ (rows : List X). rows) (take line lines) (drop line lines)
      ∙ ap (λ (l : List X). joined (take line lines) ++ l) rest

  -- the same lines but for one, in which one list has rows more
  module _ (old new : List (List X)) (line : ℕ) (t : IsTrue (change line (line + 1) 1) old new) (ahead own rest : List X)
      (old_is : get_or old line [] ≡ ahead ++ rest) (new_is : get_or new line [] ≡ ahead ++ (own ++ rest)) where
    abbrev pub front : List X
    front = joined (take line old) ++ ahead

    abbrev pub back : List X
    back = rest ++ joined (drop (line + 1) old)

    pub old-all : joined old ≡ front ++ back
    old-all =
        around old line (omega (arith, t.within_old))
        ∙ ap (λ (l : List X). joined (take line old) ++ (l ++ joined (drop (line + 1) old))) old_is
        ∙ ap (λ (l : List X). joined (take line old) ++ l) (append_assoc ahead rest (joined (drop (line + 1) old)))
        ∙ sym (append_assoc (joined (take line old)) ahead back)

    pub new-all : joined new ≡ front ++ (own ++ back)
    new-all =
        around new line (omega (arith, t.within_new))
        ∙ (λ i. joined (t.before i) ++ (new_is i ++ joined (t.after i)))
        ∙ ap (λ (l : List X). joined (take line old) ++ l)
        (append_assoc ahead (own ++ rest) (joined (drop (line + 1) old)) ∙ ap (λ (l : List X). ahead ++ l) (append_assoc own rest (joined (drop (line + 1) old))))
        ∙ sym (append_assoc (joined (take line old)) ahead (own ++ back))
