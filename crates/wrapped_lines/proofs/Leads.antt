-- The patch of a replacement that leads.
use Rattle.std.proofs.Common.{◌≡◌, ℕ, ◌+◌, ◌-◌, ◌≤◌, List, ◌++◌, length, take, drop, arith, ap, sym, subst, ◌∙◌, append_assoc}
use Rattle.std.proofs.lemmas.List.{drop-drop, length-drop, length-take-le, take-append-drop}
use Rattle.edit_patch.specs.declared.edit.Edit.{Edit}
use Rattle.edit_patch.specs.Fits.{Fits, replacement}
use Rattle.edit_patch.specs.Leads.{LeadsAt}
use Rattle.edit_patch.proofs.Replacing.{fits-replacement}

-- a list in three parts
parts : {X : Type 0} (xs : List X) (a b : ℕ) → a ≤ b → take a xs ++ (take (b - a) (drop a xs) ++ drop b xs) ≡ xs
parts xs a b order =
    let on : b ≡ a + (b - a) = omega arith in
    ap (λ rest. take a xs ++ (take (b - a) (drop a xs) ++ rest)) (ap (λ k. drop k xs) on ∙ sym (drop-drop (b - a) a xs))
    ∙ ap (λ rest. take a xs ++ rest) (take-append-drop (b - a) (drop a xs))
    ∙ take-append-drop a xs

-- what is there after a replacement: what was before it, what was put, and what was after it
after-parts : {X : Type 0} (old new : List X) (a b n : ℕ) → LeadsAt old new a b n → take a old ++ (take n (drop a new) ++ drop b old) ≡ new
after-parts old new a b n l =
    ap (λ rest. take a old ++ (take n (drop a new) ++ rest)) (sym l.behind)
    ∙ ap (λ first. first ++ (take n (drop a new) ++ drop (a + n) new)) (sym l.before)
    ∙ (let on : a + n - a ≡ n = omega arith in
    ap (λ k. take a new ++ (take k (drop a new) ++ drop (a + n) new)) (sym on) ∙ parts new a (a + n) (omega arith))

-- the patch of a replacement that leads fits
pub leads-fit : {X : Type 0} (old new : List X) (a b n : ℕ) → a ≤ b → LeadsAt old new a b n → Fits (replacement a b n) old new
leads-fit {X = X} old new a b n order l =
    let within = l.within in
    let front : length (take a old) ≡ a = length-take-le a old (omega (arith, within)) in
    let gone : length (take (b - a) (drop a old)) ≡ b - a = length-take-le (b - a) (drop a old) (omega (arith, length-drop a old, within)) in
    let come : length (take n (drop a new)) ≡ n = length-take-le n (drop a new) (omega (arith, length-drop a new, l.reaches)) in
    let end : length (take a old) + length (take (b - a) (drop a old)) ≡ b = omega (arith, front, gone, order) in
    let all : Fits (replacement (length (take a old)) (length (take a old) + length (take (b - a) (drop a old))) (length (take n (drop a new))))
    (take a old ++ take (b - a) (drop a old) ++ drop b old) (take a old ++ take n (drop a new) ++ drop b old) =
    fits-replacement (take a old) (take (b - a) (drop a old)) (take n (drop a new)) (drop b old) in
    let named : Fits (replacement a b n) (take a old ++ take (b - a) (drop a old) ++ drop b old) (take a old ++ take n (drop a new) ++ drop b old) =
    subst (λ (p : List Edit). Fits p (take a old ++ take (b - a) (drop a old) ++ drop b old) (take a old ++ take n (drop a new) ++ drop b old))
    (λ i. replacement (front i) (end i) (come i)) all in
    subst (λ (xs : List X). Fits (replacement a b n) xs new) (append_assoc (take a old) (take (b - a) (drop a old)) (drop b old) ∙ parts old a b order)
    (subst (λ (ys : List X). Fits (replacement a b n) (take a old ++ take (b - a) (drop a old) ++ drop b old) ys)
    (append_assoc (take a old) (take n (drop a new)) (drop b old) ∙ after-parts old new a b n l) named)
