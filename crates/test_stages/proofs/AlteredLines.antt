-- Lines that are altered one after another.
use Rattle.std.proofs.Common.{◌≡◌, ℕ, ◌+◌, ◌-◌, ◌<◌, List, [], ◌∷◌, ◌++◌, length, map, take, drop, set, get_or, refl, sym, ap, ◌∙◌, arith, append_assoc}
use Rattle.std.proofs.lemmas.List.{length-map, length-take-le, drop_more, get_or-append_right, map-append, take_more}

set_seam : {A : Type 0} (done rest : List A) (x y : A) → set (done ++ x ∷ rest) (length done) y ≡ done ++ y ∷ rest
set_seam [] rest x y = refl
set_seam {A} (d ∷ ds) rest x y = ap (λ (l : List A). d ∷ l) (set_seam ds rest x y)

-- the next of the old ones is written over
pub over_next : {A : Type 0} (done old : List A) (i : ℕ) (y : A) → length done ≡ i → i < length old →
    set (done ++ drop i old) i y ≡ (done ++ y ∷ []) ++ drop (i + 1) old
over_next {A} done old i y long lt =
    (λ k. set (done ++ drop_more old i y lt k) (sym long k) y)
    ∙ set_seam done (drop (i + 1) old) (get_or old i y) y
    ∙ sym (append_assoc done (y ∷ []) (drop (i + 1) old))

-- which is still as it was
next_is : {A : Type 0} (done old : List A) (i : ℕ) (d : A) → length done ≡ i → i < length old → get_or (done ++ drop i old) i d ≡ get_or old i d
next_is {A} done old i d long lt =
    get_or-append_right done (drop i old) i i d long (omega arith)
    ∙ (λ k. get_or (drop_more old i d lt k) (none k) d) where
      none : i - i ≡ 0
      none = omega arith

pub map_more : {A : Type 0} (f : A → A) (now old : List A) (i : ℕ) (d : A) → i < length old → now ≡ map f (take i old) ++ drop i old →
    set now i (f (get_or now i d)) ≡ map f (take (i + 1) old) ++ drop (i + 1) old
map_more {A} f now old i d lt is =
    let done = map f (take i old) in
    let long : length done ≡ i = length-map (take i old) f ∙ length-take-le i old (omega arith) in
    (λ k. set (is k) i (f (get_or (is k) i d)))
    ∙ ap (λ (x : A). set (done ++ drop i old) i (f x)) (next_is done old i d long lt)
    ∙ over_next done old i (f (get_or old i d)) long lt
    ∙ ap (λ (l : List A). l ++ drop (i + 1) old) (sym (map-append f (take i old) (get_or old i d ∷ [])) ∙ ap (map f) (sym (take_more old i d lt)))
