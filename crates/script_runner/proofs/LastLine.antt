-- Histories that end with a line and with operations.
use Rattle.std.proofs.Common.{◌≡◌, ℕ, Bool, true, false, List, [], ◌∷◌, ◌++◌, map, refl, sym, ap, ◌∙◌, append_assoc}
use Rattle.std.proofs.lemmas.List.{map-append}
use Rattle.cell_units.specs.Operation.{Operation}
use Rattle.display_map.specs.Events.{Event}
use Rattle.display_map.specs.Events.{Line, Did}

abbrev pub dids : List Operation → List Event
dids ops = map (λ op. Did op) ops

-- a line, or an operation
abbrev pub is_change : Event → Bool
is_change (Line number) = true
is_change (Did op) = true
is_change _ = false

dids-same : (a b : List Operation) → dids a ≡ dids b → a ≡ b
dids-same [] [] e = refl
dids-same [] (y ∷ ys) e = cc
dids-same (x ∷ xs) [] e = cc
dids-same (x ∷ xs) (y ∷ ys) e =
    let head : x ≡ y = cc in
    let rest : dids xs ≡ dids ys = cc in
    let tail : xs ≡ ys = dids-same xs ys rest in cc

dids-no-line : (d : List Operation) (p : List Event) (n : ℕ) (r : List Event) → dids d ≡ p ++ (Line n ∷ r) → ⊥
dids-no-line [] [] n r e = cc
dids-no-line [] (y ∷ p) n r e = cc
dids-no-line (x ∷ d) [] n r e = cc
dids-no-line (x ∷ d) (y ∷ p) n r e =
    let tail : dids d ≡ p ++ (Line n ∷ r) = cc in dids-no-line d p n r tail

pub record SameEnd (p q : List Event) (n m : ℕ) (d e : List Operation) : Type 0 where
  pub past : p ≡ q
  pub number : n ≡ m
  pub done : d ≡ e

-- a history ends in one way with a line and operations
pub same-end :
    (p q : List Event) (n m : ℕ) (d e : List Operation)
    → p ++ (Line n ∷ dids d) ≡ q ++ (Line m ∷ dids e) → SameEnd p q n m d e
same-end [] [] n m d e same =
    let rest : dids d ≡ dids e = cc in
    record { past = refl; number = cc; done = dids-same d e rest }
same-end [] (y ∷ q) n m d e same =
    let rest : dids d ≡ q ++ (Line m ∷ dids e) = cc in absurd (dids-no-line d q m (dids e) rest)
same-end (x ∷ p) [] n m d e same =
    let rest : dids e ≡ p ++ (Line n ∷ dids d) = cc in absurd (dids-no-line e p n (dids d) rest)
same-end (x ∷ p) (y ∷ q) n m d e same =
    let head : x ≡ y = cc in
    let rest : p ++ (Line n ∷ dids d) ≡ q ++ (Line m ∷ dids e) = cc in
    let tail = same-end p q n m d e rest in
    let tail_past : p ≡ q = tail.past in
    record { past = cc; number = tail.number; done = tail.done }

dids-last : (h : List Event) (e : Event) (d : List Operation) → h ++ e ∷ [] ≡ dids d → is_change e ≡ true
dids-last [] e [] same = cc
dids-last [] e (x ∷ d) same = let it : e ≡ Did x = cc in ap is_change it
dids-last (y ∷ h) e [] same = cc
dids-last (y ∷ h) e (x ∷ d) same = let rest : h ++ e ∷ [] ≡ dids d = cc in dids-last h e d rest

-- its last event is the line or an operation
pub end-changes :
    (h : List Event) (e : Event) (p : List Event) (n : ℕ) (d : List Operation)
    → h ++ e ∷ [] ≡ p ++ (Line n ∷ dids d) → is_change e ≡ true
end-changes [] e [] n d same = let it : e ≡ Line n = cc in ap is_change it
end-changes [] e (y ∷ []) n d same = cc
end-changes [] e (y ∷ (z ∷ p)) n d same = cc
end-changes (x ∷ h) e [] n d same = let rest : h ++ e ∷ [] ≡ dids d = cc in dids-last h e d rest
end-changes (x ∷ h) e (y ∷ p) n d same =
    let rest : h ++ e ∷ [] ≡ p ++ (Line n ∷ dids d) = cc in end-changes h e p n d rest

pub end-not-empty : (p : List Event) (e : Event) (more : List Event) → p ++ (e ∷ more) ≡ [] → ⊥
end-not-empty [] e more same = cc
end-not-empty (x ∷ p) e more same = cc

-- a history that has begun stays begun
pub begun-more : (h more : List Event) → (h ≡ [] → ⊥) → h ++ more ≡ [] → ⊥
begun-more [] more begun e = begun refl
begun-more (x ∷ h) more begun e = cc

pub append-same : {X : Type 0} (d xs ys : List X) → d ++ xs ≡ d ++ ys → xs ≡ ys
append-same [] xs ys same = same
append-same (x ∷ d) xs ys same = let rest : d ++ xs ≡ d ++ ys = cc in append-same d xs ys rest

-- one more operation
pub dids-more :
    (p : List Event) (n : ℕ) (d : List Operation) (op : Operation)
    → (p ++ (Line n ∷ dids d)) ++ Did op ∷ [] ≡ p ++ (Line n ∷ dids (d ++ op ∷ []))
dids-more p n d op =
    append_assoc p (Line n ∷ dids d) (Did op ∷ [])
    ∙ ap (λ l. p ++ (Line n ∷ l)) (sym (map-append (λ op. Did op) d (op ∷ [])))
