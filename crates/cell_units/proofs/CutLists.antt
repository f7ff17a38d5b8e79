-- Lines of joined lists.
use Rattle.std.proofs.Common.{◌≡◌, Bool, true, false, cond, List, [], ◌∷◌, ◌++◌, refl, sym, ap, ◌∙◌, subst, inl, inr}
use mathlib.Core.Logic.{◌⊎◌}
use Rattle.std.proofs.lemmas.Bool.{cases_Bool, true≢false}
use Rattle.cell_units.specs.Cutting.{onto_line, cut_lines}

-- each element
abbrev pub Every : {X : Type 0} → (X → Type 0) → List X → Type 0
Every P [] = Unit {0}
Every P (x ∷ xs) = P x × Every P xs

abbrev pub FirstIs : {X : Type 0} → (X → Type 0) → List X → Type 0
FirstIs P [] = ⊥
FirstIs P (t ∷ ts) = P t

abbrev pub LastIs : {X : Type 0} → (X → Type 0) → List X → Type 0
LastIs P [] = ⊥
LastIs P (t ∷ []) = P t
LastIs P (t ∷ u ∷ us) = LastIs P (u ∷ us)

pub Every-append : {X : Type 0} (P : X → Type 0) (xs ys : List X) → Every P xs → Every P ys → Every P (xs ++ ys)
Every-append P [] ys a b = b
Every-append P (x ∷ xs) ys a b = (a.0, Every-append P xs ys a.1 b)

pub Every-left : {X : Type 0} (P : X → Type 0) (xs ys : List X) → Every P (xs ++ ys) → Every P xs
Every-left P [] ys a = tt
Every-left P (x ∷ xs) ys a = (a.0, Every-left P xs ys a.1)

pub Every-right : {X : Type 0} (P : X → Type 0) (xs ys : List X) → Every P (xs ++ ys) → Every P ys
Every-right P [] ys a = a
Every-right P (x ∷ xs) ys a = Every-right P xs ys a.1

pub Every-mono : {X : Type 0} (P Q : X → Type 0) (xs : List X) → ((x : X) → P x → Q x) → Every P xs → Every Q xs
Every-mono P Q [] f a = tt
Every-mono P Q (x ∷ xs) f a = (f x a.0, Every-mono P Q xs f a.1)

module _ {X : Type 0} (brk : X → Bool) where
  -- whether a list, after a break or not, ends with a break
  abbrev pub ended : Bool → List X → Bool
  ended e [] = e
  ended e (t ∷ ts) = ended (brk t) ts

  pub ended-append : (e : Bool) (xs ys : List X) → ended e (xs ++ ys) ≡ ended (ended e xs) ys
  ended-append e [] ys = refl
  ended-append e (t ∷ ts) ys = ended-append (brk t) ts ys

  -- what holds of a line's addition holds in both cases
  pub at_break : (P : List (List X) → Type 0) (t : X) (ls : List (List X)) → (brk t ≡ true → P ((t ∷ []) ∷ ls)) → (brk t ≡ false → P (onto_line t ls)) → P (cond (brk t) ((t ∷ []) ∷ ls) (onto_line t ls))
  at_break P t ls there other = go (brk t) there other where
    go : (b : Bool) → (b ≡ true → P ((t ∷ []) ∷ ls)) → (b ≡ false → P (onto_line t ls)) → P (cond b ((t ∷ []) ∷ ls) (onto_line t ls))
    go true there other = there refl
    go false there other = other refl

  pub lines-cons : (t : X) (ts : List X) → (l : List X) × (ls : List (List X)) × (cut_lines brk (t ∷ ts) ≡ l ∷ ls)
  lines-cons t ts = at_break (λ (r : List (List X)). (l : List X) × (ls : List (List X)) × (r ≡ l ∷ ls)) t (cut_lines brk ts) (λ _. (_, _, refl)) (λ _. some (cut_lines brk ts)) where
    some : (r : List (List X)) → (l : List X) × (ls : List (List X)) × (onto_line t r ≡ l ∷ ls)
    some [] = (_, _, refl)
    some (l ∷ ls) = (_, _, refl)

  put : (b : Bool) (t : X) (l : List X) (ls ms : List (List X)) → cond b ((t ∷ []) ∷ ((l ∷ ls) ++ ms)) (onto_line t ((l ∷ ls) ++ ms)) ≡ cond b ((t ∷ []) ∷ (l ∷ ls)) (onto_line t (l ∷ ls)) ++ ms
  put true t l ls ms = refl
  put false t l ls ms = refl

  put_at : (b : Bool) (t : X) (r : List (List X)) (l : List X) (ls ms : List (List X)) → r ≡ l ∷ ls → cond b ((t ∷ []) ∷ (r ++ ms)) (onto_line t (r ++ ms)) ≡ cond b ((t ∷ []) ∷ r) (onto_line t r) ++ ms
  put_at b t r l ls ms e = subst (λ (r : List (List X)). cond b ((t ∷ []) ∷ (r ++ ms)) (onto_line t (r ++ ms)) ≡ cond b ((t ∷ []) ∷ r) (onto_line t r) ++ ms) (sym e) (put b t l ls ms)

  -- after a break the lines begin anew
  pub lines-append : (xs ys : List X) → ended true xs ≡ true → cut_lines brk (xs ++ ys) ≡ cut_lines brk xs ++ cut_lines brk ys
  lines-append [] ys h = refl
  lines-append (t ∷ []) ys h = (λ i. cond (h i) ((t ∷ []) ∷ cut_lines brk ys) (onto_line t (cut_lines brk ys))) ∙ (λ i. cond (sym h i) ((t ∷ []) ∷ []) (onto_line t []) ++ cut_lines brk ys)
  lines-append (t ∷ u ∷ us) ys h =
      let r = lines-cons u us in
      ap (λ (r : List (List X)). cond (brk t) ((t ∷ []) ∷ r) (onto_line t r)) (lines-append (u ∷ us) ys h) ∙ put_at (brk t) t (cut_lines brk (u ∷ us)) r.0 r.1 (cut_lines brk ys) r.2

  Line-onto : (P : X → Type 0) (t : X) (r : List (List X)) → P t → Every (Every P) r → Every (Every P) (onto_line t r)
  Line-onto P t [] p a = ((p, tt), tt)
  Line-onto P t (l ∷ ls) p a = ((p, a.0), a.1)

  -- what holds of each element holds of each line's
  pub Every-lines : (P : X → Type 0) (xs : List X) → Every P xs → Every (Every P) (cut_lines brk xs)
  Every-lines P [] a = tt
  Every-lines P (t ∷ ts) a = at_break (Every (Every P)) t (cut_lines brk ts) (λ _. ((a.0, tt), Every-lines P ts a.1)) (λ _. Line-onto P t (cut_lines brk ts) a.0 (Every-lines P ts a.1))

  -- up to the first break and after it
  abbrev pub upto : List X → List X
  upto [] = []
  upto (t ∷ ts) = t ∷ cond (brk t) [] (upto ts)

  abbrev pub after : List X → List X
  after [] = []
  after (t ∷ ts) = cond (brk t) ts (after ts)

  pub upto-after : (xs : List X) → upto xs ++ after xs ≡ xs
  upto-after [] = refl
  upto-after (t ∷ ts) = ap (λ (r : List X). t ∷ r) (go (brk t) (upto-after ts)) where
    go : (b : Bool) → upto ts ++ after ts ≡ ts → cond b [] (upto ts) ++ cond b ts (after ts) ≡ ts
    go true rest = refl
    go false rest = rest

  -- the first line ends, or is the last
  pub upto-ended : (e : Bool) (t : X) (ts : List X) → (ended e (upto (t ∷ ts)) ≡ true) ⊎ (after (t ∷ ts) ≡ [])
  upto-ended e t [] = go (brk t) refl where
    go : (b : Bool) → brk t ≡ b → (ended (brk t) (cond {A = List X} b [] []) ≡ true) ⊎ (cond {A = List X} b [] [] ≡ [])
    go true h = inl h
    go false h = inr refl
  upto-ended e t (u ∷ us) = go (brk t) refl (upto-ended (brk t) u us) where
    go : (b : Bool) → brk t ≡ b → (ended (brk t) (upto (u ∷ us)) ≡ true) ⊎ (after (u ∷ us) ≡ []) → (ended (brk t) (cond b [] (upto (u ∷ us))) ≡ true) ⊎ (cond b (u ∷ us) (after (u ∷ us)) ≡ [])
    go true h rest = inl h
    go false h rest = rest

  pub lines-upto : (t : X) (ts : List X) → cut_lines brk (upto (t ∷ ts)) ≡ upto (t ∷ ts) ∷ []
  lines-upto t [] = go (brk t) (brk t) where
    go : (b c : Bool) → cond c ((t ∷ []) ∷ cut_lines brk (cond {A = List X} b [] [])) (onto_line t (cut_lines brk (cond {A = List X} b [] []))) ≡ (t ∷ cond {A = List X} b [] []) ∷ []
    go true true = refl
    go true false = refl
    go false true = refl
    go false false = refl
  lines-upto t (u ∷ us) = go (brk t) refl (lines-upto u us) where
    go : (b : Bool) → brk t ≡ b → cut_lines brk (upto (u ∷ us)) ≡ upto (u ∷ us) ∷ []
        → cond (brk t) ((t ∷ []) ∷ cut_lines brk (cond b [] (upto (u ∷ us)))) (onto_line t (cut_lines brk (cond b [] (upto (u ∷ us))))) ≡ (t ∷ cond b [] (upto (u ∷ us))) ∷ []
    go true h rest = (λ i. cond (h i) ((t ∷ []) ∷ []) (onto_line t []))
    go false h rest = (λ i. cond (h i) ((t ∷ []) ∷ cut_lines brk (upto (u ∷ us))) (onto_line t (cut_lines brk (upto (u ∷ us))))) ∙ ap (onto_line t) rest

  -- a list is a list that ends with a break and a rest without one
  pub record Split (xs : List X) : Type 0 where
    pub whole : List X
    pub rest : List X
    pub is : xs ≡ whole ++ rest
    pub whole_ended : ended true whole ≡ true
    pub rest_free : Every (λ x. brk x ≡ false) rest

  pub split : (xs : List X) → Split xs
  split [] = record { whole = []; rest = []; is = refl; whole_ended = refl; rest_free = tt }
  split (t ∷ ts) = step (split ts) where
    more : (w r : List X) → ts ≡ w ++ r → ended true w ≡ true → Every (λ x. brk x ≡ false) r → (brk t ≡ true) ⊎ (brk t ≡ false) → Split (t ∷ ts)
    more [] r is e free (inl b) = record { whole = t ∷ []; rest = r; is = ap (λ (l : List X). t ∷ l) is; whole_ended = b; rest_free = free }
    more [] r is e free (inr b) = record { whole = []; rest = t ∷ r; is = ap (λ (l : List X). t ∷ l) is; whole_ended = refl; rest_free = (b, free) }
    more (w ∷ ws) r is e free b = record { whole = t ∷ w ∷ ws; rest = r; is = ap (λ (l : List X). t ∷ l) is; whole_ended = e; rest_free = free }

    step : Split ts → Split (t ∷ ts)
    step s = more s.whole s.rest s.is s.whole_ended s.rest_free (cases_Bool (brk t))

  pub free-ended : (t : X) (ts : List X) (e : Bool) → Every (λ x. brk x ≡ false) (t ∷ ts) → ended e (t ∷ ts) ≡ false
  free-ended t [] e a = a.0
  free-ended t (u ∷ us) e a = free-ended u us (brk t) a.1

  First-step : (P : X → Type 0) (t : X) (r : List (List X)) → P t → Every (FirstIs P) r → Every (FirstIs P) (cond (brk t) ((t ∷ []) ∷ r) (onto_line t r))
  First-step P t r p a = at_break (Every (FirstIs P)) t r (λ _. (p, a)) (λ _. go r a) where
    go : (r : List (List X)) → Every (FirstIs P) r → Every (FirstIs P) (onto_line t r)
    go [] a = (p, tt)
    go (l ∷ ls) a = (p, a.1)

  -- each line of a list begins in the list
  pub First-lines : (P : X → Type 0) (xs : List X) → Every P xs → Every (FirstIs P) (cut_lines brk xs)
  First-lines P [] a = tt
  First-lines P (t ∷ ts) a = First-step P t (cut_lines brk ts) a.0 (First-lines P ts a.1)

  -- and so does each of an unfinished list with the end of its last line
  pub First-open : (P : X → Type 0) (xs ys : List X) → Every P xs → ended true xs ≡ false → Every (FirstIs P) (cut_lines brk (xs ++ upto ys))
  First-open P [] ys a e = absurd (true≢false e)
  First-open P (t ∷ u ∷ us) ys a e = First-step P t (cut_lines brk ((u ∷ us) ++ upto ys)) a.0 (First-open P (u ∷ us) ys a.1 e)
  First-open P (t ∷ []) [] a e = First-step P t [] a.0 tt
  First-open P (t ∷ []) (y ∷ ys) a e =
      subst (λ (r : List (List X)). Every (FirstIs P) (cond (brk t) ((t ∷ []) ∷ r) (onto_line t r))) (sym (lines-upto y ys))
      (subst (λ (b : Bool). Every (FirstIs P) (cond b ((t ∷ []) ∷ (upto (y ∷ ys) ∷ [])) (onto_line t (upto (y ∷ ys) ∷ [])))) (sym e) (a.0, tt))

  -- a line's last is among its elements
  pub Every-last : (P : X → Type 0) (r : List (List X)) → Every (FirstIs (λ _. Unit {0})) r → Every (Every P) r → Every (LastIs P) r
  Every-last P [] f a = tt
  Every-last P (l ∷ ls) f a = (go l f.0 a.0, Every-last P ls f.1 a.1) where
    go : (l : List X) → FirstIs (λ _. Unit {0}) l → Every P l → LastIs P l
    go [] f a = absurd f
    go (t ∷ []) f a = a.0
    go (t ∷ u ∷ us) f a = go (u ∷ us) tt a.1

  Every-unit : (xs : List X) → Every (λ _. Unit {0}) xs
  Every-unit [] = tt
  Every-unit (x ∷ xs) = (tt, Every-unit xs)

  pub Last-lines : (P : X → Type 0) (xs : List X) → Every P xs → Every (LastIs P) (cut_lines brk xs)
  Last-lines P xs a = Every-last P (cut_lines brk xs) (First-lines (λ _. Unit {0}) xs (Every-unit xs)) (Every-lines P xs a)

  -- each line of a list without breaks and one more that is not empty ends in the second
  pub Last-open : (P : X → Type 0) (xs : List X) (y : X) (ys : List X) → Every (λ x. brk x ≡ false) xs → Every P (y ∷ ys) → Every (LastIs P) (cut_lines brk (xs ++ y ∷ ys))
  Last-open P [] y ys f a = Last-lines P (y ∷ ys) a
  Last-open P (t ∷ ts) y ys f a =
      subst (λ (b : Bool). Every (LastIs P) (cond b ((t ∷ []) ∷ cut_lines brk (ts ++ y ∷ ys)) (onto_line t (cut_lines brk (ts ++ y ∷ ys))))) (sym f.0)
      (go (cut_lines brk (ts ++ y ∷ ys)) (some ts) (Last-open P ts y ys f.1 a)) where
        some : (ts : List X) → (l : List X) × (ls : List (List X)) × (cut_lines brk (ts ++ y ∷ ys) ≡ l ∷ ls)
        some [] = lines-cons y ys
        some (t ∷ ts) = lines-cons t (ts ++ y ∷ ys)

        on : (l : List X) → LastIs P l → LastIs P (t ∷ l)
        on [] a = absurd a
        on (u ∷ us) a = a

        go : (r : List (List X)) → ((l : List X) × (ls : List (List X)) × (r ≡ l ∷ ls)) → Every (LastIs P) r → Every (LastIs P) (onto_line t r)
        go [] s a = absurd (cc s.2)
        go (l ∷ ls) s a = (on l a.0, a.1)
