-- Drawing the same again and again, while what is drawn is written.
use Rattle.std.proofs.Common.{◌≡◌, ℕ, ◌+◌, ◌-◌, ◌<◌, zero, suc, List, [], ◌∷◌, ◌++◌, refl, ap, sym, ◌∙◌, subst, append_assoc, arith}
use Rattle.std.specs.List.{flat_map, join_with_byte}
use Rattle.std.proofs.lemmas.List.{append-nil}
use Rattle.std.proofs.lemmas.List.Concat.{flat_map-cons}
use Rattle.generated_input.specs.Drawing.{Drawing, Drawn, times}

-- the next one, and then those after it
times-next : {A : Type 0} (count done : ℕ) (drawing : Drawing A) (state : ℕ) → done < count → times (count - done) drawing state
    ≡ record {
      value = (drawing state).value ∷ (times (count - (done + 1)) drawing (drawing state).state).value;
      state = (times (count - (done + 1)) drawing (drawing state).state).state;
    }
unfolding times
times-next {A} count done drawing state some =
    let behind = count - (done + 1) in
    let e : suc behind ≡ count - done = omega arith in
    subst (λ (n : ℕ). times n drawing state
    ≡ record { value = (drawing state).value ∷ (times behind drawing (drawing state).state).value; state = (times behind drawing (drawing state).state).state })
    e refl

times-end : {A : Type 0} (count : ℕ) (drawing : Drawing A) (state : ℕ) → times (count - count) drawing state ≡ record { value = []; state = state }
unfolding times
times-end {A} count drawing state =
    let e : 0 ≡ count - count = omega arith in
    subst (λ (n : ℕ). times n drawing state ≡ record { value = []; state = state }) e refl

-- what is written by now and what is drawn from here on, as it is written, are all that is to be written. So it is with
-- the states. `writing n` writes those that come when n were drawn
pub record LeadsOn {A : Type 0} (writing : ℕ → List A → List ℕ) (drawing : Drawing A) (count done : ℕ) (before : List ℕ) (start : ℕ) (now : List ℕ) (state : ℕ) : Type 0 where
  pub written : now ++ writing done (times (count - done) drawing state).value ≡ before ++ writing 0 (times count drawing start).value
  pub behind : (times (count - done) drawing state).state ≡ (times count drawing start).state

-- `piece n` is what is written of one of which n came before
pub leads_over_one : {A : Type 0} (writing : ℕ → List A → List ℕ) (piece : ℕ → A → List ℕ) (drawing : Drawing A) (count done : ℕ) (before : List ℕ) (start : ℕ) (now : List ℕ) (state : ℕ) (next : List ℕ) (behind : ℕ)
    → ((value : A) (rest : List A) → writing done (value ∷ rest) ≡ piece done value ++ writing (done + 1) rest)
    → done < count
    → LeadsOn writing drawing count done before start now state
    → next ≡ now ++ piece done (drawing state).value
    → behind ≡ (drawing state).state
    → LeadsOn writing drawing count (done + 1) before start next behind
leads_over_one {A} writing piece drawing count done before start now state next behind cons some leads next-is behind-is =
    let one = times-next count done drawing state some in
    let rest = times (count - (done + 1)) drawing (drawing state).state in
    let first = (drawing state).value in
    let parted : writing done (times (count - done) drawing state).value ≡ piece done first ++ writing (done + 1) rest.value =
    ap (λ (drawn : Drawn (List A)). writing done drawn.value) one ∙ cons first rest.value in
    let leads_on : LeadsOn writing drawing count (done + 1) before start (now ++ piece done first) (drawing state).state = record {
      written = append_assoc now (piece done first) (writing (done + 1) rest.value) ∙ ap (λ (l : List ℕ). now ++ l) (sym parted) ∙ leads.written;
      behind = ap (λ (drawn : Drawn (List A)). drawn.state) (sym one) ∙ leads.behind;
    } in
    subst (λ (l : List ℕ). LeadsOn writing drawing count (done + 1) before start l behind) (sym next-is)
    (subst (λ (x : ℕ). LeadsOn writing drawing count (done + 1) before start (now ++ piece done first) x) (sym behind-is) leads_on)

pub leads_to_end : {A : Type 0} (writing : ℕ → List A → List ℕ) (drawing : Drawing A) (count done : ℕ) (before : List ℕ) (start : ℕ) (now : List ℕ) (state : ℕ)
    → done ≡ count
    → writing count [] ≡ []
    → LeadsOn writing drawing count done before start now state
    → (now ≡ before ++ writing 0 (times count drawing start).value) × (state ≡ (times count drawing start).state)
leads_to_end {A} writing drawing count done before start now state all none leads =
    let at_end = subst (λ (n : ℕ). LeadsOn writing drawing count n before start now state) all leads in
    let end = times-end count drawing state in
    let nothing : writing count (times (count - count) drawing state).value ≡ [] = ap (λ (drawn : Drawn (List A)). writing count drawn.value) end ∙ none in
    (sym (ap (λ (l : List ℕ). now ++ l) nothing ∙ append-nil now) ∙ at_end.written, ap (λ (drawn : Drawn (List A)). drawn.state) (sym end) ∙ at_end.behind)

-- words with one space between neighbours, after so many words of the same line
abbrev pub joined_behind : ℕ → List (List ℕ) → List ℕ
joined_behind zero words = join_with_byte 32 words
joined_behind (suc n) words = flat_map (λ word. 32 ∷ word) words

-- a word with the space that is before it
abbrev pub word_behind : ℕ → List ℕ → List ℕ
word_behind zero word = word
word_behind (suc n) word = 32 ∷ word

join-cons : (word : List ℕ) (words : List (List ℕ)) → join_with_byte 32 (word ∷ words) ≡ word ++ flat_map (λ w. 32 ∷ w) words
join-cons word [] = sym (append-nil word)
join-cons word (next ∷ words) =
    ap (λ (l : List ℕ). word ++ l) (ap (λ (l : List ℕ). 32 ∷ l) (join-cons next words) ∙ sym (flat_map-cons (λ (w : List ℕ). 32 ∷ w) next words))

pub joined-cons : (n : ℕ) (word : List ℕ) (words : List (List ℕ)) → joined_behind n (word ∷ words) ≡ word_behind n word ++ joined_behind (n + 1) words
joined-cons zero word words = join-cons word words
joined-cons (suc n) word words =
    let e : suc (suc n) ≡ suc n + 1 = omega arith in
    subst (λ (m : ℕ). joined_behind (suc n) (word ∷ words) ≡ (32 ∷ word) ++ joined_behind m words) e (flat_map-cons (λ (w : List ℕ). 32 ∷ w) word words)

pub joined-none : (n : ℕ) → joined_behind n [] ≡ []
joined-none zero = refl
joined-none (suc n) = refl
