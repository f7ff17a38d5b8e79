-- Changes that are prepared for each display, and taken.
use Rattle.std.proofs.Common.{◌≡◌, ℕ, ◌+◌, ◌<◌, List, [], ◌∷◌, ◌++◌, length, map, take, get_or, set, sym, ap, ◌∙◌, arith, append_assoc, append-nil, length-append}
use Rattle.std.specs.List.{remove}
use Rattle.std.proofs.lemmas.List.{get_or_at, length-map, map-append, map_more, set_at, take_more}
use Rattle.display_map.specs.Prepared.{PreparedParts}
use Rattle.display_map.specs.Replay.{History}

-- ---- what is prepared, one display more

pub before-more : (ready : List PreparedParts) (x : PreparedParts) (hs : List History) (i : ℕ) (d : History) → i < length hs →
    map (λ r. r.before) ready ≡ take i hs → x.before ≡ get_or hs i d → map (λ r. r.before) (ready ++ x ∷ []) ≡ take (i + 1) hs
before-more ready x hs i d lt so_far next =
    map-append (λ (r : PreparedParts). r.before) ready (x ∷ []) ∙ (λ k. so_far k ++ next k ∷ []) ∙ sym (take_more hs i d lt)

pub after-more : (f : History → History) (ready : List PreparedParts) (x : PreparedParts) (hs : List History) (i : ℕ) (d : History) → i < length hs →
    map (λ r. r.after) ready ≡ map f (take i hs) → x.after ≡ f (get_or hs i d) → map (λ r. r.after) (ready ++ x ∷ []) ≡ map f (take (i + 1) hs)
after-more f ready x hs i d lt so_far next =
    map-append (λ (r : PreparedParts). r.after) ready (x ∷ []) ∙ (λ k. so_far k ++ next k ∷ []) ∙ sym (map_more f hs i d lt)

-- ---- what is taken, from the last display to the first

-- of all that was prepared some is taken, and the displays are those of that
pub record IsTaken (all left : List PreparedParts) (displays : List History) : Type 0 where
  pub taken : List PreparedParts
  pub parts : all ≡ left ++ taken
  pub displays_are : displays ≡ map (λ r. r.before) left ++ map (λ r. r.after) taken

pub none-taken : (all : List PreparedParts) (displays : List History) → map (λ r. r.before) all ≡ displays → IsTaken all all displays
none-taken all displays is =
    record { taken = []; parts = sym (append-nil all); displays_are = sym is ∙ sym (append-nil (map (λ (r : PreparedParts). r.before) all)) }

next-parts : (left left' : List PreparedParts) (x : PreparedParts) (taken : List PreparedParts) (displays : List History) → left ≡ left' ++ x ∷ [] →
    displays ≡ map (λ r. r.before) left ++ map (λ r. r.after) taken → displays ≡ map (λ r. r.before) left' ++ x.before ∷ map (λ r. r.after) taken
next-parts left left' x taken displays last is =
    is ∙ ap (λ (l : List PreparedParts). map (λ (r : PreparedParts). r.before) l ++ map (λ (r : PreparedParts). r.after) taken) last
    ∙ ap (λ (l : List History). l ++ map (λ (r : PreparedParts). r.after) taken) (map-append (λ (r : PreparedParts). r.before) left' (x ∷ []))
    ∙ append_assoc (map (λ (r : PreparedParts). r.before) left') (x.before ∷ []) (map (λ (r : PreparedParts). r.after) taken)

pub next-within : (all left left' : List PreparedParts) (x : PreparedParts) (displays : List History) → left ≡ left' ++ x ∷ [] → IsTaken all left displays →
    length left' < length displays
next-within all left left' x displays last so_far =
    omega (
      arith,
      ap length (next-parts left left' x so_far.taken displays last so_far.displays_are),
      length-append (map (λ (r : PreparedParts). r.before) left') (x.before ∷ map (λ (r : PreparedParts). r.after) so_far.taken),
      length-map left' (λ (r : PreparedParts). r.before),
    )

pub next-before : (all left left' : List PreparedParts) (x : PreparedParts) (displays : List History) (d : History) → left ≡ left' ++ x ∷ [] → IsTaken all left displays →
    get_or displays (length left') d ≡ x.before
next-before all left left' x displays d last so_far =
    ap (λ (l : List History). get_or l (length left') d) (next-parts left left' x so_far.taken displays last so_far.displays_are)
    ∙ get_or_at (map (λ (r : PreparedParts). r.before) left') x.before (map (λ (r : PreparedParts). r.after) so_far.taken) d (length left') (length-map left' (λ (r : PreparedParts). r.before))

pub next-taken : (all left left' : List PreparedParts) (x : PreparedParts) (displays : List History) → left ≡ left' ++ x ∷ [] → IsTaken all left displays →
    IsTaken all left' (set displays (length left') x.after)
next-taken all left left' x displays last so_far =
    record {
      taken = x ∷ so_far.taken;
      parts = so_far.parts ∙ ap (λ (l : List PreparedParts). l ++ so_far.taken) last ∙ append_assoc left' (x ∷ []) so_far.taken;
      displays_are =
          ap (λ (l : List History). set l (length left') x.after) (next-parts left left' x so_far.taken displays last so_far.displays_are)
          ∙ set_at (map (λ (r : PreparedParts). r.before) left') x.before (map (λ (r : PreparedParts). r.after) so_far.taken) x.after (length left') (length-map left' (λ (r : PreparedParts). r.before));
    }

pub all-taken : (all left : List PreparedParts) (displays : List History) → left ≡ [] → IsTaken all left displays → displays ≡ map (λ r. r.after) all
all-taken all left displays none so_far =
    so_far.displays_are ∙ ap (λ (l : List PreparedParts). map (λ (r : PreparedParts). r.before) l ++ map (λ (r : PreparedParts). r.after) so_far.taken) none
    ∙ ap (map (λ (r : PreparedParts). r.after)) (sym (so_far.parts ∙ ap (λ (l : List PreparedParts). l ++ so_far.taken) none))

-- ---- a list without its first element

pub first-removed : {X : Type 0} (xs ys : List X) (x : X) → 0 < length xs → x ≡ get_or xs 0 x → ys ≡ remove xs 0 → xs ≡ x ∷ ys
first-removed [] ys x some first rest = absurd (omega (arith, some))
first-removed (y ∷ xs) ys x some first rest = λ i. sym first i ∷ sym rest i
