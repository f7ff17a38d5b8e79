-- The steps on the board keep its rule.
use Rattle.std.proofs.Common.{◌≡◌, ◌≢◌, ◌⊎◌, ℕ, List, [], ◌∷◌, ◌++◌, set, refl, ◌∙◌, subst, ⊎_elim, fold, Option, None, Some}
use mathlib.Core.Option.{some}
use lib.ListN.{get_elem?}
use Rattle.crossbeam_utils.specs.Register.{Admits, TurnsAt, Forks, Merges}
use Rattle.atomic_table.proofs.Lists.{at_set, at_snoc}
use Rattle.logbook.specs.Pages.{Book}
use Rattle.version_board.specs.Known.{Known}
use Rattle.version_board.specs.declared.shown.Shown.{Shown}
use Rattle.version_board.specs.declared.seats.View.{View}
use Rattle.version_board.specs.inside.Ties.{MayBeOf, AreTied, SeesRow, BecomesTied}

set_tied : (y : Shown) (views : List View) (seat : ℕ) (w : View)
    → ((j : ℕ) (u : View) → get_elem? views j ≡ some u → MayBeOf y.kept.board u.known)
    → MayBeOf y.kept.board w.known → AreTied y (set views seat w)
set_tied y views seat w others mine j u e =
    ⊎_elim
    (λ (t : (j ≡ seat) × (w ≡ u)). subst (λ (v : View). MayBeOf y.kept.board v.known) t.1 mine)
    (λ (t : (j ≢ seat) × (get_elem? views j ≡ some u)). others j u t.1)
    (at_set views seat j w u e)

snoc_tied : (y : Shown) (views : List View) (w : View) → AreTied y views → MayBeOf y.kept.board w.known → AreTied y (views ++ w ∷ [])
snoc_tied y views w old new j u e =
    ⊎_elim
    (λ t. old j u t)
    (λ (same : w ≡ u). subst (λ (v : View). MayBeOf y.kept.board v.known) same new)
    (at_snoc views w u j e)

-- what may be of one row may be of an equal one
of_equal : (b c : Book) (known : Option Known) → c ≡ b → MayBeOf b known → MayBeOf c known
of_equal b c None e h = tt
of_equal b c (Some k) e h = e ∙ h

-- a new seat knows nothing
pub admits : Admits AreTied (record { known = None })
admits x views h = snoc_tied x views (record { known = None }) h tt

pub sees_row : (seat : ℕ) (v : View) (x y : Shown) → y.kept.board ≡ x.kept.board → TurnsAt AreTied seat v x y SeesRow
sees_row seat v x y same views h at =
    let all : (j : ℕ) (u : View) → get_elem? views j ≡ some u → MayBeOf y.kept.board u.known =
    λ j u e. of_equal x.kept.board y.kept.board u.known same (h j u e) in
    (v, set_tied y views seat v all (all seat v at), (refl, all seat v at))

pub becomes_tied : (seat : ℕ) (v : View) (x y : Shown) → y.kept.board ≡ x.kept.board → TurnsAt AreTied seat v x y BecomesTied
becomes_tied seat v x y same views h at =
    let w : View = record { known = Some y.kept } in
    (w, set_tied y views seat w (λ j u e. of_equal x.kept.board y.kept.board u.known same (h j u e)) refl, refl)

-- what a seat knows may be passed on
pub forks : (seat : ℕ) (v : View) → Forks AreTied seat v v v
forks seat v x views h at = snoc_tied x (set views seat v) v (set_tied x views seat v h (h seat v at)) (h seat v at)

-- a seat takes what it was given in place of what it knew
pub merges : (seat : ℕ) (v : View) (other : ℕ) (u : View) → Merges AreTied seat v other u u (record { known = None })
merges seat v other u x views h at apart there =
    let was : get_elem? views other ≡ some u =
    ⊎_elim
    (λ (t : (other ≡ seat) × (u ≡ u)). absurd (apart t.0))
    (λ (t : (other ≢ seat) × (get_elem? views other ≡ some u)). t.1)
    (at_set views seat other u u there) in
    set_tied x (set views seat u) other (record { known = None }) (set_tied x views seat u h (h other u was)) tt

-- where each operation takes the place of all before it, the last one wins
pub last_wins : (s : Known) (xs : List Known) (x : Known) → fold (λ old next. next) s (xs ++ x ∷ []) ≡ x
last_wins s [] x = refl
last_wins s (y ∷ ys) x = last_wins y ys x
