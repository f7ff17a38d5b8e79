-- Steps behind steps.
use Rattle.std.proofs.Common.{◌≡◌, ℕ, ◌≤◌, Bool, false, List, [], ◌∷◌, ◌++◌, length, append_assoc, arith, sym, ap, ◌∙◌, refl, subst}
use Rattle.std.specs.Prelude.{◌||◌}
use Rattle.std.specs.List.{list_any}
use Rattle.std.proofs.lemmas.List.{append-nil, length-append}
use Rattle.std.proofs.lemmas.List.Folds.{list_any-append}
use Rattle.display_map.specs.Events.{Event}
use Rattle.display_map.specs.Replay.{History, state_of, appended}
use Rattle.live_display.specs.declared.halt.Halt.{Halt}
use Rattle.live_display.specs.declared.halt.Halt.TheVariants.{Full, Memory}
use Rattle.live_display.specs.Beside.{Step, behind, behind_all, events_of, MayTake, MayTakeAll, HasGone, GoesWithout, IsHalted}

behind-append : (h : History) (xs ys : List Step) → behind_all h (xs ++ ys) ≡ behind_all (behind_all h xs) ys
behind-append h [] ys = refl
behind-append h (x ∷ xs) ys = behind-append (behind h x) xs ys

may-append : (w : ℕ) (h : History) (xs ys : List Step) → MayTakeAll w h xs → MayTakeAll w (behind_all h xs) ys → MayTakeAll w h (xs ++ ys)
may-append w h [] ys may more = more
may-append w h (x ∷ xs) ys may more = (may.0, may-append w (behind h x) xs ys may.1 more)

pub gone-none : (w : ℕ) (h h' : History) → h' ≡ h → HasGone w h h'
gone-none w h h' same = record { steps = []; may = tt; display = same }

pub gone-one : (w : ℕ) (h h' : History) (step : Step) → MayTake w (state_of h) step → h' ≡ behind h step → HasGone w h h'
gone-one w h h' step may same = record { steps = step ∷ []; may = (may, tt); display = same }

pub gone-gone : (w : ℕ) (a b c : History) → HasGone w a b → HasGone w b c → HasGone w a c
gone-gone w a b c x y =
    record {
      steps = x.steps ++ y.steps;
      may = may-append w a x.steps y.steps x.may (subst (λ h. MayTakeAll w h y.steps) x.display y.may);
      display = y.display ∙ (ap (λ h. behind_all h y.steps) x.display ∙ sym (behind-append a x.steps y.steps));
    }

pub halted-behind : (w : ℕ) (a b c : History) (halt : Halt) → HasGone w a b → IsHalted w b c halt → IsHalted w a c halt
halted-behind w a b c Full gone halted = (gone-gone w a b c gone halted.0, halted.1)
halted-behind w a b c Memory gone halted =
    (record { between = halted.0.between; gone = gone-gone w a b halted.0.between gone halted.0.gone; last = halted.0.last }, halted.1)

behind-longer : (h : History) (steps : List Step) → length h.events ≤ length (behind_all h steps).events
behind-longer h [] = omega arith
behind-longer h (step ∷ steps) =
    let here = length-append h.events (events_of step) in
    let rest = behind-longer (behind h step) steps in omega (arith, here, rest)

pub gone-longer : (w : ℕ) (h h' : History) → HasGone w h h' → length h.events ≤ length h'.events
gone-longer w h h' gone = subst (λ (x : History). length h.events ≤ length x.events) (sym gone.display) (behind-longer h gone.steps)

-- ---- without events of a kind

pub without-none : (is_such : Event → Bool) (h h' : History) → h' ≡ h → GoesWithout is_such h h'
without-none is_such h h' same =
    record { more = []; display = same ∙ ap (λ es. record { opening = h.opening; events = es }) (sym (append-nil h.events)); none = refl }

or-false : (a b : Bool) → a ≡ false → b ≡ false → (a || b) ≡ false
or-false a b p q = ap (λ a. a || b) p ∙ q

pub without-without : (is_such : Event → Bool) (a b c : History) → GoesWithout is_such a b → GoesWithout is_such b c → GoesWithout is_such a c
without-without is_such a b c x y =
    record {
      more = x.more ++ y.more;
      display = y.display
          ∙ (ap (λ h. appended h y.more) x.display
          ∙ ap (λ es. record { opening = a.opening; events = es }) (append_assoc a.events x.more y.more));
      none = list_any-append is_such x.more y.more ∙ or-false (list_any is_such x.more) (list_any is_such y.more) x.none y.none;
    }
