-- The newest version of a display, over events that publish none.
use Rattle.std.proofs.Common.{◌≡◌, ◌+◌, false, cond, List, [], ◌∷◌, ◌++◌, map, refl, sym, ap, ◌∙◌, append_assoc, arith}
use Rattle.std.proofs.lemmas.List.{append-nil}
use Rattle.std.proofs.lemmas.List.Sums.{sum_by-append}
use Rattle.cell_units.specs.Operation.{Operation}
use Rattle.display_map.specs.Versions.{Version}
use Rattle.display_map.specs.Events.{Event, Did, Published}
use Rattle.display_map.specs.Replay.{History, appended, is_published, versions_of, ends}
use Rattle.display_map.proofs.Publishing.{ends-published}
use Rattle.live_display.specs.Owned.{IsNewest}

pub appended-append : (h : History) (xs ys : List Event) → appended (appended h xs) ys ≡ appended h (xs ++ ys)
appended-append h xs ys = ap (λ es. record { opening = h.opening; events = es }) (append_assoc h.events xs ys)

pub newest-still : (newest : Version) (h h' : History) (more : List Event) → h' ≡ appended h more → versions_of more ≡ 0 → IsNewest newest h → IsNewest newest h'
newest-still newest h h' more is none it =
    let count : versions_of (it.more ++ more) ≡ versions_of it.more + versions_of more = sum_by-append (λ e. cond (is_published e) 1 0) it.more more in
    record {
      more = it.more ++ more;
      since = is ∙ (ap (λ x. appended x more) it.since ∙ appended-append newest it.more more);
      unpublished = omega (arith, count, none, it.unpublished);
      goes_on = it.goes_on;
    }

pub newest-published : (newest : Version) (h : History) → newest ≡ appended h (Published false ∷ []) → IsNewest newest newest
newest-published newest h is =
    record {
      more = [];
      since = ap (λ es. record { opening = newest.opening; events = es }) (sym (append-nil newest.events));
      unpublished = refl;
      goes_on = ap (λ (v : History). ends v.events) is ∙ ends-published h.events false;
    }

pub none-published : (ops : List Operation) → versions_of (map Did ops) ≡ 0
none-published [] = refl
none-published (op ∷ ops) = none-published ops
