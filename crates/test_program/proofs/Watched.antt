-- Watchers of readers of one board.
use Rattle.std.proofs.Common.{◌≡◌, List, [], ◌∷◌, All, map, sym, subst}
use Rattle.std.proofs.lemmas.List.Elements.{All-cons, All-head, All-nil, All-tail}
use Rattle.version_board.specs.Known.{Known}
use Rattle.board_watch.specs.Watching.{Watching}

module _ (P : Known → Type 0) where
  abbrev Watches : Watching → Type 0
  Watches watching = P watching.known

  of_known : (team : List Watching) → All P (map (λ (w : Watching). w.known) team) → All Watches team
  of_known [] all = All-nil Watches
  of_known (w ∷ team) all =
      let rest : List Known = map (λ (w : Watching). w.known) team in
      All-cons Watches w team (All-head P w.known rest all) (of_known team (All-tail P w.known rest all))

  pub of_readers : (team : List Watching) (readers : List Known) → map (λ (w : Watching). w.known) team ≡ readers → All P readers
      → All (λ (w : Watching). P w.known) team
  of_readers team readers are all = of_known team (subst (All P) (sym are) all)
