use Rattle.std.proofs.Common.{◌≡◌, All, refl, ap, sym, ◌∙◌, subst}
use Rattle.display_map.specs.Versions.{Version}
use Rattle.version_board.specs.Known.{Known, GoesOn}
use Rattle.version_board.specs.Rows.{BeginsWith}
use Rattle.version_board.proofs.reader.Reader.look.Goals as goal

pub returns : goal.returns
returns c =
    let old = c.args.self.now in
    let new = c.keep.new.self in
    let goes : GoesOn old new = subst (λ (k : Known). GoesOn k new) c.enter-found.ensures.same c.keep.ensures.this in
    let seen : c.version.result.now ≡ new.newest = c.version.ensures ∙ ap (λ k. k.newest) c.self.view_is in (
      (refl, (λ w. tt), (subst (GoesOn old) (sym c.self.view_is) goes, sym c.version.ensures)),
      record {
        sees = tt;
        begins = subst (λ (w : Version). All (λ v. BeginsWith w v) old.row) (sym seen) goes.begins;
        last = λ ended. seen ∙ goes.last ended;
      },
    )
