use Rattle.std.proofs.Common.{◌≡◌, ◌∙◌, ◌++◌, ◌∷◌, [], List, Some, ap, sym, map, length, arith}
use Rattle.std.specs.List.{slice_get}
use Rattle.cell_units.specs.declared.place.Bias.TheVariants.{Left}
use Rattle.cell_units.specs.Folded.{folded}
use Rattle.cell_units.specs.Inlaid.{Token, Byte}
use Rattle.cell_units.specs.Layers.{Source, inlay_source, place_of, shown_text}
use Rattle.cell_units.specs.Record.{Fold}
use Rattle.cell_units.specs.Text.{line_feed}
use Rattle.sum_core.specs.declared.load.NoLoad.{NoLoad}
use Rattle.splice_tree.specs.Splices.{Piece, measured, to_lower}
use Rattle.inlay_map.specs.declared.amount.Amount.{Amount}
use Rattle.inlay_map.specs.Amounts.{bytes_of}
use Rattle.inlay_map.proofs.Backs.{back-is, lower-le, lower-within, offset-is}
use Rattle.inlay_map.proofs.Cuts.{length-bytes, single, text-is, tokens-are}
use Rattle.inlay_map.proofs.MapStates.{source-is}
use Rattle.inlay_map.proofs.Parts.{parts_from}
use Rattle.inlay_map.proofs.Spread.{spread}
use Rattle.inlay_map.proofs.snapshot.InlaySnapshot.offset_at.Goals as goal

pub to_lower-requires : goal.to_lower-requires
to_lower-requires c =
    let s = c.self.inside.inlaid in
    let same = ap (λ (l : List (Piece Amount NoLoad)). to_lower Left (map (measured bytes_of) l) c.args.place) c.self.invariant in
    omega (arith, same, lower-le s.text 0 s.inlays c.args.place, c.ranges.place)

pub returns-clause-offset : goal.returns-clause-offset
returns-clause-offset c =
    let s = c.self.inside.inlaid in
    let place = c.args.place in
    let folds = c.len-len.ensures.lawful.folds in
    let sp = spread s.text s.inlays c.len-len.ensures.lawful.inlays in
    let same = ap (λ (l : List (Piece Amount NoLoad)). to_lower Left (map (measured bytes_of) l) place) c.self.invariant in
    let v = source-is s folds ∙ c.self.view_is in
    record {
      back = λ o bias le e.
          c.to_lower.ensures.place
          ∙ same
          ∙ back-is s.text s.inlays o place bias sp (omega (arith, le, ap (λ (x : Source). length x.text) c.self.view_is)) (ap (λ (x : Source). place_of x o bias) v ∙ e);
      token = λ t e.
          let here : slice_get (parts_from s.text 0 s.inlays ++ Byte (length s.text) line_feed ∷ []) place ≡ Some t =
          ap (λ (l : List Token). slice_get l place) (sym (tokens-are s.text s.inlays sp))
          ∙ ap (λ (f : List Fold). slice_get (folded s.text s.inlays f) place) (sym folds)
          ∙ ap (λ (x : Source). slice_get (folded x.text x.inlays x.folds) place) c.self.view_is
          ∙ e in
          omega (arith, c.to_lower.ensures.place, same, offset-is s.text 0 s.inlays place t sp (omega arith) here);
      within = λ le.
          let long : length (shown_text (inlay_source s.text s.inlays)) ≡ length (parts_from s.text 0 s.inlays) =
          ap length (text-is s.text s.inlays sp) ∙ length-bytes (parts_from s.text 0 s.inlays) (single s.text 0 s.inlays) in
          let shown = ap (λ (x : Source). length (shown_text x)) v in
          omega (
            arith,
            c.to_lower.ensures.place,
            same,
            lower-within s.text 0 s.inlays place sp (omega arith) (omega (arith, le, long, shown)),
            ap (λ (x : Source). length x.text) c.self.view_is,
          );
    }
