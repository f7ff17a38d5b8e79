use Rattle.std.proofs.Common.{◌≡◌, ◌∙◌, ◌+◌, ◌*◌, ◌^◌, ◌<◌, ap, sym, length, arith}
use Rattle.std.specs.List.{slice_get}
use Rattle.std.specs.Option.{option_copied}
use Rattle.std.proofs.lemmas.Option.{none-some}
use Rattle.splice_tree.specs.declared.sides.Sides.{Sides}
use Rattle.block_map.specs.declared.row_count.RowCount.{RowCount}
use Rattle.block_map.specs.Stops.{texts_at}
use Rattle.block_map.proofs.FoundTexts.{found-text, the-piece, the-text, within}
use Rattle.block_map.proofs.StopPlaces.{length-stops}
use Rattle.block_map.proofs.stops.Stops.text_at.Goals as goal

pub unreachable-requires : goal.unreachable-requires
unreachable-requires c =
    let found = found-text c.self.inside.splices c.args.self.now c.self.invariant c.self.view_is c.args.row c.args.before c.args.at c.find_upper-found.result.index c.find_upper-found.ensures.first c.requires.before c.requires.there in
    none-some found.piece (ap option_copied (sym c.in-None.is) ∙ c.find_upper-found.ensures.splice ∙ found.is)

pub overflow_sub-behind-in-Some : goal.overflow_sub-behind-in-Some
overflow_sub-behind-in-Some c =
    let found = found-text c.self.inside.splices c.args.self.now c.self.invariant c.self.view_is c.args.row c.args.before c.args.at c.find_upper-found.result.index c.find_upper-found.ensures.first c.requires.before c.requires.there in
    let piece = the-piece c.self.inside.splices (c.args.row + c.args.before + c.args.at) c.find_upper-found.result.index (slice_get (texts_at c.args.row c.args.self.now) c.args.at) found c.in-Some.splice.now (ap option_copied (sym c.in-Some.is) ∙ c.find_upper-found.ensures.splice) in
    omega (arith, piece.0, ap (λ (g : RowCount). g.rows) c.gap.ensures, ap (λ (s : Sides RowCount). s.upper.rows) c.find_upper-found.ensures.before)

pub get-requires : goal.get-requires
get-requires c =
    let found = found-text c.self.inside.splices c.args.self.now c.self.invariant c.self.view_is c.args.row c.args.before c.args.at c.find_upper-found.result.index c.find_upper-found.ensures.first c.requires.before c.requires.there in
    let text = the-text c.self.inside.splices (c.args.row + c.args.before + c.args.at) c.find_upper-found.result.index (slice_get (texts_at c.args.row c.args.self.now) c.args.at) found c.in-Some.splice.now (ap option_copied (sym c.in-Some.is) ∙ c.find_upper-found.ensures.splice)
    c.load.result.now c.find_upper-found.result.before.upper.rows c.gap.result.rows c.load.ensures (ap (λ (s : Sides RowCount). s.upper.rows) c.find_upper-found.ensures.before) (ap (λ (g : RowCount). g.rows) c.gap.ensures) in
    within (texts_at c.args.row c.args.self.now) c.load.result.now c.args.at _ c.requires.there text

pub returns-clause-text : goal.returns-clause-text
returns-clause-text c =
    let found = found-text c.self.inside.splices c.args.self.now c.self.invariant c.self.view_is c.args.row c.args.before c.args.at c.find_upper-found.result.index c.find_upper-found.ensures.first c.requires.before c.requires.there in
    let text = the-text c.self.inside.splices (c.args.row + c.args.before + c.args.at) c.find_upper-found.result.index (slice_get (texts_at c.args.row c.args.self.now) c.args.at) found c.in-Some.splice.now (ap option_copied (sym c.in-Some.is) ∙ c.find_upper-found.ensures.splice)
    c.load.result.now c.find_upper-found.result.before.upper.rows c.gap.result.rows c.load.ensures (ap (λ (s : Sides RowCount). s.upper.rows) c.find_upper-found.ensures.before) (ap (λ (g : RowCount). g.rows) c.gap.ensures) in
    sym text ∙ c.get.ensures

pub returns-clause-steps : goal.returns-clause-steps
returns-clause-steps c h few =
    let same : length c.self.inside.splices ≡ length c.args.self.now = sym (length-stops 0 c.self.inside.splices) ∙ ap length c.self.view_is in
    let few' : length c.self.inside.splices < 2 * 6 ^ (h + 1) = omega (arith, few, same) in
    c.find_upper-found.ensures.steps h few'
