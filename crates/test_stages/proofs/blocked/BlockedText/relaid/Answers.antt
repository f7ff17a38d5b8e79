use Rattle.std.proofs.Common.{◌≡◌, ◌∙◌, Result, Ok, Err, OnErr, None, ap, arith, subst, sym}
use Rattle.std.proofs.Props.{props}
use Rattle.cell_units.specs.Layers.{plain_source}
use Rattle.wrap_map.specs.Standing.{shown_rows}
use Rattle.wrapped_lines.specs.WrappedSource.{WrappedSource, row_texts}
use Rattle.block_map.specs.Follows.{IsFollowed}
use Rattle.block_map.specs.Maps.{BlockState, synced}
use Rattle.blocked_rows.specs.Records.{Lines}
use Rattle.blocked_rows.specs.Standing.{ArePlaced}
use Rattle.test_stages.specs.declared.blocked.BlockedText.{BlockedText}
use Rattle.test_stages.proofs.FollowedText.{AreLinesOf, few-given, follows-landed, marks-landed}
use Rattle.test_stages.proofs.PlacedBlocks.{placed-after}
use Rattle.test_stages.proofs.blocked.BlockedText.relaid.Goals as goal
use Rattle.test_stages.proofs.blocked.BlockedText.relaid.Goals.{In_ok-rows}

of : (c : In_ok-rows) → AreLinesOf c.args.self.now.late.text.rope c.args.self.now.late.text.lines
of c =
    let text = c.args.self.now.late.text in
    record {
      source = text.of_text;
      tab = text.tab;
      one_each = text.one_each;
      short = omega (arith, c.len-bytes.ensures.value, c.len-bytes.ensures.within);
    }

then : (c : In_ok-rows) → AreLinesOf c.args.self.now.late.text.rope c.args.landed.lines
then c =
    let late = c.args.self.now.late in
    let made = c.requires.made in
    record {
      source = ap (λ (w : WrappedSource). w.source) made ∙ late.text.of_text;
      tab = ap (λ (w : WrappedSource). w.tab) made ∙ late.text.tab;
      one_each = marks-landed late.text.lines c.args.landed.lines late.out.places c.args.landed.rows late.text.one_each c.requires;
      short = omega (arith, c.len-bytes.ensures.value, c.len-bytes.ensures.within);
    }

given : (c : In_ok-rows) → shown_rows c.in_ok-rows.rows ≡ row_texts c.args.landed.lines
given c = c.in_ok-rows.ensures ∙ ap shown_rows c.rows.ensures

follows : (c : In_ok-rows) → IsFollowed (plain_source c.args.self.now.late.text.rope) None c.args.landed.rows (shown_rows c.in_ok-rows.rows) c.args.self.now.blocks
follows c =
    let m = c.args.self.now in
    subst (λ (ls : Lines). IsFollowed (plain_source m.late.text.rope) None c.args.landed.rows ls m.blocks) (sym (given c))
    (follows-landed m.late.text.rope m.late.text.lines c.args.landed.lines m.late.out.places c.args.landed.rows m.blocks c.len-bytes.ensures.text
    (of c) (then c) c.requires m.rows m.placed)

pub after-requires-after_bounds : goal.after-requires-after_bounds
after-requires-after_bounds c κs = follows (goal.at.after-requires-after_bounds c).In_ok-rows

-- a text whose two facts are proved again is the same
placed-prop : (m : BlockedText) → IsProp (ArePlaced (plain_source m.late.text.rope) m.blocks)
placed-prop m = Prim.hlevel props

rows-prop : (m : BlockedText) → IsProp (m.blocks.lines ≡ row_texts m.late.text.lines)
rows-prop m = Prim.hlevel props

same : (m : BlockedText) (placed : ArePlaced (plain_source m.late.text.rope) m.blocks) (rows : m.blocks.lines ≡ row_texts m.late.text.lines)
    → ◌≡◌ {A = BlockedText} record { late = m.late; blocks = m.blocks; placed = placed; rows = rows } m
same m placed rows =
    λ i. record { late = m.late; blocks = m.blocks; placed = placed-prop m placed m.placed i; rows = rows-prop m rows m.rows i }

on-err : {A E P : Type 0} (r : Result A E) → P → OnErr r P
on-err (Ok x) p = tt
on-err (Err e) p = p

pub returns-in_err-rows-clause-unchanged : goal.returns-in_err-rows-clause-unchanged
returns-in_err-rows-clause-unchanged c = on-err c.from_residual.result (same c.args.self.now _ _)

pub returns-in_err-blocks-clause-unchanged : goal.returns-in_err-blocks-clause-unchanged
returns-in_err-blocks-clause-unchanged c = on-err c.from_residual-in_err-blocks.result (same c.args.self.now _ _)

pub go_on-requires-clause-placed : goal.go_on-requires-clause-placed
go_on-requires-clause-placed c =
    let s = (goal.at.go_on-requires-clause-placed c).In_ok-rows in
    let m = c.args.self.now in
    let source = plain_source m.late.text.rope in
    placed-after source source (shown_rows c.in_ok-rows.rows) None c.args.landed.rows m.blocks c.in_ok-blocks.blocks m.placed (follows s)
    (few-given m.late.text.rope c.args.landed.lines (then s) (shown_rows c.in_ok-rows.rows) (given s)) c.in_ok-blocks.ensures.made

pub go_on-requires-clause-rows : goal.go_on-requires-clause-rows
go_on-requires-clause-rows c =
    ap (λ (b : BlockState). b.lines) c.in_ok-blocks.ensures.made ∙ given (goal.at.go_on-requires-clause-rows c).In_ok-rows

pub returns-clause-blocks : goal.returns-clause-blocks
returns-clause-blocks c =
    let m = c.args.self.now in
    c.go_on.ensures.blocks
    ∙ c.in_ok-blocks.ensures.made
    ∙ ap (λ (ls : Lines). synced (plain_source m.late.text.rope) None ls m.blocks) (given (goal.at.returns-clause-blocks c).In_ok-rows)
