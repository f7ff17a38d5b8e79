use Rattle.std.proofs.Common.{◌≡◌, ◌∙◌, ◌||◌, ◌+◌, Bool, true, false, ap, length, refl, sym, arith}
use Rattle.std.specs.List.{list_any}
use Rattle.std.proofs.lemmas.Bool.{le-leb, lt-leb}
use Rattle.cell_units.specs.declared.limits.TheConstants.{ENTRY_LIMIT}
use Rattle.block_map.specs.Maps.{is_full, is_long_line}
use Rattle.block_map.proofs.BlockRefusals.{boundary-false, boundary-true, not-refused, refused-id, refused-much, refused-range, refused-text}
use Rattle.block_map.proofs.TwoSides.{has-side}
use Rattle.block_map.proofs.block_map.BlockMap.refusal_to_add.Goals as goal

or-second : (a b : Bool) → b ≡ true → (a || b) ≡ true
or-second true b e = refl
or-second false b e = e

pub returns-then-is_some-clause-refusal : goal.returns-then-is_some-clause-refusal
returns-then-is_some-clause-refusal g c = refused-id (g.P.Layer.source c.args.layer.now) c.args.self.now c.args.id c.args.offset c.args.lines.now (has-side c.args.id c.args.self.now c.side_of.result c.side_of.ensures.side ∙ sym c.is_some.ensures ∙ c.if-is_some.true)

pub returns-then-not-on_boundary-clause-refusal : goal.returns-then-not-on_boundary-clause-refusal
returns-then-not-on_boundary-clause-refusal g c =
    refused-range (g.P.Layer.source c.args.layer.now) c.args.self.now c.args.id c.args.offset c.args.lines.now (has-side c.args.id c.args.self.now c.side_of.result c.side_of.ensures.side ∙ sym c.is_some.ensures ∙ c.if-is_some.false)
    (boundary-false (g.P.Layer.source c.args.layer.now).text c.args.offset c.buffer_len-len.ensures.well_formed.text.0 (λ b. let yes : c.on_boundary.result ≡ true = c.on_boundary.ensures.1 b in cc))

pub returns-then-not-are_block_lines-clause-refusal : goal.returns-then-not-are_block_lines-clause-refusal
returns-then-not-are_block_lines-clause-refusal g c =
    refused-text (g.P.Layer.source c.args.layer.now) c.args.self.now c.args.id c.args.offset c.args.lines.now (has-side c.args.id c.args.self.now c.side_of.result c.side_of.ensures.side ∙ sym c.is_some.ensures ∙ c.if-is_some.false)
    (boundary-true (g.P.Layer.source c.args.layer.now).text c.args.offset c.buffer_len-len.ensures.well_formed.text.0 (c.on_boundary.ensures.0 c.if-not-on_boundary.false)) (sym c.are_block_lines.ensures ∙ c.if-not-are_block_lines.true)

pub returns-then-has_long_line-clause-refusal : goal.returns-then-has_long_line-clause-refusal
returns-then-has_long_line-clause-refusal g c =
    let long : list_any is_long_line c.args.lines.now ≡ true = sym c.has_long_line.ensures ∙ c.if-has_long_line.true in
    refused-much (g.P.Layer.source c.args.layer.now) c.args.self.now c.args.id c.args.offset c.args.lines.now (has-side c.args.id c.args.self.now c.side_of.result c.side_of.ensures.side ∙ sym c.is_some.ensures ∙ c.if-is_some.false)
    (boundary-true (g.P.Layer.source c.args.layer.now).text c.args.offset c.buffer_len-len.ensures.well_formed.text.0 (c.on_boundary.ensures.0 c.if-not-on_boundary.false)) (sym c.are_block_lines.ensures ∙ c.if-not-are_block_lines.false)
    (ap (λ (b : Bool). b || is_full c.args.self.now) long)

pub returns-then-count-ge-ENTRY_LIMIT-clause-refusal : goal.returns-then-count-ge-ENTRY_LIMIT-clause-refusal
returns-then-count-ge-ENTRY_LIMIT-clause-refusal g c =
    let s = c.args.self.now in
    let full : is_full s ≡ true = le-leb ENTRY_LIMIT (length s.above + length s.below) (omega (arith, c.if-count-ge-ENTRY_LIMIT.true, c.len-count.ensures)) in
    refused-much (g.P.Layer.source c.args.layer.now) c.args.self.now c.args.id c.args.offset c.args.lines.now (has-side c.args.id c.args.self.now c.side_of.result c.side_of.ensures.side ∙ sym c.is_some.ensures ∙ c.if-is_some.false)
    (boundary-true (g.P.Layer.source c.args.layer.now).text c.args.offset c.buffer_len-len.ensures.well_formed.text.0 (c.on_boundary.ensures.0 c.if-not-on_boundary.false)) (sym c.are_block_lines.ensures ∙ c.if-not-are_block_lines.false)
    (or-second (list_any is_long_line c.args.lines.now) (is_full s) full)

pub returns-clause-refusal : goal.returns-clause-refusal
returns-clause-refusal g c =
    let s = c.args.self.now in
    let short : list_any is_long_line c.args.lines.now ≡ false = sym c.has_long_line.ensures ∙ c.if-has_long_line.false in
    let room : is_full s ≡ false = lt-leb ENTRY_LIMIT (length s.above + length s.below) (omega (arith, c.if-count-ge-ENTRY_LIMIT.false, c.len-count.ensures)) in
    not-refused (g.P.Layer.source c.args.layer.now) c.args.self.now c.args.id c.args.offset c.args.lines.now (has-side c.args.id c.args.self.now c.side_of.result c.side_of.ensures.side ∙ sym c.is_some.ensures ∙ c.if-is_some.false)
    (boundary-true (g.P.Layer.source c.args.layer.now).text c.args.offset c.buffer_len-len.ensures.well_formed.text.0 (c.on_boundary.ensures.0 c.if-not-on_boundary.false)) (sym c.are_block_lines.ensures ∙ c.if-not-are_block_lines.false)
    (λ i. short i || room i)
