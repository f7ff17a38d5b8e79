use Rattle.std.proofs.Common.{◌≡◌, ◌==◌, ◌||◌, Bool, true, false, length, nat_le, refl, sym, ap, ◌∙◌, arith}
use Rattle.std.specs.List.{list_any}
use Rattle.std.proofs.lemmas.Bool.{le-leb, lt-leb}
use Rattle.std.proofs.lemmas.List.{length-map}
use Rattle.cell_units.specs.declared.limits.TheConstants.{ENTRY_LIMIT}
use Rattle.cell_units.specs.Record.{line_count}
use Rattle.plain_rows.specs.Plain.{block_of}
use Rattle.display_sheet.specs.Changes.{are_block_lines, has_block, is_full, is_long_line}
use Rattle.display_sheet.proofs.Refused.{block-broken, block-long, block-none, block-range, block-used, found-used}
use Rattle.display_sheet.proofs.operate.block_refusal.Goals as goal
use Rattle.display_sheet.proofs.operate.block_refusal.Goals.{then-has_long_line-via-then-has_long_line, then-has_long_line-via-else-has_long_line+then-blocks-ge-ENTRY_LIMIT}

or-second : (a b : Bool) → b ≡ true → (a || b) ≡ true
or-second true b e = refl
or-second false b e = e

pub returns-then-is_some : goal.returns-then-is_some
returns-then-is_some c =
    let r = c.args.sheet.now in
    let used : has_block c.args.id r ≡ true =
    found-used block_of (λ j. j.id == c.args.id) c.blocks-2.result.now r.blocks c.found.result true c.found.ensures c.blocks-2.ensures
    (sym c.is_some.ensures ∙ c.if-is_some.true) in
    sym (block-used r c.args.row c.args.id c.args.lines.now used)

pub returns-then-row-lines : goal.returns-then-row-lines
returns-then-row-lines c =
    let r = c.args.sheet.now in
    let used : has_block c.args.id r ≡ false =
    found-used block_of (λ j. j.id == c.args.id) c.blocks-2.result.now r.blocks c.found.result false c.found.ensures c.blocks-2.ensures
    (sym c.is_some.ensures ∙ c.if-is_some.false) in
    let behind : nat_le (line_count r.text) c.args.row ≡ true =
    le-leb (line_count r.text) c.args.row (omega (arith, c.if-row-lines.true, c.lines.ensures.count, ap line_count c.text.ensures)) in
    sym (block-range r c.args.row c.args.id c.args.lines.now used behind)

pub returns-then-not-are_block_lines : goal.returns-then-not-are_block_lines
returns-then-not-are_block_lines c =
    let r = c.args.sheet.now in
    let used : has_block c.args.id r ≡ false =
    found-used block_of (λ j. j.id == c.args.id) c.blocks-2.result.now r.blocks c.found.result false c.found.ensures c.blocks-2.ensures
    (sym c.is_some.ensures ∙ c.if-is_some.false) in
    let within : nat_le (line_count r.text) c.args.row ≡ false =
    lt-leb (line_count r.text) c.args.row (omega (arith, c.if-row-lines.false, c.lines.ensures.count, ap line_count c.text.ensures)) in
    sym (block-broken r c.args.row c.args.id c.args.lines.now used within (sym c.are_block_lines.ensures ∙ c.if-not-are_block_lines.true))

pub returns-then-has_long_line : goal.returns-then-has_long_line
returns-then-has_long_line c =
    let r = c.args.sheet.now in
    let lines = c.args.lines.now in
    let used : has_block c.args.id r ≡ false =
    found-used block_of (λ j. j.id == c.args.id) c.blocks-2.result.now r.blocks c.found.result false c.found.ensures c.blocks-2.ensures
    (sym c.is_some.ensures ∙ c.if-is_some.false) in
    let within : nat_le (line_count r.text) c.args.row ≡ false =
    lt-leb (line_count r.text) c.args.row (omega (arith, c.if-row-lines.false, c.lines.ensures.count, ap line_count c.text.ensures)) in
    let proper : are_block_lines lines ≡ true = sym c.are_block_lines.ensures ∙ c.if-not-are_block_lines.false in
    let long = list_any is_long_line lines in
    elim c.then-has_long_line.branch [
      | then-has_long_line-via-then-has_long_line w ↦
          let is : long ≡ true = sym c.has_long_line.ensures ∙ w.if-has_long_line.true in
          sym (block-long r c.args.row c.args.id lines used within proper (ap (λ (b : Bool). b || is_full r.blocks) is))
      | then-has_long_line-via-else-has_long_line+then-blocks-ge-ENTRY_LIMIT w ↦
          let full : is_full r.blocks ≡ true =
          le-leb ENTRY_LIMIT (length r.blocks)
          (omega (arith, w.if-blocks-ge-ENTRY_LIMIT.true, ap length w.blocks-else-has_long_line.ensures, length-map w.blocks-else-has_long_line.result.now block_of)) in
          sym (block-long r c.args.row c.args.id lines used within proper (or-second long (is_full r.blocks) full))
    ]

pub returns : goal.returns
returns c =
    let r = c.args.sheet.now in
    let lines = c.args.lines.now in
    let used : has_block c.args.id r ≡ false =
    found-used block_of (λ j. j.id == c.args.id) c.blocks-2.result.now r.blocks c.found.result false c.found.ensures c.blocks-2.ensures
    (sym c.is_some.ensures ∙ c.if-is_some.false) in
    let within : nat_le (line_count r.text) c.args.row ≡ false =
    lt-leb (line_count r.text) c.args.row (omega (arith, c.if-row-lines.false, c.lines.ensures.count, ap line_count c.text.ensures)) in
    let proper : are_block_lines lines ≡ true = sym c.are_block_lines.ensures ∙ c.if-not-are_block_lines.false in
    let short : list_any is_long_line lines ≡ false = sym c.has_long_line.ensures ∙ c.if-has_long_line.false in
    let room : is_full r.blocks ≡ false =
    lt-leb ENTRY_LIMIT (length r.blocks)
    (omega (arith, c.if-blocks-ge-ENTRY_LIMIT.false, ap length c.blocks-else-has_long_line.ensures, length-map c.blocks-else-has_long_line.result.now block_of)) in
    sym (block-none r c.args.row c.args.id lines used within proper (λ i. short i || room i))
