use Rattle.std.proofs.Common.{◌≡◌, ◌==◌, ◌||◌, ℕ, List, true, false, length, nat_lt, nat_le, sym, ap, ◌∙◌, arith}
use Rattle.std.proofs.lemmas.List.{length-map}
use Rattle.cell_units.specs.declared.limits.TheConstants.{ENTRY_LIMIT, INLAY_LIMIT}
use Rattle.cell_units.specs.Text.{is_boundary}
use Rattle.plain_rows.specs.Plain as plain
use Rattle.display_sheet.specs.Changes.{has_inlay, inlay_of, is_full}
use Rattle.display_sheet.proofs.Refused.{found-used, inlay-empty, inlay-long, inlay-none, inlay-range, inlay-used}
use Rattle.display_sheet.proofs.operate.inlay_refusal.Goals as goal

pub returns-then-is_some : goal.returns-then-is_some
returns-then-is_some c bias =
    let r = c.args.sheet.now in
    let i = inlay_of c.args.id c.args.offset bias c.args.text.now in
    let used : has_inlay i.id r ≡ true =
    found-used plain.inlay_of (λ j. j.id == i.id) c.inlays.result.now r.inlays c.found.result true c.found.ensures c.inlays.ensures (sym c.is_some.ensures ∙ c.if-is_some.true) in
    sym (inlay-used r i used)

pub returns-then-not-is_boundary : goal.returns-then-not-is_boundary
returns-then-not-is_boundary c bias =
    let r = c.args.sheet.now in
    let i = inlay_of c.args.id c.args.offset bias c.args.text.now in
    let used : has_inlay i.id r ≡ false =
    found-used plain.inlay_of (λ j. j.id == i.id) c.inlays.result.now r.inlays c.found.result false c.found.ensures c.inlays.ensures (sym c.is_some.ensures ∙ c.if-is_some.false) in
    let at : c.is_boundary.result ≡ is_boundary r.text i.offset = c.is_boundary.ensures ∙ ap (λ (t : List ℕ). is_boundary t i.offset) c.text.ensures in
    sym (inlay-range r i used (sym at ∙ c.if-not-is_boundary.true))

pub returns-then-text-eq0 : goal.returns-then-text-eq0
returns-then-text-eq0 c bias =
    let r = c.args.sheet.now in
    let i = inlay_of c.args.id c.args.offset bias c.args.text.now in
    let used : has_inlay i.id r ≡ false =
    found-used plain.inlay_of (λ j. j.id == i.id) c.inlays.result.now r.inlays c.found.result false c.found.ensures c.inlays.ensures (sym c.is_some.ensures ∙ c.if-is_some.false) in
    let at : c.is_boundary.result ≡ is_boundary r.text i.offset = c.is_boundary.ensures ∙ ap (λ (t : List ℕ). is_boundary t i.offset) c.text.ensures in
    sym (inlay-empty r i used (sym at ∙ c.if-not-is_boundary.false) (omega (arith, c.if-text-eq0.true)))

pub returns-then-has_no_room : goal.returns-then-has_no_room
returns-then-has_no_room c bias =
    let r = c.args.sheet.now in
    let i = inlay_of c.args.id c.args.offset bias c.args.text.now in
    let used : has_inlay i.id r ≡ false =
    found-used plain.inlay_of (λ j. j.id == i.id) c.inlays.result.now r.inlays c.found.result false c.found.ensures c.inlays.ensures (sym c.is_some.ensures ∙ c.if-is_some.false) in
    let at : c.is_boundary.result ≡ is_boundary r.text i.offset = c.is_boundary.ensures ∙ ap (λ (t : List ℕ). is_boundary t i.offset) c.text.ensures in
    let entries : length c.inlays-2.result.now ≡ length r.inlays = sym (length-map c.inlays-2.result.now plain.inlay_of) ∙ ap length c.inlays-2.ensures in
    let long : (nat_lt INLAY_LIMIT (length i.text) || is_full r.inlays) ≡ true =
    (λ k. nat_lt INLAY_LIMIT (length i.text) || nat_le ENTRY_LIMIT (sym entries k)) ∙ sym c.has_no_room.ensures ∙ c.if-has_no_room.true in
    sym (inlay-long r i used (sym at ∙ c.if-not-is_boundary.false) (omega (arith, c.if-text-eq0.false)) long)

pub returns : goal.returns
returns c bias =
    let r = c.args.sheet.now in
    let i = inlay_of c.args.id c.args.offset bias c.args.text.now in
    let used : has_inlay i.id r ≡ false =
    found-used plain.inlay_of (λ j. j.id == i.id) c.inlays.result.now r.inlays c.found.result false c.found.ensures c.inlays.ensures (sym c.is_some.ensures ∙ c.if-is_some.false) in
    let at : c.is_boundary.result ≡ is_boundary r.text i.offset = c.is_boundary.ensures ∙ ap (λ (t : List ℕ). is_boundary t i.offset) c.text.ensures in
    let entries : length c.inlays-2.result.now ≡ length r.inlays = sym (length-map c.inlays-2.result.now plain.inlay_of) ∙ ap length c.inlays-2.ensures in
    let short : (nat_lt INLAY_LIMIT (length i.text) || is_full r.inlays) ≡ false =
    (λ k. nat_lt INLAY_LIMIT (length i.text) || nat_le ENTRY_LIMIT (sym entries k)) ∙ sym c.has_no_room.ensures ∙ c.if-has_no_room.false in
    sym (inlay-none r i used (sym at ∙ c.if-not-is_boundary.false) (omega (arith, c.if-text-eq0.false)) short)
