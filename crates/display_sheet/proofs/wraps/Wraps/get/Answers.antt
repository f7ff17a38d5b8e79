use Rattle.std.proofs.Common.{◌/◌, ◌%◌, List, [], length, get_or, sym, ap, ◌∙◌, arith}
use Rattle.std.proofs.lemmas.List.{get_or_default}
use Rattle.display_sheet.specs.declared.wraps.Wrapped.{Wrapped}
use Rattle.display_sheet.proofs.WrappedRows.{stands-line}
use Rattle.display_sheet.proofs.wraps.Wraps.get.Goals as goal

pub index-requires : goal.index-requires
index-requires c =
    let at = stands-line c.self.inside c.self.invariant c.args.line (omega (arith, c.requires, ap length c.self.view_is)) in
    omega (arith, at.chunk, c.self.inside.chunks.ok.0)

pub get-requires : goal.get-requires
get-requires c =
    let at = stands-line c.self.inside c.self.invariant c.args.line (omega (arith, c.requires, ap length c.self.view_is)) in
    omega (arith, at.place, ap length (c.index.ensures ∙ get_or_default c.self.inside.chunks.items (c.args.line / 2048) c.index.result.now [] at.chunk))

pub returns : goal.returns
returns c =
    let w = c.get.result in
    let at = stands-line c.self.inside c.self.invariant c.args.line (omega (arith, c.requires, ap length c.self.view_is)) in
    c.get.ensures
    ∙ ap (λ (l : List Wrapped). get_or l (c.args.line % 2048) w) (c.index.ensures ∙ get_or_default c.self.inside.chunks.items (c.args.line / 2048) c.index.result.now [] at.chunk)
    ∙ sym (at.reads w)
    ∙ ap (λ (l : List Wrapped). get_or l c.args.line w) c.self.view_is
