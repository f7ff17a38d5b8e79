use Rattle.std.proofs.Common.{◌≡◌, ◌<◌, ◌/◌, ◌%◌, ℕ, List, [], length, get_or, set, sym, ap, subst, ◌∙◌, arith}
use Rattle.std.specs.List.{All}
use Rattle.std.proofs.lemmas.List.{get_or_default, length-set}
use Rattle.std.proofs.lemmas.List.Elements.{All-set}
use Rattle.display_sheet.specs.declared.wraps.Wrapped.{Wrapped}
use Rattle.display_sheet.specs.declared.wraps.Wraps.TheInside.{Inside}
use Rattle.display_sheet.specs.Chunks.{joined}
use Rattle.display_sheet.specs.Wraps.{rows_of_lines}
use Rattle.display_sheet.proofs.Chunks.{StandsAt, are-chunks-set}
use Rattle.display_sheet.proofs.WrappedRows.{rows-own, rows-set, stands-line, sum-few}
use Rattle.display_sheet.proofs.wraps.Wraps.set.Goals as goal

pub index_mut-requires : goal.index_mut-requires
index_mut-requires c =
    let at = stands-line c.self.inside c.self.invariant c.args.line (omega (arith, c.requires, ap length c.self.view_is)) in
    omega (arith, at.chunk, c.self.inside.chunks.ok.0)

pub set-requires : goal.set-requires
set-requires c =
    let at = stands-line c.self.inside c.self.invariant c.args.line (omega (arith, c.requires, ap length c.self.view_is)) in
    omega (arith, at.place, ap length (c.index_mut.ensures.value ∙ get_or_default c.self.inside.chunks.items (c.args.line / 2048) c.index_mut.result.now [] at.chunk))

pub overflow_add-self : goal.overflow_add-self
overflow_add-self c =
    let keeps = c.self.invariant in
    omega (arith, keeps.summed, keeps.few, sum-few (joined c.self.inside.chunks.items) keeps.few keeps.small, c.from-2.ensures, c.row_count.type_inv)

-- the chunk with the line, as it is wrapped from now on
written : (w : Inside) (k j line : ℕ) (own new : List Wrapped) (l : Wrapped) → StandsAt w.chunks.items k j line → own ≡ get_or w.chunks.items k [] → new ≡ set own j l →
    joined (set w.chunks.items k new) ≡ set (joined w.chunks.items) line l
written w k j line own new l at is set_is =
    ap (λ (c : List Wrapped). joined (set w.chunks.items k c)) (set_is ∙ ap (λ (c : List Wrapped). set c j l) is) ∙ at.writes l

pub invariant_of-self-2 : goal.invariant_of-self-2
invariant_of-self-2 c =
    let w = c.self.inside in
    let keeps = c.self.invariant in
    let line : ℕ = c.args.line in
    let k = line / 2048 in
    let lt : line < length (joined w.chunks.items) = omega (arith, c.requires, ap length c.self.view_is) in
    let at = stands-line w keeps line lt in
    let own = c.index_mut.ensures.value ∙ get_or_default w.chunks.items k c.index_mut.result.now [] at.chunk in
    let is = written w k (line % 2048) line c.index_mut.result.now c.set.new.self c.args.wrapped at own c.in_ok-set.ensures.set in
    let ws = joined w.chunks.items in
    let small : c.args.wrapped.rows < 4294967296 = omega (arith, c.row_count.ensures, c.row_count.type_inv) in
    let before : c.get.result ≡ get_or ws line c.get.result = c.get.ensures ∙ ap (λ (l : List Wrapped). get_or l line c.get.result) (sym c.self.view_is) in
    record {
      full = are-chunks-set 2048 w.chunks.items k c.set.new.self keeps.full (ap length c.in_ok-set.ensures.set ∙ length-set c.index_mut.result.now (line % 2048) c.args.wrapped ∙ ap length own);
      counted = keeps.counted ∙ sym (ap length is ∙ length-set (joined w.chunks.items) line c.args.wrapped);
      few = omega (arith, keeps.few, ap length is, length-set (joined w.chunks.items) line c.args.wrapped);
      summed =
          omega (
            arith,
            ap rows_of_lines is,
            rows-set ws line c.args.wrapped c.get.result lt before,
            rows-own ws line c.get.result lt before,
            keeps.summed,
            c.from.ensures,
            c.from-2.ensures,
            c.row_count-before.ensures,
            c.row_count.ensures,
          );
      small = subst (All (λ (l : Wrapped). l.rows < 4294967296)) (sym is) (All-set (λ (l : Wrapped). l.rows < 4294967296) (joined w.chunks.items) line c.args.wrapped small keeps.small);
    }

pub returns-clause-set : goal.returns-clause-set
returns-clause-set c =
    let w = c.self.inside in
    let line : ℕ = c.args.line in
    let k = line / 2048 in
    let lt : line < length (joined w.chunks.items) = omega (arith, c.requires, ap length c.self.view_is) in
    let at = stands-line w c.self.invariant line lt in
    let own = c.index_mut.ensures.value ∙ get_or_default w.chunks.items k c.index_mut.result.now [] at.chunk in
    written w k (line % 2048) line c.index_mut.result.now c.set.new.self c.args.wrapped at own c.in_ok-set.ensures.set
    ∙ ap (λ (l : List Wrapped). set l line c.args.wrapped) c.self.view_is
