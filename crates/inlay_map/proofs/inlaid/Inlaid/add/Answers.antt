use Rattle.std.proofs.Common.{◌≡◌, ◌≤◌, ◌∷◌, ◌++◌, ◌∙◌, ap, sym, subst, length, map, take, drop, arith}
use Rattle.std.proofs.lemmas.List.{length-map}
use Rattle.cell_units.specs.Lawful.{AreInlays, HasRoom, IsInlayOf}
use Rattle.cell_units.specs.Layers.{Source, inlay_source}
use Rattle.cell_units.specs.Record.{inlay_le}
use Rattle.cell_units.specs.Sorting.{insert_by}
use Rattle.mark_tree.specs.Marks.{mark_le}
use Rattle.mark_tree.proofs.Splicing.{either, map-at_ok}
use Rattle.inlay_map.specs.Splices.{IsPut, inlay_of}
use Rattle.inlay_map.proofs.InlayMarks.{added-are, both-ok, fresh-mark, insert-inlay, put-at}
use Rattle.inlay_map.proofs.StepSums.{marks-count}
use Rattle.inlay_map.proofs.inlaid.Inlaid.add.Goals as goal

pub put-requires-clause-small : goal.put-requires-clause-small
put-requires-clause-small c =
    omega (arith, c.requires.room.room, marks-count c.self.inside.rope c.self.inside.marks c.args.self.now c.self.view_is)

pub put-requires-clause-fresh : goal.put-requires-clause-fresh
put-requires-clause-fresh c = fresh-mark c.args.mark.id c.self.inside.marks (subst (λ (s : Source). HasRoom (λ i. i.id) c.args.mark.id s.inlays) (sym c.self.view_is) c.requires.room)

pub invariant_of-self : goal.invariant_of-self
invariant_of-self c =
    let ms = c.self.inside.marks in
    let rope = c.self.inside.rope in
    let v = c.self.view_is in
    either (λ l. AreInlays rope (map inlay_of l)) c.put.result c.put.new.self (insert_by mark_le c.args.mark ms) ms c.put.ensures.ok c.put.ensures.unchanged
    (added-are rope c.args.mark ms c.self.invariant (subst (λ (s : Source). IsInlayOf s.text (inlay_of c.args.mark)) (sym v) c.requires.fits) (subst (λ (s : Source). HasRoom (λ i. i.id) c.args.mark.id s.inlays) (sym v) c.requires.room)) c.self.invariant

pub returns-clause-ok : goal.returns-clause-ok
returns-clause-ok c =
    map-at_ok (λ l. inlay_source c.self.inside.rope (map inlay_of l)) c.put.result c.put.new.self (insert_by mark_le c.args.mark c.self.inside.marks)
    (inlay_source c.args.self.now.text (insert_by inlay_le (inlay_of c.args.mark) c.args.self.now.inlays)) c.put.ensures.ok
    (λ i. inlay_source (c.self.view_is i).text ((insert-inlay c.args.mark c.self.inside.marks ∙ ap (λ (s : Source). insert_by inlay_le (inlay_of c.args.mark) s.inlays) c.self.view_is) i))

pub returns-clause-put : goal.returns-clause-put
returns-clause-put c =
    let ms = c.self.inside.marks in
    let m = c.args.mark in
    both-ok (λ at. at ≤ length ms) (λ at. c.put.new.self ≡ take at ms ++ m ∷ drop at ms) (λ at. IsPut (inlay_of m) c.args.self.now.inlays (map inlay_of c.put.new.self) at) c.put.result
    (λ at le e. record {
      within = omega (arith, le, length-map ms inlay_of, ap (λ (s : Source). length s.inlays) c.self.view_is);
      place = put-at ms c.put.new.self at m e ∙ ap (λ (s : Source). take at s.inlays ++ inlay_of m ∷ drop at s.inlays) c.self.view_is;
    })
    c.put.ensures.within c.put.ensures.place

pub returns-clause-steps : goal.returns-clause-steps
returns-clause-steps c h lt =
    let same = marks-count c.self.inside.rope c.self.inside.marks c.args.self.now c.self.view_is in
    c.put.ensures.steps h (omega (arith, lt, same))
