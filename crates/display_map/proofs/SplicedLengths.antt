-- How long a text is with a batch of replacements done.
use Rattle.std.proofs.Common.{◌≡◌, ℕ, ◌+◌, ◌-◌, ◌<◌, ◌≤◌, List, ◌∷◌, ◌++◌, length, take, drop, get_or, sym, ap, subst, ◌∙◌, arith, length-append, length-drop}
use Rattle.std.proofs.lemmas.List.{drop_more, length-take-le}
use Rattle.cell_units.specs.Text.{clean}
use Rattle.display_sheet.specs.declared.change.Splice.{Splice}
use Rattle.display_map.specs.Splicing.{spliced_text}
use Rattle.display_map.proofs.Batches.{AreOrdered, ordered-le}

module _ (text : List ℕ) (splices : List Splice) (from i : ℕ) (s : Splice) (there : i < length splices) (is : s ≡ get_or splices i s) (ordered : AreOrdered (length text) from (drop i splices)) where
  next : drop i splices ≡ s ∷ drop (i + 1) splices
  next = drop_more splices i s there ∙ ap (λ (x : Splice). x ∷ drop (i + 1) splices) (sym is)

  parts : AreOrdered (length text) from (s ∷ drop (i + 1) splices)
  parts = subst (AreOrdered (length text) from) next ordered

  pub starts : from ≤ s.start
  starts = parts.0

  pub ordered-next : AreOrdered (length text) s.end (drop (i + 1) splices)
  ordered-next = parts.2

  pub passed : length (spliced_text text from (drop i splices)) ≡ s.start - from + (length (clean s.text) + length (spliced_text text s.end (drop (i + 1) splices)))
  passed =
      let kept : length (take (s.start - from) (drop from text)) ≡ s.start - from =
      length-take-le (s.start - from) (drop from text) (omega (arith, length-drop from text, parts.0, parts.1, ordered-le (length text) s.end (drop (i + 1) splices) parts.2)) in
      ap (λ (l : List Splice). length (spliced_text text from l)) next
      ∙ length-append (take (s.start - from) (drop from text)) (clean s.text ++ spliced_text text s.end (drop (i + 1) splices))
      ∙ (λ k. kept k + length-append (clean s.text) (spliced_text text s.end (drop (i + 1) splices)) k)
