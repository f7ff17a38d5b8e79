-- Rows as they are given, one after the other.
use Rattle.std.proofs.Common.{◌≡◌, ℕ, ◌+◌, cond, eqb, List, [], ◌∷◌, ◌++◌, length, sym, ap, ◌∙◌, append_assoc}
use Rattle.std.proofs.lemmas.List.{map_push}
use Rattle.plain_rows.specs.Rows.{Row, head_kind, more_kind}
use Rattle.plain_rows.specs.declared.shown.Shown.{Shown}
use Rattle.plain_rows.specs.ShownRows.{letter_of, row_of_shown, shown_rows}
use Rattle.block_map.specs.inside.Zones.{text_of_kind, texts_of_kinds}
use Rattle.block_map.proofs.RowsInZones.{kinds-push}

abbrev the_row : ℕ → List ℕ → Row
the_row kind text = record { kind = kind; text = text }

-- one text row more
pub push-kind : (before shown after : List Shown) (s : Shown) (first row : ℕ) (texts : List (List ℕ)) → after ≡ shown ++ s ∷ [] → row ≡ first + length texts
    → letter_of s.kind ≡ cond (eqb row 0) head_kind more_kind → shown_rows shown ≡ shown_rows before ++ texts_of_kinds first texts
    → shown_rows after ≡ shown_rows before ++ texts_of_kinds first (texts ++ s.text ∷ [])
push-kind before shown after s first row texts is at kind rows =
    let own : row_of_shown s ≡ text_of_kind (first + length texts) s.text = ap (λ (n : ℕ). the_row n s.text) kind ∙ ap (λ (n : ℕ). text_of_kind n s.text) at in
    ap shown_rows is
    ∙ map_push row_of_shown shown s
    ∙ ap (λ (l : List Row). l ++ row_of_shown s ∷ []) rows
    ∙ append_assoc (shown_rows before) (texts_of_kinds first texts) (row_of_shown s ∷ [])
    ∙ ap (λ (r : Row). shown_rows before ++ (texts_of_kinds first texts ++ r ∷ [])) own
    ∙ ap (λ (l : List Row). shown_rows before ++ l) (sym (kinds-push first texts s.text))

-- one row more
pub push-row : (shown after : List Shown) (s : Shown) (r : Row) → after ≡ shown ++ s ∷ [] → row_of_shown s ≡ r → shown_rows after ≡ shown_rows shown ++ r ∷ []
push-row shown after s r is own = ap shown_rows is ∙ map_push row_of_shown shown s ∙ ap (λ (r : Row). shown_rows shown ++ r ∷ []) own
