-- The rows that an operation on a block replaces are the block's own.
use Rattle.std.proofs.Common.{◌≡◌, ℕ, ◌+◌, ◌==◌, Bool, true, false, cond, List, [], ◌∷◌, filter, find, length, refl, sym, ap, subst, ◌∙◌, eq-eqb}
use Rattle.std.specs.Prelude.{Option, None, Some}
use Rattle.std.specs.List.{position_or_len}
use Rattle.std.proofs.lemmas.Bool.{eqb-true}
use Rattle.std.proofs.lemmas.List.{nil_from_length}
use Rattle.std.proofs.lemmas.List.Sums.{length-filter}
use Rattle.std.proofs.lemmas.Option.{none-some, same_Some}
use Rattle.cell_units.specs.declared.place.Side.{Side}
use Rattle.cell_units.specs.Lawful.{IsAllowed, IsLawful}
use Rattle.cell_units.specs.Operation.{AddBlock, Operation, RemoveBlock, block_at_row, without_block}
use Rattle.cell_units.specs.Record.{Block, Record, block_le}
use Rattle.cell_units.specs.Sorting.{insert_by}
use Rattle.display_sheet.specs.LineStep.{line_step}
use Rattle.display_sheet.specs.Shown.{unstamped}
use Rattle.display_sheet.proofs.StepLaws.{IsLawful-step}
use Rattle.map_sheet.specs.Listed.{side_blocks}
use Rattle.row_pieces.specs.Changed.{change, no_change}
use Rattle.view_changes.specs.Operations.{BringsBlock, TakesBlock, TakesIfAny, first_row_of, rows_of_old, rows_replaced}
use Rattle.view_changes.specs.inside.OwnRows.{AreOwnRows}
use Rattle.view_changes.specs.inside.Reaches.{IsAfter}
use Rattle.view_changes.proofs.BlockSteps.{added, added-removed, removed}
use Rattle.view_changes.proofs.OwnRows.{comes-in, found, goes-out}
use Rattle.view_changes.proofs.Places.{first-row, own-of}
use Rattle.view_changes.proofs.Unique.{find-head, inserted-in}

-- one that is found has the id
found-id : (id : ℕ) (bs : List Block) (b : Block) → find (λ c. c.id == id) bs ≡ Some b → b.id ≡ id
found-id id [] b e = absurd (none-some b e)
found-id id (x ∷ xs) b e = go (x.id == id) refl e (found-id id xs b) where
  go : (t : Bool) → (x.id == id) ≡ t → cond t (Some x) (find (λ c. c.id == id) xs) ≡ Some b → (find (λ c. c.id == id) xs ≡ Some b → b.id ≡ id) → b.id ≡ id
  go true on e rest = let same : x ≡ b = same_Some x b e in ap (λ (c : Block). c.id) (sym same) ∙ eqb-true x.id id on
  go false off e rest = rest e

module _ (r s : Record) (is : IsLawful r) (is' : IsLawful s) (row id : ℕ) (side : Side) (lines : List (List ℕ)) (ok : IsAllowed (AddBlock row id side lines) r)
    (after : s ≡ record r { blocks = insert_by block_le (block_at_row r.text row id side lines) r.blocks }) where
  abbrev operation : Operation
  operation = AddBlock row id side lines

  abbrev has : Block → Bool
  has b = b.id == id

  abbrev new : Block
  new = block_at_row r.text row id side lines

  abbrev blocks : List Block
  blocks = insert_by block_le new r.blocks

  step-is : s ≡ line_step operation r
  step-is = after ∙ sym (added r is row id side lines ok)

  fresh : filter has r.blocks ≡ []
  fresh = nil_from_length (filter has r.blocks) (length-filter has r.blocks ∙ ok.2.fresh)

  there : find has s.blocks ≡ Some new
  there =
      ap (λ (q : Record). find has q.blocks) after
      ∙ find-head has blocks [] new (inserted-in block_le has new r.blocks (eq-eqb id id refl) fresh)

  before-is : record s { blocks = without_block id s.blocks } ≡ r
  before-is =
      ap (λ (q : Record). record q { blocks = without_block id q.blocks }) after
      ∙ ap (λ (bs : List Block). record r { blocks = bs }) (added-removed r is row id side lines ok)

  pub new-there : AreOwnRows s id None → ⊥
  new-there none = none-some new (sym none ∙ there)

  pub brought : (from count : ℕ) → AreOwnRows s id (Some (from, count)) → change from from count ≡ rows_replaced operation r
  brought from count own =
      let same : own.2.block ≡ new = same_Some own.2.block new (sym (found s is' own.0 own.1 id from count own.2) ∙ there) in
      let at : from ≡ first_row_of (line_step operation r) new = first-row s is' own.0 own.1 id from count own.2 ∙ (λ i. first_row_of (step-is i) (same i)) in
      let long : count ≡ length lines = own.2.count_is ∙ ap (λ (b : Block). length b.lines) same in
      λ i. change (at i) (at i) (long i)

  pub brings : BringsBlock new r (line_step operation r) (rows_replaced operation r)
  brings =
      let from = first_row_of s new in
      let rows = change from from (length lines) in
      let own = own-of s is' new there in
      let here : BringsBlock new r (line_step operation r) rows =
      subst (λ (q : Record). BringsBlock new r q rows) step-is
      (subst (λ (q : Record). BringsBlock new q s rows) before-is
      (comes-in s is' side (position_or_len has (side_blocks s side)) id from (length lines) own)) in
      subst (λ (q : Record). BringsBlock new r (line_step operation r) (change (first_row_of q new) (first_row_of q new) (length lines))) step-is here

-- the same of an operation that is known to add a block
module _ (operation : Operation) (r s : Record) (is : IsLawful r) (is' : IsLawful s) (plain : unstamped r ≡ r) (ok : IsAllowed operation r) (after : IsAfter operation r s)
    (id : ℕ) (adds : (row : ℕ) × (side : Side) × (lines : List (List ℕ)) × (operation ≡ AddBlock row id side lines)) where
  allowed : IsAllowed (AddBlock adds.0 id adds.1 adds.2) r
  allowed = subst (λ (o : Operation). IsAllowed o r) adds.3 ok

  after-it : IsAfter (AddBlock adds.0 id adds.1 adds.2) r s
  after-it = subst (λ (o : Operation). IsAfter o r s) adds.3 after

  made : s ≡ record r { blocks = insert_by block_le (block_at_row r.text adds.0 id adds.1 adds.2) r.blocks }
  made =
      after-it
      ∙ ap unstamped (added r is adds.0 id adds.1 adds.2 allowed)
      ∙ ap (λ (q : Record). record q { blocks = insert_by block_le (block_at_row r.text adds.0 id adds.1 adds.2) r.blocks }) plain

  pub new-there-by : AreOwnRows s id None → ⊥
  new-there-by = new-there r s is is' adds.0 id adds.1 adds.2 allowed made

  pub brought-by : (from count : ℕ) → AreOwnRows s id (Some (from, count)) → change from from count ≡ rows_replaced operation r
  brought-by from count own =
      brought r s is is' adds.0 id adds.1 adds.2 allowed made from count own ∙ ap (λ (o : Operation). rows_replaced o r) (sym adds.3)

-- whatever its stamps are
pub brings-always : (r : Record) (is : IsLawful r) (row id : ℕ) (side : Side) (lines : List (List ℕ)) (ok : IsAllowed (AddBlock row id side lines) r) →
    BringsBlock (block_at_row r.text row id side lines) r (line_step (AddBlock row id side lines) r) (rows_replaced (AddBlock row id side lines) r)
brings-always r is row id side lines ok =
    brings r (line_step (AddBlock row id side lines) r) is (IsLawful-step (AddBlock row id side lines) r is ok) row id side lines ok (added r is row id side lines ok)

-- ---- a block that is removed

module _ (r : Record) (is : IsLawful r) (id : ℕ) where
  abbrev old : Option Block
  old = find (λ b. b.id == id) r.blocks

  pub taken : (from count : ℕ) → AreOwnRows r id (Some (from, count)) → change from (from + count) 0 ≡ rows_replaced (RemoveBlock id) r
  taken from count own =
      let b = own.2.block in
      let at : from ≡ first_row_of r b = first-row r is own.0 own.1 id from count own.2 in
      (λ i. change (at i) (at i + own.2.count_is i) 0)
      ∙ ap (rows_of_old r) (sym (found r is own.0 own.1 id from count own.2))

  pub taken-none : AreOwnRows r id None → no_change ≡ rows_replaced (RemoveBlock id) r
  taken-none none = ap (rows_of_old r) (sym none)

  pub takes : TakesIfAny old r (line_step (RemoveBlock id) r) (rows_of_old r old)
  takes = go old refl where
    go : (o : Option Block) → find (λ b. b.id == id) r.blocks ≡ o → TakesIfAny o r (line_step (RemoveBlock id) r) (rows_of_old r o)
    go None e = refl
    go (Some b) e =
        let id_is : b.id ≡ id = found-id id r.blocks b e in
        let there : find (λ c. c.id == b.id) r.blocks ≡ Some b = ap (λ (n : ℕ). find (λ c. c.id == n) r.blocks) id_is ∙ e in
        let own = own-of r is b there in
        let rows = change (first_row_of r b) (first_row_of r b + length b.lines) 0 in
        let gone = goes-out r is b.side (position_or_len (λ c. c.id == b.id) (side_blocks r b.side)) b.id (first_row_of r b) (length b.lines) own in
        subst (λ (n : ℕ). TakesBlock b r (line_step (RemoveBlock n) r) rows) id_is
        (subst (λ (q : Record). TakesBlock b r q rows) (sym (removed r is b.id)) gone)
