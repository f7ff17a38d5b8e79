-- What a change of blocks may be given after a change of a text by itself: a replacement, or lines that landed.
use Rattle.std.proofs.Common.{◌≡◌, ℕ, ◌+◌, ◌-◌, ◌≤◌, ◌^◌, List, [], length, Option, None, Some, sym, ap, subst, ◌∙◌, arith}
use Rattle.std.specs.List.{enumerate_from, sum_by}
use Rattle.std.specs.Str.{IsUtf8}
use Rattle.std.proofs.lemmas.List.{length-map}
use Rattle.std.proofs.lemmas.List.FromFn.{length-enumerate_from}
use Rattle.cell_line.specs.declared.element.Element.{Element}
use Rattle.cell_line.specs.Elements.{elements_of}
use Rattle.cell_units.specs.declared.limits.TheConstants.{LAID_LIMIT}
use Rattle.cell_units.specs.declared.place.Shift.{Shift}
use Rattle.cell_units.specs.Layers.{Source, plain_source, shown_lines}
use Rattle.cell_units.specs.Operation.{Replace, replaced_text}
use Rattle.cell_units.specs.Record.{opened}
use Rattle.cell_units.specs.Rows.{all_rows, rows_before}
use Rattle.cell_units.specs.Text.{IsText, clean, row_of}
use Rattle.cell_units.proofs.PlainLayers.{plain_well_formed}
use Rattle.edit_patch.specs.declared.edit.Edit.{Edit}
use Rattle.edit_patch.specs.Fits.{replacement}
use Rattle.edit_patch.specs.Leads.{LeadsAt, Reach}
use Rattle.tab_map.specs.TabLines.{lines_at}
use Rattle.tab_map.proofs.PlainTexts.{plain-few}
use Rattle.wrap_map.specs.Standing.{shown_rows, standing_after}
use Rattle.wrap_map.proofs.Landed.{length-shown}
use Rattle.wrap_map.proofs.Rooms.{rows-few}
use Rattle.wrap_map.proofs.Snapshots.{shown-have-rows}
use Rattle.wrap_map.proofs.Standings.{rows-stood}
use Rattle.wrapped_lines.specs.Changed.{IsLandedAt, IsRewrapped}
use Rattle.wrapped_lines.specs.WrappedSource.{WrappedSource, lines_of, row_texts, standing_lines}
use Rattle.wrapped_lines.proofs.KeptLines.{kept-lines}
use Rattle.block_map.specs.Follows.{IsFollowed}
use Rattle.block_map.specs.Maps.{BlockState}
use Rattle.blocked_rows.specs.Records.{IsRowSplice, Lines, LinesStay}
use Rattle.blocked_rows.specs.Standing.{ArePlaced}
use Rattle.blocked_rows.proofs.FollowedRows.{followed, followed-given, follows-operations}
use Rattle.blocked_rows.proofs.LinesShown.{shown-before, shown-lead}
use Rattle.test_stages.specs.Staged.{IsReplaced}
use Rattle.test_stages.proofs.PlainRuns as runs

-- The lines of a text by itself at a tab size of 4, each with a mark.
pub record AreLinesOf (text : List ℕ) (w : WrappedSource) : Type 0 where
  pub source : w.source ≡ plain_source text
  pub tab : w.tab ≡ 4
  pub one_each : length w.marks ≡ length (lines_of w)
  pub short : length text ≤ LAID_LIMIT

module _ (text : List ℕ) (w : WrappedSource) (is : AreLinesOf text w) where
  lines-are : lines_of w ≡ lines_at (plain_source text) 4
  lines-are = λ i. lines_at (is.source i) (is.tab i)

  -- there are as many as the text has, and few rows
  pub as-many : length (shown_lines (plain_source text)) ≡ length (row_texts w)
  as-many =
      sym (length-map (shown_lines (plain_source text)) (λ pieces. elements_of pieces 4))
      ∙ ap (λ (ls : List (List Element)). length ls) (sym lines-are)
      ∙ sym (length-shown (standing_lines w) is.one_each)

  pub few-rows : length (all_rows (row_texts w)) ≤ 2 ^ 31
  few-rows =
      omega (
        arith,
        rows-stood (standing_lines w),
        rows-few (lines_of w) w.marks,
        ap (λ (ls : List (List Element)). sum_by (λ (es : List Element). length es + 1) ls) lines-are,
        plain-few text 4,
        is.short,
      )

  -- so of rows that are given
  pub few-given : (rows : Lines) → rows ≡ row_texts w → length (all_rows rows) ≤ 2 ^ 31
  few-given rows given = subst (λ (ls : Lines). length (all_rows ls) ≤ 2 ^ 31) (sym given) few-rows

-- ---- rows as they were

pub follows-none : (text : List ℕ) (w : WrappedSource) (rows : Lines) (edits : List Edit) (s : BlockState) → IsText text → rows ≡ row_texts w → edits ≡ []
    → s.lines ≡ row_texts w → ArePlaced (plain_source text) s → IsFollowed (plain_source text) None edits rows s
follows-none text w rows edits s is given none same placed_on =
    subst (λ (ls : Lines). IsFollowed (plain_source text) None edits ls s) (sym given)
    (followed-given (plain_source text) (plain_well_formed text is) s (row_texts w) edits same none (shown-have-rows (standing_lines w)) placed_on)

-- ---- after a replacement

-- lines that were replaced make place for lines of one row each
splices : (was now : WrappedSource) (source : Source) (tab : ℕ) (run : Shift) (rows : List Edit) → length was.marks ≡ length (lines_of was)
    → IsRewrapped was source tab now run rows → length (all_rows (row_texts now)) ≤ 2 ^ 31
    → IsRowSplice (row_texts was) (row_texts now) rows run.start (run.end - run.start) run.count
splices was now source tab run rows one_each is few =
    let old = standing_lines was in
    let end : run.end ≡ run.start + (run.end - run.start) = omega (arith, run.ordered) in
    let made : shown_rows (standing_after old (lines_of now) (Some run)) ≡ row_texts now =
    ap (λ (ms : List ℕ). shown_rows (record { lines = lines_of now; marks = ms })) (sym (ap (λ (w : WrappedSource). w.marks) is.made)) in
    record {
      have = shown-have-rows old;
      leads = subst (λ (b : ℕ). LeadsAt (row_texts was) (row_texts now) run.start b run.count) end
          (subst (λ (ls : Lines). LeadsAt (row_texts was) ls run.start run.end run.count) made (shown-lead old (lines_of now) run one_each is.leads));
      single = subst (λ (ls : Lines). rows_before ls (run.start + run.count) ≡ rows_before (row_texts was) run.start + run.count) made
          (shown-before old (lines_of now) run one_each is.leads);
      edits_are = is.rows_are ∙ ap (λ (b : ℕ). replacement (rows_before (row_texts was) run.start) (rows_before (row_texts was) b) run.count) end;
      fits = is.fits;
      room = few;
    }

-- a splice by other numbers that are the same
splice-at : (old new : Lines) (edits : List Edit) (f b n f' b' n' : ℕ) → f ≡ f' → b ≡ b' → n ≡ n' → IsRowSplice old new edits f b n → IsRowSplice old new edits f' b' n'
splice-at old new edits f b n f' b' n' front before after is =
    subst (λ (k : ℕ). IsRowSplice old new edits k b' n') front
    (subst (λ (k : ℕ). IsRowSplice old new edits f k n') before
    (subst (λ (k : ℕ). IsRowSplice old new edits f b k) after is))

pub follows-replaced : (text new put : List ℕ) (a b : ℕ) (was now : WrappedSource) (bytes run : Shift) (rows : List Edit) (s : BlockState)
    → IsText text → IsUtf8 put → AreLinesOf text was → AreLinesOf new now → IsReplaced text was a b (clean put) new now bytes run rows
    → s.lines ≡ row_texts was → ArePlaced (plain_source text) s → IsFollowed (plain_source new) (Some bytes) rows (row_texts now) s
follows-replaced text new put a b was now bytes run rows s is spelled of then done same placed_on =
    let met = done.met in
    let size = length (clean put) in
    let range = done.range in
    let front = runs.front-is text is a b put range spelled in
    let before = runs.before-is text is a b put range spelled in
    let after = runs.after-is text is a b put range spelled in
    let r = runs.run text is a b put range spelled in
    let reach : run.start + run.count ≡ row_of (replaced_text text a b (clean put)) (a + size) + 1 =
    met.reach_is ∙ ap (λ (t : List ℕ). row_of t (a + size) + 1) done.text in
    let splice : IsRowSplice s.lines (row_texts now) rows r.front r.before r.after =
    splice-at s.lines (row_texts now) rows run.start (run.end - run.start) run.count r.front r.before r.after
    (met.start_is ∙ sym front)
    (omega (arith, met.start_is, met.end_is, front, before))
    (omega (arith, met.start_is, reach, front, after))
    (subst (λ (ls : Lines). IsRowSplice ls (row_texts now) rows run.start (run.end - run.start) run.count) (sym same)
    (splices was now _ _ run rows of.one_each done.rewrapped (few-rows new now then))) in
    let direct : IsFollowed (plain_source (replaced_text text a b (clean put))) (Some bytes) rows (row_texts now) s =
    follows-operations (Replace a b put) (opened text) (runs.lawful text is a b put range spelled) (runs.allowed text is a b put range spelled) r (Some bytes)
    (ap (λ (q : Reach). q.start) done.bytes_are, ap (λ (q : Reach). q.end) done.bytes_are, ap (λ (q : Reach). q.count) done.bytes_are)
    (row_texts now) rows s placed_on splice in
    subst (λ (t : List ℕ). IsFollowed (plain_source t) (Some bytes) rows (row_texts now) s) (sym done.text) direct

-- ---- when lines landed

-- each line has its mark still
pub marks-landed : (was now : WrappedSource) (places : List (Option ℕ)) (rows : List Edit) → length was.marks ≡ length (lines_of was) → IsLandedAt was places now rows
    → length now.marks ≡ length (lines_of now)
marks-landed was now places rows one_each is =
    subst (λ (w : WrappedSource). length w.marks ≡ length (lines_of w)) (sym is.made)
    (length-map (enumerate_from 0 was.marks) _ ∙ length-enumerate_from 0 was.marks ∙ one_each)

pub follows-landed : (text : List ℕ) (was now : WrappedSource) (places : List (Option ℕ)) (rows : List Edit) (s : BlockState) → IsText text
    → AreLinesOf text was → AreLinesOf text now → IsLandedAt was places now rows → s.lines ≡ row_texts was → ArePlaced (plain_source text) s
    → IsFollowed (plain_source text) None rows (row_texts now) s
follows-landed text was now places rows s is of then landed same placed_on =
    let stay : LinesStay (row_texts was) (row_texts now) rows = record {
      have = shown-have-rows (standing_lines was);
      as_many = sym (as-many text was of) ∙ as-many text now then;
      stay = λ line lt keeps.
          let k = kept-lines was now places rows of.one_each landed line lt keeps in
          record { there = k.there; size = k.size; rows = k.rows };
      fits = landed.fits;
      room = few-rows text now then;
    } in
    followed (plain_source text) (plain_well_formed text is) (row_texts now) rows s placed_on
    (subst (λ (ls : Lines). LinesStay ls (row_texts now) rows) (sym same) stay)
