-- A text with the maps of its inlays and folds, and what is shown of them.
use Rattle.std.specs.Prelude.{ℕ, ◌≡◌, ◌≤◌, List, length, Option, Some, None}
use Rattle.std.specs.Str.{IsUtf8}
use Rattle.cell_units.specs.Layers.{Source, plain_source, unfolded}
use Rattle.cell_units.specs.Operation.{replaced_text}
use Rattle.text_rope.specs.Edits.{IsRange}
use Rattle.edit_patch.specs.LayerLeads.{LayerLeads}
use Rattle.edit_patch.specs.Leads.{Reach}
use Rattle.inlay_map.specs.Maps as inlaid
use Rattle.inlay_map.specs.Maps.{InlayState}
use Rattle.fold_map.specs.Maps.{FoldState}
use Rattle.fold_map.specs.Synced as folded

-- The inlays are those of the text, and the folds are over what was shown of these last. What is pending of the inlays
-- leads from that to what is there.
pub record BelongTogether (buffer : List ℕ) (inlays : InlayState) (folds : FoldState) : Type 0 where
  pub text : inlays.current.text ≡ buffer
  pub same : inlays.current.text ≡ inlays.shown.text
  pub below : inlays ≡ record inlays { shown = unfolded folds.current }
  pub leads : ∥ LayerLeads None inlays.shown inlays.current inlays.pending ∥₁
  pub ordered : (s : Reach) → inlays.pending ≡ Some s → s.start ≤ s.end
  pub settled : inlays.pending ≡ None → inlays ≡ record inlays { current = inlays.shown }

-- ---- at first

-- a text without inlays, which counts as shown
abbrev pub no_inlays : List ℕ → InlayState
no_inlays text = record { current = plain_source text; shown = plain_source text; pending = None }

-- and without folds
abbrev pub no_folds : List ℕ → FoldState
no_folds text = record { current = plain_source text; shown = plain_source text; pending = None }

-- ---- a replacement of the text

-- the replacement of a range by these bytes
abbrev pub put_at : ℕ → ℕ → List ℕ → Reach
put_at start end bytes = record { start = start; end = end; count = length bytes }

-- a text took the place of the range, and so many bytes are in it
pub record IsReplaced (old new : List ℕ) (s : Reach) : Type 0 where
  pub put : List ℕ
  pub utf8 : IsUtf8 put
  pub range : IsRange old s.start s.end
  pub text : new ≡ replaced_text old s.start s.end put
  pub count : s.count ≡ length put

-- that is so, or nothing was replaced
abbrev pub IsReplacedIfAny : List ℕ → List ℕ → Option Reach → Type 0
IsReplacedIfAny old new None = new ≡ old
IsReplacedIfAny old new (Some s) = IsReplaced old new s

-- ---- a snapshot

-- what a snapshot of the text leaves of the inlays: they are moved, and count as shown
abbrev pub inlays_shown : List ℕ → Option Reach → InlayState → InlayState
inlays_shown text shift inlays = inlaid.synced text shift inlays

-- and of the folds
abbrev pub folds_shown : List ℕ → Option Reach → InlayState → FoldState → FoldState
folds_shown text shift inlays folds = folded.synced (inlaid.source_after text shift inlays.current) shift folds

-- The snapshot shows the text with the inlays and the folds, moved. What is returned is the one replacement that leads
-- to it from what was shown last, or none.
abbrev pub IsShown : List ℕ → Option Reach → InlayState → FoldState → Source → Option Reach → Type 0
IsShown text shift inlays folds =
    folded.IsSynced (inlaid.source_after text shift inlays.current) shift (inlaid.answer_of text shift inlays) folds
