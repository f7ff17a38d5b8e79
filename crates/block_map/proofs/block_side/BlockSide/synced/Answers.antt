use Rattle.std.proofs.Common.{◌≡◌, ℕ, ◌^◌, ◌<◌, ◌==◌, true, [], ◌∷◌, List, length, map, refl, sym, ap, subst, ◌∙◌, arith}
use Rattle.std.specs.List.{All, Contains}
use Rattle.std.proofs.lemmas.Bool.Decides.{nat_tests}
use Rattle.std.proofs.lemmas.Result.{IfOk-weaker}
use Rattle.edit_patch.specs.declared.edit.Edit.{Edit}
use Rattle.mark_tree.specs.Bounds.{moving}
use Rattle.sum_tree.specs.Bounds.{TakesAtMost}
use Rattle.block_map.specs.Maps.{Kept, moved_kept, placed}
use Rattle.block_map.specs.Stops.{Stop}
use Rattle.block_map.specs.inside.Anew.{IsAnewAt}
use Rattle.block_map.specs.inside.RowMoves.{carried}
use Rattle.block_map.specs.inside.SideMoves.{LeaveCarried, bias_of, marks_after, stops_of_marks}
use Rattle.block_map.specs.inside.Sides.{BlockMark, kept_of}
use Rattle.block_map.specs.inside.Without.{IsRising}
use Rattle.block_map.proofs.AlteredSides.{seen-as, side-as}
use Rattle.block_map.proofs.SideSteps.{carried-within, gathered-within, remade-within, settled-within}
use Rattle.block_map.proofs.SideSynced.{anchors-after, carried-kept, carried-moved, carried-side, follows-as, kept-after, may-follow, may-remake, offsets-after}
use Rattle.block_map.proofs.block_side.BlockSide.synced.Goals as goal

no-place : (places : List ℕ) → (length places == 0) ≡ true → places ≡ []
no-place [] e = refl
no-place (p ∷ places) e = let none : length (p ∷ places) ≡ 0 = grind (arith, nat_tests) in absurd (omega (arith, none))

pub places_anew-requires-clause-side : goal.places_anew-requires-clause-side
places_anew-requires-clause-side g c κs lives = side-as c.in_ok-marks.marks c.self.inside.marks c.self.inside.stops c.in_ok-marks.ensures.ok c.self.inside.added c.self.invariant

pub all_carried-requires-clause-follow : goal.all_carried-requires-clause-follow
all_carried-requires-clause-follow g c =
    let s = g.P.Layer.source c.args.layer.now in
    let old = g.R.Rows.shown c.args.old.now in
    let new = g.R.Rows.shown c.args.rows.now in
    let ms : List BlockMark = c.in_ok-marks.marks in
    let ss : List Stop = c.self.inside.stops in
    let es : List Edit = c.edits-edits.result.now in
    let side = side-as ms c.self.inside.marks ss c.in_ok-marks.ensures.ok c.self.inside.added c.self.invariant in
    let seen = seen-as ms c.self.inside.marks ss c.in_ok-marks.ensures.ok c.args.self.now c.self.view_is in
    let followed = follows-as s c.args.shift es c.args.edits.now old new c.args.side (kept_of ms ss) c.args.self.now c.edits-edits.ensures.value seen c.requires in
    let places : List ℕ = c.as_slice-places.result.now in
    let rising = subst (IsRising 0) (sym c.as_slice-places.ensures.value) c.in_ok-places.ensures.rising in
    let leave = subst (λ (l : List ℕ). LeaveCarried c.args.shift es old c.args.side ms ss l) (sym c.as_slice-places.ensures.value) c.in_ok-places.ensures.others in
    let none = no-place places (sym c.is_empty.ensures ∙ c.if-is_empty.true) in
    let leave-none = subst (λ (l : List ℕ). LeaveCarried c.args.shift es old c.args.side ms ss l) none leave in
    let short : length s.text < 2 ^ 32 = omega (arith, c.buffer_len-len.ensures.value, c.buffer_len-len.type_inv) in
    may-follow s c.args.shift es old new c.args.side ms ss c.self.inside.added side c.len-count.ensures.lawful followed c.edits-edits.ensures.normal c.lines-lines.ensures.rows leave-none short

pub all_carried-requires-clause-stops : goal.all_carried-requires-clause-stops
all_carried-requires-clause-stops g c =
    let s = g.P.Layer.source c.args.layer.now in
    let old = g.R.Rows.shown c.args.old.now in
    let new = g.R.Rows.shown c.args.rows.now in
    let ms : List BlockMark = c.in_ok-marks.marks in
    let ss : List Stop = c.self.inside.stops in
    let es : List Edit = c.edits-edits.result.now in
    let side = side-as ms c.self.inside.marks ss c.in_ok-marks.ensures.ok c.self.inside.added c.self.invariant in
    let seen = seen-as ms c.self.inside.marks ss c.in_ok-marks.ensures.ok c.args.self.now c.self.view_is in
    let followed = follows-as s c.args.shift es c.args.edits.now old new c.args.side (kept_of ms ss) c.args.self.now c.edits-edits.ensures.value seen c.requires in
    let places : List ℕ = c.as_slice-places.result.now in
    let rising = subst (IsRising 0) (sym c.as_slice-places.ensures.value) c.in_ok-places.ensures.rising in
    let leave = subst (λ (l : List ℕ). LeaveCarried c.args.shift es old c.args.side ms ss l) (sym c.as_slice-places.ensures.value) c.in_ok-places.ensures.others in
    let none = no-place places (sym c.is_empty.ensures ∙ c.if-is_empty.true) in
    let leave-none = subst (λ (l : List ℕ). LeaveCarried c.args.shift es old c.args.side ms ss l) none leave in
    carried-moved s c.args.shift es old new c.args.side ms ss c.self.inside.added side c.len-count.ensures.lawful followed c.edits-edits.ensures.normal c.lines-lines.ensures.rows leave-none c.len-rising.ensures.rising

pub all_carried-requires-clause-side : goal.all_carried-requires-clause-side
all_carried-requires-clause-side g c =
    let s = g.P.Layer.source c.args.layer.now in
    let old = g.R.Rows.shown c.args.old.now in
    let new = g.R.Rows.shown c.args.rows.now in
    let ms : List BlockMark = c.in_ok-marks.marks in
    let ss : List Stop = c.self.inside.stops in
    let es : List Edit = c.edits-edits.result.now in
    let side = side-as ms c.self.inside.marks ss c.in_ok-marks.ensures.ok c.self.inside.added c.self.invariant in
    let seen = seen-as ms c.self.inside.marks ss c.in_ok-marks.ensures.ok c.args.self.now c.self.view_is in
    let followed = follows-as s c.args.shift es c.args.edits.now old new c.args.side (kept_of ms ss) c.args.self.now c.edits-edits.ensures.value seen c.requires in
    let places : List ℕ = c.as_slice-places.result.now in
    let rising = subst (IsRising 0) (sym c.as_slice-places.ensures.value) c.in_ok-places.ensures.rising in
    let leave = subst (λ (l : List ℕ). LeaveCarried c.args.shift es old c.args.side ms ss l) (sym c.as_slice-places.ensures.value) c.in_ok-places.ensures.others in
    let none = no-place places (sym c.is_empty.ensures ∙ c.if-is_empty.true) in
    let leave-none = subst (λ (l : List ℕ). LeaveCarried c.args.shift es old c.args.side ms ss l) none leave in
    carried-side s c.args.shift es old new c.args.side ms ss c.self.inside.added side c.len-count.ensures.lawful followed c.edits-edits.ensures.normal c.lines-lines.ensures.rows leave-none

pub returns-then-is_empty-clause-ok : goal.returns-then-is_empty-clause-ok
returns-then-is_empty-clause-ok g c =
    let s = g.P.Layer.source c.args.layer.now in
    let old = g.R.Rows.shown c.args.old.now in
    let new = g.R.Rows.shown c.args.rows.now in
    let ms : List BlockMark = c.in_ok-marks.marks in
    let ss : List Stop = c.self.inside.stops in
    let es : List Edit = c.edits-edits.result.now in
    let side = side-as ms c.self.inside.marks ss c.in_ok-marks.ensures.ok c.self.inside.added c.self.invariant in
    let seen = seen-as ms c.self.inside.marks ss c.in_ok-marks.ensures.ok c.args.self.now c.self.view_is in
    let followed = follows-as s c.args.shift es c.args.edits.now old new c.args.side (kept_of ms ss) c.args.self.now c.edits-edits.ensures.value seen c.requires in
    let places : List ℕ = c.as_slice-places.result.now in
    let rising = subst (IsRising 0) (sym c.as_slice-places.ensures.value) c.in_ok-places.ensures.rising in
    let leave = subst (λ (l : List ℕ). LeaveCarried c.args.shift es old c.args.side ms ss l) (sym c.as_slice-places.ensures.value) c.in_ok-places.ensures.others in
    let none = no-place places (sym c.is_empty.ensures ∙ c.if-is_empty.true) in
    let leave-none = subst (λ (l : List ℕ). LeaveCarried c.args.shift es old c.args.side ms ss l) none leave in
    let after : kept_of (marks_after c.args.shift ms) (map (carried (bias_of c.args.side) es) ss) ≡ map (placed s new c.args.side) (moved_kept c.args.shift c.args.self.now) =
    carried-kept s c.args.shift es old new c.args.side ms ss c.self.inside.added side c.len-count.ensures.lawful followed c.edits-edits.ensures.normal c.lines-lines.ensures.rows leave-none ∙ ap (λ (ks : List Kept). map (placed s new c.args.side) (moved_kept c.args.shift ks)) seen in
    IfOk-weaker c.all_carried.result (λ (l : List Kept). l ≡ kept_of (marks_after c.args.shift ms) (map (carried (bias_of c.args.side) es) ss)) (λ (l : List Kept). l ≡ map (placed s new c.args.side) (moved_kept c.args.shift c.args.self.now)) (λ l e. e ∙ after) c.all_carried.ensures.ok

pub some_anew-requires-clause-offsets : goal.some_anew-requires-clause-offsets
some_anew-requires-clause-offsets g c κs lives =
    let s = g.P.Layer.source c.args.layer.now in
    let old = g.R.Rows.shown c.args.old.now in
    let new = g.R.Rows.shown c.args.rows.now in
    let ms : List BlockMark = c.in_ok-marks.marks in
    let ss : List Stop = c.self.inside.stops in
    let es : List Edit = c.edits-edits.result.now in
    let side = side-as ms c.self.inside.marks ss c.in_ok-marks.ensures.ok c.self.inside.added c.self.invariant in
    let seen = seen-as ms c.self.inside.marks ss c.in_ok-marks.ensures.ok c.args.self.now c.self.view_is in
    let followed = follows-as s c.args.shift es c.args.edits.now old new c.args.side (kept_of ms ss) c.args.self.now c.edits-edits.ensures.value seen c.requires in
    let short : length s.text < 2 ^ 32 = omega (arith, c.buffer_len-len.ensures.value, c.buffer_len-len.type_inv) in
    offsets-after s (marks_after c.args.shift ms) short (anchors-after s c.args.shift ms ss side.each followed.anchors)

pub some_anew-requires-clause-remade : goal.some_anew-requires-clause-remade
some_anew-requires-clause-remade g c κs lives =
    let s = g.P.Layer.source c.args.layer.now in
    let old = g.R.Rows.shown c.args.old.now in
    let new = g.R.Rows.shown c.args.rows.now in
    let ms : List BlockMark = c.in_ok-marks.marks in
    let ss : List Stop = c.self.inside.stops in
    let es : List Edit = c.edits-edits.result.now in
    let side = side-as ms c.self.inside.marks ss c.in_ok-marks.ensures.ok c.self.inside.added c.self.invariant in
    let seen = seen-as ms c.self.inside.marks ss c.in_ok-marks.ensures.ok c.args.self.now c.self.view_is in
    let followed = follows-as s c.args.shift es c.args.edits.now old new c.args.side (kept_of ms ss) c.args.self.now c.edits-edits.ensures.value seen c.requires in
    let places : List ℕ = c.as_slice-places.result.now in
    let rising = subst (IsRising 0) (sym c.as_slice-places.ensures.value) c.in_ok-places.ensures.rising in
    let leave = subst (λ (l : List ℕ). LeaveCarried c.args.shift es old c.args.side ms ss l) (sym c.as_slice-places.ensures.value) c.in_ok-places.ensures.others in
    let within = subst (λ (l : List ℕ). All (λ a. a < length ss) l) (sym c.as_slice-places.ensures.value) c.in_ok-places.ensures.within in
    may-remake s c.args.shift es old new c.args.side ms ss c.self.inside.added side c.len-count.ensures.lawful followed c.edits-edits.ensures.normal c.lines-lines.ensures.rows places rising leave c.len-rising.ensures.rising within

pub returns-clause-ok : goal.returns-clause-ok
returns-clause-ok g c =
    let s = g.P.Layer.source c.args.layer.now in
    let old = g.R.Rows.shown c.args.old.now in
    let new = g.R.Rows.shown c.args.rows.now in
    let ms : List BlockMark = c.in_ok-marks.marks in
    let ss : List Stop = c.self.inside.stops in
    let es : List Edit = c.edits-edits.result.now in
    let side = side-as ms c.self.inside.marks ss c.in_ok-marks.ensures.ok c.self.inside.added c.self.invariant in
    let seen = seen-as ms c.self.inside.marks ss c.in_ok-marks.ensures.ok c.args.self.now c.self.view_is in
    let followed = follows-as s c.args.shift es c.args.edits.now old new c.args.side (kept_of ms ss) c.args.self.now c.edits-edits.ensures.value seen c.requires in
    let after : kept_of (marks_after c.args.shift ms) (stops_of_marks s new c.args.side (marks_after c.args.shift ms)) ≡ map (placed s new c.args.side) (moved_kept c.args.shift c.args.self.now) =
    kept-after s c.args.shift es old new c.args.side ms ss c.self.inside.added side c.len-count.ensures.lawful followed ∙ ap (λ (ks : List Kept). map (placed s new c.args.side) (moved_kept c.args.shift ks)) seen in
    IfOk-weaker c.some_anew.result (λ (l : List Kept). l ≡ kept_of (marks_after c.args.shift ms) (stops_of_marks s new c.args.side (marks_after c.args.shift ms))) (λ (l : List Kept). l ≡ map (placed s new c.args.side) (moved_kept c.args.shift c.args.self.now)) (λ l e. e ∙ after) c.some_anew.ensures.ok

pub returns-in_err-marks-clause-steps : goal.returns-in_err-marks-clause-steps
returns-in_err-marks-clause-steps g c =
    settled-within c.args.shift c.args.edits.now c.args.edits.now (g.R.Rows.shown c.args.old.now) c.args.side c.self.inside.marks c.self.inside.stops c.self.inside.added c.args.self.now c.self.invariant c.self.view_is c.args.steps.now c.settled.new.steps c.settled.ensures.steps

pub returns-in_err-places-clause-steps : goal.returns-in_err-places-clause-steps
returns-in_err-places-clause-steps g c =
    let old = g.R.Rows.shown c.args.old.now in
    let ms : List BlockMark = c.in_ok-marks.marks in
    let ss : List Stop = c.self.inside.stops in
    let es : List Edit = c.edits-edits.result.now in
    let side = side-as ms c.self.inside.marks ss c.in_ok-marks.ensures.ok c.self.inside.added c.self.invariant in
    let seen = seen-as ms c.self.inside.marks ss c.in_ok-marks.ensures.ok c.args.self.now c.self.view_is in
    let first = subst (λ (l : List BlockMark). TakesAtMost (moving 0) (length l) c.args.steps.now c.settled.new.steps) (sym c.in_ok-marks.ensures.ok) c.settled.ensures.steps in
    gathered-within c.args.shift es c.args.edits.now old c.args.side ms ss c.self.inside.added c.args.self.now side seen c.args.steps.now c.settled.new.steps first c.len-count.ensures.lawful c.edits-edits.ensures.value c.places_anew.new.steps c.places_anew.ensures.steps

pub returns-then-is_empty-clause-steps : goal.returns-then-is_empty-clause-steps
returns-then-is_empty-clause-steps g c =
    let old = g.R.Rows.shown c.args.old.now in
    let ms : List BlockMark = c.in_ok-marks.marks in
    let ss : List Stop = c.self.inside.stops in
    let es : List Edit = c.edits-edits.result.now in
    let side = side-as ms c.self.inside.marks ss c.in_ok-marks.ensures.ok c.self.inside.added c.self.invariant in
    let seen = seen-as ms c.self.inside.marks ss c.in_ok-marks.ensures.ok c.args.self.now c.self.view_is in
    let first = subst (λ (l : List BlockMark). TakesAtMost (moving 0) (length l) c.args.steps.now c.settled.new.steps) (sym c.in_ok-marks.ensures.ok) c.settled.ensures.steps in
    carried-within c.args.shift es c.args.edits.now old c.args.side ms ss c.self.inside.added c.args.self.now side seen c.args.steps.now c.settled.new.steps first c.len-count.ensures.lawful c.edits-edits.ensures.value c.places_anew.new.steps c.places_anew.ensures.steps c.all_carried.new.steps c.all_carried.ensures.steps

pub returns-clause-steps : goal.returns-clause-steps
returns-clause-steps g c =
    let old = g.R.Rows.shown c.args.old.now in
    let ms : List BlockMark = c.in_ok-marks.marks in
    let ss : List Stop = c.self.inside.stops in
    let es : List Edit = c.edits-edits.result.now in
    let side = side-as ms c.self.inside.marks ss c.in_ok-marks.ensures.ok c.self.inside.added c.self.invariant in
    let seen = seen-as ms c.self.inside.marks ss c.in_ok-marks.ensures.ok c.args.self.now c.self.view_is in
    let first = subst (λ (l : List BlockMark). TakesAtMost (moving 0) (length l) c.args.steps.now c.settled.new.steps) (sym c.in_ok-marks.ensures.ok) c.settled.ensures.steps in
    let places : List ℕ = c.as_slice-places.result.now in
    let rising = subst (IsRising 0) (sym c.as_slice-places.ensures.value) c.in_ok-places.ensures.rising in
    let within = subst (λ (l : List ℕ). All (λ a. a < length ss) l) (sym c.as_slice-places.ensures.value) c.in_ok-places.ensures.within in
    let only = subst (λ (l : List ℕ). (k : ℕ) → Contains l k → IsAnewAt c.args.shift es old c.args.side ms ss c.self.inside.added k) (sym c.as_slice-places.ensures.value) c.in_ok-places.ensures.only in
    remade-within c.args.shift es c.args.edits.now old c.args.side ms ss c.self.inside.added c.args.self.now side seen c.args.steps.now c.settled.new.steps first c.len-count.ensures.lawful c.edits-edits.ensures.value c.places_anew.new.steps c.places_anew.ensures.steps places rising within only c.some_anew.new.steps c.some_anew.ensures.steps
