-- The cuts of a job that is out are those of the present lines that its landing marks.
use Rattle.std.proofs.Common.{◌≡◌, ℕ, ◌+◌, ◌-◌, ◌<◌, ◌||◌, eqb, suc, Bool, true, false, List, [], ◌∷◌, length, map, drop, get_or, refl, sym, ap, ◌∙◌, arith, length-drop}
use Rattle.std.specs.Prelude.{Some, min, slice_get}
use Rattle.std.specs.List.{range_with_len}
use Rattle.std.specs.Option.{option_map}
use Rattle.std.proofs.lemmas.Bool.{eqb-true, true≢false}
use Rattle.std.proofs.lemmas.List.{get_or-drop, get_or-take, length-map, length-take}
use Rattle.std.proofs.lemmas.Option.{slice_get-get_or, slice_get-map}
use Rattle.cell_units.specs.Text.{IsText}
use Rattle.cell_line.specs.declared.element.Element.{Element}
use Rattle.cell_line.specs.Wrapping.{cuts_of}
use Rattle.plain_rows.specs.Rows.{line_elements}
use Rattle.wrap_workers.specs.Jobs.{JobParts, lines_of_run, wraps_of}
use Rattle.display_map.specs.Identity.{stamps_in}
use Rattle.display_map.specs.LawfulStates.{EventsFit}
use Rattle.display_map.specs.Replay.{History, begun, holds, job_numbered, present_of, state_of}
use Rattle.display_map.specs.Sending.{GivesCuts, IsOutstanding}
use Rattle.display_map.proofs.Jobs.{job_numbered-at}
use Rattle.display_map.proofs.Outstanding.{IsStillOut, no_job, still_out}

-- a stamp that is held is at some place
abbrev StandsIn : List ℕ → ℕ → Type 0
StandsIn xs v = (k : ℕ) × (k < length xs) × (get_or xs k 0 ≡ v)

held_at : (xs : List ℕ) (v : ℕ) → holds xs v ≡ true → StandsIn xs v
held_at [] v e = absurd (true≢false (sym e))
held_at (x ∷ xs) v e = go (eqb x v) refl e (λ rest. held_at xs v rest) where
  go : (b : Bool) → eqb x v ≡ b → (b || holds xs v) ≡ true → (holds xs v ≡ true → StandsIn xs v) → StandsIn (x ∷ xs) v
  go true is e rest = (0, omega arith, eqb-true x v is)
  go false is e rest = let found = rest e in (suc found.0, omega (arith, found.1), found.2)

module _ (h : History) (job : JobParts (List (List Element))) (out : IsStillOut h job) where
  abbrev sent-stamps : List ℕ
  sent-stamps = (get_or (state_of h).jobs out.place no_job).stamps

  within : (k : ℕ) → k < length sent-stamps → (k < job.run.count) × (job.run.first + k < length job.lines)
  within k lt =
      let long : length sent-stamps ≡ min job.run.count (length out.stamps_then - job.run.first) =
      ap length out.stamps_are ∙ length-take job.run.count (drop job.run.first out.stamps_then) ∙ ap (min job.run.count) (length-drop job.run.first out.stamps_then) in
      (omega (arith, lt, long), omega (arith, lt, long, out.long))

  -- the k-th line of the run has the k-th stamp
  stamp_then : (k : ℕ) → k < length sent-stamps → get_or out.stamps_then (job.run.first + k) 0 ≡ get_or sent-stamps k 0
  stamp_then k lt =
      sym (ap (λ (l : List ℕ). get_or l k 0) out.stamps_are
      ∙ get_or-take job.run.count (drop job.run.first out.stamps_then) k 0 (within k lt).0
      ∙ get_or-drop job.run.first out.stamps_then k 0)

  -- the elements that the job has of it
  line_then : (k : ℕ) → k < length sent-stamps → slice_get (wraps_of job.lines job.run job.width) k ≡ Some (cuts_of (get_or job.lines (job.run.first + k) []) job.width)
  line_then k lt =
      let in_run = within k lt in
      let count : job.run.first + job.run.count - job.run.first ≡ job.run.count = omega arith in
      let cut : List Element → List ℕ = λ (l : List Element). cuts_of l job.width in
      let run = lines_of_run job.lines job.run in
      let long : length run ≡ min job.run.count (length job.lines - job.run.first) =
      length-take (job.run.first + job.run.count - job.run.first) (drop job.run.first job.lines)
      ∙ (λ i. min (count i) (length-drop job.run.first job.lines i)) in
      slice_get-map cut run k
      ∙ ap (option_map cut) (slice_get-get_or run k [] (omega (arith, in_run.0, in_run.1, long)))
      ∙ ap (λ (l : List Element). Some (cut l))
      (get_or-take (job.run.first + job.run.count - job.run.first) (drop job.run.first job.lines) k [] (omega (arith, in_run.0, count))
      ∙ get_or-drop job.run.first job.lines k [])

  pub gives-cuts : map (λ j. j.number) (state_of h).jobs ≡ range_with_len 1 (length (state_of h).jobs) → GivesCuts (state_of h) job
  gives-cuts numbered = record {
    sent = get_or (state_of h).jobs out.place no_job;
    found = ap (λ (n : ℕ). job_numbered n (state_of h).jobs) out.number_is
        ∙ job_numbered-at (state_of h).jobs out.place numbered out.there
        ∙ slice_get-get_or (state_of h).jobs out.place no_job out.there;
    cuts = λ i lt held.
        let S = stamps_in (present_of h) in
        let place = held_at sent-stamps (get_or S i 0) held in
        let k = place.0 in
        let here : i < length S = omega (arith, lt, length-map (present_of h).marks (λ m. m.stamp)) in
        let in_run = within k place.1 in
        let same : get_or job.lines (job.run.first + k) [] ≡ get_or (line_elements (present_of h)) i [] =
        out.same (job.run.first + k) i (omega (arith, in_run.1, out.long)) here (stamp_then k place.1 ∙ place.2) in (
          k,
          slice_get-get_or sent-stamps k 0 place.1 ∙ ap Some place.2 ∙ sym (slice_get-get_or S i 0 here),
          line_then k place.1 ∙ ap (λ (l : List Element). Some (cuts_of l job.width)) same,
        );
  }

pub landing-gives_cuts : (h : History) (job : JobParts (List (List Element))) → IsText h.opening → EventsFit (begun h.opening) h.events →
    map (λ j. j.number) (state_of h).jobs ≡ range_with_len 1 (length (state_of h).jobs) → IsOutstanding h job → GivesCuts (state_of h) job
landing-gives_cuts h job opening fits numbered o = gives-cuts h job (still_out h job opening fits numbered o) numbered
