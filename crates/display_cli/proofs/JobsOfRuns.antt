-- The display lines of a legal history keep their identity, and the cuts of each job that lands are those of the lines that it marks.
use Rattle.std.proofs.Common.{◌≡◌, ℕ, ◌+◌, ◌⊎◌, inl, inr, Bool, true, false, cond, eqb, List, [], ◌∷◌, ◌++◌, length, map, take, drop, Option, Some, None, option_map, refl, sym, ap, ◌∙◌, subst, arith, append_assoc, true≢false}
use Rattle.std.specs.List.{list_any, range_with_len}
use Rattle.std.proofs.lemmas.Bool.{eqb-true, ne_eqb, or_from}
use Rattle.std.proofs.lemmas.List.{length-append, length-map, map-append, take-append-drop, take_at}
use Rattle.std.proofs.lemmas.Option.{same_Some}
use mathlib.Core.List.{IsPrefix}
use Rattle.cell_units.specs.Text.{IsText}
use Rattle.cell_line.specs.declared.element.Element.{Element}
use Rattle.plain_rows.specs.Rows.{line_elements}
use Rattle.wrap_workers.specs.Jobs.{JobParts}
use Rattle.display_map.specs.Events.{Event, Did, Landed, Line, Published, Sent}
use Rattle.display_map.specs.Identity.{HaveSameLines}
use Rattle.display_map.specs.LawfulStates.{EventsFit}
use Rattle.display_map.specs.Replay.{SentJob, State, begun, happens, job_numbered, landed_if, present_of, state_of, with_landed}
use Rattle.display_map.specs.Sending.{IsOutstanding, is_landing}
use Rattle.display_map.proofs.LandingLaws.{landing-gives_cuts}
use Rattle.display_map.proofs.Outstanding.{same-fronts}
use Rattle.display_map.proofs.PatchesByStamp.{came-by_stamp, some-line_patch}
use Rattle.display_map.proofs.Replays.{range_more, replayed-none, same_numbers, state_of-one_more}
use Rattle.script_runner.specs.Legal.{AtEach, LandsOnce, Sends, history_of}
use Rattle.script_runner.proofs.Snoc.{any-snoc}
use Rattle.display_cli.specs.RunLaws.{HasLinePatch, KeepsLines, LandsCuts}
use Rattle.display_cli.proofs.LawfulRuns.{each_prefix, fits-prefix}

-- ---- jobs are numbered from 1

abbrev AreNumbered : State → Type 0
AreNumbered s = map (λ job. job.number) s.jobs ≡ range_with_len 1 (length s.jobs)

numbered-sent : (jobs : List SentJob) (job : SentJob) → job.number ≡ length jobs + 1 → map (λ j. j.number) jobs ≡ range_with_len 1 (length jobs)
    → map (λ j. j.number) (jobs ++ job ∷ []) ≡ range_with_len 1 (length (jobs ++ job ∷ []))
numbered-sent jobs job is are =
    let n = length jobs in
    let last : job.number ≡ 1 + n = omega (arith, is) in
    map-append (λ (j : SentJob). j.number) jobs (job ∷ [])
    ∙ (λ i. are i ++ last i ∷ [])
    ∙ range_more 1 n
    ∙ ap (range_with_len 1) (sym (length-append jobs (job ∷ [])))

module _ (text : List ℕ) (workers : ℕ) where
  numbered-more : (past : List Event) (e : Event) → Sends text workers past e → AreNumbered (state_of (history_of text past)) → AreNumbered (happens (state_of (history_of text past)) e)
  numbered-more past (Line number) sends are = are
  numbered-more past (Did op) sends are = are
  numbered-more past (Sent job first count) sends are =
      let s = state_of (history_of text past) in
      let send = sends job first count refl in
      numbered-sent s.jobs _ send.number are
  numbered-more past (Landed job) sends are =
      let s = state_of (history_of text past) in
      same_numbers job s.jobs ∙ are ∙ ap (range_with_len 1) (sym (length-map s.jobs (landed_if job)))
  numbered-more past (Published last) sends are = are

  numbered : (history : List Event) → AtEach (Sends text workers) history → (n : ℕ) → AreNumbered (state_of (history_of text (take n history)))
  numbered history sends =
      each_prefix (λ past. AreNumbered (state_of (history_of text past))) history (subst AreNumbered (sym (replayed-none (begun text))) refl)
      (λ k e at are. subst AreNumbered (sym (state_of-one_more (history_of text (take k history)) e)) (numbered-more (take k history) e (sends k e at) are))

-- ---- a job that hasn't landed was sent

-- events sent the job of this number, and it hasn't landed
record WasSent (events : List Event) (number : ℕ) : Type 0 where
  before : List Event
  first : ℕ
  count : ℕ
  after : List Event
  parted : events ≡ before ++ Sent number first count ∷ after
  not_landed : list_any (is_landing number) after ≡ false

sent-more : (events : List Event) (number : ℕ) (e : Event) → is_landing number e ≡ false → WasSent events number → WasSent (events ++ e ∷ []) number
sent-more events number e other was = record {
  before = was.before;
  first = was.first;
  count = was.count;
  after = was.after ++ e ∷ [];
  parted = ap (λ l. l ++ e ∷ []) was.parted ∙ append_assoc was.before (Sent number was.first was.count ∷ was.after) (e ∷ []);
  not_landed = any-snoc (is_landing number) was.after e ∙ or_from (list_any (is_landing number) was.after) (is_landing number e) was.not_landed other;
}

abbrev is_numbered : ℕ → SentJob → Bool
is_numbered number job = eqb job.number number

-- among jobs and one more
found-snoc : (number : ℕ) (jobs : List SentJob) (job y : SentJob) → job_numbered number (jobs ++ job ∷ []) ≡ Some y
    → (job_numbered number jobs ≡ Some y) ⊎ (job.number ≡ number)
found-snoc number [] job y e = go (is_numbered number job) refl e where
  go : (b : Bool) → is_numbered number job ≡ b → cond b (Some job) None ≡ Some y → (None ≡ Some y) ⊎ (job.number ≡ number)
  go true is f = inr (eqb-true job.number number is)
  go false is f = inl f
found-snoc number (x ∷ jobs) job y e = go (is_numbered number x) e (found-snoc number jobs job y) where
  go : (b : Bool) → cond b (Some x) (job_numbered number (jobs ++ job ∷ [])) ≡ Some y
      → (job_numbered number (jobs ++ job ∷ []) ≡ Some y → (job_numbered number jobs ≡ Some y) ⊎ (job.number ≡ number))
      → (cond b (Some x) (job_numbered number jobs) ≡ Some y) ⊎ (job.number ≡ number)
  go true f rest = inl f
  go false f rest = rest f

-- among jobs of which one has landed: another one
record IsOther (number landed : ℕ) (jobs : List SentJob) : Type 0 where
  job : SentJob
  found : job_numbered number jobs ≡ Some job
  unlanded : job.landed ≡ false
  other : eqb landed number ≡ false

unlanded-if : (landed : ℕ) (job : SentJob) → (landed_if landed job).landed ≡ false → (eqb job.number landed ≡ false) × (job.landed ≡ false)
unlanded-if landed job e = go (eqb job.number landed) refl e where
  go : (b : Bool) → eqb job.number landed ≡ b → (cond b (record job { landed = true }) job).landed ≡ false → (eqb job.number landed ≡ false) × (job.landed ≡ false)
  go true is f = absurd (true≢false f)
  go false is f = (is, f)

same-number : (landed : ℕ) (job : SentJob) → (landed_if landed job).number ≡ job.number
same-number landed job = go (eqb job.number landed) where
  go : (b : Bool) → (cond b (record job { landed = true }) job).number ≡ job.number
  go true = refl
  go false = refl

found-landed : (number landed : ℕ) (jobs : List SentJob) (y : SentJob) → job_numbered number (with_landed landed jobs) ≡ Some y → y.landed ≡ false → IsOther number landed jobs
found-landed number landed [] y e open' = absurd (cc)
found-landed number landed (x ∷ jobs) y e open' =
    go (is_numbered number x) refl
    (ap (λ n. cond (eqb n number) (Some (landed_if landed x)) (job_numbered number (with_landed landed jobs))) (sym (same-number landed x)) ∙ e)
    (λ f. found-landed number landed jobs y f open')
  where
    go : (b : Bool) → is_numbered number x ≡ b → cond (is_numbered number x) (Some (landed_if landed x)) (job_numbered number (with_landed landed jobs)) ≡ Some y
        → (job_numbered number (with_landed landed jobs) ≡ Some y → IsOther number landed jobs) → IsOther number landed (x ∷ jobs)
    go true is f rest =
        let this : landed_if landed x ≡ y = same_Some (landed_if landed x) y (ap (λ b. cond b (Some (landed_if landed x)) (job_numbered number (with_landed landed jobs))) (sym is) ∙ f) in
        let both = unlanded-if landed x (ap (λ (j : SentJob). j.landed) this ∙ open') in
        let number_is : x.number ≡ number = eqb-true x.number number is in
        let apart : landed ≡ number → ⊥ = λ same. true≢false (sym (ap (eqb x.number) same ∙ is) ∙ both.0) in
        record {
          job = x;
          found = ap (λ b. cond b (Some x) (job_numbered number jobs)) is;
          unlanded = both.1;
          other = ne_eqb landed number apart;
        }
    go false is f rest =
        let it = rest (ap (λ b. cond b (Some (landed_if landed x)) (job_numbered number (with_landed landed jobs))) (sym is) ∙ f) in
        record {
          job = it.job;
          found = ap (λ b. cond b (Some x) (job_numbered number jobs)) is ∙ it.found;
          unlanded = it.unlanded;
          other = it.other;
        }

-- each job of a state that hasn't landed was sent by its events
abbrev WereSent : List Event → State → Type 0
WereSent events s = (number : ℕ) (job : SentJob) → job_numbered number s.jobs ≡ Some job → job.landed ≡ false → WasSent events number

sent-happens : (events : List Event) (s : State) (e : Event) → WereSent events s → WereSent (events ++ e ∷ []) (happens s e)
sent-happens events s (Line number) were n job found unlanded = sent-more events n (Line number) refl (were n job found unlanded)
sent-happens events s (Did op) were n job found unlanded = sent-more events n (Did op) refl (were n job found unlanded)
sent-happens events s (Sent number first count) were n job found unlanded = elim (found-snoc n s.jobs _ job found) [
  | inl earlier ↦ sent-more events n (Sent number first count) refl (were n job earlier unlanded)
  | inr this ↦ record {
    before = events;
    first = first;
    count = count;
    after = [];
    parted = ap (λ k. events ++ Sent k first count ∷ []) this;
    not_landed = refl;
  }
]
sent-happens events s (Landed number) were n job found unlanded =
    let it = found-landed n number s.jobs job found unlanded in
    sent-more events n (Landed number) it.other (were n it.job it.found it.unlanded)
sent-happens events s (Published last) were n job found unlanded = sent-more events n (Published last) refl (were n job found unlanded)

were-sent : (text : List ℕ) (history : List Event) (n : ℕ) → WereSent (take n history) (state_of (history_of text (take n history)))
were-sent text history =
    each_prefix (λ past. WereSent past (state_of (history_of text past))) history
    (subst (WereSent []) (sym (replayed-none (begun text))) (λ number job found unlanded. absurd (cc)))
    (λ k e at were. subst (WereSent (take k history ++ e ∷ [])) (sym (state_of-one_more (history_of text (take k history)) e))
    (sent-happens (take k history) (state_of (history_of text (take k history))) e were))

-- ---- landings

found-some : (o : Option SentJob) → option_map (λ j. j.landed) o ≡ Some false → (job : SentJob) × (o ≡ Some job) × (job.landed ≡ false)
found-some None e = absurd (cc)
found-some (Some job) e = (job, refl, same_Some job.landed false e)

module _ (text : List ℕ) (is : IsText text) where
  lands-cuts : (past : List Event) (number : ℕ) → EventsFit (begun text) past → AreNumbered (state_of (history_of text past)) → WasSent past number → LandsCuts text past (Landed number)
  lands-cuts past number fits are was other e =
      let before = present_of (history_of text was.before) in
      let job : JobParts (List (List Element)) = record {
        number = number;
        lines = line_elements before;
        run = record { first = was.first; count = was.count };
        width = before.width;
      } in
      let out : IsOutstanding (history_of text past) job = record { before = was.before; after = was.after; events_are = was.parted; width_is = refl; lines_are = refl; not_landed = was.not_landed } in
      let same : number ≡ other = cc in
      (job, same, out, landing-gives_cuts (history_of text past) job is fits are out)

  landing : (past : List Event) (e : Event) → EventsFit (begun text) past → AreNumbered (state_of (history_of text past)) → WereSent past (state_of (history_of text past)) → LandsOnce text past e
      → LandsCuts text past e
  landing past e fits are were once number is' =
      let it = found-some (job_numbered number (state_of (history_of text past)).jobs) (once number is') in
      lands-cuts past number fits are (were number it.0 it.1 it.2) number refl

  -- ---- all that is kept of display lines

  front-is : (past history : List Event) → IsPrefix past history → take (length past) history ≡ past
  front-is past history front = ap (take (length past)) (sym front.1) ∙ take_at past front.0 (length past) refl

  same-lines : (history past other : List Event) → EventsFit (begun text) history → IsPrefix past history → IsPrefix other history
      → HaveSameLines (present_of (history_of text past)) (present_of (history_of text other))
  same-lines history past other fits front front' =
      subst (λ (l : List Event). HaveSameLines (present_of (history_of text l)) (present_of (history_of text other))) (front-is past history front)
      (subst (λ (l : List Event). HaveSameLines (present_of (history_of text (take (length past) history))) (present_of (history_of text l))) (front-is other history front')
      (same-fronts text history (length past) (length other) is fits))

  line-patch : (past more : List Event) → EventsFit (begun text) (past ++ more) → HasLinePatch text past more
  line-patch past more fits =
      let it = some-line_patch text past more is fits in
      record { patch = it.0; over = it.1; came = came-by_stamp text past more it.0 is fits it.1 }

  pub keeps-lines : (workers : ℕ) (history : List Event) → EventsFit (begun text) history → AtEach (Sends text workers) history → AtEach (LandsOnce text) history → KeepsLines text history
  keeps-lines workers history fits sends once = record {
    same = λ past other front front'. same-lines history past other fits front front';
    patches = λ past more front. line-patch past more (fits-prefix text (past ++ more) history front fits);
    landings = λ k e at.
        let past = take k history in
        landing past e (fits-prefix text past history (drop k history, take-append-drop k history) fits) (numbered text workers history sends k) (were-sent text history k) (once k e at);
  }
