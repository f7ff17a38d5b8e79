-- The states of a map, and what its changes leave of what it keeps.
use Rattle.std.proofs.Common.{◌≡◌, ◌≢◌, ℕ, ◌+◌, ◌<◌, ◌≤◌, ◌==◌, ◌||◌, ◌^◌, not, nat_le, nat_lt, Bool, true, false, cond, List, [], ◌∷◌, ◌++◌, length, take, drop, filter, count_by, Option, option_map, Some, None, refl, sym, ap, ◌∙◌, subst, arith}
use Rattle.std.specs.List.{flat_map, find, list_any}
use Rattle.std.proofs.lemmas.Bool.Decides.{nat_tests}
use Rattle.std.proofs.lemmas.List.{length-drop, length-take}
use Rattle.cell_units.specs.declared.limits.TheConstants.{ENTRY_LIMIT, INLAY_LIMIT, LAID_LIMIT}
use Rattle.cell_units.specs.declared.place.Bias.{Bias}
use Rattle.cell_units.specs.declared.place.Shift.{Shift}
use Rattle.cell_units.specs.declared.place.Bias.TheVariants.{Left, Right}
use Rattle.cell_units.specs.declared.fault.Refusal.TheVariants.{BadRange, BadText, IdInUse, TooLong}
use Rattle.cell_units.specs.Folded.{shown}
use Rattle.cell_units.specs.Inlaid.{Byte, bytes_of, inlay_bytes, inlays_at, show_each}
use Rattle.cell_units.specs.Layers.{Source, inlay_source, place_of}
use Rattle.cell_units.specs.Lawful.{AreInlays}
use Rattle.cell_units.specs.Operation.{moved_inlays, replaced_text, without_inlay}
use Rattle.cell_units.specs.Record.{Inlay, inlay_le}
use Rattle.cell_units.specs.Sorting.{insert_by}
use Rattle.cell_units.specs.Text.{is_boundary}
use Rattle.cell_units.proofs.FoundEntries.{PutIn, found, put_in}
use Rattle.cell_units.proofs.Entries.{sorted_entries}
use Rattle.cell_units.proofs.EntryOrders.{inlay_total, inlay_trans}
use Rattle.cell_units.proofs.ShownMoved.{inlays_before, show_each-same}
use Rattle.cell_units.proofs.SortedLists.{count-cons}
use Rattle.cell_units.proofs.ShownPlaces.{places-left_first, places-rise}
use Rattle.edit_patch.proofs.CoverLeads.{covers, sum-fits}
use Rattle.edit_patch.proofs.TokenPlaces.{length-at_places}
use Rattle.edit_patch.specs.Covering.{CoverFits, with_pending}
use Rattle.edit_patch.specs.LayerLeads.{LayerLeads, layer_places}
use Rattle.edit_patch.specs.Leads.{Leads, LeadsIfAny, Reach, reach_of, unmoved}
use Rattle.inlay_map.specs.Kept.{IsKept}
use Rattle.inlay_map.specs.InlaidShifts.{inlaid_shift, inlay_shift}
use Rattle.inlay_map.specs.Maps.{add_refusal, shift_after, source_after}
use Rattle.inlay_map.proofs.InlayLeads.{inlay-leads, moved-leads}
use Rattle.inlay_map.proofs.TextsLed.{text-led}
use Rattle.inlay_map.proofs.Parts.{at-other}
use Rattle.inlay_map.proofs.Places.{place-limit}

-- a source without folds is its text with its inlays
pub source-is : (s : Source) → s.folds ≡ [] → inlay_source s.text s.inlays ≡ s
source-is s e = λ i. record { text = s.text; inlays = s.inlays; folds = sym e i }

-- ---- one inlay more or less

others : (i : Inlay) (before behind : List Inlay) (k : ℕ) → i.offset ≢ k → inlays_at (before ++ i ∷ behind) k ≡ inlays_at (before ++ behind) k
others i [] behind k ne = at-other i behind k ne
others i (b ∷ bs) behind k ne = go (b.offset == k) (others i bs behind k ne) where
  go : (c : Bool) → inlays_at (bs ++ i ∷ behind) k ≡ inlays_at (bs ++ behind) k
      → flat_map inlay_bytes (cond c (b ∷ filter (λ j. j.offset == k) (bs ++ i ∷ behind)) (filter (λ j. j.offset == k) (bs ++ i ∷ behind)))
      ≡ flat_map inlay_bytes (cond c (b ∷ filter (λ j. j.offset == k) (bs ++ behind)) (filter (λ j. j.offset == k) (bs ++ behind)))
  go true r = ap (λ l. inlay_bytes b ++ l) r
  go false r = r

put-others : (i : Inlay) (old new : List Inlay) → PutIn i old new → (k : ℕ) → k ≢ i.offset → inlays_at new k ≡ inlays_at old k
put-others i old new p k ne = ap (λ l. inlays_at l k) p.new_is ∙ others i p.before p.behind k (λ e. ne (sym e)) ∙ ap (λ l. inlays_at l k) (sym p.old_is)

pub added-differs : (i : Inlay) (is : List Inlay) (k : ℕ) → k ≢ i.offset → inlays_at (insert_by inlay_le i is) k ≡ inlays_at is k
added-differs i is k ne = put-others i is (insert_by inlay_le i is) (put_in inlay_le i is) k ne

pub removed-differs : (i : Inlay) (is : List Inlay) → count_by (λ j. j.id == i.id) is ≤ 1 → find (λ j. j.id == i.id) is ≡ Some i → (k : ℕ) → k ≢ i.offset → inlays_at (without_inlay i.id is) k ≡ inlays_at is k
removed-differs i is few f k ne = sym (put-others i (without_inlay i.id is) is (found (λ j. j.id == i.id) is i few f) k ne)

-- inlays that differ at an offset alone leave its left place where it is
pub left-same : (text : List ℕ) (old new : List Inlay) (o : ℕ) → ((k : ℕ) → k ≢ o → inlays_at new k ≡ inlays_at old k)
    → place_of (inlay_source text new) o Left ≡ place_of (inlay_source text old) o Left
left-same text old new o same =
    ap (λ ts. length (flat_map bytes_of ts))
    (show_each-same (shown old []) (shown new []) 0 (take o text)
    (λ k c lt. ap (λ l. l ++ Byte k c ∷ []) (same k (λ e. omega (arith, e, lt, length-take o text)))))

-- ---- what a map keeps

abbrev pub IsOrdered : Option Reach → Type 0
IsOrdered pending = (s : Reach) → pending ≡ Some s → s.start ≤ s.end

-- at first, and right after a `sync`
pub kept-none : (s : Source) → IsKept s s None
kept-none s = record { text = refl; leads = refl }

-- after an inlay was added or removed
pub kept-turned : (current shown next : Source) (offset : ℕ) (pending : Option Reach) → current.folds ≡ [] → next.folds ≡ [] → next.text ≡ current.text → offset ≤ length next.text
    → ((k : ℕ) → k ≢ offset → inlays_at next.inlays k ≡ inlays_at current.inlays k) → IsOrdered pending → IsKept current shown pending
    → IsKept next shown (with_pending pending (Some (inlay_shift current next offset)))
kept-turned current shown next offset pending none none' same within differ order kept =
    let is : inlay_source current.text current.inlays ≡ current = source-is current none in
    let is' : inlay_source current.text next.inlays ≡ next = (λ i. inlay_source (sym same i) next.inlays) ∙ source-is next none' in
    let leads : LayerLeads None current next (Some (inlay_shift current next offset)) =
    subst (λ (p : Source × Source). LayerLeads None p.0 p.1 (Some (inlay_shift p.0 p.1 offset))) (λ i. (is i, is' i))
    (inlay-leads current.text current.inlays next.inlays offset (subst (λ (t : List ℕ). offset ≤ length t) same within) differ) in
    record {
      text = same ∙ kept.text;
      leads = covers None shown current next pending (inlay_shift current next offset) order (places-left_first current offset) kept.leads leads;
    }

-- ---- an inlay that isn't refused

pub record IsAccepted (source : Source) (id offset : ℕ) (text : List ℕ) : Type 0 where
  pub fresh : list_any (λ i. i.id == id) source.inlays ≡ false
  pub boundary : is_boundary source.text offset ≡ true
  pub some : 0 < length text
  pub short : length text ≤ INLAY_LIMIT
  pub room : length source.inlays < ENTRY_LIMIT

pub accepted-is : (source : Source) (id offset : ℕ) (text : List ℕ) → add_refusal source id offset text ≡ None → IsAccepted source id offset text
accepted-is source id offset text e =
    go (list_any (λ i. i.id == id) source.inlays) (is_boundary source.text offset) (length text == 0) (nat_lt INLAY_LIMIT (length text)) (nat_le ENTRY_LIMIT (length source.inlays)) refl refl refl refl refl e where
      positive : (n : ℕ) → (n == 0) ≡ false → 0 < n
      positive n h = grind (arith, nat_tests)

      at-most : (m n : ℕ) → nat_lt m n ≡ false → n ≤ m
      at-most m n h = grind (arith, nat_tests)

      below : (m n : ℕ) → nat_le m n ≡ false → n < m
      below m n h = grind (arith, nat_tests)

      go : (a b c d f : Bool) → list_any (λ i. i.id == id) source.inlays ≡ a → is_boundary source.text offset ≡ b → (length text == 0) ≡ c → nat_lt INLAY_LIMIT (length text) ≡ d → nat_le ENTRY_LIMIT (length source.inlays) ≡ f
          → cond a (Some IdInUse) (cond (not b) (Some BadRange) (cond c (Some BadText) (cond (d || f) (Some TooLong) None))) ≡ None
          → IsAccepted source id offset text
      go true b c d f pa pb pc pd pf h = absurd (cc)
      go false false c d f pa pb pc pd pf h = absurd (cc)
      go false true true d f pa pb pc pd pf h = absurd (cc)
      go false true false true f pa pb pc pd pf h = absurd (cc)
      go false true false false true pa pb pc pd pf h = absurd (cc)
      go false true false false false pa pb pc pd pf h = record { fresh = pa; boundary = pb; some = positive (length text) pc; short = at-most INLAY_LIMIT (length text) pd; room = below ENTRY_LIMIT (length source.inlays) pf }

-- no entry of an id is counted where none has it
pub none-counted : (id : ℕ) (is : List Inlay) → list_any (λ i. i.id == id) is ≡ false → count_by (λ i. i.id == id) is ≡ 0
none-counted id [] e = refl
none-counted id (i ∷ is) e = go (i.id == id) e (none-counted id is) (count-cons (λ (j : Inlay). j.id == id) i is) where
  go : (b : Bool) → (b || list_any (λ j. j.id == id) is) ≡ false → (list_any (λ j. j.id == id) is ≡ false → count_by (λ j. j.id == id) is ≡ 0)
      → count_by (λ j. j.id == id) (i ∷ is) ≡ cond b 1 0 + count_by (λ j. j.id == id) is → count_by (λ j. j.id == id) (i ∷ is) ≡ 0
  go true h rest sum = absurd (cc)
  go false h rest sum = omega (arith, sum, rest h)

-- ---- what a `sync` returns

-- where nothing comes after it, a pending replacement stays alone
pub pending-alone : (p : Option Reach) → p ≡ with_pending p None
pending-alone None = refl
pending-alone (Some r) = refl

-- where the text is as it was, the pending replacement leads on
pub leads-still : (rope : List ℕ) (shown current : Source) (pending : Option Reach) → current.folds ≡ [] → rope ≡ current.text → IsKept current shown pending
    → LayerLeads None shown (source_after rope None current) (with_pending pending None)
leads-still rope shown current pending none same kept =
    subst (λ (p : Option Reach). LayerLeads None shown (source_after rope None current) p) (pending-alone pending)
    (subst (λ (s : Source). LayerLeads None shown s pending) (sym ((λ i. inlay_source (same i) current.inlays) ∙ source-is current none)) kept.leads)

-- where a replacement of the text led to it, what that replaces of what is shown comes after the pending one
pub leads-moved : (s : Reach) (rope : List ℕ) (shown current : Source) (pending : Option Reach) → current.folds ≡ [] → AreInlays current.text current.inlays → s.start ≤ s.end
    → Leads unmoved current.text rope s → IsOrdered pending → IsKept current shown pending
    → LayerLeads (Some s) shown (source_after rope (Some s) current) (with_pending pending (Some (inlaid_shift current (source_after rope (Some s) current) s)))
leads-moved s rope shown current pending none are order leads ordered kept =
    covers (Some s) shown current (source_after rope (Some s) current) pending (inlaid_shift current (source_after rope (Some s) current) s) ordered rises kept.leads
    (subst (λ (p : Source × Source). LayerLeads (Some s) p.0 p.1 (Some (inlaid_shift p.0 p.1 s)))
    (λ i. (source-is current none i, inlay_source (sym led i) (moved_inlays s.start s.end s.count current.inlays)))
    (moved-leads s current.text (take s.count (drop s.start rope)) current.inlays
    (sorted_entries inlay_le inlay_total inlay_trans (λ i. i.id) current.inlays are.in_order) order leads.within (omega (arith, length-take s.count (drop s.start rope), length-drop s.start rope, leads.reaches))))
  where
    led : rope ≡ replaced_text current.text s.start s.end (take s.count (drop s.start rope))
    led = text-led s current.text rope order leads

    rises : place_of current s.start Left ≤ place_of current s.end Right
    rises = omega (arith, places-left_first current s.start, places-rise current s.start s.end Right order leads.within)

-- what is before the replacement is shown where it was
pub left-moved : (s : Reach) (text rope : List ℕ) (is : List Inlay) → AreInlays text is → s.start ≤ s.end → Leads unmoved text rope s
    → place_of (inlay_source rope (moved_inlays s.start s.end s.count is)) s.start Left ≡ place_of (inlay_source text is) s.start Left
left-moved s text rope is are order leads =
    ap (λ l. length (flat_map bytes_of (show_each (shown (moved_inlays s.start s.end s.count is) []) 0 l))) leads.before
    ∙ ap (λ ts. length (flat_map bytes_of ts))
    (show_each-same (shown is []) (shown (moved_inlays s.start s.end s.count is) []) 0 (take s.start text)
    (λ k c lt. ap (λ l. l ++ Byte k c ∷ [])
    (inlays_before s.start s.end s.count order [] is (sorted_entries inlay_le inlay_total inlay_trans (λ i. i.id) is are.in_order) k (omega (arith, lt, length-take s.start text)))))

-- ---- sizes

-- how much all inlays over a text can show
pub shown-small : (text : List ℕ) (is : List Inlay) (bias : Bias) (o : ℕ) → AreInlays text is → length text ≤ LAID_LIMIT → o ≤ length text → place_of (inlay_source text is) o bias < 2 ^ 28
shown-small text is bias o are short le = place-limit text bias o is are short le

-- inlays that differ at an offset alone leave its left place, in sources
pub turned-left : (current next : Source) (offset : ℕ) → current.folds ≡ [] → next.folds ≡ [] → next.text ≡ current.text → ((k : ℕ) → k ≢ offset → inlays_at next.inlays k ≡ inlays_at current.inlays k)
    → place_of next offset Left ≡ place_of current offset Left
turned-left current next offset none none' same differ =
    ap (λ (s : Source). place_of s offset Left) (sym ((λ i. inlay_source (sym same i) next.inlays) ∙ source-is next none'))
    ∙ left-same current.text current.inlays next.inlays offset differ
    ∙ ap (λ (s : Source). place_of s offset Left) (source-is current none)

-- ---- pending replacements

pub ordered-pending : (p : Option Shift) → IsOrdered (option_map reach_of p)
ordered-pending None s e = absurd (cc)
ordered-pending (Some f) s e = subst (λ (r : Reach). r.start ≤ r.end) (some-same (reach_of f) s e) f.ordered where
  some-same : (x y : Reach) → Some x ≡ Some y → x ≡ y
  some-same x y h = cc

-- what is shown has no more places than this
pub places-small : (s : Source) → s.folds ≡ [] → AreInlays s.text s.inlays → length s.text ≤ LAID_LIMIT → length (layer_places s) < 2 ^ 28
places-small s none are short =
    let n = length s.text in
    let is = source-is s none in
    let long : length (layer_places (inlay_source s.text s.inlays)) ≡ place_of (inlay_source s.text s.inlays) n Right =
    length-at_places (show_each (shown s.inlays []) 0 (take n s.text) ++ inlays_at s.inlays n) in
    omega (arith, long, place-limit s.text Right n s.inlays are short (omega arith), ap (λ (v : Source). length (layer_places v)) is)

-- so the one that covers a pending one and another is made of u32
pub pending-fits : (shown current : Source) (p : Option Shift) (next : Reach) → LayerLeads None shown current (option_map reach_of p) → length (layer_places shown) < 2 ^ 28 → length (layer_places current) < 2 ^ 28
    → next.start + next.count + next.end < 2 ^ 30 → (x : Shift) → p ≡ Some x → CoverFits (reach_of x) next
pending-fits shown current p next leads small small' le x e =
    let l : LayerLeads None shown current (Some (reach_of x)) = subst (λ (q : Option Shift). LayerLeads None shown current (option_map reach_of q)) e leads in
    sum-fits (reach_of x) next (omega (arith, l.within, l.reaches, small, small', le))

-- by what led to the text, if anything did
pub leads-after : (shift : Option Reach) (rope : List ℕ) (shown current : Source) (pending : Option Reach) → current.folds ≡ [] → AreInlays current.text current.inlays → IsOrdered shift
    → LeadsIfAny unmoved current.text rope shift → IsOrdered pending → IsKept current shown pending
    → LayerLeads shift shown (source_after rope shift current) (with_pending pending (shift_after rope shift current))
leads-after None rope shown current pending none are order same ordered kept = leads-still rope shown current pending none same kept
leads-after (Some s) rope shown current pending none are order leads ordered kept = leads-moved s rope shown current pending none are (order s refl) leads ordered kept
