-- The next stretch at another mark, by how often the mark changes.
use Rattle.std.proofs.Common.{◌≡◌, ◌≢◌, ℕ, zero, suc, ◌+◌, ◌-◌, ◌<◌, ◌≤◌, Bool, List, length, get_or, max, min, take, Option, Some, None, refl, sym, ap, subst, ◌∙◌, inl, inr, arith, add-one}
use Rattle.std.specs.List.{slice_get}
use Rattle.std.specs.Prelude.{◌==◌, if◌then◌else◌, All}
use Rattle.std.proofs.lemmas.Bool.{cases_lt, cases_Bool, eqb-false, eqb-true}
use Rattle.std.proofs.lemmas.Option.{slice_get_within, slice_get-get_or}
use Rattle.cell_units.specs.declared.place.Bias.TheVariants.{Right}
use Rattle.sum_tree.specs.Firsts.{IsFirst}
use Rattle.wrap_map.specs.Stood.{IsNextAt, IsOther, IsOtherIfAny, Stood, stood_at, unwrapped}
use Rattle.wrap_map.specs.declared.extent.Ends.{Ends}
use Rattle.wrap_map.specs.declared.extent.Extent.{Extent}
use Rattle.wrap_map.specs.inside.Extents.{extent_laws, joined_ends, joined_extents, no_extent, switch_between}
use Rattle.wrap_map.specs.inside.Stretches.{IsStretch, Stretched, extent_of, spread}
use Rattle.wrap_map.proofs.Parts.{All-at, IsAtLine, all-before, extents-next, line-high-Right, line-low, lines-next, lines-within, lines_more, lines_to, stood-in}
use Rattle.wrap_map.proofs.Spreads.{extents, lines-spread}

-- how often the mark changes before the stretch of an index
abbrev pub switches_to : List Stretched → ℕ → ℕ
switches_to ss i = (extents (take i ss)).switches

-- the first stretch whose end, in changes, is after so many
abbrev pub IsAtSwitch : List Stretched → ℕ → ℕ → Type 0
IsAtSwitch ss n i = IsFirst no_extent joined_extents extent_of (λ (t : Extent). t.switches) ss n Right i

-- the mark at the end of some stretches, 0 where there is none
abbrev mark_of : Option Ends → ℕ
mark_of None = 0
mark_of (Some e) = e.last

abbrev pub ends_of : Stretched → Ends
ends_of s = record { first = s.stood.mark; last = s.stood.mark }

pub next-is : (ss : List Stretched) (i : ℕ) (s : Stretched) → slice_get ss i ≡ Some s → extents (take (i + 1) ss) ≡ joined_extents (extents (take i ss)) (extent_of s)
next-is ss i s e =
    extents-next ss i s e ∙ ap (λ (t : Extent). joined_extents (extents (take i ss)) t) (extent_laws.right_identity (extent_of s))

pub switches-next : (ss : List Stretched) (i : ℕ) (s : Stretched) → slice_get ss i ≡ Some s
    → switches_to ss (i + 1) ≡ switches_to ss i + switch_between (extents (take i ss)).ends (Some (ends_of s))
switches-next ss i s e = ap (λ (t : Extent). t.switches) (next-is ss i s e) ∙ omega arith

joined-mark : (a : Option Ends) (b : Ends) → mark_of (joined_ends a (Some b)) ≡ b.last
joined-mark None b = refl
joined-mark (Some a) b = refl

joined-some : (a : Option Ends) (b : Ends) → (f : Ends) × (joined_ends a (Some b) ≡ Some f)
joined-some None b = (b, refl)
joined-some (Some a) b = (record { first = a.first; last = b.last }, refl)

mark-next : (ss : List Stretched) (i : ℕ) (s : Stretched) → slice_get ss i ≡ Some s → mark_of (extents (take (i + 1) ss)).ends ≡ s.stood.mark
mark-next ss i s e = ap (λ (t : Extent). mark_of t.ends) (next-is ss i s e) ∙ joined-mark (extents (take i ss)).ends (ends_of s)

-- a change is exactly where the marks differ
no-change : (a : Option Ends) (f b : Ends) → a ≡ Some f → switch_between a (Some b) ≡ 0 → mark_of a ≡ b.first
no-change None f b e z = absurd (cc)
no-change (Some a) f b e z = elim (cases_Bool (a.last == b.first)) [
  | inl same ↦ eqb-true a.last b.first same
  | inr not ↦
      let one : 1 ≡ 0 = ap (λ (c : Bool). if c then 0 else 1) (sym not) ∙ z in
      absurd (omega (arith, one))
]

a-change : (a : Option Ends) (b : Ends) → 0 < switch_between a (Some b) → mark_of a ≡ b.first → ⊥
a-change None b more same = omega arith
a-change (Some a) b more same = elim (cases_Bool (a.last == b.first)) [
  | inl is ↦
      let none : switch_between (Some a) (Some b) ≡ 0 = ap (λ (c : Bool). if c then 0 else 1) is in
      omega (arith, none)
  | inr not ↦ eqb-false a.last b.first not same
]

-- the changes don't fall
switches-more : (ss : List Stretched) (m n : ℕ) → m ≤ n → n ≤ length ss → switches_to ss m ≤ switches_to ss n
switches-more ss m zero le within =
    let z : 0 ≡ m = omega arith in
    subst (λ (k : ℕ). switches_to ss k ≤ switches_to ss 0) z (omega arith)
switches-more ss m (suc n) le within = elim (cases_lt n m) [
  | inl less ↦
      let same : suc n ≡ m = omega arith in
      subst (λ (k : ℕ). switches_to ss k ≤ switches_to ss (suc n)) same (omega arith)
  | inr more ↦
      let s = get_or ss n (record { stood = unwrapped; lines = 0 }) in
      let e = slice_get-get_or ss n (record { stood = unwrapped; lines = 0 }) (omega arith) in
      let step = switches-next ss n s e in
      let one : switches_to ss (suc n) ≡ switches_to ss (n + 1) = ap (λ (k : ℕ). switches_to ss k) (sym (add-one n)) in
      omega (arith, one, step, switches-more ss m n more (omega arith))
]

-- what holds after some stretches: the last is wrapped at the width, and so is each line of them from one on
record AreSame (ss : List Stretched) (width i m : ℕ) : Type 0 where
  last : mark_of (extents (take m ss)).ends ≡ width
  some : (f : Ends) × ((extents (take m ss)).ends ≡ Some f)
  each : (k : ℕ) → lines_to ss i ≤ k → k < lines_to ss m → (stood_at (spread ss) k).mark ≡ width

lines-step : (ss : List Stretched) (i : ℕ) (s : Stretched) → slice_get ss i ≡ Some s → lines_to ss (i + 1) ≡ lines_to ss i + s.lines
lines-step ss i s e = lines-spread (take (i + 1) ss) ∙ lines-next ss i s e

first-same : (ss : List Stretched) (width i : ℕ) (s : Stretched) → slice_get ss i ≡ Some s → s.stood.mark ≡ width → AreSame ss width i (i + 1)
first-same ss width i s e mark =
    let step = lines-step ss i s e in
    let ends = ap (λ (t : Extent). t.ends) (next-is ss i s e) in
    let f = joined-some (extents (take i ss)).ends (ends_of s) in
    record {
      last = mark-next ss i s e ∙ mark;
      some = (f.0, ends ∙ f.1);
      each = λ k low high. ap (λ (l : Stood). l.mark) (stood-in ss i k s e low (omega arith)) ∙ mark;
    }

next-same : (ss : List Stretched) (width i m : ℕ) (s : Stretched) → slice_get ss m ≡ Some s → AreSame ss width i m
    → switch_between (extents (take m ss)).ends (Some (ends_of s)) ≡ 0 → AreSame ss width i (m + 1)
next-same ss width i m s e same none =
    let mark : s.stood.mark ≡ width = sym (no-change (extents (take m ss)).ends same.some.0 (ends_of s) same.some.1 none) ∙ same.last in
    let step = lines-step ss m s e in
    let ends = ap (λ (t : Extent). t.ends) (next-is ss m s e) in
    let f = joined-some (extents (take m ss)).ends (ends_of s) in
    record {
      last = mark-next ss m s e ∙ mark;
      some = (f.0, ends ∙ f.1);
      each = λ k low high. elim (cases_lt k (lines_to ss m)) [
        | inl before ↦ same.each k low before
        | inr here ↦ ap (λ (l : Stood). l.mark) (stood-in ss m k s e here (omega arith)) ∙ mark
      ];
    }

-- up to the stretch at which the changes pass those of this one
all-same : (ss : List Stretched) (width i j d : ℕ) (s : Stretched) → slice_get ss i ≡ Some s → s.stood.mark ≡ width
    → j ≤ length ss → switches_to ss j ≤ switches_to ss (i + 1) → i + 1 + d ≤ j → AreSame ss width i (i + 1 + d)
all-same ss width i j zero s e mark within few le =
    let same : i + 1 ≡ i + 1 + 0 = omega arith in
    subst (λ (m : ℕ). AreSame ss width i m) same (first-same ss width i s e mark)
all-same ss width i j (suc d) s e mark within few le =
    let m = i + 1 + d in
    let t = get_or ss m (record { stood = unwrapped; lines = 0 }) in
    let f = slice_get-get_or ss m (record { stood = unwrapped; lines = 0 }) (omega arith) in
    let none : switch_between (extents (take m ss)).ends (Some (ends_of t)) ≡ 0 =
    omega (arith, switches-next ss m t f, switches-more ss (m + 1) j (omega arith) within, switches-more ss (i + 1) m (omega arith) (omega arith)) in
    let next : m + 1 ≡ i + 1 + suc d = omega arith in
    subst (λ (n : ℕ). AreSame ss width i n) next
    (next-same ss width i m t f (all-same ss width i j d s e mark within few (omega arith)) none)

-- the stretches from the one of the line up to the one that is found
pub found-behind : (ss : List Stretched) (i j : ℕ) (s : Stretched) → slice_get ss i ≡ Some s → IsAtSwitch ss (switches_to ss (i + 1)) j → i + 1 ≤ j
found-behind ss i j s e found = elim (cases_lt i j) [
  | inl more ↦ omega arith
  | inr le ↦
      let within = slice_get_within ss i s e in
      absurd (omega (arith, found.reaching (omega arith), switches-more ss (j + 1) (i + 1) (omega arith) (omega arith)))
]

same-to : (ss : List Stretched) (width i j : ℕ) (s : Stretched) → slice_get ss i ≡ Some s → s.stood.mark ≡ width
    → IsAtSwitch ss (switches_to ss (i + 1)) j → AreSame ss width i j
same-to ss width i j s e mark found =
    let behind = found-behind ss i j s e found in
    let end : i + 1 + (j - (i + 1)) ≡ j = omega arith in
    subst (λ (m : ℕ). AreSame ss width i m) end
    (all-same ss width i j (j - (i + 1)) s e mark found.within (found.short (omega arith)) (omega arith))

module _ (ss : List Stretched) (n width i : ℕ) (s : Stretched) (e : slice_get ss i ≡ Some s) (at : IsAtLine ss n Right i) where
  -- where the line's own stretch is at another mark
  pub other-here : (s.stood.mark ≡ width → ⊥) → IsOther (spread ss) n width n
  other-here other =
      let low = line-low Right ss n i at in
      let high = line-high-Right ss n i s e at in
      let stood = stood-in ss i n s e low high in
      record {
        order = omega arith;
        within = omega (arith, lines-within ss i s e);
        other = λ same. other (sym (ap (λ (l : Stood). l.mark) stood) ∙ same);
        before = λ k from to. absurd (omega arith);
      }

  pub other-behind : (j : ℕ) (t : Stretched) → All IsStretch ss → s.stood.mark ≡ width → IsAtSwitch ss (switches_to ss (i + 1)) j → slice_get ss j ≡ Some t
      → IsOther (spread ss) n width (lines_to ss j)
  other-behind j t each mark found f =
      let low = line-low Right ss n i at in
      let same = same-to ss width i j s e mark found in
      let some = (All-at IsStretch ss j t f each).some in
      let stood = stood-in ss j (lines_to ss j) t f (omega arith) (omega arith) in
      let more : 0 < switch_between (extents (take j ss)).ends (Some (ends_of t)) =
      omega (arith, switches-next ss j t f, found.reaching (slice_get_within ss j t f), found.short (omega (arith, found-behind ss i j s e found))) in
      record {
        order = elim (cases_lt (lines_to ss j) n) [
          | inl less ↦ absurd (omega (arith, less, line-high-Right ss n i s e at, lines-step ss i s e, lines_more ss (i + 1) j (found-behind ss i j s e found)))
          | inr le ↦ le
        ];
        within = omega (arith, lines-within ss j t f);
        other = λ is. a-change (extents (take j ss)).ends (ends_of t) more (same.last ∙ sym is ∙ ap (λ (l : Stood). l.mark) stood);
        before = λ k from to. same.each k (omega arith) to;
      }

  pub none-other : (j : ℕ) → s.stood.mark ≡ width → IsAtSwitch ss (switches_to ss (i + 1)) j → slice_get ss j ≡ None → IsOtherIfAny (spread ss) n width None
  none-other j mark found f =
      let low = line-low Right ss n i at in
      let same = same-to ss width i j s e mark found in
      let all : lines_to ss j ≡ length (spread ss) = ap (λ (l : List Stretched). length (spread l)) (all-before ss j f) in
      λ k from to. same.each k (omega arith) (omega arith)

-- past the last line
pub none-past : (ss : List Stretched) (n width i : ℕ) → slice_get ss i ≡ None → IsAtLine ss n Right i → IsOtherIfAny (spread ss) n width None
none-past ss n width i e at =
    let all : lines_to ss i ≡ length (spread ss) = ap (λ (l : List Stretched). length (spread l)) (all-before ss i e) in
    let low = line-low Right ss n i at in
    λ k from to. absurd (omega arith)

-- ---- from change to change

-- the lines from one on up to a stretch have other marks than the width, and that line is not after the stretch
pub record IsPassedTo (ss : List Stretched) (line width i : ℕ) : Type 0 where
  pub behind : (s : Stretched) → slice_get ss i ≡ Some s → line < lines_to ss i + s.lines
  pub other : (k : ℕ) → line ≤ k → k < lines_to ss i → (stood_at (spread ss) k).mark ≢ width

pub passed-first : (ss : List Stretched) (line width i : ℕ) → IsAtLine ss line Right i → IsPassedTo ss line width i
passed-first ss line width i at = record {
  behind = λ s e. line-high-Right ss line i s e at;
  other = λ k low high. absurd (omega (arith, line-low Right ss line i at));
}

module _ (ss : List Stretched) (line width i : ℕ) (s : Stretched) (each : All IsStretch ss) (e : slice_get ss i ≡ Some s)
    (passed : IsPassedTo ss line width i) where
  -- the line from which this stretch counts
  pub from-within : max (lines_to ss i) line < lines_to ss i + s.lines
  from-within = omega (arith, passed.behind s e, (All-at IsStretch ss i s e each).some)

  -- it is wrapped at the width
  pub next-here : (end : ℕ) → line < end → s.stood.mark ≡ width → IsNextAt (spread ss) line end width (min (max (lines_to ss i) line) end)
  next-here end some mark = record {
    order = omega arith;
    within = omega arith;
    before = λ k low high. passed.other k low (omega arith);
    at = λ less.
        let there : min (max (lines_to ss i) line) end ≡ max (lines_to ss i) line = omega arith in
        ap (λ (k : ℕ). (stood_at (spread ss) k).mark) there
        ∙ ap (λ (l : Stood). l.mark) (stood-in ss i (max (lines_to ss i) line) s e (omega arith) from-within) ∙ mark;
  }

  -- it has another mark, and goes on to the end
  pub next-end : (end : ℕ) → line < end → s.stood.mark ≢ width → end ≤ lines_to ss i + s.lines → IsNextAt (spread ss) line end width end
  next-end end some other reached = record {
    order = omega arith;
    within = omega arith;
    before = λ k low high. elim (cases_lt k (lines_to ss i)) [
      | inl less ↦ passed.other k low less
      | inr more ↦ λ is. other (sym (ap (λ (l : Stood). l.mark) (stood-in ss i k s e more (omega arith))) ∙ is)
    ];
    at = λ less. absurd (omega arith);
  }

  -- it has another mark, and so do all up to the next change
  pub passed-on : (j : ℕ) → s.stood.mark ≢ width → IsAtSwitch ss (switches_to ss (i + 1)) j → IsPassedTo ss line width j × (max (lines_to ss i) line < lines_to ss j)
  passed-on j other found =
      let behind = found-behind ss i j s e found in
      let step = lines-step ss i s e in
      let more = lines_more ss (i + 1) j behind in
      let same = same-to ss s.stood.mark i j s e refl found in (
        record {
          behind = λ t f. let some = (All-at IsStretch ss j t f each).some in omega (arith, from-within, step, more, some);
          other = λ k low high. elim (cases_lt k (lines_to ss i)) [
            | inl less ↦ passed.other k low less
            | inr at ↦ λ is. other (sym (same.each k at high) ∙ is)
          ];
        },
        omega (arith, from-within, step, more),
      )

-- past the last stretch
pub next-none : (ss : List Stretched) (line width i end : ℕ) → IsPassedTo ss line width i → slice_get ss i ≡ None → line < end → end ≤ length (spread ss)
    → IsNextAt (spread ss) line end width end
next-none ss line width i end passed e some within =
    let all : lines_to ss i ≡ length (spread ss) = ap (λ (l : List Stretched). length (spread l)) (all-before ss i e) in
    record {
      order = omega arith;
      within = omega arith;
      before = λ k low high. passed.other k low (omega arith);
      at = λ less. absurd (omega arith);
    }
