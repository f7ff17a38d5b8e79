-- Groups of lines that landed, put in place one after the other.
use Rattle.std.proofs.Common.{◌≡◌, ⊎_elim, ℕ, ◌+◌, ◌<◌, ◌≤◌, ◌==◌, Bool, true, false, cond, List, [], ◌∷◌, ◌++◌, length, take, drop, Option, Some, None, refl, ap, sym, subst, ◌∙◌, arith, length-append, length-drop}
use Rattle.std.proofs.Math.Seq.{drop-cons, take-add}
use Rattle.std.proofs.lemmas.Bool.{cases_eq, cases_lt, cond-true, cond-false, eq-eqb, ne_eqb}
use Rattle.std.proofs.lemmas.List.{append-nil, drop_all, get_or-drop, take_all, take_more}
use Rattle.edit_patch.specs.declared.edit.Edit.{Edit}
use Rattle.edit_patch.specs.Came.{origin_of}
use Rattle.edit_patch.specs.Patch.{IsNext}
use Rattle.wrap_map.specs.Stood.{Stood, rows_in, stood_at, unwrapped}
use Rattle.wrap_map.specs.inside.Landings.{Landings, closed, closed_if_any, edit_between, end_of, taken, with_group}
use Rattle.wrap_map.proofs.Edits.{AreEditsTo, Follow, edits-kept, edits-new, edits-push, follow-push, gap_behind, no_edits, push-rest}
use Rattle.wrap_map.proofs.StoodRows.{drop-mixed, mixed, mixed-on, rows-agree, rows-next, rows-span, take-mixed}

-- the same lines before and after, of which some landed, and the others are wrapped as they were
pub record IsPlan (before after : List Stood) (landed : ℕ → Bool) : Type 0 where
  pub same_long : length after ≡ length before
  pub kept : (i : ℕ) → landed i ≡ false → stood_at before i ≡ stood_at after i

-- where a row of a line came from
abbrev pub row_from : List Stood → (ℕ → Bool) → ℕ → ℕ → Option ℕ
row_from before landed line k = cond (landed line) None (Some (rows_in (take line before) + k))

-- all that lands up to a line is in place, and the edits are those of its rows
pub record IsDoneTo (before after : List Stood) (landed : ℕ → Bool) (lines : List Stood) (edits : List Edit) (done : ℕ) : Type 0 where
  pub lines_are : lines ≡ mixed before after done
  pub within : done ≤ length before
  pub edits_to : AreEditsTo edits (rows_in (take done before)) (rows_in (take done after))
  pub came : (rest : List Edit) (line k : ℕ) → Follow edits (rows_in (take done before)) (rows_in (take done after)) rest
      → line < done → k < 1 + length (stood_at after line).cuts
      → origin_of (edits ++ rest) (rows_in (take line after) + k) ≡ row_from before landed line k

-- and the open group has the lines that land from its start on, after a line that is kept
pub record IsOpen (before after : List Stood) (landed : ℕ → Bool) (l : Landings) (done : ℕ) : Type 0 where
  pub done_to : IsDoneTo before after landed l.lines l.edits done
  pub gap : done + gap_behind l.edits ≤ l.start
  pub within : end_of l ≤ length before
  pub kept : (i : ℕ) → done ≤ i → i < l.start → landed i ≡ false
  pub group : l.fresh ≡ take (length l.fresh) (drop l.start after)
  pub landed_is : (i : ℕ) → l.start ≤ i → i < end_of l → landed i ≡ true

-- ---- a group is closed

-- with the group in place all that lands up to its end is
pub group-mixed : (before after : List Stood) (landed : ℕ → Bool) (l : Landings) (done : ℕ) → IsPlan before after landed
    → IsOpen before after landed l done → with_group l ≡ mixed before after (end_of l)
group-mixed before after landed l done plan o =
    let same = plan.same_long in
    let gap = o.gap in let within = o.within in
    let done-is : l.lines ≡ mixed before after l.start =
    o.done_to.lines_are ∙ mixed-on before after done l.start (omega arith) (omega arith) (omega arith) (λ i a b. plan.kept i (o.kept i a b)) in
    ap (λ ls. take l.start ls ++ l.fresh ++ drop (end_of l) ls) done-is
    ∙ ap (λ ls. ls ++ l.fresh ++ drop (end_of l) (mixed before after l.start)) (take-mixed before after l.start l.start (omega arith) (omega arith))
    ∙ ap (λ ls. take l.start after ++ ls ++ drop (end_of l) (mixed before after l.start)) o.group
    ∙ ap (λ ls. take l.start after ++ take (length l.fresh) (drop l.start after) ++ ls) (drop-mixed before after l.start (end_of l) (omega arith) (omega arith))
    ∙ ap (λ ls. ls ++ drop (end_of l) before) (sym (take-add l.start (length l.fresh) after))

-- the edit of a group, by the rows before and after it
pub group-edit : (before after : List Stood) (landed : ℕ → Bool) (l : Landings) (done : ℕ) → IsPlan before after landed
    → IsOpen before after landed l done → edit_between before (with_group l) l.start (end_of l) ≡ edit_between before after l.start (end_of l)
group-edit before after landed l done plan o =
    let same = plan.same_long in let within = o.within in
    let e = group-mixed before after landed l done plan o in
    let a : take l.start (with_group l) ≡ take l.start after =
    ap (take l.start) e ∙ take-mixed before after l.start (end_of l) (omega arith) (omega arith) in
    let b : take (end_of l) (with_group l) ≡ take (end_of l) after =
    ap (take (end_of l)) e ∙ take-mixed before after (end_of l) (end_of l) (omega arith) (omega arith) in
    λ i. record {
      old_start = rows_in (take l.start before);
      old_end = rows_in (take (end_of l) before);
      new_start = rows_in (a i);
      new_end = rows_in (b i);
    }

-- the edit may follow
pub group-next : (before after : List Stood) (landed : ℕ → Bool) (l : Landings) (done : ℕ) → IsPlan before after landed
    → IsOpen before after landed l done → 1 ≤ length l.fresh
    → IsNext (gap_behind l.edits) (rows_in (take done before)) (rows_in (take done after)) (edit_between before after l.start (end_of l))
group-next before after landed l done plan o some =
    let same = plan.same_long in
    let gap = o.gap in let within = o.within in
    let kept-rows = rows-agree before after done l.start (omega arith) (omega arith) (omega arith) (λ i a b. plan.kept i (o.kept i a b)) in
    let span = rows-span before done l.start (omega arith) (omega arith) in
    let old = rows-span before l.start (end_of l) (omega arith) within in
    let new = rows-span after l.start (end_of l) (omega arith) (omega arith) in
    record {
      kept = omega (arith, gap, span);
      even = omega (arith, kept-rows);
      old_order = omega (arith, old);
      new_order = omega (arith, new);
      some = omega (arith, old, new, some);
    }

-- where a row of a line came from, as far as the line is before the end of a group
came-closed : (before after : List Stood) (landed : ℕ → Bool) (l : Landings) (done : ℕ) → IsPlan before after landed
    → IsOpen before after landed l done → 1 ≤ length l.fresh → (e : Edit) → e ≡ edit_between before after l.start (end_of l)
    → (rest : List Edit) (line k : ℕ) → Follow (l.edits ++ e ∷ []) e.old_end e.new_end rest
    → line < end_of l → k < 1 + length (stood_at after line).cuts
    → origin_of (l.edits ++ e ∷ [] ++ rest) (rows_in (take line after) + k) ≡ row_from before landed line k
came-closed before after landed l done plan o some e e-is rest line k f h kh =
    let d = o.done_to in
    let same = plan.same_long in
    let gap = o.gap in let within = o.within in
    let ro = rows_in (take done before) in
    let rn = rows_in (take done after) in
    let next : IsNext (gap_behind l.edits) ro rn e = subst (IsNext (gap_behind l.edits) ro rn) (sym e-is) (group-next before after landed l done plan o some) in
    let new_start : e.new_start ≡ rows_in (take l.start after) = ap (λ (x : Edit). x.new_start) e-is in
    let new_end : e.new_end ≡ rows_in (take (end_of l) after) = ap (λ (x : Edit). x.new_end) e-is in
    let here = rows-next after line (omega arith) in
    let i = rows_in (take line after) + k in
    ⊎_elim
    (λ (a : line < done). ap (λ (xs : List Edit). origin_of xs i) (push-rest l.edits e rest)
    ∙ d.came (e ∷ rest) line k (follow-push l.edits ro rn e rest next f) a kh)
    (λ (a : done ≤ line). ⊎_elim
    (λ (b : line < l.start).
    let upto = rows-span after done line a (omega arith) in
    let past = rows-span after (line + 1) l.start (omega arith) (omega arith) in
    let even = rows-agree before after done line a (omega arith) (omega arith) (λ j p q. plan.kept j (o.kept j p (omega arith))) in
    edits-kept l.edits ro rn e rest i d.edits_to next f (omega (arith, upto)) (omega (arith, here, past, new_start, kh))
    ∙ ap Some (omega (arith, even, upto))
    ∙ sym (cond-false (landed line) None (Some (rows_in (take line before) + k)) (o.kept line a b)))
    (λ (b : l.start ≤ line).
    let upto = rows-span after l.start line b (omega arith) in
    let past = rows-span after (line + 1) (end_of l) (omega arith) (omega arith) in
    edits-new l.edits ro rn e rest i d.edits_to next f (omega (arith, upto, new_start)) (omega (arith, here, past, new_end, kh))
    ∙ sym (cond-true (landed line) None (Some (rows_in (take line before) + k)) (o.landed_is line b h)))
    (cases_lt line l.start))
    (cases_lt line done)

pub closed-done : (before after : List Stood) (landed : ℕ → Bool) (l : Landings) (done : ℕ) → IsPlan before after landed
    → IsOpen before after landed l done → 1 ≤ length l.fresh
    → IsDoneTo before after landed (closed before l).lines (closed before l).edits (end_of l)
closed-done before after landed l done plan o some =
    let e = edit_between before (with_group l) l.start (end_of l) in
    let e-is = group-edit before after landed l done plan o in
    let ro = rows_in (take done before) in
    let rn = rows_in (take done after) in
    let next : IsNext (gap_behind l.edits) ro rn e = subst (IsNext (gap_behind l.edits) ro rn) (sym e-is) (group-next before after landed l done plan o some) in
    let new_end : e.new_end ≡ rows_in (take (end_of l) after) = ap (λ (x : Edit). x.new_end) e-is in
    let edits = l.edits ++ e ∷ [] in
    let old = rows_in (take (end_of l) before) in
    record {
      lines_are = group-mixed before after landed l done plan o;
      within = o.within;
      edits_to = subst (λ (n : ℕ). AreEditsTo edits old n) new_end (edits-push l.edits ro rn e o.done_to.edits_to next);
      came = λ rest line k f h kh. came-closed before after landed l done plan o some e e-is rest line k
          (subst (λ (n : ℕ). Follow edits old n rest) (sym new_end) f) h kh;
    }

-- ---- another line lands

pub open-first : (before after : List Stood) (landed : ℕ → Bool)
    → IsOpen before after landed (record { lines = before; edits = []; start = 0; fresh = [] }) 0
open-first before after landed = record {
  done_to = record {
    lines_are = refl;
    within = omega arith;
    edits_to = no_edits;
    came = λ rest line k f h kh. absurd (omega arith);
  };
  gap = omega arith;
  within = omega arith;
  kept = λ i a b. absurd (omega arith);
  group = refl;
  landed_is = λ i a b. absurd (omega arith);
}

-- as the next of the open group
open-next : (before after : List Stood) (landed : ℕ → Bool) (l : Landings) (done line : ℕ) (stood : Stood) → IsPlan before after landed
    → IsOpen before after landed l done → line ≡ end_of l → line < length before → landed line ≡ true → stood ≡ stood_at after line
    → IsOpen before after landed (record l { fresh = l.fresh ++ stood ∷ [] }) done
open-next before after landed l done line stood plan o line-is within here stood-is =
    let same = plan.same_long in
    let n = length l.fresh in
    let more = length-append l.fresh (stood ∷ []) in
    let rest = length-drop l.start after in
    record {
      done_to = o.done_to;
      gap = o.gap;
      within = omega (arith, more, line-is, within);
      kept = o.kept;
      group =
          ap (λ ls. ls ++ stood ∷ []) o.group
          ∙ ap (λ (x : Stood). take n (drop l.start after) ++ x ∷ []) (stood-is ∙ ap (stood_at after) line-is ∙ sym (get_or-drop l.start after n unwrapped))
          ∙ sym (take_more (drop l.start after) n unwrapped (omega (arith, rest, same, line-is, within)))
          ∙ ap (λ (m : ℕ). take m (drop l.start after)) (let e : n + 1 ≡ length (l.fresh ++ stood ∷ []) = omega (arith, more) in e);
      landed_is = λ i a b. ⊎_elim (λ q. o.landed_is i a q)
          (λ q. let e : line ≡ i = omega (arith, more, line-is) in subst (λ (j : ℕ). landed j ≡ true) e here) (cases_lt i (end_of l));
    }

-- as the first of another group
open-anew : (before after : List Stood) (landed : ℕ → Bool) (lines : List Stood) (edits : List Edit) (done line : ℕ) (stood : Stood)
    → IsPlan before after landed → IsDoneTo before after landed lines edits done → done + gap_behind edits ≤ line → line < length before
    → ((i : ℕ) → done ≤ i → i < line → landed i ≡ false) → landed line ≡ true → stood ≡ stood_at after line
    → IsOpen before after landed (record { lines = lines; edits = edits; start = line; fresh = stood ∷ [] }) done
open-anew before after landed lines edits done line stood plan d gap within kept here stood-is =
    let same = plan.same_long in
    record {
      done_to = d;
      gap = gap;
      within = omega arith;
      kept = kept;
      group = sym (ap (take 1) (drop-cons after line unwrapped (omega arith)) ∙ ap (λ (x : Stood). x ∷ []) (sym stood-is));
      landed_is = λ i a b. let e : line ≡ i = omega arith in subst (λ (j : ℕ). landed j ≡ true) e here;
    }

pub taken-open : (before after : List Stood) (landed : ℕ → Bool) (l : Landings) (done line : ℕ) (stood : Stood) → IsPlan before after landed
    → IsOpen before after landed l done → end_of l ≤ line → line < length before
    → ((i : ℕ) → end_of l ≤ i → i < line → landed i ≡ false) → landed line ≡ true → stood ≡ stood_at after line
    → (d : ℕ) × IsOpen before after landed (taken before line stood l) d
taken-open before after landed l done line stood plan o order within kept here stood-is =
    let Goal : Landings → Type 0 = λ x. (d : ℕ) × IsOpen before after landed x d in
    let next : Landings = record l { fresh = l.fresh ++ stood ∷ [] } in
    let anew : Landings → Landings = λ x. record x { start = line; fresh = stood ∷ [] } in
    ⊎_elim
    (λ (e : line ≡ end_of l). subst Goal (sym (cond-true (line == end_of l) next (anew (closed_if_any before l)) (eq-eqb line (end_of l) e)))
    (done, open-next before after landed l done line stood plan o e within here stood-is))
    (λ (ne : line ≡ end_of l → ⊥). subst Goal (sym (cond-false (line == end_of l) next (anew (closed_if_any before l)) (ne_eqb line (end_of l) ne)))
    (⊎_elim
    (λ (z : length l.fresh ≡ 0). subst (λ (x : Landings). Goal (anew x)) (sym (cond-true (length l.fresh == 0) l (closed before l) (eq-eqb (length l.fresh) 0 z))) (
      done,
      open-anew before after landed l.lines l.edits done line stood plan o.done_to (let gap = o.gap in omega arith) within
          (λ i a b. ⊎_elim (λ q. o.kept i a q) (λ q. kept i (omega arith) b) (cases_lt i l.start)) here stood-is,
    ))
    (λ (nz : length l.fresh ≡ 0 → ⊥). subst (λ (x : Landings). Goal (anew x)) (sym (cond-false (length l.fresh == 0) l (closed before l) (ne_eqb (length l.fresh) 0 nz))) (
      end_of l,
      open-anew before after landed (closed before l).lines (closed before l).edits (end_of l) line stood plan
          (closed-done before after landed l done plan o (omega arith))
          (let most : gap_behind (closed before l).edits ≤ 1 = omega arith in omega arith) within kept here stood-is,
    ))
    (cases_eq (length l.fresh) 0)))
    (cases_eq line (end_of l))

-- ---- all have landed

-- what is left is closed
pub finished-done : (before after : List Stood) (landed : ℕ → Bool) (l : Landings) (done : ℕ) → IsPlan before after landed
    → IsOpen before after landed l done → ((i : ℕ) → end_of l ≤ i → landed i ≡ false)
    → (d : ℕ) × (IsDoneTo before after landed (closed_if_any before l).lines (closed_if_any before l).edits d) × ((i : ℕ) → d ≤ i → landed i ≡ false)
finished-done before after landed l done plan o none =
    let Goal : Landings → Type 0 = λ x. (d : ℕ) × (IsDoneTo before after landed x.lines x.edits d) × ((i : ℕ) → d ≤ i → landed i ≡ false) in
    ⊎_elim
    (λ (z : length l.fresh ≡ 0). subst Goal (sym (cond-true (length l.fresh == 0) l (closed before l) (eq-eqb (length l.fresh) 0 z)))
    (done, o.done_to, (λ i a. ⊎_elim (λ q. o.kept i a q) (λ q. none i (omega arith)) (cases_lt i l.start))))
    (λ (nz : length l.fresh ≡ 0 → ⊥). subst Goal (sym (cond-false (length l.fresh == 0) l (closed before l) (ne_eqb (length l.fresh) 0 nz)))
    (end_of l, closed-done before after landed l done plan o (omega arith), none))
    (cases_eq (length l.fresh) 0)

pub all-done : (before after : List Stood) (landed : ℕ → Bool) (lines : List Stood) (edits : List Edit) (done : ℕ) → IsPlan before after landed
    → IsDoneTo before after landed lines edits done → ((i : ℕ) → done ≤ i → landed i ≡ false) → lines ≡ after
all-done before after landed lines edits done plan d none =
    let same = plan.same_long in
    let within = d.within in
    let n = length before in
    d.lines_are
    ∙ mixed-on before after done n within (omega arith) (omega arith) (λ i a b. plan.kept i (none i a))
    ∙ ap (λ ls. take n after ++ ls) (drop_all n before (omega arith))
    ∙ append-nil (take n after)
    ∙ take_all n after (omega arith)

-- all lines that land keep their number of lines, and their rows are those of the plan or of the lines before
pub all-came : (before after : List Stood) (landed : ℕ → Bool) (lines : List Stood) (edits : List Edit) (done line k : ℕ) → IsPlan before after landed
    → IsDoneTo before after landed lines edits done → ((i : ℕ) → done ≤ i → landed i ≡ false)
    → line < length after → k < 1 + length (stood_at after line).cuts
    → origin_of edits (rows_in (take line after) + k) ≡ row_from before landed line k
all-came before after landed lines edits done line k plan d none within kh =
    let same = plan.same_long in
    let i = rows_in (take line after) + k in
    let whole : origin_of edits i ≡ origin_of (edits ++ []) i = ap (λ (xs : List Edit). origin_of xs i) (sym (append-nil edits)) in
    ⊎_elim
    (λ a. whole ∙ d.came [] line k tt a kh)
    (λ a.
    let even = rows-agree before after done line a (omega arith) (omega arith) (λ j p q. plan.kept j (none j p)) in
    let upto = rows-span after done line a (omega arith) in
    whole ∙ d.edits_to.behind [] i tt (omega (arith, upto))
    ∙ ap Some (omega (arith, even, upto))
    ∙ sym (cond-false (landed line) None (Some (rows_in (take line before) + k)) (none line a)))
    (cases_lt line done)
