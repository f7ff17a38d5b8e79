-- One change for two in turn is true where they are.
use Rattle.std.proofs.Common.{◌≡◌, ℕ, ◌+◌, ◌-◌, ◌≤◌, Bool, true, false, cond, eqb, List, ◌++◌, length, flat_map, take, drop, min, sym, ap, ◌∙◌, refl, subst, arith, length-append, length-drop}
use Rattle.std.proofs.lemmas.Bool.{and_parts}
use Rattle.std.proofs.lemmas.Bool.Decides.{nat_tests}
use Rattle.std.proofs.lemmas.List.{drop_at, drop-drop, take-append-drop, take_at, take-take}
use Rattle.std.proofs.lemmas.List.Concat.{flat_map-append}
use Rattle.row_pieces.specs.declared.row_change.RowChange.{RowChange}
use Rattle.row_pieces.specs.Changed.{IsTrue, covering, is_nothing, last_between, rows_of_lines, rows_to}

module _ {X : Type 0} where
  -- where nothing makes place for nothing all stays
  same : (c : RowChange) (xs ys : List X) → IsTrue c xs ys → is_nothing c ≡ true → ys ≡ xs
  same c xs ys t e =
      let parts = and_parts (eqb c.from c.to) (eqb c.count 0) e in
      let from : c.from ≡ c.to = grind (arith, nat_tests, parts.0) in
      let none : c.count ≡ 0 = grind (arith, nat_tests, parts.1) in
      let at : c.from ≡ c.from + c.count = omega (arith, none) in
      let back : c.to ≡ c.from = sym from in
      sym (take-append-drop c.from ys)
      ∙ (λ i. t.before i ++ (ap (λ (n : ℕ). drop n ys) at ∙ t.after ∙ ap (λ (n : ℕ). drop n xs) back) i)
      ∙ take-append-drop c.from xs

  wide : (c d : RowChange) (old mid new : List X) → IsTrue c old mid → IsTrue d mid new →
      IsTrue (record { from = min c.from d.from; to = c.to + (last_between c d - (c.from + c.count)); count = d.from + d.count + (last_between c d - d.to) - min c.from d.from }) old new
  wide c d old mid new t u =
      let m = min c.from d.from in
      let last = last_between c d in
      let first : m ≤ c.from = omega arith in
      let second : m ≤ d.from = omega arith in
      let past_first : c.from + c.count ≤ last = omega arith in
      let past_second : d.to ≤ last = omega arith in
      let within : last ≤ length mid = omega (arith, t.within_new, u.within_old) in
      let old_rest : length mid - (c.from + c.count) ≡ length old - c.to = sym (length-drop (c.from + c.count) mid) ∙ ap length t.after ∙ length-drop c.to old in
      let new_rest : length new - (d.from + d.count) ≡ length mid - d.to = sym (length-drop (d.from + d.count) new) ∙ ap length u.after ∙ length-drop d.to mid in
      let there : m + (d.from + d.count + (last - d.to) - m) ≡ d.from + d.count + (last - d.to) = omega (arith, second) in
      let halfway : d.to + (last - d.to) ≡ c.from + c.count + (last - (c.from + c.count)) = omega (arith, past_first, past_second) in
      record {
        order = omega (arith, first, t.order);
        within_old = omega (arith, within, past_first, old_rest, t.within_old, t.within_new);
        within_new = omega (arith, there, within, past_second, new_rest, u.within_old, u.within_new);
        before =
            sym (take-take m d.from new second) ∙ ap (take m) u.before ∙ take-take m d.from mid second
            ∙ sym (take-take m c.from mid first) ∙ ap (take m) t.before ∙ take-take m c.from old first;
        after =
            ap (λ (n : ℕ). drop n new) there
            ∙ sym (drop-drop (last - d.to) (d.from + d.count) new)
            ∙ ap (drop (last - d.to)) u.after
            ∙ drop-drop (last - d.to) d.to mid
            ∙ ap (λ (n : ℕ). drop n mid) halfway
            ∙ sym (drop-drop (last - (c.from + c.count)) (c.from + c.count) mid)
            ∙ ap (drop (last - (c.from + c.count))) t.after
            ∙ drop-drop (last - (c.from + c.count)) c.to old;
      }

  pub covers : (c d : RowChange) (old mid new : List X) → IsTrue c old mid → IsTrue d mid new → IsTrue (covering c d) old new
  covers c d old mid new t u = go (is_nothing c) refl (is_nothing d) refl where
    one : RowChange
    one = record { from = min c.from d.from; to = c.to + (last_between c d - (c.from + c.count)); count = d.from + d.count + (last_between c d - d.to) - min c.from d.from }

    go : (b : Bool) → is_nothing c ≡ b → (e : Bool) → is_nothing d ≡ e → IsTrue (cond b d (cond e c one)) old new
    go true h e k = subst (λ (xs : List X). IsTrue d xs new) (same c old mid t h) u
    go false h true k = subst (λ (xs : List X). IsTrue c old xs) (sym (same d mid new u k)) t
    go false h false k = wide c d old mid new t u

  -- ---- from lines to their rows

  abbrev all : List (List X) → List X
  all lines = flat_map (λ rows. rows) lines

  halves : (k : ℕ) (lines : List (List X)) → all (take k lines) ++ all (drop k lines) ≡ all lines
  halves k lines = sym (flat_map-append (λ (rows : List X). rows) (take k lines) (drop k lines)) ∙ ap all (take-append-drop k lines)

  take-rows : (k : ℕ) (lines : List (List X)) → take (rows_to k lines) (all lines) ≡ all (take k lines)
  take-rows k lines = ap (take (rows_to k lines)) (sym (halves k lines)) ∙ take_at (all (take k lines)) (all (drop k lines)) (rows_to k lines) refl

  drop-rows : (k : ℕ) (lines : List (List X)) → drop (rows_to k lines) (all lines) ≡ all (drop k lines)
  drop-rows k lines = ap (drop (rows_to k lines)) (sym (halves k lines)) ∙ drop_at (all (take k lines)) (all (drop k lines)) (rows_to k lines) refl

  rows_to-most : (k : ℕ) (lines : List (List X)) → rows_to k lines ≤ length (all lines)
  rows_to-most k lines = omega (arith, ap length (halves k lines), length-append (all (take k lines)) (all (drop k lines)))

  rows_to-rises : (j k : ℕ) (lines : List (List X)) → j ≤ k → rows_to j lines ≤ rows_to k lines
  rows_to-rises j k lines le = omega (arith, rows_to-most j (take k lines), ap (λ (ls : List (List X)). length (all ls)) (take-take j k lines le))

  pub rows-replaced : (c : RowChange) (old new : List (List X)) → IsTrue c old new → IsTrue (rows_of_lines c old new) (all old) (all new)
  rows-replaced c old new t =
      let from : rows_to c.from new ≡ rows_to c.from old = ap (λ (ls : List (List X)). length (all ls)) t.before in
      let rises = rows_to-rises c.from (c.from + c.count) new (omega arith) in
      let behind : rows_to c.from old + (rows_to (c.from + c.count) new - rows_to c.from old) ≡ rows_to (c.from + c.count) new = omega (arith, from, rises) in
      record {
        order = rows_to-rises c.from c.to old t.order;
        within_old = rows_to-most c.to old;
        within_new = omega (arith, behind, rows_to-most (c.from + c.count) new);
        before = ap (λ (n : ℕ). take n (all new)) (sym from) ∙ take-rows c.from new ∙ ap all t.before ∙ sym (take-rows c.from old);
        after = ap (λ (n : ℕ). drop n (all new)) behind ∙ drop-rows (c.from + c.count) new ∙ ap all t.after ∙ sym (drop-rows c.to old);
      }
