-- The rows of lines up to one of them, and lists of lines that are mixed of two.
use Rattle.std.proofs.Common.{◌≡◌, ℕ, zero, suc, ◌+◌, ◌-◌, ◌<◌, ◌≤◌, List, [], ◌∷◌, ◌++◌, length, take, drop, refl, ap, sym, ◌∙◌, arith, append_assoc, length-append, length-drop}
use Rattle.std.proofs.Math.Seq.{drop-append-add, drop-append_seam, take-add}
use Rattle.std.proofs.lemmas.List.{ext_get_or, get_or-drop, get_or-take, length-take-le, take-append-drop, take-append-le, take_all, take_more}
use Rattle.wrap_map.specs.Stood.{Stood, put_in, rows_in, stood_at, unwrapped}
use Rattle.wrap_map.proofs.Spreads.{lines-rows, rows-append}
use Rattle.wrap_map.proofs.Standings.{drop-add}

pub rows-next : (ls : List Stood) (k : ℕ) → k < length ls → rows_in (take (k + 1) ls) ≡ rows_in (take k ls) + (1 + length (stood_at ls k).cuts)
rows-next ls k h =
    ap rows_in (take_more ls k unwrapped h)
    ∙ rows-append (take k ls) (stood_at ls k ∷ [])
    ∙ omega arith

pub split-take : (ls : List Stood) (a b : ℕ) → a ≤ b → take b ls ≡ take a ls ++ take (b - a) (drop a ls)
split-take ls a b h = ap (λ (n : ℕ). take n ls) (let e : b ≡ a + (b - a) = omega arith in e) ∙ take-add a (b - a) ls

pub rows-span : (ls : List Stood) (a b : ℕ) → a ≤ b → b ≤ length ls → rows_in (take a ls) + (b - a) ≤ rows_in (take b ls)
rows-span ls a b order within =
    let e = ap rows_in (split-take ls a b order) ∙ rows-append (take a ls) (take (b - a) (drop a ls)) in
    let d = length-drop a ls in
    let l = length-take-le (b - a) (drop a ls) (omega (arith, d, within)) in
    let r = lines-rows (take (b - a) (drop a ls)) in
    omega (arith, e, l, r)

pub rows_rise : (ls : List Stood) (a b : ℕ) → a ≤ b → b ≤ length ls → rows_in (take a ls) ≤ rows_in (take b ls)
rows_rise ls a b order within = let h = rows-span ls a b order within in omega (arith, h)

-- both lists say the same of the lines from a up to b
abbrev pub Agree : List Stood → List Stood → ℕ → ℕ → Type 0
Agree xs ys a b = (i : ℕ) → a ≤ i → i < b → stood_at xs i ≡ stood_at ys i

pub agree-part : (xs ys : List Stood) (a b : ℕ) → a ≤ b → b ≤ length xs → b ≤ length ys → Agree xs ys a b
    → take (b - a) (drop a xs) ≡ take (b - a) (drop a ys)
agree-part xs ys a b order x y same =
    let dx = length-drop a xs in
    let dy = length-drop a ys in
    let lx = length-take-le (b - a) (drop a xs) (omega (arith, dx, x)) in
    let ly = length-take-le (b - a) (drop a ys) (omega (arith, dy, y)) in
    ext_get_or unwrapped (take (b - a) (drop a xs)) (take (b - a) (drop a ys)) (lx ∙ sym ly)
    (λ i h. let k : i < b - a = omega (arith, lx, h) in
    get_or-take (b - a) (drop a xs) i unwrapped k ∙ get_or-drop a xs i unwrapped
    ∙ same (a + i) (omega arith) (omega arith)
    ∙ sym (get_or-take (b - a) (drop a ys) i unwrapped k ∙ get_or-drop a ys i unwrapped))

-- between a and b both lists have the same rows
pub rows-agree : (xs ys : List Stood) (a b : ℕ) → a ≤ b → b ≤ length xs → b ≤ length ys → Agree xs ys a b
    → rows_in (take b xs) + rows_in (take a ys) ≡ rows_in (take b ys) + rows_in (take a xs)
rows-agree xs ys a b order x y same =
    let ex = ap rows_in (split-take xs a b order) ∙ rows-append (take a xs) (take (b - a) (drop a xs)) in
    let ey = ap rows_in (split-take ys a b order) ∙ rows-append (take a ys) (take (b - a) (drop a ys)) in
    let e = ap rows_in (agree-part xs ys a b order x y same) in
    omega (arith, ex, ey, e)

-- ---- the second list up to a line, and the first from it on

abbrev pub mixed : List Stood → List Stood → ℕ → List Stood
mixed xs ys d = take d ys ++ drop d xs

take-take : (s d : ℕ) (ls : List Stood) → s ≤ d → take s (take d ls) ≡ take s ls
take-take zero d ls h = refl
take-take (suc s) zero ls h = absurd (omega arith)
take-take (suc s) (suc d) [] h = refl
take-take (suc s) (suc d) (l ∷ ls) h = ap (λ ks. l ∷ ks) (take-take s d ls (omega arith))

pub take-mixed : (xs ys : List Stood) (s d : ℕ) → s ≤ d → d ≤ length ys → take s (mixed xs ys d) ≡ take s ys
take-mixed xs ys s d h y =
    let l = length-take-le d ys y in
    take-append-le s (take d ys) (drop d xs) (omega (arith, l)) ∙ take-take s d ys h

pub drop-mixed : (xs ys : List Stood) (d e : ℕ) → d ≤ e → d ≤ length ys → drop e (mixed xs ys d) ≡ drop e xs
drop-mixed xs ys d e h y =
    let l = length-take-le d ys y in
    ap (λ (n : ℕ). drop n (mixed xs ys d)) (let q : e ≡ length (take d ys) + (e - d) = omega (arith, l) in q)
    ∙ drop-append-add (take d ys) (drop d xs) (e - d)
    ∙ drop-add (e - d) d xs
    ∙ ap (λ (n : ℕ). drop n xs) (omega arith)

pub mixed-on : (xs ys : List Stood) (d s : ℕ) → d ≤ s → s ≤ length xs → s ≤ length ys → Agree xs ys d s → mixed xs ys d ≡ mixed xs ys s
mixed-on xs ys d s h x y same =
    ap (λ ls. take d ys ++ ls) (sym (take-append-drop (s - d) (drop d xs))
    ∙ ap (λ ls. ls ++ drop (s - d) (drop d xs)) (agree-part xs ys d s h x y same)
    ∙ ap (λ ls. take (s - d) (drop d ys) ++ ls) (drop-add (s - d) d xs ∙ ap (λ (n : ℕ). drop n xs) (let q : d + (s - d) ≡ s = omega arith in q)))
    ∙ sym (append_assoc (take d ys) (take (s - d) (drop d ys)) (drop s xs))
    ∙ ap (λ ls. ls ++ drop s xs) (sym (split-take ys d s h))

pub length-mixed : (xs ys : List Stood) (d : ℕ) → d ≤ length ys → length ys ≡ length xs → length (mixed xs ys d) ≡ length xs
length-mixed xs ys d h e =
    let a = length-append (take d ys) (drop d xs) in
    let b = length-take-le d ys h in
    let c = length-drop d xs in
    omega (arith, a, b, c, e)

-- ---- a group put in the place of as many lines

pub rows-parts : (d : ℕ) (ls : List Stood) → rows_in ls ≡ rows_in (take d ls) + rows_in (drop d ls)
rows-parts d ls = ap rows_in (sym (take-append-drop d ls)) ∙ rows-append (take d ls) (drop d ls)

-- the rows before the group's start and its end, and after it, in the lines before any landed, just before it and after
-- it
pub record AreRound (before lines after : List Stood) (start end : ℕ) : Type 0 where
  pub behind : ℕ
  pub first : rows_in before ≡ rows_in (take end before) + behind
  pub all : rows_in lines ≡ rows_in (take end lines) + behind
  pub now : rows_in after ≡ rows_in (take end after) + behind
  pub group : rows_in (take end before) + rows_in (take start lines) ≡ rows_in (take end lines) + rows_in (take start before)
  pub order : rows_in (take start lines) ≤ rows_in (take end lines)
  pub start_is : rows_in (take start after) ≡ rows_in (take start lines)

pub group-round : (before lines fresh : List Stood) (start end : ℕ) → drop start lines ≡ drop start before → start + length fresh ≡ end → end ≤ length lines
    → AreRound before lines (put_in start end fresh lines) start end
group-round before lines fresh start end same long within =
    let after = put_in start end fresh lines in
    let k = end - start in
    let e : end ≡ start + k = omega arith in
    let front = length-take-le start lines (omega arith) in
    let reach : length (take start lines ++ fresh) ≡ end = let h = length-append (take start lines) fresh in omega (arith, h, front, long) in
    let over : drop end lines ≡ drop end before =
    ap (λ (n : ℕ). drop n lines) e ∙ sym (drop-add k start lines) ∙ ap (drop k) same ∙ drop-add k start before ∙ ap (λ (n : ℕ). drop n before) (sym e) in
    let rest : drop end after ≡ drop end lines = ap (λ (n : ℕ). drop n after) (sym reach) ∙ drop-append_seam (take start lines ++ fresh) (drop end lines) in
    let old-span = ap rows_in (split-take before start end (omega arith)) ∙ rows-append (take start before) (take k (drop start before)) in
    let span = ap rows_in (split-take lines start end (omega arith)) ∙ rows-append (take start lines) (take k (drop start lines)) in
    let inside = ap (λ (ls : List Stood). rows_in (take k ls)) same in
    record {
      behind = rows_in (drop end lines);
      first = rows-parts end before ∙ ap (λ (ls : List Stood). rows_in (take end before) + rows_in ls) (sym over);
      all = rows-parts end lines;
      now = rows-parts end after ∙ ap (λ (ls : List Stood). rows_in (take end after) + rows_in ls) rest;
      group = omega (arith, old-span, span, inside);
      order = rows_rise lines start end (omega arith) within;
      start_is = ap rows_in
          (take-append-le start (take start lines ++ fresh) (drop end lines) (omega (arith, reach))
          ∙ take-append-le start (take start lines) fresh (omega (arith, front))
          ∙ take_all start (take start lines) (omega (arith, front)));
    }
