-- A run of elements of one piece is joined to that piece.
use Rattle.std.proofs.Common.{◌≡◌, ℕ, ◌+◌, ◌-◌, ◌<◌, ◌≤◌, zero, suc, Bool, true, false, cond, List, [], ◌∷◌, ◌++◌, length, map, take, drop, get_or, slice_range, refl, sym, ap, ◌∙◌, arith, append-nil}
use Rattle.std.proofs.lemmas.List.{drop-drop, drop-map, drop_more, get_or-drop, get_or-map, length-drop, take-append-drop}
use Rattle.std.proofs.lemmas.List.Concat.{flat_map-append}
use Rattle.std.proofs.lemmas.List.Sums.{sum_by-append}
use Rattle.row_pieces.specs.declared.row_piece.RowPiece.{RowPiece}
use Rattle.row_pieces.specs.declared.row_piece.RowPieceKind.{RowPieceKind}
use Rattle.row_pieces.specs.declared.row_piece.RowPieceKind.TheVariants.{Indent}
use Rattle.row_pieces.specs.Pieces.{cells_in, is_one, joined, merged, piece_before, text_of}
use Rattle.row_pieces.specs.inside.Runs.{IsRunEnd, kind_of, whole}
use Rattle.row_pieces.proofs.PieceTexts.{cells-cons}

-- ---- what the whole of a run has

whole-kind : (p : RowPiece) (qs : List RowPiece) → (whole p qs).kind ≡ p.kind
whole-kind p [] = refl
whole-kind p (q ∷ qs) = refl

-- the end of the last
abbrev pub last_end : RowPiece → List RowPiece → ℕ
last_end p [] = p.end
last_end p (q ∷ qs) = last_end q qs

pub last_end-more : (p : RowPiece) (qs : List RowPiece) (q : RowPiece) → last_end p (qs ++ q ∷ []) ≡ q.end
last_end-more p [] q = refl
last_end-more p (x ∷ xs) q = last_end-more x xs q

abbrev pub parts_of : RowPiece → List RowPiece → RowPiece
parts_of p qs = record { kind = p.kind; text = p.text ++ text_of qs; cells = p.cells + cells_in qs; start = p.start; end = last_end p qs }

pub whole-is : (p : RowPiece) (qs : List RowPiece) → whole p qs ≡ parts_of p qs
whole-is p [] =
    let cells : p.cells ≡ p.cells + cells_in [] = omega arith in
    λ i. record { kind = p.kind; text = sym (append-nil p.text) i; cells = cells i; start = p.start; end = p.end }
whole-is p (q ∷ qs) =
    let cells : p.cells + (q.cells + cells_in qs) ≡ p.cells + cells_in (q ∷ qs) = omega (arith, cells-cons q qs) in
    ap (merged p) (whole-is q qs)
    ∙ (λ i. record { kind = p.kind; text = p.text ++ (q.text ++ text_of qs); cells = cells i; start = p.start; end = last_end q qs })

-- ---- a run, and the rest after it

abbrev AreOne : RowPiece → List RowPiece → Type 0
AreOne u [] = Unit {0}
AreOne u (v ∷ vs) = (is_one u.kind v.kind ≡ true) × AreOne v vs

abbrev last_kind : RowPiece → List RowPiece → RowPieceKind
last_kind u [] = u.kind
last_kind u (v ∷ vs) = last_kind v vs

abbrev IsSeam : RowPieceKind → List RowPiece → Type 0
IsSeam k [] = Unit {0}
IsSeam k (r ∷ rs) = is_one k r.kind ≡ false

-- joined elements begin with a piece of the first one's kind
record Begins (r : RowPiece) (rs : List RowPiece) : Type 0 where
  head : RowPiece
  rest : List RowPiece
  are : joined (r ∷ rs) ≡ head ∷ rest
  kind : head.kind ≡ r.kind

begins : (r : RowPiece) (rs : List RowPiece) → Begins r rs
begins r rs = go (joined rs) refl where
  go : (js : List RowPiece) → joined rs ≡ js → Begins r rs
  go [] e = record { head = r; rest = []; are = ap (piece_before r) e; kind = refl }
  go (q ∷ qs) e = by (is_one r.kind q.kind) refl where
    by : (b : Bool) → is_one r.kind q.kind ≡ b → Begins r rs
    by true k = record { head = merged r q; rest = qs; are = ap (piece_before r) e ∙ ap (λ (b : Bool). cond b (merged r q ∷ qs) (r ∷ q ∷ qs)) k; kind = refl }
    by false k = record { head = r; rest = q ∷ qs; are = ap (piece_before r) e ∙ ap (λ (b : Bool). cond b (merged r q ∷ qs) (r ∷ q ∷ qs)) k; kind = refl }

run-first : (u : RowPiece) (us rest : List RowPiece) → AreOne u us → IsSeam (last_kind u us) rest → joined (u ∷ (us ++ rest)) ≡ whole u us ∷ joined rest
run-first u [] [] one seam = refl
run-first u [] (r ∷ rs) one seam =
    let b = begins r rs in
    let apart : is_one u.kind b.head.kind ≡ false = ap (is_one u.kind) b.kind ∙ seam in
    ap (piece_before u) b.are
    ∙ ap (λ (c : Bool). cond c (merged u b.head ∷ b.rest) (u ∷ b.head ∷ b.rest)) apart
    ∙ ap (λ (l : List RowPiece). u ∷ l) (sym b.are)
run-first u (v ∷ vs) rest one seam =
    let same : is_one u.kind (whole v vs).kind ≡ true = ap (is_one u.kind) (whole-kind v vs) ∙ one.0 in
    ap (piece_before u) (run-first v vs rest one.1 seam)
    ∙ ap (λ (c : Bool). cond c (merged u (whole v vs) ∷ joined rest) (u ∷ whole v vs ∷ joined rest)) same

-- ---- runs by their places

one-run : (u : RowPiece) (ys : List RowPiece) (n : ℕ) → n ≤ length ys →
    ((k : ℕ) → k < n → is_one (kind_of (u ∷ ys) k) (kind_of (u ∷ ys) (suc k)) ≡ true) → AreOne u (take n ys)
one-run u ys zero le h = tt
one-run u [] (suc n) le h = absurd (omega (arith, le))
one-run u (y ∷ ys) (suc n) le h = (h 0 (omega arith), one-run y ys n (omega (arith, le)) (λ k lt. h (suc k) (omega (arith, lt))))

seam-after : (u : RowPiece) (ys : List RowPiece) (n : ℕ) → n ≤ length ys →
    (n < length ys → is_one (kind_of (u ∷ ys) n) (kind_of (u ∷ ys) (suc n)) ≡ false) → IsSeam (last_kind u (take n ys)) (drop n ys)
seam-after u [] zero le h = tt
seam-after u (y ∷ ys) zero le h = h (omega arith)
seam-after u [] (suc n) le h = absurd (omega (arith, le))
seam-after u (y ∷ ys) (suc n) le h = seam-after y ys n (omega (arith, le)) (λ lt. h (omega (arith, lt)))

kind-from : (bits : List RowPiece) (start k : ℕ) → kind_of (drop start bits) k ≡ kind_of bits (start + k)
kind-from bits start k =
    ap (λ (l : List RowPieceKind). get_or l k Indent) (sym (drop-map (λ (b : RowPiece). b.kind) start bits))
    ∙ get_or-drop start (map (λ (b : RowPiece). b.kind) bits) k Indent

-- the run that begins at a place is joined to one piece, before what the rest is joined to
pub run-joined : (bits : List RowPiece) (start end : ℕ) (u : RowPiece) → start < length bits → u ≡ get_or bits start u → IsRunEnd bits start end →
    joined (drop start bits) ≡ whole u (slice_range bits (start + 1) end) ∷ joined (drop end bits)
run-joined bits start end u lt is r =
    let ys = drop (start + 1) bits in
    let n = end - (start + 1) in
    let all : drop start bits ≡ u ∷ ys = drop_more bits start u lt ∙ ap (λ (x : RowPiece). x ∷ ys) (sym is) in
    let some = r.some in
    let within = r.within in
    let few : n ≤ length ys = omega (arith, some, within, length-drop (start + 1) bits) in
    let rest : drop n ys ≡ drop end bits = drop-drop n (start + 1) bits ∙ ap (λ (k : ℕ). drop k bits) (let e : start + 1 + n ≡ end = omega (arith, some) in e) in
    let kinds : (k : ℕ) → kind_of (u ∷ ys) k ≡ kind_of bits (start + k) = λ k. ap (λ (l : List RowPiece). kind_of l k) (sym all) ∙ kind-from bits start k in
    let pair : (k : ℕ) → is_one (kind_of (u ∷ ys) k) (kind_of (u ∷ ys) (suc k)) ≡ is_one (kind_of bits (start + suc k - 1)) (kind_of bits (start + suc k)) =
    λ k. (λ i. is_one (kinds k i) (kinds (suc k) i)) ∙ ap (λ (j : ℕ). is_one (kind_of bits j) (kind_of bits (start + suc k))) (let e : start + k ≡ start + suc k - 1 = omega arith in e) in
    let one = one-run u ys n few (λ k l. pair k ∙ r.one (start + suc k) (omega arith) (omega (arith, l, some))) in
    let at : start + suc n ≡ end = omega (arith, some) in
    let seam = seam-after u ys n few (λ l. pair n ∙ ap (λ (j : ℕ). is_one (kind_of bits (j - 1)) (kind_of bits j)) at ∙ r.ends (omega (arith, l, some, within, length-drop (start + 1) bits))) in
    ap joined all
    ∙ ap (λ (l : List RowPiece). joined (u ∷ l)) (sym (take-append-drop n ys))
    ∙ run-first u (take n ys) (drop n ys) one seam
    ∙ ap (λ (l : List RowPiece). whole u (take n ys) ∷ joined l) rest

-- ---- one more, and fewer

pub text-more : (qs : List RowPiece) (q : RowPiece) → text_of (qs ++ q ∷ []) ≡ text_of qs ++ q.text
text-more qs q = flat_map-append (λ (p : RowPiece). p.text) qs (q ∷ []) ∙ ap (λ (l : List ℕ). text_of qs ++ l) (append-nil q.text)

cells-append : (ps qs : List RowPiece) → cells_in (ps ++ qs) ≡ cells_in ps + cells_in qs
cells-append ps qs = sum_by-append (λ (p : RowPiece). p.cells) ps qs

pub cells-more : (qs : List RowPiece) (q : RowPiece) → cells_in (qs ++ q ∷ []) ≡ cells_in qs + q.cells
cells-more qs q = omega (arith, cells-append qs (q ∷ []), cells-cons q [])

pub cells-take : (n : ℕ) (ps : List RowPiece) → cells_in (take n ps) ≤ cells_in ps
cells-take n ps = omega (arith, cells-append (take n ps) (drop n ps), ap cells_in (take-append-drop n ps))

cells-drop : (n : ℕ) (ps : List RowPiece) → cells_in (drop n ps) ≤ cells_in ps
cells-drop n ps = omega (arith, cells-append (take n ps) (drop n ps), ap cells_in (take-append-drop n ps))

pub cells-slice : (start end : ℕ) (ps : List RowPiece) → cells_in (slice_range ps start end) ≤ cells_in ps
cells-slice start end ps = omega (arith, cells-take (end - start) (drop start ps), cells-drop start ps)

pub cells-run : (bits : List RowPiece) (start end : ℕ) (u : RowPiece) → start < length bits → u ≡ get_or bits start u →
    cells_in (u ∷ slice_range bits (start + 1) end) ≤ cells_in bits
cells-run bits start end u lt is =
    let ys = drop (start + 1) bits in
    let all : drop start bits ≡ u ∷ ys = drop_more bits start u lt ∙ ap (λ (x : RowPiece). x ∷ ys) (sym is) in
    omega (arith, cells-drop start bits, ap cells_in all, cells-cons u ys, cells-cons u (slice_range bits (start + 1) end), cells-take (end - (start + 1)) ys)

pub kind-read : (bits : List RowPiece) (k : ℕ) (x : RowPiece) → k < length bits → kind_of bits k ≡ (get_or bits k x).kind
kind-read bits k x lt = get_or-map (λ (b : RowPiece). b.kind) bits k x Indent lt
