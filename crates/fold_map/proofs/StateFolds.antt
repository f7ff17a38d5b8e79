-- One fold more or less.
use Rattle.std.proofs.Common.{◌≡◌, ℕ, zero, suc, ◌<◌, ◌≤◌, ◌==◌, ◌&&◌, ◌||◌, not, nat_le, nat_lt, Bool, true, false, cond, List, [], ◌∷◌, filter, length, map, count_by, None, Some, Result, Ok, Err, refl, sym, ap, ◌∙◌, ◌+◌, subst, inl, inr, ◌⊎◌, arith}
use Rattle.std.specs.List.{Contains, list_any}
use Rattle.std.specs.Result.{IfOk}
use Rattle.std.specs.Str.{IsUtf8}
use Rattle.std.proofs.lemmas.Bool.{eq-eqb, eqb-true}
use Rattle.std.proofs.lemmas.Bool.Decides.{nat_tests}
use Rattle.cell_units.specs.declared.limits.TheConstants.{ENTRY_LIMIT}
use Rattle.cell_units.specs.declared.fault.Refusal.TheVariants.{BadRange, IdInUse, TooLong}
use Rattle.cell_units.specs.Lawful.{AreFolds, IsFoldOf, IsWellFormed}
use Rattle.cell_units.specs.Layers.{Source, unfolded}
use Rattle.cell_units.specs.Operation.{without_fold}
use Rattle.cell_units.specs.Record.{Fold, fold_le}
use Rattle.cell_units.specs.Sorting.{insert_by}
use Rattle.cell_units.specs.Text.{IsBoundary, is_boundary, row_end, row_of, row_start}
use Rattle.cell_units.proofs.Entries.{entries-added, entries-kept}
use Rattle.cell_units.proofs.EntryOrders.{fold_total, fold_trans}
use Rattle.cell_units.proofs.PlainLayers.{line_of_offset}
use Rattle.cell_units.proofs.ReplacedRows.{row_of-lt}
use Rattle.cell_units.proofs.SortedLists.{count-cons}
use Rattle.cell_units.proofs.TextLaws.{tells_boundaries}
use Rattle.joined_folds.specs.Sweeps.{fold_of}
use Rattle.joined_folds.proofs.Alike.{added-alike, removed-alike}
use Rattle.joined_folds.proofs.Sweeps.{all-at, contains-cons}
use Rattle.joined_folds.specs.Windows.{moved_on}
use Rattle.mark_tree.specs.declared.mark.RangeMark.{RangeMark}
use Rattle.mark_tree.specs.Ranges.{lacks_range_id, range_le}
use Rattle.text_rope.proofs.Layers.{row_end_is}
use Rattle.text_rope.proofs.RowStarts.{end_boundary, row_start_is, start_boundary}
use Rattle.cell_units.specs.declared.place.Bias.TheVariants.{Left, Right}
use Rattle.fold_map.specs.Amounts.{amount_between, line_at}
use Rattle.fold_map.specs.Changes.{IsChange}
use Rattle.fold_map.specs.Maps.{DifferWithin, shown_from, shown_to, with_fold, without}
use Rattle.fold_map.specs.Snapshots.{PlacesFit, fold_refusal, is_range, with_folds}

-- ---- the folds of ranges

pub inserted-folds : (r : RangeMark) (rs : List RangeMark) → map fold_of (insert_by range_le r rs) ≡ insert_by fold_le (fold_of r) (map fold_of rs)
inserted-folds r [] = refl
inserted-folds r (q ∷ qs) = go (range_le r q) (inserted-folds r qs) where
  go : (b : Bool) → map fold_of (insert_by range_le r qs) ≡ insert_by fold_le (fold_of r) (map fold_of qs)
      → map fold_of (cond b (r ∷ q ∷ qs) (q ∷ insert_by range_le r qs)) ≡ cond b (fold_of r ∷ fold_of q ∷ map fold_of qs) (fold_of q ∷ insert_by fold_le (fold_of r) (map fold_of qs))
  go true h = refl
  go false h = ap (λ l. fold_of q ∷ l) h

pub kept-folds : (id : ℕ) (rs : List RangeMark) → map fold_of (filter (lacks_range_id id) rs) ≡ without_fold id (map fold_of rs)
kept-folds id [] = refl
kept-folds id (q ∷ qs) = go (q.id == id) (kept-folds id qs) where
  go : (b : Bool) → map fold_of (filter (lacks_range_id id) qs) ≡ without_fold id (map fold_of qs)
      → map fold_of (cond (not b) (q ∷ filter (lacks_range_id id) qs) (filter (lacks_range_id id) qs)) ≡ cond (not b) (fold_of q ∷ without_fold id (map fold_of qs)) (without_fold id (map fold_of qs))
  go true h = h
  go false h = ap (λ l. fold_of q ∷ l) h

pub contains-fold : (rs : List RangeMark) (r : RangeMark) → Contains rs r → Contains (map fold_of rs) (fold_of r)
contains-fold [] r m = absurd (let l = m.1 in omega (arith, l))
contains-fold (q ∷ qs) r (zero, below, is) = (0, omega arith, ap fold_of is)
contains-fold (q ∷ qs) r (suc k, below, is) = let m = contains-fold qs r (k, omega (arith, below), is) in (suc m.0, (let l = m.1 in omega (arith, l)), m.2)

-- a value that equals the one equals the other
pub ok-as : {T E : Type 0} (r : Result T E) {x y : T} → x ≡ y → IfOk r (λ t. t ≡ x) → IfOk r (λ t. t ≡ y)
ok-as (Ok t) e h = h ∙ e
ok-as (Err f) e h = tt

-- ---- tests of a list with one more, and with some less

any-inserted : (p : Fold → Bool) (f : Fold) (fs : List Fold) → p f ≡ false → list_any p (insert_by fold_le f fs) ≡ list_any p fs
any-inserted p f [] h = ap (λ c. c || false) h
any-inserted p f (g ∷ gs) h = go (fold_le f g) (any-inserted p f gs h) where
  go : (b : Bool) → list_any p (insert_by fold_le f gs) ≡ list_any p gs → list_any p (cond b (f ∷ g ∷ gs) (g ∷ insert_by fold_le f gs)) ≡ (p g || list_any p gs)
  go true r = ap (λ c. c || (p g || list_any p gs)) h
  go false r = ap (λ c. p g || c) r

any-fewer : (p q : Fold → Bool) (fs : List Fold) → list_any p fs ≡ false → list_any p (filter q fs) ≡ false
any-fewer p q [] h = refl
any-fewer p q (g ∷ gs) h = go (q g) (p g) refl h (any-fewer p q gs) where
  go : (b c : Bool) → p g ≡ c → (c || list_any p gs) ≡ false → (list_any p gs ≡ false → list_any p (filter q gs) ≡ false) → list_any p (cond b (g ∷ filter q gs) (filter q gs)) ≡ false
  go b true e h r = absurd (cc)
  go true false e h r = (λ i. e i || r h i)
  go false false e h r = r h

none-counted : (id : ℕ) (fs : List Fold) → list_any (λ f. f.id == id) fs ≡ false → count_by (λ f. f.id == id) fs ≡ 0
none-counted id [] e = refl
none-counted id (f ∷ fs) e = go (f.id == id) e (none-counted id fs) (count-cons (λ (g : Fold). g.id == id) f fs) where
  go : (b : Bool) → (b || list_any (λ f. f.id == id) fs) ≡ false → (list_any (λ f. f.id == id) fs ≡ false → count_by (λ f. f.id == id) fs ≡ 0)
      → count_by (λ f. f.id == id) (f ∷ fs) ≡ cond b 1 0 + count_by (λ f. f.id == id) fs → count_by (λ f. f.id == id) (f ∷ fs) ≡ 0
  go true h rest sum = absurd (cc)
  go false h rest sum = omega (arith, sum, rest h)

-- ---- a fold that isn't refused

pub record IsAccepted (s : Source) (f : Fold) : Type 0 where
  pub fresh : list_any (λ g. g.id == f.id) s.folds ≡ false
  pub range : is_range s.text f.start f.end ≡ true
  pub room : length s.folds < ENTRY_LIMIT

pub accepted-is : (s : Source) (f : Fold) → fold_refusal s f.id f.start f.end ≡ None → IsAccepted s f
accepted-is s f e = go (list_any (λ g. g.id == f.id) s.folds) (is_range s.text f.start f.end) (nat_le ENTRY_LIMIT (length s.folds)) refl refl refl e where
  below : (m n : ℕ) → nat_le m n ≡ false → n < m
  below m n h = grind (arith, nat_tests)

  go : (a b c : Bool) → list_any (λ g. g.id == f.id) s.folds ≡ a → is_range s.text f.start f.end ≡ b → nat_le ENTRY_LIMIT (length s.folds) ≡ c
      → cond a (Some IdInUse) (cond (not b) (Some BadRange) (cond c (Some TooLong) None)) ≡ None → IsAccepted s f
  go true b c pa pb pc h = absurd (cc)
  go false false c pa pb pc h = absurd (cc)
  go false true true pa pb pc h = absurd (cc)
  go false true false pa pb pc h = record { fresh = pa; range = pb; room = below ENTRY_LIMIT (length s.folds) pc }

pub range-fits : (s : Source) (f : Fold) → IsWellFormed s → is_range s.text f.start f.end ≡ true → IsFoldOf s.text f
range-fits s f is e = go (nat_lt f.start f.end) (is_boundary s.text f.start) (is_boundary s.text f.end) refl refl refl e where
  less : (m n : ℕ) → nat_lt m n ≡ true → m < n
  less m n h = grind (arith, nat_tests)

  go : (a b c : Bool) → nat_lt f.start f.end ≡ a → is_boundary s.text f.start ≡ b → is_boundary s.text f.end ≡ c → (a && (b && c)) ≡ true → IsFoldOf s.text f
  go false b c pa pb pc h = absurd (cc)
  go true false c pa pb pc h = absurd (cc)
  go true true false pa pb pc h = absurd (cc)
  go true true true pa pb pc h = record {
    start = (tells_boundaries s.text is.text.0 f.start).0 pb;
    end = (tells_boundaries s.text is.text.0 f.end).0 pc;
    some = less f.start f.end pa;
  }

-- ---- what one more changes

not-around : (s e : ℕ) → (nat_lt s e && nat_lt e e) ≡ false
not-around s e = grind (arith, nat_tests)

pub added-lawful : (s : Source) (f : Fold) → IsWellFormed s → IsAccepted s f → AreFolds s.text (insert_by fold_le f s.folds)
added-lawful s f is a =
    entries-added fold_le fold_total fold_trans (λ g. g.id) (IsFoldOf s.text) f s.folds is.folds (range-fits s f is a.range)
    (record { fresh = none-counted f.id s.folds a.fresh; room = a.room })

pub added-differ : (s : Source) (f : Fold) → IsWellFormed s → IsAccepted s f → DifferWithin s (with_fold f s) f
added-differ s f is a =
    let fits = range-fits s f is a.range in
    record {
      below = refl;
      start = fits.start;
      end = fits.end;
      alike = added-alike s.folds f fits.some;
      end_open = λ out. any-inserted (λ g. nat_lt g.start f.end && nat_lt f.end g.end) f s.folds (not-around f.start f.end) ∙ out;
    }

-- ---- what one less changes

abbrev counted : ℕ → List Fold → ℕ
counted id fs = count_by (λ f. f.id == id) fs

more-counted : (id : ℕ) (f : Fold) (fs : List Fold) → counted id (f ∷ fs) ≡ cond (f.id == id) 1 0 + counted id fs
more-counted id f fs = count-cons (λ (g : Fold). g.id == id) f fs

has-id : (id : ℕ) (f : Fold) → f.id ≡ id → (f.id == id) ≡ true
has-id id f e = eq-eqb f.id id e

counts-it : (id : ℕ) (fs : List Fold) (f : Fold) → Contains fs f → f.id ≡ id → 1 ≤ counted id fs
counts-it id [] f m e = absurd (let l = m.1 in omega (arith, l))
counts-it id (g ∷ gs) f m e = go (contains-cons g gs f m) (more-counted id g gs) (counts-it id gs f) where
  go : (g ≡ f) ⊎ Contains gs f → counted id (g ∷ gs) ≡ cond (g.id == id) 1 0 + counted id gs → (Contains gs f → f.id ≡ id → 1 ≤ counted id gs) → 1 ≤ counted id (g ∷ gs)
  go (inl s) sum next = omega (arith, sum, ap {B = ℕ} (λ (b : Bool). cond b 1 0) (has-id id g (ap (λ (x : Fold). x.id) s ∙ e)))
  go (inr m') sum next = omega (arith, sum, next m' e)

-- no two have one id
pub one-id : (id : ℕ) (fs : List Fold) → count_by (λ f. f.id == id) fs ≤ 1 → (f g : Fold) → Contains fs f → Contains fs g → f.id ≡ id → g.id ≡ id → g ≡ f
one-id id [] few f g mf mg ef eg = absurd (let l = mf.1 in omega (arith, l))
one-id id (h ∷ hs) few f g mf mg ef eg = go (contains-cons h hs f mf) (contains-cons h hs g mg) (more-counted id h hs) (one-id id hs) where
  alone : h.id ≡ id → (x : Fold) → Contains hs x → x.id ≡ id → counted id (h ∷ hs) ≡ cond (h.id == id) 1 0 + counted id hs → ⊥
  alone e x m ex sum = omega (arith, few, sum, counts-it id hs x m ex, ap {B = ℕ} (λ (b : Bool). cond b 1 0) (has-id id h e))

  go : (h ≡ f) ⊎ Contains hs f → (h ≡ g) ⊎ Contains hs g → counted id (h ∷ hs) ≡ cond (h.id == id) 1 0 + counted id hs
      → (counted id hs ≤ 1 → (f g : Fold) → Contains hs f → Contains hs g → f.id ≡ id → g.id ≡ id → g ≡ f) → g ≡ f
  go (inl a) (inl b) sum next = sym b ∙ a
  go (inl a) (inr m) sum next = absurd (alone (ap (λ (x : Fold). x.id) a ∙ ef) g m eg sum)
  go (inr m) (inl b) sum next = absurd (alone (ap (λ (x : Fold). x.id) b ∙ eg) f m ef sum)
  go (inr m) (inr m') sum next = next (omega (arith, few, sum)) f g m m' ef eg

pub removed-lawful : (s : Source) (id : ℕ) → IsWellFormed s → AreFolds s.text (without_fold id s.folds)
removed-lawful s id is = entries-kept fold_le fold_total fold_trans (λ g. g.id) (IsFoldOf s.text) (λ f. not (f.id == id)) s.folds is.folds

pub removed-differ : (s : Source) (f : Fold) → IsWellFormed s → Contains s.folds f → DifferWithin s (without f.id s) f
removed-differ s f is there =
    let fits = all-at (IsFoldOf s.text) s.folds f is.folds.each there in
    record {
      below = refl;
      start = fits.start;
      end = fits.end;
      alike = removed-alike s.folds f there fits.some (λ g m e. one-id f.id s.folds (is.folds.distinct f.id) f g there m refl e);
      end_open = λ out. any-fewer (λ g. nat_lt g.start f.end && nat_lt f.end g.end) (λ g. not (g.id == f.id)) s.folds out;
    }

-- ---- the change of a snapshot

-- the same layer under other folds, which differ within a range
pub refolded-change : (s : Source) (folds : List Fold) (f : Fold) → IsWellFormed s → AreFolds s.text folds → PlacesFit (with_folds s folds) → DifferWithin s (with_folds s folds) f
    → IsChange s (with_folds s folds) (record { start = f.start; end = f.end; last = f.end })
refolded-change s folds f is are fits d = record {
  formed = record { text = is.text; inlays = is.inlays; folds = are };
  fits = fits;
  within = d.end.0;
  text = let l = d.end.0 in omega (arith, l);
  alike = d.alike;
  around = record {
    left = λ o l. refl;
    right = λ o l. refl;
    behind =
        λ o p b b' l r u. let here : moved_on f.end f.end o ≡ o = omega (arith, l) in
        let there : moved_on f.end f.end p ≡ p = omega (arith, l, r) in
        λ i. amount_between (unfolded s) (here i) b (there i) b';
  };
}

-- ---- the rows of a fold

pub row-first : (text : List ℕ) (o : ℕ) → IsUtf8 text → o ≤ length text → IsBoundary text (row_start text o) × (row_start text o ≤ o)
row-first text o utf8 l =
    let is = row_start_is text o l in
    (subst (IsBoundary text) (sym is) (start_boundary text (row_of text o) utf8 (row_of-lt text o)), omega (arith, is, (line_of_offset text o l).0))

pub row-last : (text : List ℕ) (o : ℕ) → IsUtf8 text → o ≤ length text → IsBoundary text (row_end text o) × (o ≤ row_end text o)
row-last text o utf8 l =
    let is = row_end_is text o l in
    (subst (IsBoundary text) (sym is) (end_boundary text (row_of text o) utf8 (row_of-lt text o)), omega (arith, is, (line_of_offset text o l).1))

-- what it replaces begins in its first row and ends in its last
pub from-first : (s : Source) (o : ℕ) → IsUtf8 s.text → IsBoundary s.text o → IsBoundary s.text (shown_from s o) × (shown_from s o ≤ o)
from-first s o utf8 is = go (line_at s (row_start s.text o) Left == line_at s o Left) where
  go : (b : Bool) → IsBoundary s.text (cond b o (row_start s.text o)) × (cond b o (row_start s.text o) ≤ o)
  go true = (is, omega arith)
  go false = row-first s.text o utf8 is.0

pub to-last : (s : Source) (o : ℕ) → IsUtf8 s.text → IsBoundary s.text o → IsBoundary s.text (shown_to s o) × (o ≤ shown_to s o)
to-last s o utf8 is = go (line_at s (row_end s.text o) Right == line_at s o Right) where
  go : (b : Bool) → IsBoundary s.text (cond b o (row_end s.text o)) × (o ≤ cond b o (row_end s.text o))
  go true = (is, omega arith)
  go false = row-last s.text o utf8 is.0

-- two numbers, and whether a test finds them different
same-number : (m n : ℕ) → m ≡ n → (m == n) ≡ true
same-number m n e = eq-eqb m n e

other-number : (m n : ℕ) → (m ≡ n → ⊥) → (m == n) ≡ false
other-number m n other = go (m == n) refl where
  go : (b : Bool) → (m == n) ≡ b → (m == n) ≡ false
  go true e = absurd (other (eqb-true m n e))
  go false e = e

-- it begins at the fold's start where that is on one line with the row's, and else at the row's; and so it ends
module _ (s : Source) (o row x y : ℕ) where
  pub from-fold : row ≡ row_start s.text o → x ≡ line_at s row Left → y ≡ line_at s o Left → x ≡ y → o ≡ shown_from s o
  from-fold is first line same =
      let lines = ap (λ r. line_at s r Left) (sym is) ∙ sym first ∙ same ∙ line in
      sym (ap {B = ℕ} (λ (b : Bool). cond b o (row_start s.text o)) (same-number (line_at s (row_start s.text o) Left) (line_at s o Left) lines))

  pub from-row : row ≡ row_start s.text o → x ≡ line_at s row Left → y ≡ line_at s o Left → (x ≡ y → ⊥) → row ≡ shown_from s o
  from-row is first line other =
      let apart = other-number (line_at s (row_start s.text o) Left) (line_at s o Left) (λ e. other (first ∙ ap (λ r. line_at s r Left) is ∙ e ∙ sym line)) in
      is ∙ sym (ap {B = ℕ} (λ (b : Bool). cond b o (row_start s.text o)) apart)

  pub to-fold : row ≡ row_end s.text o → x ≡ line_at s row Right → y ≡ line_at s o Right → x ≡ y → o ≡ shown_to s o
  to-fold is last line same =
      let lines = ap (λ r. line_at s r Right) (sym is) ∙ sym last ∙ same ∙ line in
      sym (ap {B = ℕ} (λ (b : Bool). cond b o (row_end s.text o)) (same-number (line_at s (row_end s.text o) Right) (line_at s o Right) lines))

  pub to-row : row ≡ row_end s.text o → x ≡ line_at s row Right → y ≡ line_at s o Right → (x ≡ y → ⊥) → row ≡ shown_to s o
  to-row is last line other =
      let apart = other-number (line_at s (row_end s.text o) Right) (line_at s o Right) (λ e. other (last ∙ ap (λ r. line_at s r Right) is ∙ e ∙ sym line)) in
      is ∙ sym (ap {B = ℕ} (λ (b : Bool). cond b o (row_end s.text o)) apart)
