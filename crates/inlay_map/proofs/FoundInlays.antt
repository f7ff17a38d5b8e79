-- An inlay that was found by its index.
use Rattle.std.proofs.Common.{◌≡◌, ℕ, zero, suc, ◌+◌, ◌-◌, ◌≤◌, nat_le, nat_lt, not, Bool, true, false, cond, List, [], ◌∷◌, length, map, position, Some, None, refl, sym, ap, ◌∙◌, subst, arith}
use Rattle.std.specs.List.{position_or_len, slice_get}
use Rattle.std.proofs.lemmas.Bool.Decides.{nat_tests}
use Rattle.std.proofs.lemmas.List.Sums.{prefix_len-le-length}
use Rattle.std.proofs.lemmas.Option.{get_or_from_slice_get, slice_get_within}
use Rattle.cell_units.specs.declared.limits.TheConstants.{INLAY_LIMIT, LAID_LIMIT}
use Rattle.cell_units.specs.Layers.{Source}
use Rattle.cell_units.specs.Text.{clean}
use Rattle.cell_units.specs.Lawful.{AreInlays, IsInlayOf}
use Rattle.cell_units.specs.Record.{Inlay}
use Rattle.mark_tree.specs.declared.mark.Mark.{Mark}
use Rattle.inlay_map.specs.declared.amount.Amount.{Amount}
use Rattle.inlay_map.specs.Amounts.{AmountFits, amount_between, amount_of, nothing, together}
use Rattle.inlay_map.specs.Splices.{base_at, inlay_of, splice_of, splices_from}
use Rattle.inlay_map.specs.Spots.{end_at}
use Rattle.inlay_map.proofs.Respliced.{fits-at}
use Rattle.inlay_map.proofs.SpliceLists.{splice-get}
use Rattle.inlay_map.proofs.Spread.{IsSpread, spread}

some-same : {X : Type 0} (x y : X) → Some x ≡ Some y → x ≡ y
some-same x y p = cc

pub get-inlay : (ms : List (Mark (List ℕ))) (k : ℕ) (m : Mark (List ℕ)) → slice_get ms k ≡ Some m → slice_get (map inlay_of ms) k ≡ Some (inlay_of m)
get-inlay [] zero m e = absurd (cc)
get-inlay [] (suc k) m e = absurd (cc)
get-inlay (n ∷ ns) zero m e = ap (λ (x : Mark (List ℕ)). Some (inlay_of x)) (some-same n m e)
get-inlay (n ∷ ns) (suc k) m e = get-inlay ns k m e

pub inlay-fits : (text : List ℕ) (is : List Inlay) (k : ℕ) (i : Inlay) → AreInlays text is → slice_get is k ≡ Some i → IsInlayOf text i
inlay-fits text is k i are e = subst (IsInlayOf text) (get_or_from_slice_get is k i i e) (are.each k i (slice_get_within is k i e))

-- it is at its own offset, which is not before that of the one before it
pub record IsPlaced (text : List ℕ) (base : ℕ) (is : List Inlay) (k : ℕ) (i : Inlay) : Type 0 where
  pub order : base_at base is k ≤ i.offset
  pub end : end_at text is k ≡ i.offset

pub placed : (text : List ℕ) (base : ℕ) (is : List Inlay) (k : ℕ) (i : Inlay) → IsSpread text base is → slice_get is k ≡ Some i → IsPlaced text base is k i
placed text base [] zero i s e = absurd (cc)
placed text base [] (suc k) i s e = absurd (cc)
placed text base (j ∷ js) zero i s e = record { order = omega (arith, s.0, ap (λ (x : Inlay). x.offset) (some-same j i e)); end = ap (λ (x : Inlay). x.offset) (some-same j i e) }
placed text base (j ∷ js) (suc k) i s e =
    let r = placed text j.offset js k i s.3 e in
    record { order = r.order; end = r.end }

-- the first inlay at an offset or after it
abbrev reaches : ℕ → Mark (List ℕ) → Bool
reaches o m = nat_le o m.offset

places-same : (o : ℕ) (ms : List (Mark (List ℕ))) → position_or_len (λ m. nat_le o m.offset) ms ≡ position_or_len (λ i. nat_le o i.offset) (map inlay_of ms)
places-same o [] = refl
places-same o (m ∷ ms) = ap (λ n. cond (not (nat_le o m.offset)) (1 + n) 0) (places-same o ms)

pub first-of : (o : ℕ) (ms : List (Mark (List ℕ))) (at : ℕ) → position (λ m. nat_le o m.offset) ms ≡ Some at → at ≡ position_or_len (λ i. nat_le o i.offset) (map inlay_of ms)
first-of o ms at e = go (nat_lt (position_or_len (reaches o) ms) (length ms)) e where
  go : (b : Bool) → cond b (Some (position_or_len (reaches o) ms)) None ≡ Some at → at ≡ position_or_len (λ i. nat_le o i.offset) (map inlay_of ms)
  go true h = sym (some-same (position_or_len (reaches o) ms) at h) ∙ places-same o ms
  go false h = absurd (cc)

pub none-of : (o : ℕ) (ms : List (Mark (List ℕ))) → position (λ m. nat_le o m.offset) ms ≡ None → length ms ≡ position_or_len (λ i. nat_le o i.offset) (map inlay_of ms)
none-of o ms e = go (nat_lt (position_or_len (reaches o) ms) (length ms)) refl e where
  ge : (m n : ℕ) → nat_lt m n ≡ false → n ≤ m
  ge m n h = grind (arith, nat_tests)

  go : (b : Bool) → nat_lt (position_or_len (reaches o) ms) (length ms) ≡ b → cond b (Some (position_or_len (reaches o) ms)) None ≡ None → length ms ≡ position_or_len (λ i. nat_le o i.offset) (map inlay_of ms)
  go true t h = absurd (cc)
  go false t h = omega (arith, ge (position_or_len (reaches o) ms) (length ms) t, prefix_len-le-length (λ m. not (reaches o m)) ms, places-same o ms)

-- ---- its splice

pub record IsFound (s : Source) (at : ℕ) (m : Mark (List ℕ)) : Type 0 where
  pub got : slice_get s.inlays at ≡ Some (inlay_of m)
  pub order : base_at 0 s.inlays at ≤ m.offset
  pub within : m.offset ≤ length s.text
  pub short : length m.load ≤ INLAY_LIMIT

pub found-in : (s : Source) (ms : List (Mark (List ℕ))) (at : ℕ) (m : Mark (List ℕ)) → AreInlays s.text s.inlays → map inlay_of ms ≡ s.inlays → slice_get ms at ≡ Some m → IsFound s at m
found-in s ms at m are same e =
    let got : slice_get s.inlays at ≡ Some (inlay_of m) = ap (λ (l : List Inlay). slice_get l at) (sym same) ∙ get-inlay ms at m e in
    let fits = inlay-fits s.text s.inlays at (inlay_of m) are got in
    record { got = got; order = (placed s.text 0 s.inlays at (inlay_of m) (spread s.text s.inlays are) got).order; within = fits.boundary.0; short = fits.short }

pub splice-found : (s : Source) (at : ℕ) (m : Mark (List ℕ)) (base : ℕ) (gap old new : Amount) → IsFound s at m → base ≡ base_at 0 s.inlays at → gap ≡ amount_between s.text base m.offset
    → old ≡ nothing → new ≡ amount_of (clean m.load) → slice_get (splices_from s.text 0 s.inlays) at ≡ Some (record { gap = gap; old = old; new = new; load = record {} })
splice-found s at m base gap old new found here g o n =
    splice-get s.text 0 s.inlays at (inlay_of m) found.got
    ∙ (λ i. Some (record { gap = (sym (g ∙ ap (λ (b : ℕ). amount_between s.text b m.offset) here)) i; old = sym o i; new = sym n i; load = record {} }))

pub splice-fits : (s : Source) (at : ℕ) (m : Mark (List ℕ)) (base : ℕ) (gap new : Amount) → AreInlays s.text s.inlays → length s.text ≤ LAID_LIMIT → IsFound s at m → base ≡ base_at 0 s.inlays at
    → gap ≡ amount_between s.text base m.offset → new ≡ amount_of (clean m.load) → AmountFits (together gap new)
splice-fits s at m base gap new are short found here g n =
    subst (λ (p : Amount × Amount). AmountFits (together p.0 p.1)) (λ i. ((sym (g ∙ ap (λ (b : ℕ). amount_between s.text b m.offset) here)) i, sym n i))
    (fits-at s.text short 0 s.inlays at (splice_of s.text (base_at 0 s.inlays at) (inlay_of m)) (spread s.text s.inlays are) (splice-get s.text 0 s.inlays at (inlay_of m) found.got)).1
