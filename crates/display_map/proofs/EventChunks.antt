-- Events in chunks: where one is, and one after the first ones.
use Rattle.std.proofs.Common.{◌≡◌, ℕ, ◌+◌, ◌/◌, ◌%◌, ◌<◌, ◌≤◌, zero, suc, List, [], ◌∷◌, ◌++◌, length, take, set, get_or, sym, ap, subst, ◌∙◌, arith, append-nil, length-append}
use Rattle.std.specs.Prelude.{Some, slice_get}
use Rattle.std.proofs.Math.Seq.{take-set-lt}
use Rattle.std.proofs.lemmas.List.{get_or-take, length-take-le, take_all, take_more_set}
use Rattle.std.proofs.lemmas.Option.{slice_get-get_or}
use Rattle.display_sheet.specs.Chunks.{joined}
use Rattle.display_sheet.proofs.Chunks.{EndsAt, are-chunks-full, are-chunks-push, ends-at, joined-appended, joined-begins, joined-push, stands-at}
use Rattle.display_map.specs.Events.{Event, Line}
use Rattle.display_map.specs.Journals.{KeepsEvents}

-- the event at a place before the end
pub record FindsEvent (chunks : List (List Event)) (len at : ℕ) : Type 0 where
  pub chunk : at / 256 < length chunks
  pub reads : slice_get (get_or chunks (at / 256) []) (at % 256) ≡ slice_get (take len (joined chunks)) at

pub finds-event : (chunks : List (List Event)) (len at : ℕ) → KeepsEvents len chunks → at < len → FindsEvent chunks len at
finds-event chunks len at keeps lt =
    let stands = stands-at 256 chunks (at / 256) (at % 256) at keeps.full (omega arith) (omega arith) (omega (arith, lt, keeps.long)) in
    let chunk = get_or chunks (at / 256) [] in
    let none = Line 0 in
    record {
      chunk = stands.chunk;
      reads =
          slice_get-get_or chunk (at % 256) none stands.place
          ∙ ap (λ (e : Event). Some e) (sym (get_or-take len (joined chunks) at none lt ∙ stands.reads none))
          ∙ sym (slice_get-get_or (take len (joined chunks)) at none (omega (arith, lt, length-take-le len (joined chunks) keeps.long)));
    }

-- where the first events end
pub events-end : (chunks : List (List Event)) (len : ℕ) → KeepsEvents len chunks → EndsAt 256 chunks (len / 256) (len % 256) len
events-end chunks len keeps = ends-at 256 chunks (len / 256) (len % 256) len keeps.full (omega arith) (omega arith) keeps.long

-- another last chunk
keeps-with : (chunks : List (List Event)) (k j len : ℕ) (c : List Event) → EndsAt 256 chunks k j len → j ≤ length c → length c ≤ 256 → KeepsEvents len (take k chunks ++ c ∷ [])
keeps-with chunks k j len c ends long small = record {
  full = are-chunks-push 256 (take k chunks) c ends.full small;
  long = omega (arith, ap length (joined-push (take k chunks) c), length-append (joined (take k chunks)) c, ends.counted, long);
}

-- ---- after full chunks

full-end : (chunks : List (List Event)) (len : ℕ) → KeepsEvents len chunks → len % 256 ≡ 0 → EndsAt 256 chunks (len / 256) 0 len
full-end chunks len keeps none = subst (λ (j : ℕ). EndsAt 256 chunks (len / 256) j len) none (events-end chunks len keeps)

pub keeps-full : (chunks : List (List Event)) (len : ℕ) → KeepsEvents len chunks → len % 256 ≡ 0 → KeepsEvents len (take (len / 256) chunks)
keeps-full chunks len keeps none =
    let ends = full-end chunks len keeps none in
    record {
      full = are-chunks-full 256 (take (len / 256) chunks) ends.full;
      long = omega (arith, ends.counted);
    }

pub begins-full : (chunks : List (List Event)) (len : ℕ) → KeepsEvents len chunks → len % 256 ≡ 0 → take len (joined (take (len / 256) chunks)) ≡ take len (joined chunks)
begins-full chunks len keeps none =
    let ends = full-end chunks len keeps none in
    take_all len (joined (take (len / 256) chunks)) (omega (arith, ends.counted))
    ∙ sym (append-nil (joined (take (len / 256) chunks)))
    ∙ sym ends.takes

-- a chunk of one event
pub keeps-new : (chunks : List (List Event)) (len : ℕ) (e : Event) → KeepsEvents len chunks → len % 256 ≡ 0 → KeepsEvents len (take (len / 256) chunks ++ (e ∷ []) ∷ [])
keeps-new chunks len e keeps none = keeps-with chunks (len / 256) 0 len (e ∷ []) (full-end chunks len keeps none) (omega arith) (omega arith)

pub appends-new : (chunks : List (List Event)) (len : ℕ) (e : Event) → KeepsEvents len chunks → len % 256 ≡ 0 →
    joined (take (len / 256) chunks ++ (e ∷ []) ∷ []) ≡ take len (joined chunks) ++ e ∷ []
appends-new chunks len e keeps none = joined-appended 256 chunks (len / 256) 0 len e (full-end chunks len keeps none)

-- ---- in the last chunk

more-chunks : (chunks : List (List Event)) (k j : ℕ) → k ≤ length chunks → j ≤ length (get_or chunks k []) → 0 < j → k < length chunks
more-chunks [] zero j le place some = absurd (omega (arith, place, some))
more-chunks [] (suc k) j le place some = absurd (omega (arith, le))
more-chunks (c ∷ cs) zero j le place some = omega arith
more-chunks (c ∷ cs) (suc k) j le place some = omega (arith, more-chunks cs k j (omega (arith, le)) place some)

-- a chunk that is cut in, at the first event that isn't kept
pub record Cut (chunks : List (List Event)) (len : ℕ) : Type 0 where
  pub chunk : len / 256 < length chunks
  pub place : len % 256 ≤ length (get_or chunks (len / 256) [])
  pub small : length (get_or chunks (len / 256) []) ≤ 256
  pub ends : EndsAt 256 chunks (len / 256) (len % 256) len

pub is-cut : (chunks : List (List Event)) (len : ℕ) → KeepsEvents len chunks → 0 < len % 256 → Cut chunks len
is-cut chunks len keeps some =
    let ends = events-end chunks len keeps in
    record {
      chunk = more-chunks chunks (len / 256) (len % 256) ends.chunk ends.place some;
      place = ends.place;
      small = ends.small;
      ends = ends;
    }

pub set-last : (chunks : List (List Event)) (k : ℕ) (c : List Event) → k < length chunks → set (take (k + 1) chunks) k c ≡ take k chunks ++ c ∷ []
set-last chunks k c lt = sym (take-set-lt (k + 1) chunks k c (omega arith)) ∙ take_more_set chunks k c lt

pub keeps-last : (chunks : List (List Event)) (len : ℕ) (c : List Event) → Cut chunks len → len % 256 ≤ length c → length c ≤ 256 →
    KeepsEvents len (set (take (len / 256 + 1) chunks) (len / 256) c)
keeps-last chunks len c cut long small =
    subst (KeepsEvents len) (sym (set-last chunks (len / 256) c cut.chunk)) (keeps-with chunks (len / 256) (len % 256) len c cut.ends long small)

pub begins-last : (chunks : List (List Event)) (len : ℕ) (c : List Event) → Cut chunks len → take (len % 256) c ≡ take (len % 256) (get_or chunks (len / 256) []) →
    take len (joined (set (take (len / 256 + 1) chunks) (len / 256) c)) ≡ take len (joined chunks)
begins-last chunks len c cut same =
    ap (λ (cs : List (List Event)). take len (joined cs)) (set-last chunks (len / 256) c cut.chunk)
    ∙ joined-begins 256 chunks (len / 256) (len % 256) len c cut.ends same

pub appends-last : (chunks : List (List Event)) (len : ℕ) (c : List Event) (e : Event) → Cut chunks len → c ≡ take (len % 256) (get_or chunks (len / 256) []) ++ e ∷ [] →
    joined (set (take (len / 256 + 1) chunks) (len / 256) c) ≡ take len (joined chunks) ++ e ∷ []
appends-last chunks len c e cut is =
    ap joined (set-last chunks (len / 256) c cut.chunk)
    ∙ ap (λ (c : List Event). joined (take (len / 256) chunks ++ c ∷ [])) is
    ∙ joined-appended 256 chunks (len / 256) (len % 256) len e cut.ends
