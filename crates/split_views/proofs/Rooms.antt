-- The least of the rooms of some journals.
use Rattle.std.proofs.Common.{◌≡◌, ℕ, ◌+◌, ◌<◌, ◌≤◌, List, length, take, get_or, sym, ◌∙◌, subst, arith}
use Rattle.std.specs.List.{All}
use Rattle.std.proofs.lemmas.List.{get_or-take, length-take-le, take_all, take-take}
use Rattle.std.proofs.lemmas.List.Elements.{All-more, All-take, All-weaker}
use Rattle.display_map.specs.Events.{event_limit}
use Rattle.display_map.specs.Replay.{History}

-- a journal has room for so many events
abbrev HasRoom : ℕ → History → Type 0
HasRoom n h = n + length h.events ≤ event_limit

pub within-more : (hs : List History) (i room here least : ℕ) (h : History) → i < length hs → h ≡ get_or hs i h → here + length h.events ≡ event_limit → least ≤ room → least ≤ here →
    All (λ h. room + length h.events ≤ event_limit) (take i hs) → All (λ h. least + length h.events ≤ event_limit) (take (i + 1) hs)
within-more hs i room here least h lt is long le le' all =
    All-more (HasRoom least) hs i h lt
    (All-weaker (HasRoom room) (HasRoom least) (λ k has. omega (arith, has, le)) (take i hs) all)
    (subst (HasRoom least) is (omega (arith, long, le')))

pub before-here : (hs : List History) (i n : ℕ) → All (λ h. n + length h.events ≤ event_limit) (take (i + 1) hs) → All (λ h. n + length h.events ≤ event_limit) (take i hs)
before-here hs i n all = subst (All (HasRoom n)) (take-take i (i + 1) hs (omega arith)) (All-take (HasRoom n) i (take (i + 1) hs) all)

pub not-over : (hs : List History) (i n here : ℕ) (h : History) → i < length hs → h ≡ get_or hs i h → here + length h.events ≡ event_limit →
    All (λ h. n + length h.events ≤ event_limit) (take (i + 1) hs) → n ≤ here
not-over hs i n here h lt is long all =
    let last : get_or (take (i + 1) hs) i h ≡ h = get_or-take (i + 1) hs i h (omega arith) ∙ sym is in
    let has : n + length h.events ≤ event_limit = subst (HasRoom n) last (all i h (omega (arith, length-take-le (i + 1) hs (omega (arith, lt))))) in
    omega (arith, has, long)

pub over-all : (hs : List History) (i n : ℕ) → length hs ≤ i → All (λ h. n + length h.events ≤ event_limit) (take i hs) → All (λ h. n + length h.events ≤ event_limit) hs
over-all hs i n le all = subst (All (HasRoom n)) (take_all i hs le) all

pub of-all : (hs : List History) (i n : ℕ) → length hs ≤ i → All (λ h. n + length h.events ≤ event_limit) hs → All (λ h. n + length h.events ≤ event_limit) (take i hs)
of-all hs i n le all = subst (All (HasRoom n)) (sym (take_all i hs le)) all

pub within-limit : (hs : List History) (n : ℕ) (d : History) → 1 ≤ length hs → All (λ h. n + length h.events ≤ event_limit) hs → n ≤ event_limit
within-limit hs n d some all = omega (arith, all 0 d (omega (arith, some)))
