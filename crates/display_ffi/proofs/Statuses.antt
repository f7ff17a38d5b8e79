-- What a status says of the trouble from which it comes.
use Rattle.std.proofs.Common.{◌≡◌, ℕ, ◌<◌, ◌≤◌, List, length, Option, Some, sym, ap, subst, arith}
use Rattle.std.specs.Str.{IsUtf8}
use Rattle.cell_units.specs.declared.limits.TheConstants.{TEXT_LIMIT}
use Rattle.cell_units.specs.declared.fault.TextFault.{TextFault}
use Rattle.cell_units.specs.declared.fault.TextFault.TheVariants as faults
use Rattle.cell_units.specs.Refusal.{IsTextRefused}
use Rattle.display_map.specs.Replay.{History}
use Rattle.edit_script.specs.Verdict.{Verdict}
use Rattle.display_session.specs.declared.session.Session.{Session}
use Rattle.display_session.specs.declared.trouble.Trouble.{Trouble}
use Rattle.display_session.specs.declared.trouble.Trouble.TheVariants as troubles
use Rattle.display_session.specs.Lines.{HasFailedAt}
use Rattle.display_ffi.specs.declared.status.TheConstants.{NOT_UTF8}
use Rattle.display_ffi.specs.Calls.{Both}
use Rattle.display_ffi.specs.Statuses.{status_of, text_status_of, verdict_status}

-- the status of a refusal is that of the verdict, and nothing happened
pub refused_status : (v : Verdict) (a b : History) (t : Trouble) → HasFailedAt v a b t → status_of t ≤ 8 → (status_of t ≡ verdict_status v) × (b ≡ a)
refused_status v a b (troubles.Refused refusal) it few = (ap verdict_status (sym it.0), it.1)
refused_status v a b troubles.NoMemory it few = absurd (omega (arith, few))
refused_status v a b troubles.JournalFull it few = absurd (omega (arith, few))
refused_status v a b troubles.NotUtf8 it few = absurd it

-- the sessions that a handle held before a call and after it
pub both_some : (P : Session → Session → Type 0) (old new : Option Session) (a b : Session) → Some a ≡ old → new ≡ Some b → P a b → Both P old new
both_some P old new a b is then it =
    subst (λ (o : Option Session). Both P o new) is (subst (λ (o : Option Session). Both P (Some a) o) (sym then) it)

-- why a text isn't opened
pub long_text : (bytes : List ℕ) (fault : TextFault) → IsTextRefused bytes fault → text_status_of fault ≡ 5 → TEXT_LIMIT < length bytes
long_text bytes faults.TooLong it is = it
long_text bytes (faults.NotUtf8 at) it is = absurd (omega (arith, is))
long_text bytes faults.NoMemory it is = absurd (omega (arith, is))

pub not_utf8_text : (bytes : List ℕ) (fault : TextFault) → IsTextRefused bytes fault → text_status_of fault ≡ NOT_UTF8 → ¬ IsUtf8 bytes
not_utf8_text bytes faults.TooLong it is = absurd (omega (arith, is))
not_utf8_text bytes (faults.NotUtf8 at) it is = it.1
not_utf8_text bytes faults.NoMemory it is = absurd (omega (arith, is))
