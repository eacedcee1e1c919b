-- A zone's file says one thing of a time.
use Rattle.std.proofs.Common.{◌≡◌, ◌≤◌, ◌∙◌, ℕ, ℤ, pos, ◌+ℤ◌, ◌*ℤ◌, sym, ap, subst, arith, to_z, of_z, w32, FitsSigned}
use Rattle.std.proofs.lemmas.Int.{to_z-of_z}
use Rattle.jiff_core.proofs.SignedLemmas.{signed_arith}
use Rattle.jiff_core.specs.declared.offset.Offset.{Offset}
use Rattle.jiff_tz.specs.declared.tzif.Tzif.{Tzif}
use Rattle.jiff_tz.specs.Tzif.{ambiguous_at}
use Rattle.jiff_tz.specs.declared.ambiguous.AmbiguousOffset.{AmbiguousOffset}
use Rattle.jiff_tz.specs.declared.ambiguous.AmbiguousOffset.TheVariants.{Unambiguous, Gap, Fold}
use Rattle.jiff_zoned.proofs.SameLemmas.{same_datetime}
use Rattle.zone_times.specs.Shown.{FileSays, IsMomentAt, IsShownOnce, IsNotShownOnce}

says_one : (table : Tzif) (shown : ℕ) (a b : AmbiguousOffset) → FileSays table shown a → FileSays table shown b → a ≡ b
says_one table shown a b h k =
    sym h.says ∙ ap (ambiguous_at table) (same_datetime h.time k.time (h.shown_is ∙ sym k.shown_is)) ∙ k.says

-- where it says one offset, the time is shown once only at a moment of that
pub no_moment : (table : Tzif) (shown : ℕ) (offset : Offset) → FileSays table shown (Unambiguous offset)
    → ((m : ℕ) → m ≤ 281474976710656 → IsMomentAt table shown offset.seconds m → ⊥) → IsNotShownOnce table shown
no_moment table shown offset says none m within once =
    let same : Unambiguous offset ≡ Unambiguous once.offset = says_one table shown _ _ says once.says in
    let one : offset ≡ once.offset = cc in
    none m within (subst (λ (o : Offset). IsMomentAt table shown o.seconds m) (sym one) once.moment)

pub in_fold : (table : Tzif) (shown : ℕ) (before after : Offset) → FileSays table shown (Fold before after)
    → IsNotShownOnce table shown
in_fold table shown before after says m within once =
    let same : Fold before after ≡ Unambiguous once.offset = says_one table shown _ _ says once.says in cc

pub in_gap : (table : Tzif) (shown : ℕ) (before after : Offset) → FileSays table shown (Gap before after)
    → IsNotShownOnce table shown
in_gap table shown before after says m within once =
    let same : Gap before after ≡ Unambiguous once.offset = says_one table shown _ _ says once.says in cc

-- a clock at one offset shows the time at one moment
pub same_moment : (shown : ℕ) (seconds : ℤ) (m n : ℕ) → pos shown ≡ pos m +ℤ (pos 1000 *ℤ seconds)
    → pos shown ≡ pos n +ℤ (pos 1000 *ℤ seconds) → m ≡ n
same_moment shown seconds m n h k = omega (arith, signed_arith)

-- the seconds of an offset are a number of 32 bits
pub seconds_kept : (o : Offset) → to_z w32 (of_z w32 o.seconds) ≡ o.seconds
seconds_kept o =
    let range = o.in_range in
    let fits : FitsSigned w32 o.seconds = omega (arith, signed_arith) in
    to_z-of_z w32 o.seconds fits
