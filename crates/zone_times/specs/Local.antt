-- What a clock of a zone shows (RFC 3339, section 5.6: a local time with its offset from UTC).
use Rattle.std.specs.Prelude.{◌≡◌, ◌⊎◌, ℕ, ℤ, pos, negsuc, ◌+ℤ◌, ◌*ℤ◌, ◌+◌, ◌/◌, ◌%◌, List, [], ◌∷◌, ◌++◌, Ok}
use Rattle.jiff_core.specs.Timestamp.{IsTimestampNanos}
use Rattle.jiff_tz.specs.declared.tzif.Tzif.{Tzif}
use Rattle.jiff_tz.specs.Tzif.{offset_at, tzif_view}
use Rattle.jiff_tz.specs.TzifReader.{read_tzif}
use Rattle.time_text.specs.Time.{two, IsTimeText}

-- the table is what the octets say
abbrev pub IsZoneOf : List ℕ → Tzif → Type 0
IsZoneOf octets table = read_tzif octets ≡ Ok (tzif_view table)

-- by so many seconds the zone's clocks are ahead of UTC at a moment: as its file says, for moments up to the year 9999
abbrev pub IsOffsetAt : Tzif → (m : ℕ) → ℤ → Type 0
IsOffsetAt table m seconds =
    IsTimestampNanos (pos m *ℤ pos 1_000_000) → seconds ≡ (offset_at table (pos m *ℤ pos 1_000_000)).seconds

-- hours and minutes
abbrev pub hours_text : (sign seconds : ℕ) → List ℕ
hours_text sign seconds = sign ∷ two (seconds / 3600 % 100) ++ (58 ∷ two (seconds / 60 % 60))

abbrev pub offset_text : ℤ → List ℕ
offset_text (pos n) = hours_text 43 n
offset_text (negsuc n) = hours_text 45 (n + 1)

-- what a clock at this offset shows of the moment, as a clock in UTC would write it, but with the offset for its Z
pub record IsShownAt (m : ℕ) (seconds : ℤ) (text : List ℕ) : Type 0 where
  pub shown : ℕ
  pub ahead : pos shown ≡ pos m +ℤ (pos 1000 *ℤ seconds)
  pub front : List ℕ
  pub front_is : IsTimeText shown (front ++ 90 ∷ [])
  pub spelled : text ≡ front ++ offset_text seconds

-- the moment in UTC
pub record AddsUtc (m : ℕ) (old new : List ℕ) : Type 0 where
  pub text : List ℕ
  pub text_is : IsTimeText m text
  pub added : new ≡ old ++ text

-- what a clock at this offset shows, or the moment in UTC
pub record AddsShown (m : ℕ) (seconds : ℤ) (old new : List ℕ) : Type 0 where
  pub text : List ℕ
  pub text_is : IsShownAt m seconds text ⊎ IsTimeText m text
  pub added : new ≡ old ++ text

-- what a clock shows at the offset that the zone's file says, or the moment in UTC
pub record IsLocalText (table : Tzif) (m : ℕ) (text : List ℕ) : Type 0 where
  pub seconds : ℤ
  pub offset : IsOffsetAt table m seconds
  pub text_is : IsShownAt m seconds text ⊎ IsTimeText m text

pub record AddsLocal (table : Tzif) (m : ℕ) (old new : List ℕ) : Type 0 where
  pub text : List ℕ
  pub text_is : IsLocalText table m text
  pub added : new ≡ old ++ text
