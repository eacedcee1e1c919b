-- What is appended of a moment.
use Rattle.std.proofs.Common.{◌≡◌, ℕ, ℤ, pos, ◌+ℤ◌, ◌*ℤ◌, List, [], ◌∷◌, ◌++◌, refl, inl, inr, ◌∙◌, ap, append_assoc}
use Rattle.jiff_tz.specs.declared.tzif.Tzif.{Tzif}
use Rattle.time_text.specs.Time.{IsTimeText}
use Rattle.zone_times.specs.Local.{offset_text, IsOffsetAt, IsShownAt, AddsUtc, AddsShown, AddsLocal}

pub utc_shown : (m : ℕ) (seconds : ℤ) (old new : List ℕ) → AddsUtc m old new → AddsShown m seconds old new
utc_shown m seconds old new h = record { text = h.text; text_is = inr h.text_is; added = h.added }

pub shown_local : (m : ℕ) (seconds : ℤ) (shown : ℕ) (front old mid new : List ℕ)
    → pos shown ≡ pos m +ℤ (pos 1000 *ℤ seconds) → IsTimeText shown (front ++ 90 ∷ [])
    → mid ≡ old ++ front → new ≡ mid ++ offset_text seconds → AddsShown m seconds old new
shown_local m seconds shown front old mid new a f e g = record {
  text = front ++ offset_text seconds;
  text_is = inl (record { shown = shown; ahead = a; front = front; front_is = f; spelled = refl });
  added = g ∙ (ap (λ t. t ++ offset_text seconds) e ∙ append_assoc old front (offset_text seconds));
}

pub local : (table : Tzif) (m : ℕ) (seconds : ℤ) (old new : List ℕ) → IsOffsetAt table m seconds
    → AddsShown m seconds old new → AddsLocal table m old new
local table m seconds old new h k = record {
  text = k.text;
  text_is = record { seconds = seconds; offset = h; text_is = k.text_is };
  added = k.added;
}
