-- The title of a page: a sentence.
use Rattle.std.specs.Prelude.{◌≡◌, ℕ, List, [], ◌∷◌, ◌++◌, codes, Option, Some, None}
use Rattle.std.specs.Borrow.{Bor}
use Rattle.text_fields.specs.Octets.{hex}
use Rattle.prefix_range.specs.Prefix.{Prefix}
use Rattle.prefix_range.specs.Text.{prefix_text}
use Rattle.time_text.specs.Time.{IsTimeText}
use Rattle.zone_times.specs.declared.zone.ZoneFile.{ZoneFile}
use Rattle.zone_times.specs.Local.{IsLocalText}
use Rattle.report_render.specs.declared.title.ClaimedDelegation.{ClaimedDelegation}
use Rattle.report_render.specs.declared.title.PageTitle.{PageTitle}
use Rattle.report_render.specs.declared.title.PageTitle.TheVariants as title

-- a moment in a zone's local time with its offset, or in UTC where no zone is given
abbrev pub IsTitleTime : Option (Bor ZoneFile) → ℕ → List ℕ → Type 0
IsTitleTime None m text = IsTimeText m text
IsTitleTime (Some clock) m text = IsLocalText clock.now.table m text

-- a client's identifier, and that it held a prefix
abbrev pub client_held : (holder : List ℕ) → Prefix → List ℕ
client_held holder prefix = hex holder ++ (codes " held " ++ prefix_text prefix)

-- a sentence that ends with a moment
pub record IsAt (clock : Option (Bor ZoneFile)) (front : List ℕ) (at : ℕ) (text : List ℕ) : Type 0 where
  pub time : List ℕ
  pub time_is : IsTitleTime clock at time
  pub spelled : text ≡ front ++ (codes " at " ++ time)

-- a sentence that ends with the moments of an interval
pub record IsFromTo (clock : Option (Bor ZoneFile)) (front : List ℕ) (from to : ℕ) (text : List ℕ) : Type 0 where
  pub begin : List ℕ
  pub begin_is : IsTitleTime clock from begin
  pub end : List ℕ
  pub end_is : IsTitleTime clock to end
  pub spelled : text ≡ front ++ (codes " from " ++ (begin ++ (codes " to " ++ end)))

-- only what is shown is said to be held
abbrev pub IsTitle : Option (Bor ZoneFile) → PageTitle → List ℕ → Type 0
IsTitle clock (title.HeldAt holder prefix at) text = IsAt clock (codes "Client " ++ client_held holder prefix) at text
IsTitle clock (title.Held c) text =
    IsFromTo clock (codes "Client " ++ client_held c.holder c.prefix) c.from c.to text
IsTitle clock (title.NotShown prefix at) text =
    IsAt clock (codes "Not shown of anybody: " ++ prefix_text prefix) at text
IsTitle clock (title.NotAccepted c) text =
    IsFromTo clock (codes "Not accepted: that client " ++ client_held c.holder c.prefix) c.from c.to text
IsTitle clock title.Unread text = text ≡ codes "Nothing could be read of what was asked"
