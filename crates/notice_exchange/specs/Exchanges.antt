-- What two servers have told each other by notices over one connection, from one end.
use Rattle.std.specs.Prelude.{◌≡◌, ◌⊎◌, ◌+ℤ◌, pos, ℤ, ℕ, ◌+◌, ◌==◌, ◌&&◌, max, min, List, [], ◌∷◌, ◌++◌, map, if◌then◌else◌}
use Rattle.std.specs.Prelude.{Option, Some, None}
use Rattle.std.specs.List.{AllByRecursion}
use Rattle.book_state.specs.declared.pool.Pool.{Pool}
use Rattle.server_settings.specs.Settings.{ServerSettings}
use Rattle.link_notices.specs.Clocks.{IsTooFarOff}
use Rattle.link_notices.specs.Comparing.{KeepsApart, differences}
use Rattle.link_notices.specs.declared.clocks.ClockExchange.{ClockExchange}
use Rattle.link_notices.specs.declared.comparing.SettingsDifference.{SettingsDifference}
use Rattle.link_notices.specs.declared.notice.UnitPool.{UnitPool}
use Rattle.link_notices.specs.declared.notice.PairSettings.{PairSettings}
use Rattle.link_notices.specs.declared.notice.Notice.{Notice}
use Rattle.link_notices.specs.declared.notice.Notice.TheVariants.{Program, Settings, Clock, ClockReply}
use Rattle.notice_exchange.specs.declared.exchange.ClockQuestion.{ClockQuestion}
use Rattle.notice_exchange.specs.declared.stage.ExchangeStage.{ExchangeStage}
use Rattle.notice_exchange.specs.declared.stage.ExchangeStage.TheVariants.{Asks, Apart, Joins}
use Rattle.notice_exchange.specs.declared.stage.KeptApart.TheVariants.{Settings as BySettings, Clocks as ByClocks}

abbrev pub unit_pool : Pool → UnitPool
unit_pool p = record { prefix = p.prefix; unit_length = p.unit_length }

-- the settings of a server that concern its partner
abbrev pub shared_settings : ServerSettings → PairSettings
shared_settings s =
    record {
      skew = s.skew;
      mclt = s.mclt;
      life = s.life;
      transit = s.transit;
      pools = map unit_pool s.pools;
    }

-- what the partner's settings are worth: its skew, and in what they differ from this server's
pub record Told : Type 0 where
  pub skew : ℕ
  pub differences : List SettingsDifference

-- this server's settings; its last question; what the partner's settings are worth, once it told them; its last answer;
-- and what is to be answered to its questions
pub record Exchange : Type 0 where
  pub own : PairSettings
  pub question : Option ClockQuestion
  pub told : Option Told
  pub clock : Option ClockExchange
  pub answers : List Notice

-- an exchange of which nothing was heard
abbrev pub beginning : PairSettings → Exchange
beginning own = record { own = own; question = None; told = None; clock = None; answers = [] }

-- The answer to the last question was back when this server's clock showed `now`. One to another question says nothing.
abbrev pub answered_at : Option ClockQuestion → (number asked answered now : ℕ) → Option ClockExchange → Option ClockExchange
answered_at None number asked answered now before = before
answered_at (Some q) number asked answered now before =
    if q.number == number && q.asked == asked
    then Some (record { asked = asked; answered = answered; back = now })
    else before

-- what was heard when this server's clock showed `now`
abbrev pub heard : Notice → (now : ℕ) → Exchange → Exchange
heard (Program name version) now e = e
heard (Settings other) now e =
    record e { told = Some (record { skew = other.skew; differences = differences e.own other }) }
heard (Clock number asked) now e = record e { answers = e.answers ++ ClockReply number asked now ∷ [] }
heard (ClockReply number asked answered) now e =
    record e { clock = answered_at e.question number asked answered now e.clock }

-- ---- how far it has come

-- the skew by which the two clocks are judged, in milliseconds
abbrev pub judged : (own other : ℕ) → ℕ
judged own other = max (min own other) 100

-- one of these differences
abbrev pub IsAmong : SettingsDifference → List SettingsDifference → Type 0
IsAmong d [] = ⊥
IsAmong d (e ∷ ds) = (d ≡ e) ⊎ IsAmong d ds

abbrev pub LetsJoin : SettingsDifference → Type 0
LetsJoin d = KeepsApart d → ⊥

-- the two may join: the partner's settings and an answer of its clock are known, and neither keeps them apart
pub record MayJoin (e : Exchange) : Type 0 where
  pub settings : Told
  pub told : e.told ≡ Some settings
  pub agree : AllByRecursion LetsJoin settings.differences
  pub clock : ClockExchange
  pub answered : e.clock ≡ Some clock
  pub near : IsTooFarOff (judged e.own.skew settings.skew) clock → ⊥

-- a setting keeps them apart
pub record IsApartBySettings (e : Exchange) (d : SettingsDifference) : Type 0 where
  pub settings : Told
  pub told : e.told ≡ Some settings
  pub among : IsAmong d settings.differences
  pub apart : KeepsApart d

-- the clocks do
pub record IsApartByClocks (e : Exchange) (least most : ℤ) : Type 0 where
  pub settings : Told
  pub told : e.told ≡ Some settings
  pub clock : ClockExchange
  pub answered : e.clock ≡ Some clock
  pub far : IsTooFarOff (judged e.own.skew settings.skew) clock
  pub is_least : least +ℤ pos clock.back ≡ pos clock.answered
  pub is_most : most +ℤ pos clock.asked ≡ pos clock.answered

abbrev pub IsStage : Exchange → ExchangeStage → Type 0
IsStage e Asks = (e.told ≡ None) ⊎ (e.clock ≡ None)
IsStage e (Apart (BySettings d)) = IsApartBySettings e d
IsStage e (Apart (ByClocks range)) = IsApartByClocks e range.least range.most
IsStage e Joins = MayJoin e
