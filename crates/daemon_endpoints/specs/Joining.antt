-- When the session of a connection begins: at once where no notices go over it, and else only once the two may join.
use Rattle.std.specs.Prelude.{◌≡◌, ◌⊎◌, ℕ, false, List, [], ◌∷◌, ◌++◌, Option, Some, None, Result, OnOk}
use Rattle.daemon_io.specs.declared.notice_use.NoticeUse.{NoticeUse}
use Rattle.daemon_io.specs.declared.notice_use.NoticeUse.TheVariants.{Understood, OlderPartner, NoKey}
use Rattle.notice_exchange.specs.Talks.{Talk, PutsBehind}
use Rattle.notice_exchange.specs.declared.talk.LinkEvent.{LinkEvent}
use Rattle.notice_exchange.specs.declared.talk.LinkEvent.TheVariants.{Begins, Frames}

-- What a connection begins with: a talk in which the two may not join yet, and nothing waits for the session; without
-- notices the session begins.
abbrev pub OpensBy : NoticeUse → Option Talk → List LinkEvent → Type 0
OpensBy Understood None events = ⊥
OpensBy Understood (Some talk) events = (talk.may_join ≡ false) × (events ≡ [])
OpensBy OlderPartner talk events = (talk ≡ None) × (events ≡ Begins ∷ [])
OpensBy NoKey talk events = (talk ≡ None) × (events ≡ Begins ∷ [])

-- Octets came: what they lead to waits for the session behind what waited. Without notices all are frames; else it is what
-- the talk hands on. Where they are refused the connection is over.
abbrev pub Brings : {T E : Type 0} → Result T E → List ℕ → (old : Option Talk) → (waited : List LinkEvent)
    → (new : Option Talk) → (waits : List LinkEvent) → Type 0
Brings result octets None waited new waits =
    (new ≡ None) × ((waits ≡ waited ++ Frames octets ∷ []) ⊎ (waits ≡ waited))
    × OnOk result (waits ≡ waited ++ Frames octets ∷ [])
Brings result octets (Some talk) waited new waits =
    (reached : Talk) × PutsBehind talk reached waited waits × OnOk result (new ≡ Some reached)
