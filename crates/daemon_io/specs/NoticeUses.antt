-- Whether notices go over a connection, by the nonces of its ends.
use Rattle.std.specs.Prelude.{⊤, ◌≡◌, Option, Some, None}
use Rattle.link_auth.specs.declared.key_handshake.PeerNonces.{PeerNonces}
use Rattle.link_notices.specs.Nonces.{EndsSo}
use Rattle.daemon_io.specs.declared.notice_use.NoticeUse.{NoticeUse}
use Rattle.daemon_io.specs.declared.notice_use.NoticeUse.TheVariants.{Understood, OlderPartner, NoKey}

-- both nonces say that their ends understand notices
abbrev pub BothEndSo : PeerNonces → Type 0
BothEndSo nonces = EndsSo nonces.own × EndsSo nonces.other

abbrev pub IsNoticeUse : Option PeerNonces → NoticeUse → Type 0
IsNoticeUse None NoKey = ⊤
IsNoticeUse (Some nonces) Understood = BothEndSo nonces
IsNoticeUse (Some nonces) OlderPartner = BothEndSo nonces → ⊥
IsNoticeUse _ _ = ⊥
