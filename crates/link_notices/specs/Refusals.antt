-- Texts that are passed over, and those that are refused.
use Rattle.std.specs.Prelude.{◌≡◌, ◌≢◌, ℕ, List, ◌∷◌, codes, Option, Some, None}
use Rattle.text_fields.specs.Cuts.{split}
use Rattle.link_notices.specs.declared.words.TheConstants.{SPACE}
use Rattle.link_notices.specs.declared.error.NoticeError.{NoticeError}
use Rattle.link_notices.specs.declared.error.NoticeError.TheVariants as errors
use Rattle.link_notices.specs.declared.notice.Notice.{Notice}
use Rattle.link_notices.specs.Spelling.{notice_text, IsNotice}

-- the text begins with this word
pub record BeginsWith (name text : List ℕ) : Type 0 where
  pub rest : List (List ℕ)
  pub words : split SPACE text ≡ name ∷ rest

-- its first word is none of those that are known
pub record IsUnknown (text : List ℕ) : Type 0 where
  pub program : BeginsWith (codes "program") text → ⊥
  pub settings : BeginsWith (codes "settings") text → ⊥
  pub clock : BeginsWith (codes "clock") text → ⊥
  pub reply : BeginsWith (codes "clock-reply") text → ⊥

-- the first word of the texts that are refused with this error
abbrev pub name_of : NoticeError → Option (List ℕ)
name_of errors.Program = Some (codes "program")
name_of errors.Settings = Some (codes "settings")
name_of errors.Clock = Some (codes "clock")
name_of errors.ClockReply = Some (codes "clock-reply")
name_of errors.Length = None
name_of errors.Memory = None

-- it begins as the texts of some notices do, and is none's
pub record IsMisspelled (text : List ℕ) (e : NoticeError) : Type 0 where
  pub name : List ℕ
  pub named : name_of e ≡ Some name
  pub begins : BeginsWith name text
  pub other : (n : Notice) → IsNotice n → text ≢ notice_text n

-- what a fault says of the text: a refused growth says nothing
abbrev pub fault_of : NoticeError → Option NoticeError
fault_of errors.Memory = None
fault_of e = Some e
