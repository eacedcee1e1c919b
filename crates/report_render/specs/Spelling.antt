-- How the values of a report are spelled.
use Rattle.std.specs.Prelude.{◌≡◌, ℕ, ◌^◌, ◌<◌, ◌≤◌, ◌⊎◌, List, [], ◌∷◌, ◌++◌, codes, Option, Some, None}
use Rattle.std.specs.Borrow.{Bor}
use Rattle.std.specs.Fmt.{decimal}
use Rattle.text_fields.specs.Octets.{hex}
use Rattle.prefix_range.specs.Text.{prefix_text}
use Rattle.client_id.specs.Duid.{iaid_text}
use Rattle.time_text.specs.Time.{IsTimeText}
use Rattle.zone_times.specs.declared.zone.ZoneFile.{ZoneFile}
use Rattle.zone_times.specs.Local.{IsLocalText}
use Rattle.journal_text.specs.Spelling.{entry_text}
use Rattle.attribution.specs.VerdictText.{side_text, place_text}
use Rattle.pair_judgement.specs.Judgements.{judgement_line}
use Rattle.report_document.specs.declared.word.ReportWord.{ReportWord}
use Rattle.report_document.specs.declared.word.ReportWord.TheVariants as word
use Rattle.report_document.specs.declared.block.Block.{Block}
use Rattle.report_document.specs.declared.block.Document.{Document}
use Rattle.report_render.specs.declared.text_block.TextBlock.{TextBlock}
use Rattle.report_render.specs.declared.text_block.RenderedText.{RenderedText}

-- in UTC as RFC 3339 writes it, and its milliseconds since 1970 in brackets
pub record IsTimed (m : ℕ) (text : List ℕ) : Type 0 where
  pub time : List ℕ
  pub time_is : IsTimeText m time
  pub spelled : text ≡ time ++ (codes " [" ++ (decimal m ++ codes "]"))

-- in a zone's local time, in parentheses
pub record IsLocalPart (clock : ZoneFile) (m : ℕ) (text : List ℕ) : Type 0 where
  pub local : List ℕ
  pub local_is : IsLocalText clock.table m local
  pub spelled : text ≡ codes " (" ++ (local ++ codes ")")

-- that, where a zone is given
abbrev pub IsZoned : Option (Bor ZoneFile) → ℕ → List ℕ → Type 0
IsZoned None m text = text ≡ []
IsZoned (Some clock) m text = IsLocalPart clock.now m text

-- both
pub record IsTimedAndZoned (clock : Option (Bor ZoneFile)) (m : ℕ) (text : List ℕ) : Type 0 where
  pub front : List ℕ
  pub front_is : IsTimed m front
  pub rest : List ℕ
  pub rest_is : IsZoned clock m rest
  pub spelled : text ≡ front ++ rest

-- that, or from 2^48 on the milliseconds alone
abbrev pub IsMomentText : Option (Bor ZoneFile) → ℕ → List ℕ → Type 0
IsMomentText clock m text = ((m ≤ 2 ^ 48) × IsTimedAndZoned clock m text) ⊎ ((2 ^ 48 < m) × (text ≡ decimal m))

-- the zone is that of a reader who wants local times
abbrev pub IsWordText : Option (Bor ZoneFile) → ReportWord → List ℕ → Type 0
IsWordText _ (word.Prose prose) text = text ≡ prose.now
IsWordText _ (word.Side side) text = text ≡ side_text side
IsWordText _ (word.Line r) text = text ≡ place_text r.side r.number
IsWordText _ (word.Reading m) text = IsMomentText None m text
IsWordText clock (word.Moment m) text = IsMomentText clock m text
IsWordText _ (word.BeforeEpoch n) text = text ≡ decimal n ++ codes " ms before 1970-01-01T00:00:00.000Z"
IsWordText _ (word.Milliseconds n) text = text ≡ decimal n ++ codes " ms"
IsWordText _ (word.Seconds n) text = text ≡ decimal n ++ codes " s"
IsWordText _ (word.Number n) text = text ≡ decimal n
IsWordText _ (word.Client client) text = text ≡ hex client
IsWordText _ (word.Association iaid) text = text ≡ iaid_text iaid
IsWordText _ (word.Prefix prefix) text = text ≡ prefix_text prefix
IsWordText _ (word.Entry line) text = text ≡ entry_text line

-- one behind the other
abbrev pub AreWordTexts : Option (Bor ZoneFile) → List ReportWord → List ℕ → Type 0
AreWordTexts clock [] text = text ≡ []
AreWordTexts clock (w ∷ words) text =
    (front : List ℕ) × (rest : List ℕ) × (text ≡ front ++ rest) × IsWordText clock w front
    × AreWordTexts clock words rest

-- what a word appends
pub record AddsWord (clock : Option (Bor ZoneFile)) (w : ReportWord) (old new : List ℕ) : Type 0 where
  pub text : List ℕ
  pub text_is : IsWordText clock w text
  pub added : new ≡ old ++ text

-- what words append
pub record AddsWords (clock : Option (Bor ZoneFile)) (words : List ReportWord) (old new : List ℕ) : Type 0 where
  pub text : List ℕ
  pub texts : AreWordTexts clock words text
  pub added : new ≡ old ++ text

-- what a moment appends: its time in UTC, its local time, or both
pub record AddsTimed (m : ℕ) (old new : List ℕ) : Type 0 where
  pub text : List ℕ
  pub text_is : IsTimed m text
  pub added : new ≡ old ++ text

pub record AddsLocalPart (clock : ZoneFile) (m : ℕ) (old new : List ℕ) : Type 0 where
  pub text : List ℕ
  pub text_is : IsLocalPart clock m text
  pub added : new ≡ old ++ text

pub record AddsZoned (clock : Option (Bor ZoneFile)) (m : ℕ) (old new : List ℕ) : Type 0 where
  pub text : List ℕ
  pub text_is : IsZoned clock m text
  pub added : new ≡ old ++ text

pub record AddsMoment (clock : Option (Bor ZoneFile)) (m : ℕ) (old new : List ℕ) : Type 0 where
  pub text : List ℕ
  pub text_is : IsMomentText clock m text
  pub added : new ≡ old ++ text

-- the block's words, one behind the other
pub record IsPassage (clock : Option (Bor ZoneFile)) (b : Block) (p : TextBlock) : Type 0 where
  pub kind : p.kind ≡ b.kind
  pub text : AreWordTexts clock b.words.items p.text.items

-- a passage for each block, in their order
abbrev pub ArePassages : Option (Bor ZoneFile) → List Block → List TextBlock → Type 0
ArePassages clock [] passages = passages ≡ []
ArePassages clock (b ∷ blocks) passages =
    (p : TextBlock) × (rest : List TextBlock) × (passages ≡ p ∷ rest) × IsPassage clock b p × ArePassages clock blocks rest

-- the ruling's line, and the passages
pub record IsSpelling (clock : Option (Bor ZoneFile)) (d : Document) (s : RenderedText) : Type 0 where
  pub line : s.line.items ≡ judgement_line d.ruling
  pub passages : ArePassages clock d.blocks.items s.passages.items
