-- What the object of an answer that names a holder says of the world.
use Rattle.std.specs.Prelude.{◌≡◌, ◌∷◌, [], ℕ, List, Some, codes}
use Rattle.serde_json.specs.Data.{Data}
use Rattle.serde_json.specs.Find.{get}
use Rattle.text_fields.specs.Octets.{hex}
use Rattle.journal_lines.specs.declared.line.Journal.{Journal as Lines}
use Rattle.book_rules.specs.NextHead.{AreLegal}
use Rattle.causal_order.specs.Journals.{Journals, journals_of}
use Rattle.causal_order.specs.declared.certificate.Certificate.{Certificate}
use Rattle.certificate.specs.Spelling.{certificate_text}
use Rattle.attribution.specs.Snapshot.{snapshots, IsTrueInRunsThatBeginSo}
use Rattle.plain_search.specs.declared.query.HolderQuery.{HolderQuery}
use Rattle.volume_spans.specs.declared.span.SpanPair.{SpanPair}
use Rattle.desk_args.specs.declared.settings.SettingsCheck.{SettingsCheck}
use Rattle.candidate_leases.specs.declared.volume_ends.VolumeEnds.{VolumeEnds}
use Rattle.holder_answers.specs.declared.answer.HolderAnswer.TheVariants.{Held}
use Rattle.holder_answers.specs.HolderAnswers.{IsAnswerOver}
use Rattle.report_data.specs.Fields.{IsText, IsLineOf}
use Rattle.report_data.specs.Rulings.{IsTime}
use Rattle.answer_data.specs.Answers.{IsAnswerLine}
use Rattle.answer_data.specs.Parts.{Said, nothing, named_by, with_answer, with_access, with_volumes}
use Rattle.answer_data.specs.Texts.{AreTexts}

-- the value at a name is of this form
abbrev pub HasAt : List ℕ → (Data → Type 0) → Data → Type 0
HasAt name form d = (value : Data) × (get name d ≡ Some value) × form value

-- An object names the client of a certificate, from the one moment up to the other, and has this certificate alone, which
-- spells the prefix.
pub record Names (c : Certificate) (d : Data) : Type 0 where
  pub holder : HasAt (codes "holder") (IsText (hex c.holder)) d
  pub from : HasAt (codes "from") (IsTime c.from) d
  pub to : HasAt (codes "to") (IsTime c.to) d
  pub certificates : HasAt (codes "certificates") (AreTexts (certificate_text c ∷ [])) d

-- an answer that names who held a prefix by this certificate, and no other, whatever else it says
pub record SaysHeld (c : Certificate) (s : Said) : Type 0 where
  pub named : s.named ≡ Some (named_by c)
  pub certificate : s.certificates ≡ certificate_text c ∷ []

-- Such is what is said of an answer that names a holder, over two texts, and over these volumes with access records.
abbrev pub HoldersAreSaid : Type 0
HoldersAreSaid = (c : Certificate) (spans : SpanPair) (access : List ℕ)
    → SaysHeld c (with_answer (Held c) nothing)
    × SaysHeld c (with_access access (with_answer (Held c) (with_volumes spans nothing)))

-- The object of an answer over two journals that names a holder is read as one that names the client of the certificate
-- that was found, and what this says is true in every run of the pair whose volumes begin as the journals that were read.
abbrev pub HolderObjectsAreTrue : Type 0
HolderObjectsAreTrue = (a b : Lines) (q : HolderQuery) (settings : SettingsCheck) (ends : VolumeEnds) (c : Certificate)
    (command : List ℕ) (status : ℕ) (s : Said) (notes line : List ℕ)
    → IsAnswerOver a b q settings ends (Held c) → SaysHeld c s → IsAnswerLine command status s notes line
    → (read : Journals) → journals_of a b ≡ snapshots read
    → ((d : Data) × IsLineOf d line × Names c d) × IsTrueInRunsThatBeginSo AreLegal read q.skew q.transit c
