-- What is true where the desk's status is 0: the theorem, at the door.
use Rattle.std.specs.Prelude.{◌≡◌, ⊤, ℕ, List, All, Option, IfSome}
use Rattle.std.specs.Io.KnownBytes.{Appends}
use Rattle.causal_order.specs.declared.certificate.Certificate.{Certificate}
use Rattle.certificate.specs.Spelling.{certificate_text}
use Rattle.auditor.specs.Texts.{SpellsCertificate, TextsAreTrueInEveryRun}
use Rattle.desk_args.specs.declared.command.Command.{Command}
use Rattle.desk_args.specs.declared.command.Command.TheVariants.{Audit, Batch, Timeline, Clocks, Find, Who}
use Rattle.attribution_desk.specs.Input.{first_text, text_behind}
use Rattle.attribution_desk.specs.Batch.{AreTexts}
use Rattle.attribution_desk.specs.Who.{IsHeldText}

-- the certificate is true in every run of the pair that leaves the two journals in front of it
abbrev pub IsTrueOfTexts : List ℕ → (skew transit : ℕ) → Type 0
IsTrueOfTexts input skew transit =
    TextsAreTrueInEveryRun (first_text input) (first_text (text_behind input)) (text_behind (text_behind input)) skew
    transit

-- each of the certificates behind the two journals is
abbrev pub AreTrueInEveryRun : List ℕ → (skew transit : ℕ) → Type 0
AreTrueInEveryRun input skew transit =
    (texts : List (List ℕ)) × AreTexts (text_behind (text_behind input)) texts
    × All (λ text. TextsAreTrueInEveryRun (first_text input) (first_text (text_behind input)) text skew transit) texts

-- The certificate is what its text spells, and it is true in every run of the pair that leaves the two journals: B's is
-- all behind A's.
pub record IsTrueCertificate (input : List ℕ) (skew transit : ℕ) (c : Certificate) : Type 0 where
  pub spelled : SpellsCertificate (certificate_text c) c
  pub holds : TextsAreTrueInEveryRun (first_text input) (text_behind input) (certificate_text c) skew transit

-- what was written is the text of such a certificate
abbrev pub IsTrueEvidence : (input text : List ℕ) → (skew transit : ℕ) → Type 0
IsTrueEvidence input text skew transit =
    (c : Certificate) × (text ≡ certificate_text c) × IsTrueCertificate input skew transit c

-- what was written names the client of such a certificate and its interval, and has the certificate's text behind that
abbrev pub IsTrueHolder : (input text : List ℕ) → (skew transit : ℕ) → Type 0
IsTrueHolder input text skew transit =
    (c : Certificate) × IsHeldText c text × IsTrueCertificate input skew transit c

-- what is true of an input and of the text that answers it with status 0
abbrev pub SaysTrue : Command → (input text : List ℕ) → Type 0
SaysTrue (Audit skew transit) input text = IsTrueOfTexts input skew transit
SaysTrue (Batch skew transit workers) input text = AreTrueInEveryRun input skew transit
SaysTrue (Find q) input text = IsTrueEvidence input text q.skew q.transit
SaysTrue (Who q settings) input text = IsTrueHolder input text q.skew q.transit
SaysTrue Timeline input text = ⊤
SaysTrue Clocks input text = ⊤

-- where it is known what the reader had to give: what was written behind what the writer held says what is true
abbrev pub WritesTrue : (List ℕ → List ℕ → Type 0) → Option (List ℕ) → Option (List ℕ) → Option (List ℕ) → Type 0
WritesTrue says given held written = IfSome given (λ input. (text : List ℕ) × says input text × Appends held written text)
