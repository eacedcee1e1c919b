use Rattle.certificate.proofs.TextLaws.{text_takes, text_again}
use Rattle.std.proofs.Common.{◌∙◌, ap}
use Rattle.certificate.specs.Faults.{certificate_of}
use Rattle.certificate.proofs.laws.certificates_are_spelled.Goals as goal

pub returns : goal.returns
returns c text claim = (text_takes text claim, λ h. ap certificate_of h.1 ∙ text_again claim h.0)
