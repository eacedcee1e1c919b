use Rattle.std.specs.Prelude.{Ok}
use Rattle.std.proofs.Common.{refl}
use Rattle.binding_rules.specs.declared.role.Role.TheVariants.{Primary, Secondary}
use Rattle.journal_text.specs.Faults.{journal_of_side}
use Rattle.attribution.specs.declared.verdict.Verdict.TheVariants.{Accepted}
use Rattle.auditor.proofs.TextVerdicts.{accepted_parsed, texts_parsed}
use Rattle.auditor.proofs.laws.accepted_texts_are_true.Goals as goal

pub returns : goal.returns
returns c a b certificate skew transit h =
    let ra = journal_of_side Primary a in
    let rb = journal_of_side Secondary b in
    texts_parsed c.text_gives_what_it_spells.ensures.side a b certificate skew transit ra rb refl refl
    (accepted_parsed c.certificates_are_spelled.ensures ra rb certificate skew transit (Ok Accepted) refl h)
