-- Who is named over spans of volumes held the prefix, in every run of the pair that leaves the volumes.
use Rattle.std.specs.Prelude.{◌≡◌}
use Rattle.causal_order.specs.declared.certificate.Certificate.{Certificate}
use Rattle.book_rules.specs.NextHead.{AreLegal}
use Rattle.joined_runs.specs.Laws.{IsTrueOverVolumesSoFar}
use Rattle.plain_search.specs.declared.query.HolderQuery.{HolderQuery}
use Rattle.desk_args.specs.declared.settings.SettingsCheck.{SettingsCheck}
use Rattle.holder_answers.specs.declared.answer.HolderAnswer.TheVariants.{Held}
use Rattle.volume_spans.specs.declared.spans.ReadSpans.{ReadSpans}
use Rattle.volume_spans.specs.Laws.{volumes_of}
use Rattle.joined_answers.specs.declared.answer.SpannedAnswer.{SpannedAnswer}
use Rattle.joined_answers.specs.Answers.{IsSpanAnswer}

-- Whoever a certificate names over the journals that spans show held the prefix as it says, and nobody else did, in
-- every run of the pair that began with these volumes, whatever volumes came before them and whatever lines follow.
abbrev pub NamedIsTrue : Type 0
NamedIsTrue = (r : ReadSpans) (q : HolderQuery) (settings : SettingsCheck) (a : SpannedAnswer) (c : Certificate)
    → IsSpanAnswer r q settings a → a.answer ≡ Held c
    → IsTrueOverVolumesSoFar AreLegal (volumes_of r.primary.volumes.items r.secondary.volumes.items) q.skew q.transit c
