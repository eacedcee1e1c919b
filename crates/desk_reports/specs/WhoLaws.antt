-- What the object of an answer over files says of the world, where it names who held a prefix.
use Rattle.std.specs.Prelude.{◌≡◌, ℕ, List}
use Rattle.serde_json.specs.Data.{Data}
use Rattle.causal_order.specs.declared.certificate.Certificate.{Certificate}
use Rattle.book_rules.specs.NextHead.{AreLegal}
use Rattle.joined_runs.specs.Laws.{IsTrueOverVolumesSoFar}
use Rattle.plain_search.specs.declared.query.HolderQuery.{HolderQuery}
use Rattle.desk_args.specs.declared.settings.SettingsCheck.{SettingsCheck}
use Rattle.holder_answers.specs.declared.answer.HolderAnswer.TheVariants.{Held}
use Rattle.volume_spans.specs.declared.spans.ReadSpans.{ReadSpans}
use Rattle.volume_spans.specs.Laws.{volumes_of}
use Rattle.joined_answers.specs.declared.answer.SpannedAnswer.{SpannedAnswer}
use Rattle.joined_answers.specs.Answers.{IsSpanAnswer}
use Rattle.archive_desk.specs.declared.holding.WhoAnswer.{WhoAnswer}
use Rattle.archive_desk.specs.Who.{reply_of}
use Rattle.report_data.specs.Fields.{IsLineOf}
use Rattle.answer_data.specs.Laws.{Names}
use Rattle.desk_reports.specs.Answers.{IsWhoData}

-- Where an answer over the journals that spans show names the client of a certificate, its object is read as one that
-- names this client, the certificate's interval and its text, and what the certificate says is true in every run of the
-- pair that began with these volumes, whatever volumes came before them and whatever lines follow.
abbrev pub WhoObjectsAreTrue : Type 0
WhoObjectsAreTrue = (r : ReadSpans) (q : HolderQuery) (settings : SettingsCheck) (a : SpannedAnswer) (c : Certificate)
    (answer : WhoAnswer) (notes line : List ℕ)
    → IsSpanAnswer r q settings a → a.answer ≡ Held c → answer.reply ≡ reply_of a → IsWhoData answer notes line
    → ((d : Data) × IsLineOf d line × Names c d)
    × IsTrueOverVolumesSoFar AreLegal (volumes_of r.primary.volumes.items r.secondary.volumes.items) q.skew q.transit c
