-- What is told of why a search for a holder names nobody.
use Rattle.std.specs.Prelude.{List, []}
use Rattle.plain_search.specs.declared.query.HolderQuery.{HolderQuery}
use Rattle.report_document.specs.Reasons.{refusal_told, reasons_told}
use Rattle.report_document.specs.Telling.{Told}
use Rattle.holder_answers.specs.declared.answer.HolderAnswer.{HolderAnswer}
use Rattle.holder_answers.specs.declared.answer.HolderAnswer.TheVariants.{Held, Refused, NotNamed, TooLong}

-- where something is refused, of no delegation; nothing, where a client is named
abbrev pub no_holder_told : HolderQuery → HolderAnswer → List Told
no_holder_told query (Held certificate) = []
no_holder_told query (Refused ruling) = refusal_told query ruling
no_holder_told query (NotNamed n) = reasons_told query n.why n.leases.items
no_holder_told query (TooLong n) = reasons_told query n.why n.leases.items
