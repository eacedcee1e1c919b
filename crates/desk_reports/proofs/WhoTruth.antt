-- The object of an answer over files that names who held a prefix.
use Rattle.std.specs.Prelude.{codes}
use Rattle.std.proofs.Common.{◌∙◌, ap, subst, sym}
use Rattle.holder_answers.specs.declared.answer.HolderAnswer.{HolderAnswer}
use Rattle.joined_answers.specs.Laws.{NamedIsTrue}
use Rattle.archive_desk.specs.declared.holding.HolderReply.{HolderReply}
use Rattle.archive_desk.specs.declared.holding.HolderReply.TheVariants.{Answered}
use Rattle.archive_desk.specs.Telling.{holder_status}
use Rattle.answer_data.specs.Laws.{SaysHeld, HoldersAreSaid}
use Rattle.answer_data.specs.Parts.{nothing, with_access}
use Rattle.answer_data.proofs.Named.{object_names}
use Rattle.desk_reports.specs.Answers.{who_said}
use Rattle.desk_reports.specs.WhoLaws.{WhoObjectsAreTrue}

pub who_true : NamedIsTrue → HoldersAreSaid → WhoObjectsAreTrue
who_true named said r q settings a c answer notes line is held same written =
    let access = answer.access.items in
    let reply = same ∙ ap (λ (x : HolderAnswer). Answered a.pair a.spans x a.until) held in
    let says = subst (λ (x : HolderReply). SaysHeld c (with_access access (who_said x nothing))) (sym reply)
    ((said c a.spans access).1) in (
      (
        written.0,
        written.2,
        object_names (codes "who") (holder_status answer.reply) (with_access access (who_said answer.reply nothing)) notes
            c written.0 written.1 says,
      ),
      named r q settings a c is held,
    )
