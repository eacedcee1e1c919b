use Rattle.std.proofs.Common.{refl, ◌∙◌, ap, subst, inl, inr}
use Rattle.std.proofs.lemmas.Bool.{iff_false}
use Rattle.client_service.specs.Answering.{HasNoReply}
use Rattle.client_service.specs.EarlyReleases.{HasEarlyRelease}
use Rattle.server_core.specs.Served.{receipts_in}
use Rattle.server_core.specs.DatagramHandling.{IsHandled, partner_of}
use Rattle.server_core.specs.Owing.{HasReceipts, IsReplyOfReceipts}
use Rattle.server_core.specs.declared.committed_output.HeldAnswer.{HeldAnswer}
use Rattle.client_service.specs.declared.permit.DropReason.TheVariants.{TooMany as SentTooMany, LeftToPartner as IsLeft}
use Rattle.client_service.specs.declared.no_reply_reason.NoReplyReason.TheVariants.{Memory}
use Rattle.server_core.specs.declared.datagram_outcome.DatagramOutcome.TheVariants.{Answered, Unanswered, TooMany, LeftToPartner, EarlyRelease}
use Rattle.server_core.proofs.Owed.{same_grows, all_owed, one_more_owed, just_owed, held_as, held_more}
use Rattle.server_core.proofs.Said.{talk_later}
use Rattle.server_core.proofs.server.ServerCore.handle_datagram.Goals as goal

pub returns-in-Err-reserve-clause-grows : goal.returns-in-Err-reserve-clause-grows
returns-in-Err-reserve-clause-grows g c = same_grows _ _ (ap (λ s. s.volume) c.self.view_is)

pub returns-in-Err-TooMany-clause-grows : goal.returns-in-Err-TooMany-clause-grows
returns-in-Err-TooMany-clause-grows g c = same_grows _ _ (ap (λ s. s.volume) c.self.view_is)

pub returns-in-Err-LeftToPartner-clause-grows : goal.returns-in-Err-LeftToPartner-clause-grows
returns-in-Err-LeftToPartner-clause-grows g c = same_grows _ _ (ap (λ s. s.volume) c.self.view_is)

pub returns-in-Err-Memory-clause-grows : goal.returns-in-Err-Memory-clause-grows
returns-in-Err-Memory-clause-grows g c = same_grows _ _ (ap (λ s. s.volume) c.self.view_is)

pub invariant_of-self-in-Ok-said : goal.invariant_of-self-in-Ok-said
invariant_of-self-in-Ok-said g c =
    let grown = c.in-Ok-said.ensures.grows in
    let owed = all_owed _ _ _ grown.0 _ _ grown.1.0 c.self.invariant.owed in
    let h : HeldAnswer g.row.P.Denot = record { answer = c.in-Ok-said.answer; read = c.args.read } in
    record {
      names = c.self.invariant.names;
      owed = held_as _ _ _ _ _ (held_more _ _ _ h c.hold.ensures c.reserve.ensures.items)
          (one_more_owed _ _ _ c.self.inside.held.items h owed
          (just_owed c.self.inside.own _ _ c.args.manner.now c.in-Ok.message _ _ _ _ c.in-Ok-said.answer c.in-Ok-said.ensures.told));
      said = talk_later _ grown.0 _ c.self.inside.talk grown.1.0 c.self.invariant.said;
    }

pub returns-in-Ok-said-clause-heard : goal.returns-in-Ok-said-clause-heard
returns-in-Ok-said-clause-heard g c =
    let partner = c.partner_of-partner.ensures ∙ ap partner_of c.book-3.ensures in
    let permits = c.in-Ok-permits.permits.items in
    let lets = g.A.Admission.lets c.args.admission.now in
    let drops = g.A.Admission.drops c.args.admission.now in
    subst (λ s. IsHandled lets drops s.own c.args.manner.now s.terms c.args.peer c.args.datagram.now c.args.read s.volume c.answer-said.new.self
    s.held c.hold.new.held.items (Answered c.in-Ok.message.kind)) c.self.view_is (
      c.in-Ok.message,
      permits,
      c.in-Ok-said.answer,
      c.in-Ok.ensures.brought,
      subst (λ j. HasEarlyRelease j c.self.inside.terms c.args.read c.in-Ok.message permits → ⊥) c.book-2.ensures
          (subst (λ ps. HasEarlyRelease c.book-2.result.now c.self.inside.terms c.args.read c.in-Ok.message ps → ⊥)
          c.deref.ensures.value (iff_false c.has_early_release.ensures c.if-has_early_release.false)),
      subst (λ j. lets j c.args.read c.in-Ok.message permits) c.book.ensures c.in-Ok-permits.ensures.admitted,
      refl,
      c.in-Ok-said.ensures.back,
      subst (λ ps. IsReplyOfReceipts (partner_of c.self.inside.volume.served.journal) c.self.inside.terms c.self.inside.own
          c.args.manner.now c.in-Ok.message ps c.args.read (receipts_in c.self.inside.volume.served)
          (receipts_in c.answer-said.new.self.served) c.in-Ok-said.answer.octets c.in-Ok-said.answer.line)
          c.deref-2.ensures.value
          (subst (λ p. IsReplyOfReceipts p c.self.inside.terms c.self.inside.own c.args.manner.now c.in-Ok.message c.deref-2.result.now c.args.read
          (receipts_in c.self.inside.volume.served) (receipts_in c.answer-said.new.self.served)
          c.in-Ok-said.answer.octets c.in-Ok-said.answer.line) partner c.in-Ok-said.ensures.told),
      held_more _ _ _ (record { answer = c.in-Ok-said.answer; read = c.args.read }) c.hold.ensures
          c.reserve.ensures.items,
    )

pub invariant_of-self-in-Err-said : goal.invariant_of-self-in-Err-said
invariant_of-self-in-Err-said g c =
    let grown = c.in-Err-said.ensures.grows in
    record {
      names = c.self.invariant.names;
      owed = held_as _ _ _ _ _ c.reserve.ensures.items (all_owed _ _ _ grown.0 _ _ grown.1.0 c.self.invariant.owed);
      said = talk_later _ grown.0 _ c.self.inside.talk grown.1.0 c.self.invariant.said;
    }

pub returns-clause-heard : goal.returns-clause-heard
returns-clause-heard g c =
    let partner = c.partner_of-partner.ensures ∙ ap partner_of c.book-3.ensures in
    let permits = c.in-Ok-permits.permits.items in
    let lets = g.A.Admission.lets c.args.admission.now in
    let drops = g.A.Admission.drops c.args.admission.now in
    subst (λ s. IsHandled lets drops s.own c.args.manner.now s.terms c.args.peer c.args.datagram.now c.args.read s.volume c.answer-said.new.self
    s.held c.reserve.new.self.items (Unanswered c.in-Err-said.why)) c.self.view_is (
      c.in-Ok.message,
      c.in-Ok.ensures.brought,
      inr (
        permits,
        subst (λ j. HasEarlyRelease j c.self.inside.terms c.args.read c.in-Ok.message permits → ⊥) c.book-2.ensures
            (subst (λ ps. HasEarlyRelease c.book-2.result.now c.self.inside.terms c.args.read c.in-Ok.message ps → ⊥)
            c.deref.ensures.value (iff_false c.has_early_release.ensures c.if-has_early_release.false)),
        subst (λ j. lets j c.args.read c.in-Ok.message permits) c.book.ensures c.in-Ok-permits.ensures.admitted,
        subst (λ ps. HasNoReply HasReceipts (partner_of c.self.inside.volume.served.journal) c.self.inside.own
            c.args.manner.now c.in-Ok.message ps c.args.read (receipts_in c.self.inside.volume.served)
            (receipts_in c.answer-said.new.self.served) c.in-Err-said.why) c.deref-2.ensures.value
            (subst (λ p. HasNoReply HasReceipts p c.self.inside.own c.args.manner.now c.in-Ok.message c.deref-2.result.now c.args.read
            (receipts_in c.self.inside.volume.served) (receipts_in c.answer-said.new.self.served) c.in-Err-said.why)
            partner c.in-Err-said.ensures.silent),
      ),
      c.reserve.ensures.items,
    )

pub returns-in-Err-reserve-clause-heard : goal.returns-in-Err-reserve-clause-heard
returns-in-Err-reserve-clause-heard g c =
    subst (λ s. IsHandled (g.A.Admission.lets c.args.admission.now) (g.A.Admission.drops c.args.admission.now) s.own c.args.manner.now s.terms c.args.peer
    c.args.datagram.now c.args.read s.volume c.self.inside.volume s.held c.reserve.new.self.items (Unanswered Memory))
    c.self.view_is (c.in-Ok.message, c.in-Ok.ensures.brought, inl (refl, refl), c.reserve.ensures.items)

pub returns-in-Err-TooMany-clause-heard : goal.returns-in-Err-TooMany-clause-heard
returns-in-Err-TooMany-clause-heard g c =
    subst (λ s. IsHandled (g.A.Admission.lets c.args.admission.now) (g.A.Admission.drops c.args.admission.now) s.own c.args.manner.now s.terms c.args.peer
    c.args.datagram.now c.args.read s.volume c.self.inside.volume s.held c.reserve.new.self.items TooMany)
    c.self.view_is (
      c.in-Ok.message,
      c.in-Ok.ensures.brought,
      subst (λ j. g.A.Admission.drops c.args.admission.now j c.args.read c.in-Ok.message SentTooMany) c.book.ensures
          (subst (λ w. g.A.Admission.drops c.args.admission.now c.book.result.now c.args.read c.in-Ok.message w)
          c.in-Err-TooMany.field-0-is c.in-Err-TooMany.ensures.dropped),
      refl,
      c.reserve.ensures.items,
    )

pub returns-in-Err-LeftToPartner-clause-heard : goal.returns-in-Err-LeftToPartner-clause-heard
returns-in-Err-LeftToPartner-clause-heard g c =
    subst (λ s. IsHandled (g.A.Admission.lets c.args.admission.now) (g.A.Admission.drops c.args.admission.now) s.own c.args.manner.now s.terms c.args.peer
    c.args.datagram.now c.args.read s.volume c.self.inside.volume s.held c.reserve.new.self.items LeftToPartner)
    c.self.view_is (
      c.in-Ok.message,
      c.in-Ok.ensures.brought,
      subst (λ j. g.A.Admission.drops c.args.admission.now j c.args.read c.in-Ok.message IsLeft) c.book.ensures
          (subst (λ w. g.A.Admission.drops c.args.admission.now c.book.result.now c.args.read c.in-Ok.message w)
          c.in-Err-LeftToPartner.field-0-is c.in-Err-LeftToPartner.ensures.dropped),
      refl,
      c.reserve.ensures.items,
    )

pub returns-in-Err-Memory-clause-heard : goal.returns-in-Err-Memory-clause-heard
returns-in-Err-Memory-clause-heard g c =
    subst (λ s. IsHandled (g.A.Admission.lets c.args.admission.now) (g.A.Admission.drops c.args.admission.now) s.own c.args.manner.now s.terms c.args.peer
    c.args.datagram.now c.args.read s.volume c.self.inside.volume s.held c.reserve.new.self.items (Unanswered Memory))
    c.self.view_is (c.in-Ok.message, c.in-Ok.ensures.brought, inl (refl, refl), c.reserve.ensures.items)

pub returns-then-has_early_release-clause-grows : goal.returns-then-has_early_release-clause-grows
returns-then-has_early_release-clause-grows g c = same_grows _ _ (ap (λ s. s.volume) c.self.view_is)

pub returns-then-has_early_release-clause-heard : goal.returns-then-has_early_release-clause-heard
returns-then-has_early_release-clause-heard g c =
    subst (λ s. IsHandled (g.A.Admission.lets c.args.admission.now) (g.A.Admission.drops c.args.admission.now) s.own c.args.manner.now s.terms c.args.peer
    c.args.datagram.now c.args.read s.volume c.self.inside.volume s.held c.reserve.new.self.items EarlyRelease)
    c.self.view_is (
      c.in-Ok.message,
      c.in-Ok-permits.permits.items,
      c.in-Ok.ensures.brought,
      subst (λ j. g.A.Admission.lets c.args.admission.now j c.args.read c.in-Ok.message c.in-Ok-permits.permits.items)
          c.book.ensures c.in-Ok-permits.ensures.admitted,
      subst (λ j. HasEarlyRelease j c.self.inside.terms c.args.read c.in-Ok.message c.in-Ok-permits.permits.items)
          c.book-2.ensures
          (subst (λ ps. HasEarlyRelease c.book-2.result.now c.self.inside.terms c.args.read c.in-Ok.message ps)
          c.deref.ensures.value (c.has_early_release.ensures.0 c.if-has_early_release.true)),
      refl,
      c.reserve.ensures.items,
    )
