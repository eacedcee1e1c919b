-- Which take is early, by the first send of its serial.
use Rattle.std.specs.Prelude.{◌≡◌, ℕ, ◌-◌, Bool, true, false, Some, slice_get}
use Rattle.std.proofs.Common.{sym, ◌∙◌, ap, subst, refl}
use Rattle.binding_rules.specs.declared.role.Role.{Role}
use Rattle.binding_rules.specs.declared.role.Role.TheVariants.{Primary, Secondary}
use Rattle.binding_rules.specs.Role.{partner_of}
use Rattle.binding_rules.specs.declared.message.PartnerMessage.{PartnerMessage}
use Rattle.journal_lines.specs.declared.event.Event.TheVariants.{Send, Take}
use Rattle.journal_lines.specs.declared.line.Line.{Line}
use Rattle.causal_order.specs.declared.reference.Ref.{Ref}
use Rattle.causal_order.specs.Journals.{Journals, journal_of, volume_of, Names}
use Rattle.journal_merge.specs.Messages.{first_send, was_sent_earlier, partner_lines, send_of, Awaits}
use Rattle.journal_merge.proofs.Matched.{matched_are_sent}
use Rattle.journal_merge.specs.Early.{IsFarBelowSend}
use Rattle.attribution.specs.Clocks.{AreChecked, IsEarly, EarlyByFirstSend}
use Rattle.attribution.proofs.LegalJournals.{passed_over, rises}

back : (x y : Role) → y ≡ partner_of x → x ≡ partner_of y
back Primary y h = sym (ap partner_of h)
back Secondary y h = sym (ap partner_of h)

one_line : (js : Journals) (r : Ref) (l m : Line) → Names js r l → Names js r m → l ≡ m
one_line js r l m a b = let p = a.1 in let q = b.1 in cc

module _ (js : Journals) (skew : ℕ) (take : Ref) (are : AreChecked js) where
  far_by : (e : IsEarly js skew take) (m : PartnerMessage) → e.sent.event ≡ Send m → e.taken.event ≡ Take m
      → e.send.side ≡ partner_of take.side
      → (b : Bool) → was_sent_earlier (partner_lines js take.side) m.serial ≡ b → IsFarBelowSend js skew take
  far_by e m sends takes side true earlier =
      let over = passed_over js are.legal take e.taken m e.names_taken takes earlier in
      let here : slice_get (journal_of js (partner_of take.side)) (e.send.number - 1) ≡ Some e.sent =
      subst (λ s. slice_get (journal_of js s) (e.send.number - 1) ≡ Some e.sent) side e.names_sent.1 in
      absurd (over.1 (e.send.number - 1) e.sent m here sends refl)
  far_by e m sends takes side false earlier =
      let awaits : Awaits js take m = (e.taken, e.names_taken, takes, earlier) in
      let s = matched_are_sent js are.matched take m awaits in
      let first : ℕ = first_send m.serial (partner_lines js take.side) in
      let here : slice_get (journal_of js (partner_of take.side)) (e.send.number - 1) ≡ Some e.sent =
      subst (λ s. slice_get (journal_of js s) (e.send.number - 1) ≡ Some e.sent) side e.names_sent.1 in
      let rise = (rises (partner_of take.side) (volume_of js (partner_of take.side))
      (journal_of js (partner_of take.side)) (are.legal (partner_of take.side))).1 in
      let same : e.send.number - 1 ≡ first - 1 =
      rise.once (e.send.number - 1) (first - 1) e.sent s.0 m m here sends s.1.1 s.2 refl in
      let there : slice_get (journal_of js (partner_of take.side)) (first - 1) ≡ Some e.sent =
      subst (λ n. slice_get (journal_of js (partner_of take.side)) n ≡ Some e.sent) same here in
      record {
        message = m;
        awaits = awaits;
        taken = e.taken;
        names_taken = e.names_taken;
        sent = e.sent;
        names_sent =
            (s.1.0, there);
        above = e.above;
      }

  far : IsEarly js skew take → IsFarBelowSend js skew take
  far e =
      let t = e.takes.1 in
      far_by e t.0 (ap (λ (l : Line). l.event) (one_line js e.send e.sent t.1 e.names_sent t.3) ∙ t.4)
      (ap (λ (l : Line). l.event) (one_line js take e.taken t.2 e.names_taken t.5) ∙ t.6)
      (back e.send.side take.side e.takes.0) (was_sent_earlier (partner_lines js take.side) t.0.serial) refl

  near : IsFarBelowSend js skew take → IsEarly js skew take
  near f =
      let s = matched_are_sent js are.matched take f.message f.awaits in
      record {
        send = send_of js take.side f.message;
        takes = (
          back take.side (partner_of take.side) refl,
          (f.message, s.0, f.awaits.0, s.1, s.2, f.awaits.1, f.awaits.2),
        );
        sent = f.sent;
        names_sent = f.names_sent;
        taken = f.taken;
        names_taken = f.names_taken;
        above = f.above;
      }

pub early_by_first_send : EarlyByFirstSend
early_by_first_send js skew take are = (far js skew take are, near js skew take are)
