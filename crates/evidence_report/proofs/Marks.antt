-- The marks at the ends of chains.
use Rattle.std.specs.Prelude.{◌≡◌, List, Option, Some, None, option_map}
use Rattle.std.proofs.Common.{sym, ◌∙◌, ap, refl}
use Rattle.journal_lines.specs.declared.line.Line.{Line}
use Rattle.causal_order.specs.declared.reference.Ref.{Ref}
use Rattle.causal_order.specs.Journals.{Journals, line_of}
use Rattle.causal_order.specs.Order.{IsChain}
use Rattle.causal_order.specs.Tests.{first_of_chain, last_of_chain}
use Rattle.causal_order.proofs.Deciding.{line_names, leads_from}
use Rattle.causal_order.proofs.Walking.{first_from, last_from, chain_begins, chain_ends, begin_is_read, end_is_read}
use Rattle.evidence_report.specs.declared.mark.LineReading.{LineReading}
use Rattle.evidence_report.specs.Marks.{IsLatestMark, IsEarliestMark, mark_of}

abbrev mark_in : Ref → Option Line → Option LineReading
mark_in r o = option_map (λ l. record { at = r; reading = l.reading }) o

-- ---- a chain from the line

latest_by : (js : Journals) (chain : List Ref) (r end : Ref) (o : Option Line) → line_of js end ≡ o → IsChain js chain
    → first_of_chain chain ≡ Some r → last_of_chain chain ≡ Some end → IsLatestMark js chain r (mark_in end o)
latest_by js chain r end None e c first last =
    absurd (end_is_read js chain end c last (ap (option_map (λ (l : Line). l.reading)) e))
latest_by js chain r end (Some l) e c first last =
    let leads = leads_from js chain r end c first last in (
      record { end = end; line = l; leads = leads; names = line_names js end l e; read = refl },
      leads.ends,
    )

pub latest_shown : (js : Journals) (chain : List Ref) (r end : Ref) → IsChain js chain → Some r ≡ first_of_chain chain
    → Some end ≡ last_of_chain chain → IsLatestMark js chain r (mark_of js end)
latest_shown js chain r end c first last = latest_by js chain r end (line_of js end) refl c (sym first) (sym last)

pub none_from_broken : (js : Journals) (chain : List Ref) (r : Ref) → (IsChain js chain → ⊥)
    → IsLatestMark js chain r None
none_from_broken js chain r n = λ x w. n w.leads.links

pub none_from_other : (js : Journals) (chain : List Ref) (r begin : Ref) → Some begin ≡ first_of_chain chain
    → (begin ≡ r → ⊥) → IsLatestMark js chain r None
none_from_other js chain r begin e n = λ x w. let f : Some begin ≡ Some r = e ∙ first_from js chain r x w in
    n (let is : begin ≡ r = cc in is)

pub none_from_empty : (js : Journals) (chain : List Ref) (r : Ref) → first_of_chain chain ≡ None
    → IsLatestMark js chain r None
none_from_empty js chain r e = λ x w. let f : None ≡ Some r = sym e ∙ first_from js chain r x w in cc

pub none_from_endless : (js : Journals) (chain : List Ref) (r : Ref) → last_of_chain chain ≡ None
    → IsLatestMark js chain r None
none_from_endless js chain r e = λ x w. chain_ends js chain w.leads.links e

-- ---- a chain to the line

earliest_by : (js : Journals) (chain : List Ref) (r begin : Ref) (o : Option Line) → line_of js begin ≡ o
    → IsChain js chain → last_of_chain chain ≡ Some r → first_of_chain chain ≡ Some begin
    → IsEarliestMark js chain r (mark_in begin o)
earliest_by js chain r begin None e c last first =
    absurd (begin_is_read js chain begin c first (ap (option_map (λ (l : Line). l.reading)) e))
earliest_by js chain r begin (Some l) e c last first =
    let leads = leads_from js chain begin r c first last in (
      record { begin = begin; line = l; leads = leads; names = line_names js begin l e; read = refl },
      (leads.rest, leads.begins),
    )

pub earliest_shown : (js : Journals) (chain : List Ref) (r begin : Ref) → IsChain js chain
    → Some r ≡ last_of_chain chain → Some begin ≡ first_of_chain chain → IsEarliestMark js chain r (mark_of js begin)
earliest_shown js chain r begin c last first =
    earliest_by js chain r begin (line_of js begin) refl c (sym last) (sym first)

pub none_to_broken : (js : Journals) (chain : List Ref) (r : Ref) → (IsChain js chain → ⊥)
    → IsEarliestMark js chain r None
none_to_broken js chain r n = λ x w. n w.leads.links

pub none_to_other : (js : Journals) (chain : List Ref) (r end : Ref) → Some end ≡ last_of_chain chain
    → (end ≡ r → ⊥) → IsEarliestMark js chain r None
none_to_other js chain r end e n = λ x w. let f : Some end ≡ Some r = e ∙ last_from js chain r x w in
    n (let is : end ≡ r = cc in is)

pub none_to_empty : (js : Journals) (chain : List Ref) (r : Ref) → last_of_chain chain ≡ None
    → IsEarliestMark js chain r None
none_to_empty js chain r e = λ x w. let f : None ≡ Some r = sym e ∙ last_from js chain r x w in cc

pub none_to_beginless : (js : Journals) (chain : List Ref) (r : Ref) → first_of_chain chain ≡ None
    → IsEarliestMark js chain r None
none_to_beginless js chain r e = λ x w. chain_begins js chain w.leads.links e
