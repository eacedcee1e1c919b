use Rattle.std.proofs.Common.{codes, ℕ, subst}
use Rattle.std.specs.Prelude.{IfOk}
use Rattle.serde_json.specs.View.{view, members_view}
use Rattle.text_fields.specs.Octets.{hex}
use Rattle.client_id.specs.Duid.{iaid_text}
use Rattle.prefix_range.specs.Text.{prefix_text}
use Rattle.report_data.specs.Fields.{IsText}
use Rattle.report_data.specs.Rulings.{With, IsObject, IsTime}
use Rattle.report_data.proofs.Steps.{stepped, begun, finished}
use Rattle.answer_data.specs.Leases.{IsState, IsShownFor, IsPossibleFor, IsLease}
use Rattle.answer_data.specs.Members.{IsLine}
use Rattle.answer_data.proofs.lease_data.lease_of.Goals as goal

pub returns : goal.returns
returns c =
    finished (λ f. members_view f.entries) (IsLease c.args.query.now c.args.lease.now)
    c.with_made-8.result.fields c.into_value.result c.into_value.ensures (λ d is. record {
      members = (begun (λ f. members_view
          f.entries) (With (codes "line") (IsLine c.args.lease.now.line.at) (With (codes "reading") (IsTime
          c.args.lease.now.line.reading) (With (codes "client") (IsText (hex c.args.lease.now.delegation.client))
          (With (codes "iaid") (IsText (iaid_text c.args.lease.now.delegation.iaid)) (With (codes "prefix") (IsText
          (prefix_text c.args.lease.now.delegation.prefix)) (With (codes "shown") (IsShownFor c.args.query.now
          c.args.lease.now.line.reading c.args.lease.now.delegation.lasting) (With (codes "possible") (IsPossibleFor
          c.args.query.now c.args.lease.now.line.reading c.args.lease.now.delegation.lasting) (With (codes
          "at_the_moment") (IsState c.args.query.now.at c.args.lease.now.state) (IsObject d)))))))))
          c.new.result.fields c.new.ensures (stepped (λ f. members_view f.entries) (codes "line") (IsLine
          c.args.lease.now.line.at) (With (codes "reading") (IsTime c.args.lease.now.line.reading) (With (codes
          "client") (IsText (hex c.args.lease.now.delegation.client)) (With (codes "iaid") (IsText (iaid_text
          c.args.lease.now.delegation.iaid)) (With (codes "prefix") (IsText (prefix_text
          c.args.lease.now.delegation.prefix)) (With (codes "shown") (IsShownFor c.args.query.now
          c.args.lease.now.line.reading c.args.lease.now.delegation.lasting) (With (codes "possible") (IsPossibleFor
          c.args.query.now c.args.lease.now.line.reading c.args.lease.now.delegation.lasting) (With (codes
          "at_the_moment") (IsState c.args.query.now.at c.args.lease.now.state) (IsObject d))))))))
          c.new.result.fields c.with_made.result.fields c.line_of.result c.with_made.ensures c.line_of.ensures
          (stepped (λ f. members_view f.entries) (codes "reading") (IsTime c.args.lease.now.line.reading) (With (codes
          "client") (IsText (hex c.args.lease.now.delegation.client)) (With (codes "iaid") (IsText (iaid_text
          c.args.lease.now.delegation.iaid)) (With (codes "prefix") (IsText (prefix_text
          c.args.lease.now.delegation.prefix)) (With (codes "shown") (IsShownFor c.args.query.now
          c.args.lease.now.line.reading c.args.lease.now.delegation.lasting) (With (codes "possible") (IsPossibleFor
          c.args.query.now c.args.lease.now.line.reading c.args.lease.now.delegation.lasting) (With (codes
          "at_the_moment") (IsState c.args.query.now.at c.args.lease.now.state) (IsObject d)))))))
          c.with_made.result.fields c.with_made-2.result.fields c.time_of.result c.with_made-2.ensures (subst (λ (n :
          ℕ). IfOk c.time_of.result (λ v. IsTime n (view v))) c.milliseconds.ensures.value c.time_of.ensures) (stepped
          (λ f. members_view f.entries) (codes "client") (IsText (hex c.args.lease.now.delegation.client)) (With
          (codes "iaid") (IsText (iaid_text c.args.lease.now.delegation.iaid)) (With (codes "prefix") (IsText
          (prefix_text c.args.lease.now.delegation.prefix)) (With (codes "shown") (IsShownFor c.args.query.now
          c.args.lease.now.line.reading c.args.lease.now.delegation.lasting) (With (codes "possible") (IsPossibleFor
          c.args.query.now c.args.lease.now.line.reading c.args.lease.now.delegation.lasting) (With (codes
          "at_the_moment") (IsState c.args.query.now.at c.args.lease.now.state) (IsObject d))))))
          c.with_made-2.result.fields c.with_made-3.result.fields c.client_of.result c.with_made-3.ensures
          c.client_of.ensures (stepped (λ f. members_view f.entries) (codes "iaid") (IsText (iaid_text
          c.args.lease.now.delegation.iaid)) (With (codes "prefix") (IsText (prefix_text
          c.args.lease.now.delegation.prefix)) (With (codes "shown") (IsShownFor c.args.query.now
          c.args.lease.now.line.reading c.args.lease.now.delegation.lasting) (With (codes "possible") (IsPossibleFor
          c.args.query.now c.args.lease.now.line.reading c.args.lease.now.delegation.lasting) (With (codes
          "at_the_moment") (IsState c.args.query.now.at c.args.lease.now.state) (IsObject d)))))
          c.with_made-3.result.fields c.with_made-4.result.fields c.association_of.result c.with_made-4.ensures
          c.association_of.ensures (stepped (λ f. members_view f.entries) (codes "prefix") (IsText (prefix_text
          c.args.lease.now.delegation.prefix)) (With (codes "shown") (IsShownFor c.args.query.now
          c.args.lease.now.line.reading c.args.lease.now.delegation.lasting) (With (codes "possible") (IsPossibleFor
          c.args.query.now c.args.lease.now.line.reading c.args.lease.now.delegation.lasting) (With (codes
          "at_the_moment") (IsState c.args.query.now.at c.args.lease.now.state) (IsObject d))))
          c.with_made-4.result.fields c.with_made-5.result.fields c.prefix_of.result c.with_made-5.ensures
          c.prefix_of.ensures (stepped (λ f. members_view f.entries) (codes "shown") (IsShownFor c.args.query.now
          c.args.lease.now.line.reading c.args.lease.now.delegation.lasting) (With (codes "possible") (IsPossibleFor
          c.args.query.now c.args.lease.now.line.reading c.args.lease.now.delegation.lasting) (With (codes
          "at_the_moment") (IsState c.args.query.now.at c.args.lease.now.state) (IsObject d)))
          c.with_made-5.result.fields c.with_made-6.result.fields c.shown_of.result c.with_made-6.ensures
          c.shown_of.ensures (stepped (λ f. members_view f.entries) (codes "possible") (IsPossibleFor c.args.query.now
          c.args.lease.now.line.reading c.args.lease.now.delegation.lasting) (With (codes "at_the_moment") (IsState
          c.args.query.now.at c.args.lease.now.state) (IsObject d)) c.with_made-6.result.fields
          c.with_made-7.result.fields c.possible_of.result c.with_made-7.ensures c.possible_of.ensures (stepped (λ f.
          members_view f.entries) (codes "at_the_moment") (IsState c.args.query.now.at c.args.lease.now.state)
          (IsObject d) c.with_made-7.result.fields c.with_made-8.result.fields c.state_of.result c.with_made-8.ensures
          c.state_of.ensures is)))))))));
    })
