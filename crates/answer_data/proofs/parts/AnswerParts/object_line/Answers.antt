use Rattle.std.proofs.Common.{◌≡◌, codes, ℕ, List, refl, subst}
use Rattle.std.specs.Prelude.{IfOk, string_bytes}
use Rattle.std.specs.declared.alloc.Global.{Global}
use Rattle.std.specs.declared.vec.Vec.{Vec}
use Rattle.serde_json.specs.Data.{number, unsigned, string}
use Rattle.serde_json.specs.View.{view, members_view}
use Rattle.report_data.specs.Rulings.{With, IsObject, IsCount}
use Rattle.report_data.proofs.Steps.{stepped, stepped_by, begun_with, lined}
use Rattle.answer_data.specs.Answers.{IsHolder, IsFrom, IsTo, IsAnswerData}
use Rattle.answer_data.specs.Members.{IsString}
use Rattle.answer_data.specs.Parts.{said}
use Rattle.answer_data.specs.Texts.{AreTexts, octets_of, lines_in}
use Rattle.answer_data.specs.Volumes.{IsVolumesData}
use Rattle.answer_data.proofs.parts.AnswerParts.object_line.Goals as goal

pub returns : goal.returns
returns c =
    lined (λ f. members_view f.entries) string_bytes (IsAnswerData c.args.command.now c.args.status (said
    c.args.self) c.args.notes.now) c.with_made-8.result.fields c.into_line.result c.into_line.ensures (λ d is.
    (begun_with (λ f. members_view f.entries) (codes "format") (number (unsigned 1)) (IsCount 1) (With (codes
    "command") (IsString c.args.command.now) (With (codes "status") (IsCount c.args.status) (With (codes
    "lines") (AreTexts (octets_of c.args.self.lines.items)) (With (codes "holder") (IsHolder c.args.self.named)
    (With (codes "from") (IsFrom c.args.self.named) (With (codes "to") (IsTo c.args.self.named) (With (codes
    "certificates") (AreTexts (octets_of c.args.self.certificates.items)) (With (codes "access") (AreTexts
    (octets_of c.args.self.access.items)) (With (codes "notes") (AreTexts (lines_in c.args.notes.now)) (With
    (codes "volumes") (IsVolumesData c.args.self.volumes) (IsObject d))))))))))) c.answer.result.fields
    c.answer.ensures refl (stepped_by (λ x v. view v ≡ string x.now) (λ f. members_view f.entries) (codes
    "command") c.args.command (IsString c.args.command.now) (With (codes "status") (IsCount c.args.status) (With
    (codes "lines") (AreTexts (octets_of c.args.self.lines.items)) (With (codes "holder") (IsHolder
    c.args.self.named) (With (codes "from") (IsFrom c.args.self.named) (With (codes "to") (IsTo
    c.args.self.named) (With (codes "certificates") (AreTexts (octets_of c.args.self.certificates.items)) (With
    (codes "access") (AreTexts (octets_of c.args.self.access.items)) (With (codes "notes") (AreTexts (lines_in
    c.args.notes.now)) (With (codes "volumes") (IsVolumesData c.args.self.volumes) (IsObject d))))))))))
    c.answer.result.fields c.with.result.fields c.with.ensures (λ v g. g) (stepped_by (λ n v. view v ≡ number
    (unsigned n)) (λ f. members_view f.entries) (codes "status") c.args.status (IsCount c.args.status) (With
    (codes "lines") (AreTexts (octets_of c.args.self.lines.items)) (With (codes "holder") (IsHolder
    c.args.self.named) (With (codes "from") (IsFrom c.args.self.named) (With (codes "to") (IsTo
    c.args.self.named) (With (codes "certificates") (AreTexts (octets_of c.args.self.certificates.items)) (With
    (codes "access") (AreTexts (octets_of c.args.self.access.items)) (With (codes "notes") (AreTexts (lines_in
    c.args.notes.now)) (With (codes "volumes") (IsVolumesData c.args.self.volumes) (IsObject d)))))))))
    c.with.result.fields c.with-2.result.fields c.with-2.ensures (λ v g. g) (stepped (λ f. members_view
    f.entries) (codes "lines") (AreTexts (octets_of c.args.self.lines.items)) (With (codes "holder") (IsHolder
    c.args.self.named) (With (codes "from") (IsFrom c.args.self.named) (With (codes "to") (IsTo
    c.args.self.named) (With (codes "certificates") (AreTexts (octets_of c.args.self.certificates.items)) (With
    (codes "access") (AreTexts (octets_of c.args.self.access.items)) (With (codes "notes") (AreTexts (lines_in
    c.args.notes.now)) (With (codes "volumes") (IsVolumesData c.args.self.volumes) (IsObject d))))))))
    c.with-2.result.fields c.with_made.result.fields c.texts_of.result c.with_made.ensures (subst (λ (ts : List
    (Vec ℕ Global)). IfOk c.texts_of.result (λ v. AreTexts (octets_of ts) (view v))) c.deref.ensures.value
    c.texts_of.ensures) (stepped (λ f. members_view f.entries) (codes "holder") (IsHolder c.args.self.named)
    (With (codes "from") (IsFrom c.args.self.named) (With (codes "to") (IsTo c.args.self.named) (With (codes
    "certificates") (AreTexts (octets_of c.args.self.certificates.items)) (With (codes "access") (AreTexts
    (octets_of c.args.self.access.items)) (With (codes "notes") (AreTexts (lines_in c.args.notes.now)) (With
    (codes "volumes") (IsVolumesData c.args.self.volumes) (IsObject d))))))) c.with_made.result.fields
    c.with_made-2.result.fields c.holder_value.result c.with_made-2.ensures c.holder_value.ensures (stepped (λ
    f. members_view f.entries) (codes "from") (IsFrom c.args.self.named) (With (codes "to") (IsTo
    c.args.self.named) (With (codes "certificates") (AreTexts (octets_of c.args.self.certificates.items)) (With
    (codes "access") (AreTexts (octets_of c.args.self.access.items)) (With (codes "notes") (AreTexts (lines_in
    c.args.notes.now)) (With (codes "volumes") (IsVolumesData c.args.self.volumes) (IsObject d))))))
    c.with_made-2.result.fields c.with_made-3.result.fields c.from_value.result c.with_made-3.ensures
    c.from_value.ensures (stepped (λ f. members_view f.entries) (codes "to") (IsTo c.args.self.named) (With
    (codes "certificates") (AreTexts (octets_of c.args.self.certificates.items)) (With (codes "access")
    (AreTexts (octets_of c.args.self.access.items)) (With (codes "notes") (AreTexts (lines_in c.args.notes.now))
    (With (codes "volumes") (IsVolumesData c.args.self.volumes) (IsObject d))))) c.with_made-3.result.fields
    c.with_made-4.result.fields c.to_value.result c.with_made-4.ensures c.to_value.ensures (stepped (λ f.
    members_view f.entries) (codes "certificates") (AreTexts (octets_of c.args.self.certificates.items)) (With
    (codes "access") (AreTexts (octets_of c.args.self.access.items)) (With (codes "notes") (AreTexts (lines_in
    c.args.notes.now)) (With (codes "volumes") (IsVolumesData c.args.self.volumes) (IsObject d))))
    c.with_made-4.result.fields c.with_made-5.result.fields c.texts_of-2.result c.with_made-5.ensures (subst (λ
    (ts : List (Vec ℕ Global)). IfOk c.texts_of-2.result (λ v. AreTexts (octets_of ts) (view v)))
    c.deref-2.ensures.value c.texts_of-2.ensures) (stepped (λ f. members_view f.entries) (codes "access")
    (AreTexts (octets_of c.args.self.access.items)) (With (codes "notes") (AreTexts (lines_in c.args.notes.now))
    (With (codes "volumes") (IsVolumesData c.args.self.volumes) (IsObject d))) c.with_made-5.result.fields
    c.with_made-6.result.fields c.texts_of-3.result c.with_made-6.ensures (subst (λ (ts : List (Vec ℕ Global)).
    IfOk c.texts_of-3.result (λ v. AreTexts (octets_of ts) (view v))) c.deref-3.ensures.value
    c.texts_of-3.ensures) (stepped (λ f. members_view f.entries) (codes "notes") (AreTexts (lines_in
    c.args.notes.now)) (With (codes "volumes") (IsVolumesData c.args.self.volumes) (IsObject d))
    c.with_made-6.result.fields c.with_made-7.result.fields c.lines_of.result c.with_made-7.ensures
    c.lines_of.ensures (stepped (λ f. members_view f.entries) (codes "volumes") (IsVolumesData
    c.args.self.volumes) (IsObject d) c.with_made-7.result.fields c.with_made-8.result.fields
    c.over_value.result c.with_made-8.ensures c.over_value.ensures is))))))))))))
