-- What an answer says, part by part.
use Rattle.std.specs.Prelude.{◌++◌, ◌==◌, ℕ, List, [], ◌∷◌, Option, Some, None, codes, take, drop, length}
use Rattle.std.specs.Prelude.{if◌then◌else◌}
use Rattle.std.specs.Cmp.Lexicographic.{pointwise}
use Rattle.std.specs.List.{flat_map}
use Rattle.causal_order.specs.declared.certificate.Certificate.{Certificate}
use Rattle.certificate.specs.Spelling.{certificate_text}
use Rattle.pair_judgement.specs.declared.judging.Judgement.{Judgement}
use Rattle.pair_judgement.specs.Judgements.{judgement_text}
use Rattle.volume_spans.specs.declared.span.SpanPair.{SpanPair}
use Rattle.attribution_desk.specs.declared.finding.Finding.TheVariants.{Shown, NoneFound, TooLong as FoundTooLong}
use Rattle.attribution_desk.specs.declared.search_answer.SearchAnswer.{SearchAnswer}
use Rattle.attribution_desk.specs.declared.search_answer.SearchAnswer.TheVariants.{Refused as SearchRefused, Found}
use Rattle.holder_answers.specs.declared.answer.HolderAnswer.{HolderAnswer}
use Rattle.holder_answers.specs.declared.answer.HolderAnswer.TheVariants.{Held, Refused, NotNamed, TooLong}
use Rattle.answer_data.specs.declared.parts.AnswerParts.{AnswerParts}
use Rattle.answer_data.specs.declared.parts.NamedHolder.{NamedHolder}
use Rattle.answer_data.specs.Texts.{octets_of, without_feed}
use Rattle.text_fields.specs.Cuts.{split}

-- texts without their line feeds
pub record Said : Type 0 where
  pub lines : List (List ℕ)
  pub named : Option NamedHolder
  pub certificates : List (List ℕ)
  pub access : List (List ℕ)
  pub volumes : Option SpanPair

-- what these parts say
abbrev pub said : AnswerParts → Said
said p = record {
  lines = octets_of p.lines.items;
  named = p.named;
  certificates = octets_of p.certificates.items;
  access = octets_of p.access.items;
  volumes = p.volumes;
}

abbrev pub nothing : Said
nothing = record { lines = []; named = None; certificates = []; access = []; volumes = None }

-- ---- more of it

abbrev pub with_line : List ℕ → Said → Said
with_line text s = record (s) { lines = s.lines ++ text ∷ [] }

abbrev pub with_certificate : Certificate → Said → Said
with_certificate c s = record (s) { certificates = s.certificates ++ certificate_text c ∷ [] }

-- whom a certificate names, and from when to when
abbrev pub named_by : Certificate → NamedHolder
named_by c = record { client = c.holder; from = c.from; to = c.to }

abbrev pub with_holder : Certificate → Said → Said
with_holder c s = record (with_certificate c s) { named = Some (named_by c) }

abbrev pub with_ruling : Judgement → Said → Said
with_ruling ruling s = with_line (judgement_text ruling) s

abbrev pub with_none : Said → Said
with_none s = with_line (codes "none") s

-- over which volumes; none are named where these aren't
abbrev pub with_over : Option SpanPair → Said → Said
with_over spans s = record (s) { volumes = spans }

abbrev pub with_volumes : SpanPair → Said → Said
with_volumes spans s = with_over (Some spans) s

-- what was found of an interval
abbrev pub with_found : SearchAnswer → Said → Said
with_found (SearchRefused ruling) s = with_ruling ruling s
with_found (Found (Shown c)) s = with_certificate c s
with_found (Found NoneFound) s = with_none s
with_found (Found FoundTooLong) s = with_none s

-- who held a prefix
abbrev pub with_answer : HolderAnswer → Said → Said
with_answer (Held c) s = with_holder c s
with_answer (Refused ruling) s = with_ruling ruling s
with_answer (NotNamed n) s = with_none s
with_answer (TooLong n) s = with_none s

-- ---- access records

-- the record behind the word of a line; nothing where it has another
abbrev pub record_in : List ℕ → List (List ℕ)
record_in line =
    if pointwise ◌==◌ (take (length (codes "access ")) line) (codes "access ")
    then drop (length (codes "access ")) line ∷ [] else []

-- the records of a text
abbrev pub records_in : List ℕ → List (List ℕ)
records_in text = flat_map record_in (split 10 (without_feed text))

abbrev pub with_access : List ℕ → Said → Said
with_access text s = record (s) { access = s.access ++ records_in text }
