-- What a text is as a certificate, line by line from the front, or its first fault. Lines are counted from 1.
use Rattle.std.specs.Prelude.{ℕ, suc, List, [], ◌∷◌, length, ◌&&◌, Option, Some, None, Result, Ok, Err, nat_le}
use Rattle.std.specs.Prelude.{if◌then◌else◌}
use Rattle.std.specs.Str.{bytes_eq}
use Rattle.text_fields.specs.Parsing.{◌>>!◌}
use Rattle.text_fields.specs.Cuts.{split}
use Rattle.prefix_range.specs.Prefix.{Prefix}
use Rattle.causal_order.specs.declared.certificate.Certificate.{Certificate}
use Rattle.causal_order.specs.declared.fault.CertificateFault.{CertificateFault}
use Rattle.causal_order.specs.declared.fault.CertificateFault.TheVariants.{Head, Form, End}
use Rattle.certificate.specs.declared.error.CertificateError.{CertificateError}
use Rattle.certificate.specs.declared.error.CertificateError.TheVariants.{Fault, Memory}
use Rattle.certificate.specs.declared.text_lines.TheConstants.{MAX_LINES, MAX_LINE_LEN}
use Rattle.certificate.specs.Spelling.{head_text, end_text}
use Rattle.certificate.specs.Lines.{holder_in, prefix_in, interval_in, with_line}
use Rattle.line_words.specs.declared.words.TheConstants.{SPACE}
use Rattle.certificate.specs.declared.stops.TheConstants.{LINE_FEED}

-- a line that gives nothing is wrong
abbrev pub or_form : {A : Type 0} → ℕ → Option A → Result A CertificateFault
or_form number None = Err (Form number)
or_form number (Some x) = Ok x

-- The line with this number, before what is left of the text: the cuts between its line feeds. A text ends in an
-- empty cut, so the text stops where that cut would be the line, and where another would, that line has no line feed.
abbrev pub line_before : ℕ → List ℕ → List (List ℕ) → Result (List ℕ) CertificateFault
line_before number line (next ∷ left) =
    if nat_le number MAX_LINES && nat_le (length line) MAX_LINE_LEN then Ok line else Err (Form number)
line_before number [] [] = Err End
line_before number (b ∷ line) [] = Err (Form number)

-- the next line and what is left behind it
abbrev pub line_at : ℕ → List (List ℕ) → Result (List ℕ × List (List ℕ)) CertificateFault
line_at number [] = Err End
line_at number (line ∷ left) = line_before number line left >>! λ whole. Ok (whole, left)

-- the lines behind the head, which has its line feed
abbrev pub head_at : List (List ℕ) → Result (List (List ℕ)) CertificateFault
head_at (line ∷ next ∷ left) = if bytes_eq line head_text then Ok (next ∷ left) else Err Head
head_at _ = Err Head

-- the value of the next line's words, and the lines behind it
abbrev pub value_at : {A : Type 0} → (List (List ℕ) → Option A) → ℕ → List (List ℕ)
    → Result (A × List (List ℕ)) CertificateFault
value_at value_of number lines =
    line_at number lines >>! λ line.
    or_form number (value_of (split SPACE line.0)) >>! λ x.
    Ok (x, line.1)

-- nothing is left behind the end line
abbrev pub ended_by : Certificate → List (List ℕ) → Result Certificate CertificateFault
ended_by c ([] ∷ []) = Ok c
ended_by c _ = Err End

-- the certificate with what the lines from this number on add to it, up to the end line
unfoldable pub claim_on : ℕ → Certificate → List (List ℕ) → Result Certificate CertificateFault
claim_on number c [] = Err End
claim_on number c (line ∷ left) =
    line_before number line left >>! λ whole.
    if bytes_eq whole end_text then ended_by c left
    else (or_form number (with_line c (split SPACE whole)) >>! λ more. claim_on (suc number) more left)

-- a certificate before its pieces and other clients' grants
abbrev pub opened : List ℕ → Prefix → ℕ × ℕ → Certificate
opened holder prefix interval = record {
  holder = holder;
  prefix = prefix;
  from = interval.0;
  to = interval.1;
  pieces = [];
  foreign = [];
}

-- what the four lines that stand in each certificate say
unfoldable pub opening_at : List (List ℕ) → Result (Certificate × List (List ℕ)) CertificateFault
opening_at lines =
    head_at lines >>! λ left.
    value_at holder_in 2 left >>! λ holder.
    value_at prefix_in 3 holder.1 >>! λ prefix.
    value_at interval_in 4 prefix.1 >>! λ interval.
    Ok (opened holder.0 prefix.0 interval.0, interval.1)

-- what lines are as a certificate: the opening, and what the others add to it
abbrev pub certificate_in : List (List ℕ) → Result Certificate CertificateFault
certificate_in lines = opening_at lines >>! λ opening. claim_on 5 opening.0 opening.1

-- what a text is as a certificate
abbrev pub certificate_of : List ℕ → Result Certificate CertificateFault
certificate_of text = certificate_in (split LINE_FEED text)

-- the fault that an error tells of the text; a refused growth tells none
abbrev pub fault_of : CertificateError → Option CertificateFault
fault_of (Fault fault) = Some fault
fault_of Memory = None
