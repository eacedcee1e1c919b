-- What the desk answers where it is asked who held a prefix at a moment.
use Rattle.std.specs.Prelude.{◌≡◌, ◌⊎◌, ℕ, List, [], ◌∷◌, ◌++◌, Ok, codes}
use Rattle.text_fields.specs.Cuts.{with_stops}
use Rattle.time_text.specs.Time.{IsTimeText}
use Rattle.causal_order.specs.Journals.{Journals}
use Rattle.causal_order.specs.declared.certificate.Certificate.{Certificate}
use Rattle.certificate.specs.Spelling.{line_text, holder_words, interval_words, certificate_text}
use Rattle.certificate.specs.Faults.{certificate_of}
use Rattle.plain_search.specs.declared.query.HolderQuery.{HolderQuery}
use Rattle.evidence_search.specs.Claim.{IsRound, IsAcceptedOf, IsWidest, HasNoPlainHolder, IsTooLongOfOne}
use Rattle.attribution_desk.specs.declared.finding.Finding.{Finding}
use Rattle.attribution_desk.specs.declared.finding.Finding.TheVariants.{Shown, NoneFound, TooLong}
use Rattle.attribution_desk.specs.Find.{IsOverLimits}

-- the interval as clocks show its ends
abbrev pub times_words : (from to : List ℕ) → List (List ℕ)
times_words from to = codes "from" ∷ from ∷ codes "to" ∷ to ∷ []

-- the lines before the certificate: who, from when to when in milliseconds, and the same as times (RFC 3339)
abbrev pub held_lines : Certificate → (from to : List ℕ) → List (List ℕ)
held_lines c from to =
    line_text (holder_words c.holder) ∷ line_text (interval_words c.from c.to) ∷ line_text (times_words from to) ∷ []

-- those lines, and the certificate behind them
pub record IsHeldText (c : Certificate) (text : List ℕ) : Type 0 where
  pub from : List ℕ
  pub from_is : IsTimeText c.from from
  pub to : List ℕ
  pub to_is : IsTimeText c.to to
  pub spelled : text ≡ with_stops 10 (held_lines c from to) ++ certificate_text c

-- a certificate of the prefix round the moment that an auditor accepts, and the widest that plain evidence shows in as
-- many lines as a text may have; it is what its text is read as
pub record IsHeld (js : Journals) (q : HolderQuery) (c : Certificate) : Type 0 where
  pub round : IsRound q c
  pub shown : IsAcceptedOf js q c
  pub widest : IsWidest js q c
  pub read : certificate_of (certificate_text c) ≡ Ok c

-- one is accepted, and its text is over the limits
pub record IsNotNamed (js : Journals) (q : HolderQuery) : Type 0 where
  pub certificate : Certificate
  pub round : IsRound q certificate
  pub shown : IsAcceptedOf js q certificate
  pub over : IsOverLimits js q.skew q.transit certificate

-- the evidence of who held it; or none, where no plain one of any client's is accepted; or too long, where the text of
-- one that is accepted is over the limits, or where single lines show it for some client by more lines than a
-- certificate's text may have
abbrev pub IsHolding : Journals → HolderQuery → Finding → Type 0
IsHolding js q (Shown c) = IsHeld js q c
IsHolding js q NoneFound = HasNoPlainHolder js q
IsHolding js q TooLong = IsNotNamed js q ⊎ IsTooLongOfOne js q

-- how it is written: those lines and the certificate, or that there is none
abbrev pub TellsHolder : Finding → List ℕ → Type 0
TellsHolder (Shown c) text = IsHeldText c text
TellsHolder NoneFound text = text ≡ codes "none\n"
TellsHolder TooLong text = text ≡ codes "none\n"
