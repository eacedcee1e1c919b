-- What the desk rules: a verdict, or one of K1 to K4, and the line that says it.
use Rattle.std.specs.Prelude.{ℕ, List, [], ◌∷◌, ◌++◌, codes}
use Rattle.attribution.specs.declared.verdict.Verdict.{Verdict as VerdictValue}
use Rattle.attribution.specs.declared.verdict.Verdict.TheVariants.{Accepted}
use Rattle.attribution.specs.VerdictText.{place_text, verdict_text}
use Rattle.pair_judgement.specs.declared.judging.Judgement.{Judgement}
use Rattle.pair_judgement.specs.declared.judging.Judgement.TheVariants.{Verdict, Clocks, Pair, Skew, Carried}

abbrev pub judgement_text : Judgement → List ℕ
judgement_text (Verdict v) = verdict_text v
judgement_text (Clocks take) = codes "refused K1 Clocks " ++ place_text take.side take.number
judgement_text Pair = codes "refused K2 Pair"
judgement_text Skew = codes "refused K3 Skew"
judgement_text (Carried line) = codes "refused K4 Carried " ++ place_text line.side line.number

-- the ruling and a line feed
abbrev pub judgement_line : Judgement → List ℕ
judgement_line ruling = judgement_text ruling ++ 10 ∷ []

-- 0 where the certificate is accepted
abbrev pub verdict_status : VerdictValue → ℕ
verdict_status Accepted = 0
verdict_status _ = 1

abbrev pub status_of : Judgement → ℕ
status_of (Verdict v) = verdict_status v
status_of (Clocks take) = 1
status_of Pair = 1
status_of Skew = 1
status_of (Carried line) = 1
