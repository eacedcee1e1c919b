-- What two journals answer that fit or don't.
use Rattle.std.specs.Prelude.{◌≡◌, ℕ, Result, Ok, Err, IfOk}
use Rattle.std.proofs.Common.{refl, subst, inl, inr}
use Rattle.journal_lines.specs.declared.line.Journal.{Journal}
use Rattle.causal_order.specs.Journals.{Journals, journals_of}
use Rattle.pair_judgement.specs.declared.judging.Judgement.{Judgement}
use Rattle.pair_judgement.specs.PairJudgements.{IsRuledOut, IsFit}
use Rattle.attribution_desk.specs.declared.search.Search.{Search}
use Rattle.attribution_desk.specs.declared.search_answer.SearchAnswer.{SearchAnswer}
use Rattle.attribution_desk.specs.declared.search_answer.SearchAnswer.TheVariants.{Refused}
use Rattle.attribution_desk.specs.Searching.{skew_of, IsAsked, IsSearchOn}

pub open_searched : {E : Type 0} (a b : Journal) (q : Search) (js : Journals) (skew : ℕ) (r : Result SearchAnswer E)
    → skew ≡ skew_of q → IsFit a b skew × (js ≡ journals_of a b) → IfOk r (IsAsked q a b js) → IfOk r (IsSearchOn a b q)
open_searched a b q js skew (Ok answer) of case asked =
    inr (
      subst (λ (s : ℕ). IsFit a b s) of case.0,
      subst (λ (x : Journals). IsAsked q a b x answer) case.1 asked,
    )
open_searched a b q js skew (Err e) of case asked = tt

pub ruled_out : (a b : Journal) (q : Search) (r : Judgement) (skew : ℕ) → skew ≡ skew_of q → IsRuledOut a b skew r
    → IsSearchOn a b q (Refused r)
ruled_out a b q r skew of out = inl (r, subst (λ (s : ℕ). IsRuledOut a b s r) of out, refl)
