use Rattle.std.proofs.Common.{subst, inr}
use Rattle.joined_rulings.specs.declared.judged.JournalTrial.{JournalTrial}
use Rattle.joined_rulings.specs.Trials.{IsJournalTrial}
use Rattle.joined_rulings.proofs.trial.trial_by.Goals as goal

pub returns-in_ok-warnings-in-Accepted : goal.returns-in_ok-warnings-in-Accepted
returns-in_ok-warnings-in-Accepted g c =
    let is = subst (λ (t : JournalTrial). IsJournalTrial c.args.shown.primary c.args.shown.secondary c.args.query.now
    c.args.claim.now t) c.in-Accepted.is c.in_ok-journal_trial.ensures in
    record {
      spans = c.spans-spans.ensures;
      last = c.last_pair-pair.ensures;
      is_shown = c.requires.shown;
      judged = inr is;
      warned = c.in_ok-warnings-in-Accepted.ensures;
    }
