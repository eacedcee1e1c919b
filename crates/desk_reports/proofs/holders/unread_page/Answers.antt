use Rattle.std.proofs.Common.{◌≡◌, List, ℕ, subst}
use Rattle.desk_reports.specs.Unanswered.{sentences_page}
use Rattle.desk_reports.proofs.holders.unread_page.Goals as goal

pub returns : goal.returns
returns c = (
  c.in_ok-sentences.sentences.items,
  c.in_ok-sentences.ensures,
  subst (λ (x : List ℕ). c.in_ok-text.text.items ≡ sentences_page x) c.deref.ensures.value c.in_ok-text.ensures,
)
