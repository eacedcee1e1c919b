-- With which book a server has begun.
use Rattle.std.specs.Prelude.{◌≡◌, ◌↔◌, IsTrue, ℕ, Bool, true, false}
use Rattle.std.proofs.Common.{refl, sym, ◌∙◌, ap, subst}
use Rattle.journal_lines.specs.declared.line.Journal.{Journal}
use Rattle.order_book.specs.NextBook.{IsNextBook}
use Rattle.server_settings.specs.Settings.{ServerSettings}
use Rattle.volume_store.specs.declared.step.ResumeStep.{ResumeStep}
use Rattle.volume_store.specs.declared.step.ResumeStep.TheVariants.{BeginFirst, GoOn as GoOnWith, BeginNext}
use Rattle.volume_store.specs.declared.step.ResumeStep.TheVariants.{End as EndOf}
use Rattle.server_start.specs.declared.starting.StartAction.{StartAction}
use Rattle.server_start.specs.declared.starting.StartAction.TheVariants.{First, GoOn, End, Next}
use Rattle.server_start.specs.Starting.{IsStart, HasRestarted, MayStart}
use Rattle.server_core.specs.ServerStates.{CoreState}
use Rattle.folder_start.specs.declared.pairing.Pairing.{Pairing}
use Rattle.folder_start.specs.declared.pairing.Pairing.TheVariants.{Alone, Paired}
use Rattle.folder_start.specs.Pairing.{StepGoesOn}
use Rattle.folder_start.specs.Started.{GoesOnIf, GoesOnBy, FirstGoesOn, StartsBook, IsBegun, IsIdle}

-- a book that goes on is as it was
its_book : (goes_on : Bool) (now : ℕ) (j k : Journal) → IsTrue goes_on → GoesOnIf goes_on now j k → k ≡ j
its_book true now j k on goes = goes
its_book false now j k on goes = absurd cc

-- a first book
first_by : (pairing : Pairing) (now : ℕ) (opened k journal : Journal) (goes_on : Bool) → k ≡ opened
    → (IsTrue goes_on ↔ (pairing ≡ Alone)) → GoesOnIf goes_on now k journal → FirstGoesOn pairing now opened journal
first_by Alone now opened k journal goes_on begins iff goes =
    its_book goes_on now k journal (iff.1 refl) goes ∙ begins
first_by Paired now opened k journal true begins iff goes = let both = iff.0 refl in absurd cc
first_by Paired now opened k journal false begins iff goes =
    subst (λ (x : Journal). HasRestarted x now journal) begins goes

-- it doesn't go on with an open book as that is, and begins by what is done, with its line `restart` behind that
pub starts_by : (s : ServerSettings) (pairing : Pairing) (now : ℕ) (step : ResumeStep) (start : StartAction)
    (journal : Journal) → (StepGoesOn pairing step → ⊥) → IsStart s now step start
    → IsBegun s pairing now start journal → StartsBook s pairing now step journal
starts_by s pairing now BeginFirst First journal apart is (k, goes_on, begins, iff, goes) =
    (is, first_by pairing now _ k journal goes_on begins iff goes)
starts_by s pairing now (GoOnWith j) (GoOn g) journal apart is (k, goes_on, begins, iff, goes) = (
  is.0,
  (
    false,
    ((λ on. absurd cc), (λ on. absurd (apart on))),
    subst (λ (x : Journal). HasRestarted j now x) (sym (its_book goes_on now k journal (iff.1 tt) goes ∙ begins)) is.1,
  ),
)
starts_by s pairing now (EndOf j) (End g) journal apart is (k, goes_on, begins, iff, goes) = (
  is.0,
  is.1,
  (
    k,
    subst (λ (x : Journal). IsNextBook x now k) is.2 begins,
    subst (λ (x : Journal). GoesOnBy pairing x now k journal) is.2 (goes_on, iff, goes),
  ),
)
starts_by s pairing now (BeginNext j) (Next g) journal apart is (k, goes_on, begins, iff, goes) = (
  is.0,
  is.1,
  (
    k,
    subst (λ (x : Journal). IsNextBook x now k) is.2 begins,
    subst (λ (x : Journal). GoesOnBy pairing x now k journal) is.2 (goes_on, iff, goes),
  ),
)
starts_by s pairing now step start journal apart is begun = absurd is

-- what changes the volume alone leaves a server as it was else
pub same_idle : {P : Type 0} (s : ServerSettings) (renew_floor : ℕ) (old new : CoreState P)
    → new ≡ record old { volume = new.volume } → IsIdle s renew_floor old → IsIdle s renew_floor new
same_idle {P} s renew_floor old new same idle = record {
  own = ap (λ (r : CoreState P). r.own) same ∙ idle.own;
  terms = ap (λ (r : CoreState P). r.terms) same ∙ idle.terms;
  held = ap (λ (r : CoreState P). r.held) same ∙ idle.held;
  talk = ap (λ (r : CoreState P). r.talk) same ∙ idle.talk;
}

-- it goes on with an open book as that is
pub goes_on_with : (s : ServerSettings) (pairing : Pairing) (now : ℕ) (step : ResumeStep) (j k : Journal)
    → step ≡ GoOnWith j → StepGoesOn pairing step → MayStart s j now → k ≡ j → StartsBook s pairing now step k
goes_on_with s pairing now step j k is goes may same =
    subst (λ (x : ResumeStep). StartsBook s pairing now x k) (sym is)
    (may, (true, ((λ on. subst (λ (x : ResumeStep). StepGoesOn pairing x) is goes), (λ on. refl)), same))
