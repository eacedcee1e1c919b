-- What stands on the disk behind a start.
use Rattle.std.proofs.Common.{◌≡◌, ℕ, ◌+◌, List, [], length, map, take, refl, sym, ◌∙◌, ap, subst, arith, append-nil}
use Rattle.binding_rules.specs.declared.role.Role.{Role}
use Rattle.journal_lines.specs.declared.line.Journal.{Journal}
use Rattle.journal_lines.specs.declared.line.Line.{Line}
use Rattle.disk_model.specs.Disk.{Call}
use Rattle.disk_model.specs.Names.{NameCall, names_after, AreSettled}
use Rattle.order_book.specs.Replayed.{with_line}
use Rattle.server_settings.specs.Settings.{ServerSettings}
use Rattle.std.proofs.Common.{Result, Ok, Err, IfOk, OnOk}
use Rattle.volume_store.specs.Folder.{ResumesAsTold}
use Rattle.volume_store.specs.declared.step.RecoveredFolder.{RecoveredFolder}
use Rattle.volume_store.specs.declared.step.ResumeStep.{ResumeStep}
use Rattle.volume_store.specs.declared.step.ResumeStep.TheVariants.{BeginFirst, GoOn as GoOnWith, BeginNext}
use Rattle.volume_store.specs.declared.step.ResumeStep.TheVariants.{End as EndOf}
use Rattle.volume_store.specs.Volumes.{going_on, HasVolume}
use Rattle.server_start.specs.declared.starting.StartAction.{StartAction}
use Rattle.server_start.specs.declared.starting.StartAction.TheVariants.{First, GoOn, End, Next}
use Rattle.server_start.specs.Starting.{IsStart}
use Rattle.server_core.specs.VolumeWriters.{WriterState}
use Rattle.server_core.specs.ServerStates.{CoreState}
use Rattle.server_core.specs.Beginning.{HasBook, HasNextBook, HasSameFiles}
use Rattle.server_core.specs.Starting.{HasStarted, StartsKeep}
use Rattle.folder_start.specs.Keeping.{HasDone, StartsWith}

module _ {P : Type 0} (old new : CoreState P) (same : HasSameFiles old new) where
  same_book : (j : Journal) (count : ℕ) → HasBook j old.names count old.volume → HasBook j new.names count new.volume
  same_book j count has = record {
    has = subst (λ (calls : List Call). HasVolume calls (going_on j)) (sym same.calls) has.has;
    kept = same.kept ∙ has.kept;
    named = subst AreSettled (sym same.names) has.named;
    count_is = ap (λ (names : List NameCall). (names_after names).files) same.names ∙ has.count_is;
  }

  same_next : (j : Journal) (count : ℕ) → HasNextBook j count old.names old.volume
      → HasNextBook j count new.names new.volume
  same_next j count has = record {
    now = has.now;
    next = has.next;
    follows = has.follows;
    written = has.written;
    ended = has.ended;
    has_ended = has.has_ended;
    begun = same_book has.next (count + 1) has.begun;
  }

  -- where nothing was put to the disk, the same stands there
  pub same_done : (role : Role) (start : StartAction) (volumes : ℕ) → HasDone role start volumes old.names old.volume
      → HasDone role start volumes new.names new.volume
  same_done role First volumes has = (has.0, has.1, same_book has.0 1 has.2)
  same_done role (GoOn k) volumes has = λ j l is. same_book j volumes (has j l is)
  same_done role (End j) volumes has = same_next j volumes has
  same_done role (Next j) volumes has = same_next j volumes has

-- what was done is what the step leads to
pub started : (role : Role) (s : ServerSettings) (now : ℕ) (step : ResumeStep) (start : StartAction) (volumes : ℕ)
    (names : List NameCall) (v : WriterState) → IsStart s now step start → HasDone role start volumes names v
    → HasStarted role step volumes names v
started role s now BeginFirst First volumes names v is has = has
started role s now (GoOnWith j) (GoOn k) volumes names v is has = has j _ is.1.1
started role s now (EndOf j) (End k) volumes names v is has =
    (is.1, subst (λ (i : Journal). HasNextBook i volumes names v) is.2 has)
started role s now (BeginNext j) (Next k) volumes names v is has =
    (is.1, subst (λ (i : Journal). HasNextBook i volumes names v) is.2 has)
started role s now step start volumes names v is has = absurd is

-- ---- results

pub with_ok : {A B : Type 0} (P Q : A → Type 0) (x : Result A B) → ((a : A) → P a → Q a) → IfOk x P → IfOk x Q
with_ok P Q (Ok a) all has = all a has
with_ok P Q (Err e) all has = tt

pub on_ok : {A B P : Type 0} (x : Result A B) → P → OnOk x P
on_ok (Ok a) its = its
on_ok (Err e) its = tt

pub with_both : {A B : Type 0} (P Q R : A → Type 0) (x : Result A B) → ((a : A) → P a → Q a → R a) → IfOk x P
    → IfOk x Q → IfOk x R
with_both P Q R (Ok a) all has too = all a has too
with_both P Q R (Err e) all has too = tt

pub of_ok : {A B : Type 0} (P : A → Type 0) (x y : Result A B) (a : A) → y ≡ x → y ≡ Ok a → IfOk x P → P a
of_ok P x y a same is has = subst (λ z. IfOk z P) (sym same ∙ is) has

-- what was started is a server's, where what was read is what is left of its volumes
pub starts_with : StartsKeep → (may_have : List (List ℕ) → Type 0) (role : Role) (found : RecoveredFolder)
    (names : List NameCall) (v : WriterState)
    → ((contents : List (List ℕ)) → may_have contents → ResumesAsTold role contents (Ok found))
    → HasStarted role found.step found.volumes names v → StartsWith may_have role names v
starts_with law may_have role found names v leads has = λ contents ended files last count may vs are leave.
    law role ended files last count found names v vs leave (leads contents may ended last count vs are) has
