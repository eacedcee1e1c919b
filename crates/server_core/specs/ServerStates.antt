-- A server that runs, as its callers see it.
use Rattle.std.specs.Prelude.{ℕ, List, Option}
use Rattle.std.specs.List.{AllByRecursion}
use Rattle.failover_session.specs.Polling.{SessionModel}
use Rattle.server_core.specs.Served.{receipts_in}
use Rattle.disk_model.specs.Names.{NameCall, AreSettled}
use Rattle.server_core.specs.declared.committed_output.HeldAnswer.{HeldAnswer}
use Rattle.client_service.specs.declared.terms.ReuseTerms.{ReuseTerms}
use Rattle.server_core.specs.VolumeWriters.{WriterState}
use Rattle.server_core.specs.Owing.{IsOwed}
use Rattle.server_core.specs.Saying.{IsTalkBacked}

-- its own identifier, by what it tells grants again, the calls that were made to its folder, its open volume, the
-- answers that are held back, and the talk of the connection with its partner
pub record CoreState (P : Type 0) : Type 0 where
  pub own : List ℕ
  pub terms : ReuseTerms
  pub names : List NameCall
  pub volume : WriterState
  pub held : List (HeldAnswer P)
  pub talk : Option SessionModel

-- All names are on the disk. Each answer that is held back tells what the book's receipts say, and each frame of the
-- talk is backed by them.
pub record IsServerCore {P : Type 0} (s : CoreState P) : Type 0 where
  pub names : AreSettled s.names
  pub owed : AllByRecursion (λ (h : HeldAnswer P). IsOwed s.own s.terms (receipts_in s.volume.served) h.answer) s.held
  pub said : IsTalkBacked (receipts_in s.volume.served) s.talk
