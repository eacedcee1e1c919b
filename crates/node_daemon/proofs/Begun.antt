-- A daemon that began and ran.
use Rattle.std.specs.Prelude.{◌≡◌, ℕ, List, Option, None}
use Rattle.std.proofs.Common.{subst, ◌∙◌}
use Rattle.server_clocks.specs.declared.clocks.Moment.{Moment}
use Rattle.server_core.specs.ServerStates.{CoreState}
use Rattle.daemon_endpoints.specs.declared.arrival.Arrival.{Arrival}
use Rattle.daemon_endpoints.specs.Receiving.{MayReceive}
use Rattle.daemon_io.specs.ConnectionWrites.{Sent}
use Rattle.folder_start.specs.Started.{HasBegun}
use Rattle.folder_start.specs.declared.pairing.Pairing.{Pairing}
use Rattle.server_settings.specs.Settings.{ServerSettings}
use Rattle.volume_store.specs.declared.step.ResumeStep.{ResumeStep}
use Rattle.node_daemon.specs.Turning.{Ways, HasTurned, ways}
use Rattle.node_daemon.specs.Beginning.{Meets, HasRun, HasBegunAndRun, HasServed}

module _ {P Line : Type 0} (gives : Moment → Type 0) (fails : Type 0) (Listens : Line → Line → Type 0)
    (Sends : Line → P → List ℕ → Line → Type 0) where
  pub has_run : (transit : ℕ) (first last : Ways Line) (begun : CoreState (Arrival P))
      → HasTurned gives fails Listens Sends transit first begun last
      → HasRun gives fails Listens Sends transit first begun
  has_run transit first last begun turned = (last, turned)

  pub has_begun : (s : ServerSettings) (floor : ℕ) (pairing : Pairing) (step : ResumeStep) (made first : Line)
      (made_link link : Option Sent) (half transit : ℕ) (begun : CoreState (Arrival P))
      → first ≡ made → link ≡ made_link → transit ≡ half
      → ((now : Moment) × gives now × HasBegun s floor pairing now.reading step begun)
      → HasRun gives fails Listens Sends transit (ways first link) begun
      → HasBegunAndRun gives fails Listens Sends s floor pairing step half (ways made made_link)
  has_begun s floor pairing step made first made_link link half transit begun first_is link_is transit_is starts ran =
      record {
        now = starts.0;
        given = starts.1;
        begun = begun;
        begins = starts.2;
        ran = subst (λ (x : Line × Option Sent × ℕ). HasRun gives fails Listens Sends x.2 (ways x.0 x.1) begun)
            (λ i. (first_is i, link_is i, transit_is i)) ran;
      }

  pub has_served : (s : ServerSettings) (floor : ℕ) (pairing : Pairing) (step : ResumeStep) (datagrams made met : Line)
      (link met_link : Option Sent) (half transit : ℕ)
      → made ≡ datagrams → link ≡ None → half ≡ s.transit
      → MayReceive Listens made met → Meets link met_link → transit ≡ half
      → HasBegunAndRun gives fails Listens Sends s floor pairing step transit (ways met met_link)
      → HasServed gives fails Listens Sends s floor pairing step datagrams
  has_served s floor pairing step datagrams made met link met_link half transit is_made is_none is_half hears meets kept
      ran =
      record {
        heard = met;
        hears = subst (λ d. MayReceive Listens d met) is_made hears;
        link = met_link;
        meets = subst (λ (l : Option Sent). Meets l met_link) is_none meets;
        ran = subst
            (λ (t : ℕ). HasBegunAndRun gives fails Listens Sends s floor pairing step t (ways met met_link))
            (kept ∙ is_half) ran;
      }
