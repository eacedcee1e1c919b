-- Files that stay as they are, and answers that are held back meanwhile.
use Rattle.std.specs.Prelude.{◌≡◌, ℕ, List, [], ◌∷◌, ◌++◌}
use Rattle.std.specs.List.{AllByRecursion}
use Rattle.std.proofs.Common.{refl, sym, ◌∙◌, subst, ap, append-nil, append_assoc}
use Rattle.server_clocks.specs.declared.clocks.Moment.{Moment}
use Rattle.server_core.specs.ServerStates.{CoreState}
use Rattle.server_core.specs.declared.committed_output.HeldAnswer.{HeldAnswer}
use Rattle.daemon_endpoints.specs.declared.arrival.Arrival.{Arrival}
use Rattle.daemon_endpoints.specs.Receiving.{HasSameFiles, HasHeard, IsHeardNow}

module _ {P : Type 0} where
  pub same_files : (a b : CoreState P) → b ≡ a → HasSameFiles a b
  same_files a b is = subst (λ x. HasSameFiles a x) (sym is)
      (record { own = refl; names = refl; calls = refl; kept = refl; held = refl })

  pub same_on : (a b c : CoreState P) → HasSameFiles a b → HasSameFiles b c → HasSameFiles a c
  same_on a b c h k = record {
    own = k.own ∙ h.own;
    names = k.names ∙ h.names;
    calls = k.calls ∙ h.calls;
    kept = k.kept ∙ h.kept;
    held = k.held ∙ h.held;
  }

module _ {P : Type 0} (gives : Moment → Type 0) where
  -- both lists
  pub all_heard : (xs ys : List (HeldAnswer (Arrival P))) → AllByRecursion (IsHeardNow gives) xs
      → AllByRecursion (IsHeardNow gives) ys → AllByRecursion (IsHeardNow gives) (xs ++ ys)
  all_heard [] ys all more = more
  all_heard (x ∷ xs) ys all more = (all.0, all_heard xs ys all.1 more)

  -- nothing was heard
  pub heard_nothing : (a b : CoreState (Arrival P)) → HasSameFiles a b → HasHeard gives a b
  heard_nothing a b h = record {
    own = h.own;
    names = h.names;
    calls = h.calls;
    kept = h.kept;
    added = [];
    held = h.held ∙ sym (append-nil a.held);
    now = tt;
  }

  pub heard_on : (a b c : CoreState (Arrival P)) → HasHeard gives a b → HasHeard gives b c → HasHeard gives a c
  heard_on a b c h k = record {
    own = k.own ∙ h.own;
    names = k.names ∙ h.names;
    calls = k.calls ∙ h.calls;
    kept = k.kept ∙ h.kept;
    added = h.added ++ k.added;
    held = k.held ∙ ap (λ xs. xs ++ k.added) h.held ∙ append_assoc a.held h.added k.added;
    now = all_heard h.added k.added h.now k.now;
  }

  -- all at one moment that the clocks gave
  all_by : (m : Moment) → gives m → (xs : List (HeldAnswer (Arrival P)))
      → AllByRecursion (IsHeardNow (λ (x : Moment). x ≡ m)) xs → AllByRecursion (IsHeardNow gives) xs
  all_by m gave [] all = tt
  all_by m gave (x ∷ xs) all =
      ((subst (λ (y : Moment). gives y) (sym all.0.0) gave, all.0.1), all_by m gave xs all.1)

  pub heard_by : (m : Moment) (a b : CoreState (Arrival P)) → gives m → HasHeard (λ (x : Moment). x ≡ m) a b
      → HasHeard gives a b
  heard_by m a b gave h = record {
    own = h.own;
    names = h.names;
    calls = h.calls;
    kept = h.kept;
    added = h.added;
    held = h.held;
    now = all_by m gave h.added h.now;
  }
