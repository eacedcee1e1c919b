-- Events that happen one behind the other.
use Rattle.std.specs.Prelude.{◌≡◌, ℕ, ◌+◌, ◌<◌, List, [], ◌∷◌, ◌++◌, length, take, drop, get_or}
use Rattle.std.proofs.Common.{suc, refl, sym, ◌∙◌, ap, subst, add-one, drop-cons}
use Rattle.std.proofs.Math.Seq.{take-suc}
use Rattle.std.proofs.lemmas.List.{take-append-drop}
use Rattle.order_book.specs.declared.reply.Reply.{Reply}
use Rattle.pair_world.specs.declared.event.Event.{Event}
use Rattle.pair_world.specs.declared.error.WorldError.{WorldError}
use Rattle.pair_world.specs.PairWorld.{PairWorld, IsDone, IsRefused, AreDone, StopsAt}

done_push : (w u v : PairWorld) (es : List Event) (e : Event) (reply : Reply) → AreDone w es u → IsDone u e reply v
    → AreDone w (es ++ e ∷ []) v
done_push w u v [] e reply before now = (reply, v, subst (λ z. IsDone z e reply v) before now, refl)
done_push w u v (x ∷ xs) e reply before now =
    (before.0, before.1, before.2, done_push before.1 u v xs e reply before.3 now)

module _ (events : List Event) (i : ℕ) (e : Event) (lt : i < length events) (is : e ≡ get_or events i e) where
  pub done_on : (w u v : PairWorld) (reply : Reply) → AreDone w (take i events) u → IsDone u e reply v
      → AreDone w (take (i + 1) events) v
  done_on w u v reply before now =
      let longer : take (i + 1) events ≡ take i events ++ e ∷ [] =
      rw (add-one, take-suc events i e lt) (ap (λ (z : Event). take i events ++ z ∷ []) (sym is)) in
      subst (λ es. AreDone w es v) (sym longer) (done_push w u v (take i events) e reply before now)

  pub stops : (w u v : PairWorld) (error : WorldError) → AreDone w (take i events) u → IsRefused u e error → v ≡ u
      → StopsAt w events error v
  stops w u v error before refused same = subst (StopsAt w events error) (sym same) (record {
    before = take i events;
    event = e;
    behind = drop (i + 1) events;
    are = sym (take-append-drop i events) ∙ ap (λ z. take i events ++ z) there;
    done = before;
    refused = refused;
  }) where
    there : drop i events ≡ e ∷ drop (i + 1) events
    there = rw add-one (drop-cons events i e lt ∙ ap (λ z. z ∷ drop (suc i) events) (sym is))
