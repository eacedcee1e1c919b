-- What a step leads to is such a world again, and of a unit at most one client has an address now.
use Rattle.std.specs.Prelude.{◌≡◌, ℕ, ◌≤◌, true, false, List, [], ◌∷◌, ◌++◌, length, Result, Ok}
use Rattle.std.specs.declared.cmp.Ordering.TheVariants.{Less}
use Rattle.std.specs.Ordering.{is_eq}
use Rattle.std.proofs.Common.{arith, refl, sym, ◌∙◌, ap, subst}
use Rattle.std.proofs.lemmas.Map.Views.{All-after_first}
use Rattle.std.proofs.lemmas.Map.Text.{is_eq-slice_cmp}
use Rattle.std.proofs.lemmas.List.Elements.{All-head}
use Rattle.std.proofs.lemmas.Slice.Eq.{bytes_eq-Decides}
use Rattle.prefix_range.specs.Prefix.{Prefix, IsPrefix}
use Rattle.binding_rules.specs.declared.unit.Binding.{Binding}
use Rattle.book_state.specs.Book.{is_unit}
use Rattle.order_book.specs.declared.reply.Reply.{Reply}
use Rattle.server_settings.specs.Settings.{ServerSettings}
use Rattle.attribution.specs.Run.{StartInTime}
use Rattle.pair_world.specs.declared.event.Event.{Event}
use Rattle.pair_world.specs.declared.error.WorldError.{WorldError}
use Rattle.pair_world.specs.PairWorld.{PairWorld, IsWorldStep, Reaches}
use Rattle.pair_world.specs.Holders.{client_cmp, HasSome, AreHolders}
use Rattle.pair_world.specs.PairSafe.{Comes, StepStays, RunStays, OneHolderNow}
use Rattle.pair_world.proofs.Worlds.{Good, good}
use Rattle.pair_world.proofs.DownLaws.{unit_at}
use Rattle.pair_world.proofs.Results.{shared, one_binding}
use Rattle.binding_rules.specs.declared.role.Role.TheVariants.{Primary}

-- one step more
reaches_on : (u w v : PairWorld) (es : List Event) (e : Event) (answer : Result Reply WorldError) → Reaches u es w
    → IsWorldStep w e answer v → Reaches u (es ++ e ∷ []) v
reaches_on u w v [] e answer r step = (answer, v, subst (λ z. IsWorldStep z e answer v) r step, refl)
reaches_on u w v (x ∷ xs) e answer r step = (r.0, r.1, r.2, reaches_on r.1 w v xs e answer r.3 step)

pub step_stays : StepStays
step_stays s t w v e answer c step = record {
  moment = c.moment;
  opens = c.opens;
  events = c.events ++ e ∷ [];
  reaches = reaches_on _ w v c.events e answer c.reaches step;
}

pub run_stays : RunStays
run_stays s t w v [] c done = subst (Comes s t) (sym done) c
run_stays s t w v (e ∷ es) c done = run_stays s t done.1 v es (step_stays s t w done.1 e (Ok done.0) c done.2) done.3

in_transit : (s : ServerSettings) (w : PairWorld) → Good s w → (starts : ℕ → ℕ) → StartInTime w.transit w.run starts
    → StartInTime s.transit w.run starts
in_transit s w is starts h = subst (λ z. StartInTime z w.run starts) is.transit_is h

same_now : (s t : ServerSettings) (w : PairWorld) → Comes s t w → (p : Prefix) → IsPrefix p → is_unit s.pools p ≡ true
    → (j k : List ℕ) → HasSome w p j → HasSome w p k → j ≡ k
same_now s t w c p pre unit j k (starts, are, (a, has_p, (i, g, v, of_j, has))) (
  others,
  are',
  (a', has_p', (i', h, v', of_k, has')),
) =
    let is = good s t w c in
    let x = is.run.gifts i v.step g v.here v.grants in
    let y = is.run.gifts i' v'.step h v'.here v'.grants in
    let one = shared c.moment s t c.opens g.prefix p a x.2 unit x.1 pre has has_p in
    let two = shared c.moment s t c.opens h.prefix p a' y.2 unit y.1 pre has' has_p' in
    (sym of_j ∙ ap (λ (b : Binding). b.client)
    (one_binding s w is starts others (in_transit s w is starts are)
    (in_transit s w is others are') i i' g h w.moment v v' (two ∙ sym one))) ∙ of_k

below_self : (y : List ℕ) → client_cmp y y ≡ Less → ⊥
below_self y e =
    let same : is_eq (client_cmp y y) ≡ true = is_eq-slice_cmp y y ∙ (bytes_eq-Decides y y).1 refl in
    let less : is_eq (client_cmp y y) ≡ false = ap is_eq e in
    absurd (cc)

at_most_one : (s t : ServerSettings) (w : PairWorld) → Comes s t w → (p : Prefix) → IsPrefix p
    → is_unit s.pools p ≡ true → (clients : List (List ℕ)) → AreHolders w p clients → length clients ≤ 1
at_most_one s t w c p pre unit [] h = omega arith
at_most_one s t w c p pre unit (x ∷ []) h = omega arith
at_most_one s t w c p pre unit (x ∷ y ∷ ys) h =
    let same = same_now s t w c p pre unit x y (h.each x (0, omega arith, refl)) (h.each y (1, omega arith, refl)) in
    let less = All-head (λ q. client_cmp x q ≡ Less) y ys (All-after_first client_cmp x (y ∷ ys) h.order) in
    absurd (below_self y (subst (λ z. client_cmp z y ≡ Less) same less))

pub one_holder_now : OneHolderNow
one_holder_now s t w c p pre unit clients h =
    at_most_one s t w c p pre (unit_at s w (good s t w c) Primary p unit) clients h
