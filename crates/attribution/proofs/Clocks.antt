-- Which journals clocks fit.
use Rattle.std.specs.Prelude.{◌≡◌, ℕ, ◌≤◌, List, [], ◌∷◌}
use Rattle.std.proofs.Common.{zero, suc, arith, sym, ap, inr, refl}
use Rattle.binding_rules.specs.declared.role.Role.{Role}
use Rattle.journal_lines.specs.declared.line.Line.{Line}
use Rattle.causal_order.specs.Journals.{volume_of}
use Rattle.causal_order.specs.Order.{WrittenBy, WrittenFrom}
use Rattle.attribution.specs.Run.{Step, At, KeepsSkew, StartInTime}
use Rattle.attribution.specs.Acceptance.{AcceptedIsTrue}
use Rattle.attribution.specs.Clocks.{FittingNameOne, EarlyFitsNoClocks}
use Rattle.attribution.proofs.Runs.{ref_at, written_by, written_from}
use Rattle.attribution.proofs.Headline.{IsLawful, world_of}

-- Answers that reach their clients at once reach them within any transit.
moment_at : List Step → ℕ → ℕ
moment_at [] i = 0
moment_at (s ∷ ss) zero = s.moment
moment_at (s ∷ ss) (suc i) = moment_at ss i

moment_is : (run : List Step) (i : ℕ) (s : Step) → At run i s → moment_at run i ≡ s.moment
unfolding moment_at
moment_is [] i s at = absurd (cc)
moment_is (t ∷ ts) zero s at = let e : t ≡ s = cc in ap (λ (x : Step). x.moment) e
moment_is (t ∷ ts) (suc i) s at = moment_is ts i s at

at_once : (run : List Step) (transit : ℕ) → StartInTime transit run (moment_at run)
at_once run transit i s g at is = let e = moment_is run i s at in (omega arith, omega arith)

-- clocks within a skew are within a greater
looser : (skew more : ℕ) (upto : Role → ℕ) (run : List Step) → skew ≤ more → KeepsSkew skew upto run
    → KeepsSkew more upto run
looser skew more upto run le h i s at here = let a = (h i s at here).0 in let b = (h i s at here).1 in
    (omega arith, omega arith)

pub no_two_holders : (AreLegal : Role → List (List Line) → Type 0) → AcceptedIsTrue AreLegal → FittingNameOne AreLegal
no_two_holders AreLegal true_of js skew fits skew_c transit_c skew_d transit_d c d le_c ok_c le_d ok_d over m a b e f =
    let run = fits.0 in
    let set = fits.1 in
    let of_c = true_of js skew_c transit_c c ok_c run set.is_run
    (looser skew skew_c (volume_of js) run le_c set.clocks) set.left_a set.left_b (moment_at run)
    (at_once run transit_c) in
    let of_d = true_of js skew_d transit_d d ok_d run set.is_run
    (looser skew skew_d (volume_of js) run le_d set.clocks) set.left_a set.left_b (moment_at run)
    (at_once run transit_d) in
    let h = of_d.held m e f in
    sym (of_c.alone m over.0 d.holder a b over.1 (h.0, h.1, h.2, h.3, h.4 over.0 over.2))

pub early_fits_no_clocks : (AreLegal : Role → List (List Line) → Type 0) → IsLawful AreLegal
    → EarlyFitsNoClocks AreLegal
early_fits_no_clocks AreLegal keeps js skew fits take early =
    let run = fits.0 in
    let world = world_of AreLegal keeps js skew run fits.1 in
    let p = ref_at AreLegal js skew run world take early.taken early.names_taken in
    let by : WrittenBy js (take ∷ []) take early.taken.reading = record {
      end = take;
      line = early.taken;
      leads = record { rest = []; begins = refl; ends = refl; links = (early.taken, early.names_taken) };
      names = early.names_taken;
      read = refl;
    } in
    let from : WrittenFrom js (early.send ∷ take ∷ []) take early.sent.reading = record {
      begin = early.send;
      line = early.sent;
      leads = record {
        rest = take ∷ [];
        begins = refl;
        ends = refl;
        links =
            ((early.sent, early.names_sent), inr early.takes, (early.taken, early.names_taken));
      };
      names = early.names_sent;
      read = refl;
    } in
    let x = written_by AreLegal js skew run world (take ∷ []) take early.taken.reading p.0 p.1 by p.2 in
    let y = written_from AreLegal js skew run world (early.send ∷ take ∷ []) take early.sent.reading p.0 p.1 from p.2 in
    let z = early.above in
    absurd (omega arith)
