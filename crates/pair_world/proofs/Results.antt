-- Pair safety of worlds, from what is good of each.
use Rattle.std.specs.Prelude.{◌≡◌, ◌+◌, ◌*◌, ◌<◌, [], true, ℕ}
use Rattle.std.proofs.Common.{◌∙◌, ap, arith, refl, subst, sym}
use Rattle.std.proofs.lemmas.Bool.{cases_lt}
use Rattle.pair_world.specs.UnitInRun.{holder_of, log_of}
use Rattle.prefix_range.specs.Prefix.{HasAddress, IsPrefix, Prefix}
use Rattle.binding_rules.specs.declared.unit.Binding.{Binding}
use Rattle.journal_lines.specs.declared.event.Lease.{Lease}
use Rattle.book_state.specs.Book.{is_unit}
use Rattle.server_settings.specs.Settings.{ServerSettings}
use Rattle.attribution.specs.Run.{IsValidAt, StartInTime}
use Rattle.pair_world.specs.PairSafe.{AddressSafe, LeaseSafe, MayOpen, WorldIsRun}
use Rattle.pair_world.specs.UnitSafe.{HasUnit}
use Rattle.pair_world.specs.PairWorld.{PairWorld}
use Rattle.pair_world.proofs.Worlds.{Good, good, journal_in}
use Rattle.pair_world.proofs.Phases.{by_word}
use Rattle.pair_world.proofs.Traces.{is_run}
use Rattle.pair_world.proofs.Units.{one_unit}
use Rattle.pair_world.proofs.Valid.{valid_holds}

pub world_is_run : WorldIsRun
world_is_run s t w c =
    let g = good s t w c in
    let r = is_run s.skew w.moment w.run g.run.trace in
    record { run = r.0; skew = r.1; lines = λ side. (journal_in side s w g).lines }

-- a valid delegation is held in the log of its prefix
holds : (s : ServerSettings) (w : PairWorld) → Good s w → (starts : ℕ → ℕ) → StartInTime s.transit w.run starts
    → (i : ℕ) (g : Lease) (m : ℕ) → IsValidAt w.run starts i g m
    → HasUnit s.transit (log_of g.prefix w.run []) (holder_of g.client g.iaid) m
holds s w is starts are i g m v =
    let begins = are i v.step g v.here v.grants in
    let short = (is.run.gifts i v.step g v.here v.grants).0 in
    let begun = v.begun in
    let lasts : m < starts i + 1000 * g.valid = by_word v.lasts (λ endless. absurd (omega arith)) (λ lt. lt) in
    valid_holds s.transit m g.prefix g w.run i v.step v.here v.grants refl (omega arith) (omega arith)
    (λ j t lt at r. by_word (cases_lt m t.moment) (λ later. later) (λ le. absurd (v.kept (j, t, lt, at, r, le))))

-- two units that share an address are one
pub shared : (moment : ℕ) (s t : ServerSettings) → MayOpen moment s t → (p o : Prefix) (address : ℕ)
    → is_unit s.pools p ≡ true → is_unit s.pools o ≡ true → IsPrefix p → IsPrefix o → HasAddress p address
    → HasAddress o address → p ≡ o
shared moment s t opens p o address = one_unit s.pools p o address opens.first_fits.within.each
    opens.first_fits.disjoint

-- two delegations of one unit at one moment are one binding's, whenever they started
pub one_binding : (s : ServerSettings) (w : PairWorld) → Good s w → (starts others : ℕ → ℕ)
    → StartInTime s.transit w.run starts → StartInTime s.transit w.run others → (i j : ℕ) (g h : Lease) (m : ℕ)
    → IsValidAt w.run starts i g m → IsValidAt w.run others j h m → h.prefix ≡ g.prefix
    → holder_of g.client g.iaid ≡ holder_of h.client h.iaid
one_binding s w is starts others are are' i j g h m v v' same =
    let x = holds s w is starts are i g m v in
    let y = subst (λ z. HasUnit s.transit (log_of z w.run []) (holder_of h.client h.iaid) m) same
    (holds s w is others are' j h m v') in
    let unit = (is.run.gifts i v.step g v.here v.grants).2 in
    (is.run.known g.prefix unit).alone m (holder_of g.client g.iaid) (holder_of h.client h.iaid) x y

pub lease_safe : LeaseSafe
lease_safe s t w c starts others are are' i j g h address m v v' has has' =
    let is = good s t w c in
    let x = is.run.gifts i v.step g v.here v.grants in
    let y = is.run.gifts j v'.step h v'.here v'.grants in
    let one = one_binding s w is starts others are are' i j g h m v v'
    (shared c.moment s t c.opens h.prefix g.prefix address y.2 x.2 y.1 x.1 has' has) in
    (ap (λ (b : Binding). b.client) one, ap (λ (b : Binding). b.iaid) one)

pub address_safe : AddressSafe
address_safe s t w c starts others are are' address m j k (i, g, v, of_j, has) (i', h, v', of_k, has') =
    (sym of_j ∙ (lease_safe s t w c starts others are are' i i' g h address m v v' has has').0) ∙ of_k
